-- Tables 2 and 3 leave no gap and nothing stands twice: each field starts where the one before it ends, and the last one ends with the
-- record, in every structure version. The entries start where the header's track count ends. The sizes and least lengths that a structure
-- version has.
use Prim.Native.Nat.{ℕ, ◌+◌, ◌≤◌, ◌<◌}
use mathlib.Core.Bool.{Bool, true, false, cond}
use lib.Dec.{ltb}
use native.Mathlib.Omega.{arith}
use mathlib.Core.Path.{◌≡◌, refl}
use Rattle.tables.specs.Rows.{Tiled}
use Rattle.tables.proofs.Rows.{tiled}
use Rattle.x1_records.specs.Rows as rows
use Rattle.x1_records.specs.Places.{entries_at, entry_size, heights_from, point_size, least_length, least_length_in}
use Rattle.x1_records.specs.Rows.{entry_table, sized_table}

-- THEOREM: a track's entry is 30 bytes.
pub entry_whole : Tiled 0 entry_table 30
entry_whole = tiled 0 entry_table 30 refl

-- LAW: what holds of a point's size in the versions 1 and 2 holds of it in every structure version.
pub each_size : (P : ℕ → Type 0) → P (point_size 1) → P (point_size 2) → (version : ℕ) → P (point_size version)
unfolding point_size
each_size P a b version = go (ltb version heights_from)
  where
    go : (t : Bool) → P (cond t (point_size 1) (point_size 2))
    go true = a
    go false = b

-- a point has some bytes
pub size_positive : (version : ℕ) → 0 < point_size version
unfolding point_size
size_positive = each_size (λ s. 0 < s) (omega arith) (omega arith)

-- the fields of table 3 stand in it
pub size_wide : (version : ℕ) → (rows.near).offset + (rows.near).width ≤ point_size version
unfolding point_size
size_wide = each_size (λ s. (rows.near).offset + (rows.near).width ≤ s) (omega arith) (omega arith)

-- THEOREM: the fields of a point are as many bytes as its size is, in every structure version.
pub point_whole : (version : ℕ) → Tiled 0 (sized_table (point_size version)) (point_size version)
unfolding point_size
point_whole =
    each_size (λ s. Tiled 0 (sized_table s) s) (tiled 0 (sized_table (point_size 1)) (point_size 1) refl)
    (tiled 0 (sized_table (point_size 2)) (point_size 2) refl)

-- THEOREM: the least length in a structure version is that of a header, one entry, two points and the checksum.
pub least_whole : (version : ℕ) → least_length_in version ≡ entries_at + entry_size + (point_size version + point_size version) + 4
unfolding point_size least_length_in
least_whole version = go (ltb version heights_from)
  where
    go : (t : Bool) → cond t least_length (least_length_in 2) ≡ entries_at + entry_size + (cond t (point_size 1) (point_size 2) + cond t (point_size 1) (point_size 2)) + 4
    go true = refl
    go false = refl

-- the entries start after the track count
pub entries_start : (rows.count).offset + (rows.count).width ≡ 8
entries_start = refl
