-- THEOREMS (02, ticket 11): a point that is handed out has the height that its bytes mean, and none in a version 1 file; any height is right.
use Prim.Native.Nat.{ℕ, ◌+◌, ◌<◌}
use mathlib.Core.Path.{◌≡◌, refl, sym, ap, subst, ◌∙◌}
use mathlib.Core.Bool.{Bool, true, false, cond}
use mathlib.Core.List.{List, [], ◌∷◌, ◌++◌}
use lib.IntN.{ℤ, pos, negsuc}
use lib.ListN.{get_or}
use lib.Signed.{mag}
use native.Mathlib.Omega.{arith}
use Rattle.octets.specs.Octets.{num_at, half_of, signed_at, Is}
use Rattle.octets.specs.declared.Width.TheVariants.{Two}
use Rattle.octets.proofs.Reading.{one, more}
use Rattle.octets.proofs.Signs.{of_number}
use Rattle.tables.specs.Table.{signed_of}
use Rattle.tables.specs.Rows.{table_facts}
use Rattle.x1_records.specs.Places.{point_size}
use Rattle.x1_records.specs.Rows as rows
use Rattle.x1_records.specs.Tracks.{height_at, point_at}
use Rattle.std.specs.Prelude.{Some, None}
use Rattle.x1_records.specs.declared.Point.{Point}
use Rattle.x1_fields.specs.Fields.{point_fields}
use Rattle.x1_obeys.specs.Obeys.{size_of, entry_place, point_place}
use Rattle.std.specs.Prelude.{Ok}
use Rattle.x1_questions.specs.Questions.{point_of}
use Rattle.x1_theorems.specs.Heights.{HeightRead, HeightRange}
use Rattle.x1_theorems.proofs.Ranges.{point_handed}

-- two bytes are a signed number of at most so much
two_small : (f : List ℕ) → ((k : ℕ) → get_or f k 0 < 256) → (at : ℕ) → mag (signed_at 2 f at) < half_of 2
unfolding signed_at
two_small f bytes at =
    let n = more 1 f at _ _ (one f at (bytes at)) (one f (at + 1) (bytes (at + 1))) in
    let m : Is 2 f at (num_at 2 f at) = record { is = refl; below = omega (arith, n.is, n.below) } in
    (of_number Two f at (num_at 2 f at) (half_of 2) (signed_at 2 f at) m refl refl).small

module _ (f : List ℕ) (i j : ℕ) (p : Point) (e : point_of f i j ≡ Ok p) where
  abbrev place : ℕ
  place = point_place f (size_of f) (entry_place i) j

  height_handed : height_at f (size_of f) place ≡ p.height
  unfolding point_at
  height_handed = ap (λ (x : Point). x.height) (point_handed f i j p e).same

  -- THEOREM: a point has the height that its bytes mean, and none in a file of version 1.
  pub height_read : HeightRead f place p.height
  unfolding height_at point_size
  height_read = record {
    none = λ v. sym height_handed ∙ ap (λ (k : ℕ). height_at f (point_size k) place) v;
    some = λ v. sym height_handed ∙ ap (λ (k : ℕ). height_at f (point_size k) place) v;
  }

  -- THEOREM: it lies in the range of two signed bytes; every byte of a file is below 256.
  pub height_range : ((k : ℕ) → get_or f k 0 < 256) → HeightRange p.height
  unfolding height_at
  height_range bytes = subst HeightRange height_handed (by_size (rows.has_height (size_of f)))
    where
      small : (z : ℤ) → mag z < half_of 2 → HeightRange (Some z)
      small (pos n) h = omega arith
      small (negsuc n) h = omega arith

      by_size : (t : Bool) → HeightRange (cond t (Some (signed_of f place rows.height)) None)
      by_size true = small (signed_of f place rows.height) (two_small f bytes (place + (rows.height).offset))
      by_size false = tt

-- THEOREM: any height is right: the facts of all fields of a point are those of table 3, whatever the point's size.
pub any_height : (f : List ℕ) (at size : ℕ) → table_facts f at (rows.sized_table size) ≡ point_fields f at
any_height f at size = go (rows.has_height size)
  where
    go : (t : Bool) → table_facts f at (rows.point_table ++ cond t (rows.height ∷ []) []) ≡ point_fields f at
    go true = refl
    go false = refl
