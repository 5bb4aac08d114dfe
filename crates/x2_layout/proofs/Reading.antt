-- The numbers of a layout, read one after the other, are those that the header has.
use Prim.Native.Nat.{ℕ, ◌+◌, ◌*◌}
use mathlib.Core.Path.{◌≡◌}
use mathlib.Core.List.{List}
use Rattle.octets.specs.Octets.{num_at}
use Rattle.x2_records.specs.Places.{boundary_size}
use Rattle.x2_layout.specs.declared.Offsets.{Offsets}
use Rattle.x2_layout.specs.Places.{end_count_at, groups_at, header_length}
use Rattle.x2_layout.specs.Groups.{groups_from, next_start, group_ends, end_from}
use Rattle.x2_layout.specs.Layout.{end_of, start_count_of, yard_offsets, layout_of}

-- n and k are the counts, stop is End, and o the group offsets
module _ (f : List ℕ) (n k stop : ℕ) (o : Offsets) (is-n : n ≡ start_count_of f) (is_k : k ≡ num_at 1 f (end_count_at n)) (is_stop : stop ≡ end_of f) (is_o : o ≡ yard_offsets (groups_at n k) stop) where
  abbrev header : ℕ
  header = header_length n k

  abbrev middle : ℕ
  middle = header + boundary_size * n

  abbrev bounds : ℕ
  bounds = middle + boundary_size * k

  pub layout_is :
      (t b s j : ℕ) → t ≡ end_from f o 0 bounds → b ≡ end_from f o 1 t → s ≡ end_from f o 2 b → j ≡ end_from f o 3 s
      → record { n = n; k = k; starts = header; ends = middle; turnouts = bounds; balises = t; signals = b; joints = s; sidings = j; end = stop } ≡ layout_of f
  unfolding layout_of group_ends groups_from next_start
  layout_is t b s j et eb es ej = rw (ej, es, eb, et, is_o, is_stop, is_k, is-n)
