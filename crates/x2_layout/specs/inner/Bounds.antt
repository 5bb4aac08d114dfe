-- How large the numbers of a layout are, so that no place that the code reckons with overflows. No reviewer has to believe this:
-- every right layout of a file of at most 65,535 bytes is bounded (proofs/Bounds), and the checks of the records ask nothing of another.
use Rattle.std.specs.Prelude.{ℕ, ◌+◌, ◌*◌, ◌^◌, ◌≤◌, ◌<◌, ◌≡◌, cond, List, []}
use Rattle.verdict.specs.Facts.{Claim, at_most, both, test, Fact}
use Rattle.envelope.specs.Seal.{most_length}
use Rattle.x2_records.specs.Places.{boundary_size}
use Rattle.x2_layout.specs.declared.Layout.{Layout}
use Rattle.x2_layout.specs.declared.Offsets.{Offsets}
use Rattle.x2_layout.specs.Places.{header_length}

-- ---- limits

-- the greatest count, which stands in one byte, and the greatest place of a file
abbrev pub count_most : ℕ
count_most = 255

abbrev pub place_most : ℕ
place_most = most_length

-- the most bytes of a header, 35 + 3 · 255 + 3 · 255, and where its boundaries end at the most
abbrev pub header_most : ℕ
header_most = header_length count_most count_most

abbrev pub bounds_most : ℕ
bounds_most = header_most + boundary_size * (count_most + count_most)

-- the most groups of a file: X.3 has at most 16
abbrev pub groups_most : ℕ
groups_most = 16

-- a slice has fewer bytes than this
abbrev pub slice_over : ℕ
slice_over = 2 ^ 63

-- ---- the numbers of any file, of any length

-- of a layout that was read
pub record Small (l : Layout) : Type 0 where
  pub n : l.n ≤ count_most
  pub k : l.k ≤ count_most
  pub starts : l.starts ≡ header_length l.n l.k
  pub ends : l.ends ≡ l.starts + boundary_size * l.n
  pub turnouts : l.turnouts ≡ l.ends + boundary_size * l.k
  pub end : l.end < slice_over

-- of a header's group offsets
pub record Near (o : Offsets) : Type 0 where
  pub base : o.base ≤ header_most
  pub count : o.count ≤ groups_most
  pub end : o.end < slice_over

-- ---- the numbers of a layout that a file of at most 65,535 bytes has

abbrev pub bounded : Layout → Claim
bounded l =
    both (at_most l.n count_most)
    (both (at_most l.k count_most)
    (both (at_most l.starts place_most)
    (both (at_most l.ends place_most) (at_most l.end place_most))))

-- the same, with no test
pub record Bounded (l : Layout) : Type 0 where
  pub n : l.n ≤ count_most
  pub k : l.k ≤ count_most
  pub starts : l.starts ≤ place_most
  pub ends : l.ends ≤ place_most
  pub end : l.end ≤ place_most

-- the facts of a layout, where its numbers are those of a file; no file has another layout, and nothing is asked of it
unfoldable pub if_bounded : Layout → List Fact → List Fact
if_bounded l fs = cond (test (bounded l)) fs []
