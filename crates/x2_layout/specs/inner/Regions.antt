-- What follows from a right layout (proofs/Regions) and makes records quick to find: the regions follow each other without gaps from
-- the header's end to End, and each is whole records of its kind. No reviewer has to believe this.
use Rattle.std.specs.Prelude.{ℕ, ◌+◌, ◌-◌, ◌*◌, ◌%◌, ◌≤◌, ◌≡◌, length}
use mathlib.Core.List.{List, Memᴰ}
use Rattle.verdict.specs.Walk.{starts_from}
use Rattle.x2_records.specs.Places.{boundary_size, turnout_size, signal_size, joint_size, siding_size}
use Rattle.x2_layout.specs.declared.Layout.{Layout}
use Rattle.x2_layout.specs.Places.{header_length}
use Rattle.x2_layout.specs.Facts.{balise_bytes}

-- whole records of a size stand from a to b
pub record Whole (size a b : ℕ) : Type 0 where
  pub order : a ≤ b
  pub whole : (b - a) % size ≡ 0

-- whole balises stand from a to b
pub record WholeBalises (f : List ℕ) (a b : ℕ) : Type 0 where
  pub order : a ≤ b
  pub ends : (at : ℕ) → Memᴰ at (starts_from (balise_bytes f) b a) → at + balise_bytes f at ≤ b

pub record Regions (f : List ℕ) (l : Layout) : Type 0 where
  pub some_start : 1 ≤ l.n
  pub few_starts : l.n ≤ 255
  pub some_end : 1 ≤ l.k
  pub few_ends : l.k ≤ 255
  pub header : l.starts ≡ header_length l.n l.k
  pub start_boundaries : l.ends ≡ l.starts + boundary_size * l.n
  pub end_boundaries : l.turnouts ≡ l.ends + boundary_size * l.k
  pub turnouts : Whole turnout_size l.turnouts l.balises
  pub balises : WholeBalises f l.balises l.signals
  pub signals : Whole signal_size l.signals l.joints
  pub joints : Whole joint_size l.joints l.sidings
  pub sidings : Whole siding_size l.sidings l.end
  pub inside : l.end ≤ length f
