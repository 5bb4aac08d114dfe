-- The walk over the balises of a group: at one that fits, which has the size that its size byte says, at one that does not, and at the end.
use Prim.Native.Nat.{ℕ, ◌+◌, ◌≤◌, ◌<◌}
use mathlib.Core.Path.{◌≡◌, ◌∙◌, ap}
use Rattle.std.specs.Prelude.{Ok}
use mathlib.Core.Bool.{true, false, and-true}
use mathlib.Core.Logic.{⊎_elim}
use mathlib.Core.List.{List}
use native.Mathlib.Omega.{arith}
use borrow.Author.Tests.{le-leb}
use lib.ListN.{get_or}
use Rattle.octets.specs.Octets.{num_at}
use Rattle.verdict.specs.Verdicts.{Judged}
use Rattle.verdict.specs.Facts.{at_most, both, all_tests, first_fault, Holds}
use Rattle.verdict.proofs.Facts.{tested}
use Rattle.verdict.proofs.Checks.{first_stop, passes_over, fails_here}
use Rattle.x2_records.specs.Places.{balise_size, balise_size_byte}
use Rattle.x2_layout.specs.Groups.{right_size, balise_bytes, balise_layout, walk_layout}
use Rattle.x2_layout.specs.inner.Sizes.{balise_fits, Passed}
use Rattle.x2_layout.proofs.Records.{balise_bytes_pos}

pub walk_stop : (f : List ℕ) (at until next : ℕ) → until ≤ at → first_fault (walk_layout f at until next) ≡ Ok tt
unfolding walk_layout
walk_stop f at until next h = first_stop (balise_bytes f) until (balise_layout f until next) at h

-- n is the size byte of the balise at `at`
module _ (f : List ℕ) (at until n : ℕ) (size : n ≡ num_at 1 f (at + balise_size_byte)) where
  fits_told : (next : ℕ) → balise_fits at n until ≡ all_tests (balise_layout f until next at)
  fits_told next = rw (← size, and-true)

  pub walk_fault :
      (next : ℕ) → at < until → balise_fits at n until ≡ false → (r : Judged) → r ≡ first_fault (balise_layout f until next at)
      → r ≡ first_fault (walk_layout f at until next)
  unfolding walk_layout
  walk_fault next h fails r e =
      fails_here (balise_bytes f) until (balise_layout f until next) (balise_bytes_pos f) at (balise_fits at n until) h (fits_told next) r fails e

  module _ (h : balise_fits at n until ≡ true) where
    fits : (at + balise_size ≤ until) × (Holds (right_size n) × (at + n ≤ until))
    fits = (tested (both (at_most (at + balise_size) until) (both (right_size n) (at_most (at + n) until)))).0 h

    -- it is 16 at least
    pub fits_least : balise_size ≤ n
    fits_least = ⊎_elim (λ (q : n ≡ balise_size). omega arith) (λ (q : (18 ≤ n) × (n ≤ 120)). omega (arith, q.0)) fits.1.0

    fits_size : n ≡ balise_bytes f at
    unfolding balise_bytes
    fits_size = let least = fits_least in rw (← size) (omega arith)

    pub walk_over : (next : ℕ) → first_fault (walk_layout f (at + n) until next) ≡ first_fault (walk_layout f at until next)
    unfolding walk_layout
    walk_over next =
        passes_over (balise_bytes f) until (balise_layout f until next) (balise_bytes_pos f) at (balise_fits at n until) (omega (arith, fits.0))
        (fits_told next) _ h (ap (λ (k : ℕ). at + k) fits_size)

-- a balise whose size byte is 16
pub passed_plain :
    (f : List ℕ) (from at until : ℕ) → get_or f (at + balise_size_byte) 0 ≡ balise_size → at + balise_size ≤ until
    → Passed f until from at → Passed f until from (at + balise_size)
unfolding num_at
passed_plain f from at until b h p = record {
  onward = omega (arith, p.onward);
  so = λ next. walk_over f at until balise_size (omega arith) (rw le-leb) next ∙ p.so next;
}
