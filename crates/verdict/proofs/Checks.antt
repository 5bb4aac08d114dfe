-- The loops over records that stand without gaps: what one turn does, and the end, for each kind of check.
use Prim.Native.Nat.{ℕ, ◌+◌, ◌<◌, ◌≤◌}
use mathlib.Core.Path.{◌≡◌, sym, ap, ◌∙◌}
use Rattle.std.specs.Prelude.{Ok, Err}
use Rattle.verdict.specs.declared.Mark.{Mark}
use mathlib.Core.Bool.{Bool, true, false, ◌&&◌, ◌||◌, or_assoc, or-false, and_assoc, and-true}
use mathlib.Core.List.{List, flat_map}
use Rattle.verdict.specs.Verdicts.{Judged}
use Rattle.verdict.specs.Facts.{any_of, all_of, Fact, all_tests, first_fault}
use Rattle.verdict.specs.Walk.{starts_from}
use Rattle.verdict.proofs.Facts.{accepted_first, refused_first, tests_hold, tests_fail, tests_append}
use Rattle.verdict.proofs.Walk.{starts_step, starts_stop}

-- One turn of a loop that tests each record: a record whose tests pass is passed over, and at the first whose tests do not, its own facts are
-- the answer.
module _ (size : ℕ → ℕ) (end : ℕ) (facts : ℕ → List Fact) where
  pub first_stop : (at : ℕ) → end ≤ at → first_fault (flat_map facts (starts_from size end at)) ≡ Ok tt
  unfolding flat_map first_fault
  first_stop at h = rw (starts_stop size end at h)

  module _ (pos : (x : ℕ) → 0 < size x) (at : ℕ) (t : Bool) (h : at < end) (e : t ≡ all_tests (facts at)) where
    pub passes_over : (next : ℕ) → t ≡ true → next ≡ at + size at → first_fault (flat_map facts (starts_from size end next)) ≡ first_fault (flat_map facts (starts_from size end at))
    unfolding flat_map
    passes_over next n q =
        rw (q, starts_step size end pos at h) (sym (accepted_first (facts at) (flat_map facts (starts_from size end (at + size at))) (tests_hold (facts at) (sym e ∙ n))))

    pub fails_here : (r : Judged) → t ≡ false → r ≡ first_fault (facts at) → r ≡ first_fault (flat_map facts (starts_from size end at))
    unfolding flat_map
    fails_here r n p =
        rw (starts_step size end pos at h) (p ∙ sym (tests_fail (facts at) (flat_map facts (starts_from size end (at + size at))) (sym e ∙ n)))

-- One turn of a loop that checks each record and stops at the first that is refused. v is the check of the record at a place: where it accepts, the
-- record is passed over, and where it refuses, its refusal is the answer.
module _ (size : ℕ → ℕ) (end : ℕ) (facts : ℕ → List Fact) (pos : (x : ℕ) → 0 < size x) (at : ℕ) (v : Judged) (h : at < end) (e : v ≡ first_fault (facts at)) where
  pub checked_over : (next : ℕ) → v ≡ Ok tt → next ≡ at + size at → first_fault (flat_map facts (starts_from size end next)) ≡ first_fault (flat_map facts (starts_from size end at))
  unfolding flat_map
  checked_over next n q = rw (q, starts_step size end pos at h) (sym (accepted_first (facts at) (flat_map facts (starts_from size end (at + size at))) (sym e ∙ n)))

  pub refused_here : {m : Mark} → v ≡ Err m → Err m ≡ first_fault (flat_map facts (starts_from size end at))
  unfolding flat_map
  refused_here {m} n = rw (starts_step size end pos at h) (sym (refused_first m (facts at) (flat_map facts (starts_from size end (at + size at))) (sym e ∙ n)))

-- One turn of a loop that looks for a record: what was found, or is at this record, or is at one that follows.
module _ (size : ℕ → ℕ) (end : ℕ) (t : ℕ → Bool) where
  pub any_step :
      ((x : ℕ) → 0 < size x) → (b d : Bool) (at next : ℕ) → at < end → d ≡ (b || t at) → next ≡ at + size at
      → (d || any_of t (starts_from size end next)) ≡ (b || any_of t (starts_from size end at))
  any_step pos b d at next h e q = rw (e, q, starts_step size end pos at h) (or_assoc b (t at) (any_of t (starts_from size end (at + size at))))

  pub any_stop : (b : Bool) (at : ℕ) → end ≤ at → (b || any_of t (starts_from size end at)) ≡ b
  any_stop b at h = rw (starts_stop size end at h) (or-false b)

-- One turn of a loop that tests each record.
module _ (size : ℕ → ℕ) (end : ℕ) (t : ℕ → Bool) where
  pub all_step :
      ((x : ℕ) → 0 < size x) → (b d : Bool) (at next : ℕ) → at < end → d ≡ (b && t at) → next ≡ at + size at
      → (d && all_of t (starts_from size end next)) ≡ (b && all_of t (starts_from size end at))
  all_step pos b d at next h e q = rw (e, q, starts_step size end pos at h) (and_assoc b (t at) (all_of t (starts_from size end (at + size at))))

  pub all-stop : (b : Bool) (at : ℕ) → end ≤ at → (b && all_of t (starts_from size end at)) ≡ b
  all-stop b at h = rw (starts_stop size end at h) (and-true b)

-- One turn of a loop that tests the facts of each record, and has no early exit.
module _ (size : ℕ → ℕ) (end : ℕ) (facts : ℕ → List Fact) where
  pub tests_step :
      ((x : ℕ) → 0 < size x) → (b d : Bool) (at next : ℕ) → at < end → d ≡ (b && all_tests (facts at)) → next ≡ at + size at
      → (d && all_tests (flat_map facts (starts_from size end next))) ≡ (b && all_tests (flat_map facts (starts_from size end at)))
  unfolding flat_map
  tests_step pos b d at next h e q =
      let rest = flat_map facts (starts_from size end (at + size at)) in
      rw (e, q, starts_step size end pos at h)
      (and_assoc b (all_tests (facts at)) (all_tests rest) ∙ ap (λ (t : Bool). b && t) (sym (tests_append (facts at) rest)))

  pub tests_stop : (b : Bool) (at : ℕ) → end ≤ at → (b && all_tests (flat_map facts (starts_from size end at))) ≡ b
  unfolding flat_map
  tests_stop b at h = rw (starts_stop size end at h) (and-true b)
