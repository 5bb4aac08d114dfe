-- Where a record starts, in a file with regions of whole records: below the header's end and from End on none; in a region of one size by
-- arithmetic; among the balises by a walk that ends just after the place asked for, which finds what the walk of all records finds.
use Prim.Native.Nat.{ℕ, suc, zero, ◌+◌, ◌-◌, ◌%◌, ◌≤◌, ◌<◌}
use mathlib.Core.Path.{◌≡◌, ◌∙◌, sym, subst}
use mathlib.Core.Bool.{false}
use mathlib.Core.Logic.{inl, inr, ⊎_elim}
use mathlib.Core.List.{List}
use lib.Dec.{eqb}
use native.Mathlib.Nat.{le_refl}
use native.Mathlib.Omega.{arith}
use borrow.Author.Tests.{ne_eqb}
use Rattle.verdict.specs.Facts.{any_of, test}
use Rattle.verdict.specs.Walk.{starts_from, here}
use Rattle.verdict.proofs.Walk.{starts_step, find_none, find_skip, find_there}
use Rattle.verdict.proofs.Orders.{le-or-lt}
use Rattle.x2_records.specs.declared.Kind.TheVariants.{Balise}
use Rattle.x2_records.specs.Places.{turnout_size, signal_size, joint_size, siding_size}
use Rattle.x2_layout.specs.declared.Layout.{Layout}
use Rattle.x2_layout.specs.Facts.{balise_bytes}
use Rattle.x2_layout.specs.Records.{size_of, size_at, is_start}
use Rattle.x2_layout.specs.inner.Regions.{Regions}
use Rattle.x2_layout.proofs.Records.{balise_bytes_pos, size_at_pos}
use Rattle.x2_layout.proofs.Starts.{size_turnout, size_balise, size_signal, size_joint, size_siding, reach_bounds, reach_turnouts, reach_balises, reach_signals, reach_joints, found_fixed}
use Rattle.x2_verdict.specs.inner.Starts.{balise_starts}

-- no other place is x
other : (x y : ℕ) → (y ≡ x → ⊥) → eqb y x ≡ false
other x y n = ne_eqb y x n

-- x is found by a walk to just after it, of sizes that are the same on the way
module _ (size own : ℕ → ℕ) (pos : (y : ℕ) → 0 < size y) (pos' : (y : ℕ) → 0 < own y) (a end x : ℕ) (alike : (y : ℕ) → a ≤ y → y < x → size y ≡ own y) (below : x < end) where
  Alike : ℕ → Type 0
  Alike at = any_of (λ s. eqb s x) (starts_from own (x + 1) at) ≡ any_of (λ s. eqb s x) (starts_from size end at)

  passed : (at : ℕ) → x < at → Alike at
  unfolding Alike
  passed at h = find_none own (x + 1) x (λ s. eqb s x) (other x) at (inl h) ∙ sym (find_none size end x (λ s. eqb s x) (other x) at (inl h))

  met : (at : ℕ) → x ≡ at → Alike at
  unfolding Alike
  met at e =
      subst Alike e (find_there own (x + 1) x (λ s. eqb s x) (other x) pos' x here (omega arith) ∙ sym (find_there size end x (λ s. eqb s x) (other x) pos x here below))

  past : (at : ℕ) → x ≤ at → Alike at
  past at h = ⊎_elim (λ (p : at ≤ x). met at (omega arith)) (λ (p : x < at). passed at p) (le-or-lt at x)

  step : (at : ℕ) → a ≤ at → at < x → Alike (at + own at) → Alike at
  unfolding Alike
  step at g h ih = rw (starts_step own (x + 1) pos' at (omega arith), starts_step size end pos at (omega arith), other x at (λ q. omega arith), alike at g h) ih

  from : (k at : ℕ) → x - at ≤ k → a ≤ at → Alike at
  from zero at h g = past at (omega arith)
  from (suc k) at h g =
      ⊎_elim (λ (p : x ≤ at). past at p) (λ (p : at < x). step at g p (from k (at + own at) (omega (arith, pos' at)) (omega arith))) (le-or-lt x at)

  find_alike : any_of (λ s. eqb s x) (starts_from own (x + 1) a) ≡ any_of (λ s. eqb s x) (starts_from size end a)
  unfolding Alike
  find_alike = from x a (omega arith) (le_refl a)

-- ---- looking for x among the balises from a place on: one turn, and the end

module _ (f : List ℕ) (x : ℕ) where
  pub seek_step : (at next : ℕ) → at < x → next ≡ at + size_of f Balise at → test (balise_starts f next x) ≡ test (balise_starts f at x)
  unfolding balise_starts size_of
  seek_step at next h e = rw (e, starts_step (balise_bytes f) (x + 1) (balise_bytes_pos f) at (omega arith), other x at (λ q. omega arith))

  pub seek_stop : (at : ℕ) → x ≤ at → eqb at x ≡ test (balise_starts f at x)
  unfolding balise_starts
  seek_stop at h = ⊎_elim (λ (p : at ≤ x). met (omega arith)) (λ (p : x < at). passed p) (le-or-lt at x)
    where
      met : x ≡ at → eqb at x ≡ any_of (λ s. eqb s x) (starts_from (balise_bytes f) (x + 1) at)
      met e = subst (λ (a : ℕ). eqb a x ≡ any_of (λ s. eqb s x) (starts_from (balise_bytes f) (x + 1) a)) e (sym (find_there (balise_bytes f) (x + 1) x (λ s. eqb s x) (other x) (balise_bytes_pos f) x here (omega arith)))

      passed : x < at → eqb at x ≡ any_of (λ s. eqb s x) (starts_from (balise_bytes f) (x + 1) at)
      passed p = other x at (λ q. omega arith) ∙ sym (find_none (balise_bytes f) (x + 1) x (λ s. eqb s x) (other x) at (inl p))

-- ---- region by region

module _ (f : List ℕ) (l : Layout) (r : Regions f l) (x : ℕ) where
  pub found_low : x < l.starts → false ≡ test (is_start f l x)
  unfolding is_start
  found_low h = sym (find_none (size_at f l) l.end x (λ s. eqb s x) (other x) l.starts (inl h))

  pub found_high : l.end ≤ x → false ≡ test (is_start f l x)
  unfolding is_start
  found_high h = sym (find_none (size_at f l) l.end x (λ s. eqb s x) (other x) l.starts (inr h))

  pub found_turnout : l.turnouts ≤ x → x < l.balises → eqb ((x - l.turnouts) % turnout_size) 0 ≡ test (is_start f l x)
  found_turnout g h = found_fixed f l r x l.turnouts l.balises turnout_size (reach_bounds f l r) (omega arith) (size_turnout f l r) g h (omega arith)

  pub found_balise : l.balises ≤ x → x < l.signals → test (balise_starts f l.balises x) ≡ test (is_start f l x)
  unfolding is_start balise_starts
  found_balise g h =
      find_alike (size_at f l) (balise_bytes f) (size_at_pos f l) (balise_bytes_pos f) l.balises l.end x (λ y p q. size_balise f l r y p (omega arith)) (omega arith)
      ∙ sym (find_skip (size_at f l) l.end x (λ s. eqb s x) (other x) (size_at_pos f l) (reach_turnouts f l r) g (omega arith))

  pub found_signal : l.signals ≤ x → x < l.joints → eqb ((x - l.signals) % signal_size) 0 ≡ test (is_start f l x)
  found_signal g h = found_fixed f l r x l.signals l.joints signal_size (reach_balises f l r) (omega arith) (size_signal f l r) g h (omega arith)

  pub found_joint : l.joints ≤ x → x < l.sidings → eqb ((x - l.joints) % joint_size) 0 ≡ test (is_start f l x)
  found_joint g h = found_fixed f l r x l.joints l.sidings joint_size (reach_signals f l r) (omega arith) (size_joint f l r) g h (omega arith)

  pub found_siding : l.sidings ≤ x → x < l.end → eqb ((x - l.sidings) % siding_size) 0 ≡ test (is_start f l x)
  found_siding g h = found_fixed f l r x l.sidings l.end siding_size (reach_joints f l r) (omega arith) (λ y p q. size_siding f l r y p) g h (le_refl l.end)
