-- The record directly before another: what the search for it finds, and that there is only one. And a loop over the records that keeps the
-- start of the one before.
use Prim.Native.Nat.{ℕ, ◌+◌, ◌≤◌, ◌<◌}
use mathlib.Core.Path.{◌≡◌, ◌∙◌, refl, sym, ap, subst⁻¹}
use Rattle.std.specs.Prelude.{Ok, Err}
use Rattle.verdict.specs.declared.Mark.{Mark}
use mathlib.Core.Bool.{Bool, true, false}
use mathlib.Core.Logic.{◌⊎◌, inl, inr, ⊎_elim}
use mathlib.Core.List.{List, Memᴰ}
use native.Mathlib.Omega.{arith}
use borrow.Author.Tests.{eq-eqb, ne_eqb}
use Rattle.verdict.specs.Verdicts.{Judged}
use Rattle.verdict.specs.Facts.{Fact, all_tests, first_fault}
use Rattle.verdict.specs.Walk.{starts_from, Reach, here, onward}
use Rattle.verdict.proofs.Walk.{starts_step, reach_le}
use Rattle.x2_records.specs.declared.Kind.{Kind}
use Rattle.x2_layout.specs.declared.Layout.{Layout}
use Rattle.x2_layout.specs.Records.{kind_at, IsSize, size_of, size_at, starts, before_in, record_before, DirectlyBefore, each_after}
use Rattle.x2_layout.proofs.Records.{size_at_pos}
use Rattle.x2_layout.proofs.Walks.{starts_between, starts_reached}
use Rattle.x2_layout.specs.inner.Walking.{Following}
use Rattle.x2_layout.proofs.Walking.{walking_stop, walking_over, walking_fault, walking_on, walking_refused}

module _ (size : ℕ → ℕ) (end : ℕ) (pos : (x : ℕ) → 0 < size x) where
  -- one step of the search
  pub before_here : (p a : ℕ) → a < end → before_in p (starts_from size end a) a ≡ p
  unfolding before_in
  before_here p a h = rw (starts_step size end pos a h, eq-eqb a a refl)

  pub before_later : (p a x : ℕ) → a < end → (a ≡ x → ⊥) → before_in p (starts_from size end a) x ≡ before_in a (starts_from size end (a + size a)) x
  unfolding before_in
  before_later p a x h n = rw (starts_step size end pos a h, ne_eqb a x n)

  -- what it finds: x is the first, or the record that is found ends where x starts
  abbrev Found : ℕ → ℕ → ℕ → ℕ → Type 0
  Found p a x b = ((x ≡ a) × (b ≡ p)) ⊎ (Reach size a b × (b + size b ≡ x))

  before_found : (p : ℕ) {a x : ℕ} → Reach size a x → x < end → Found p a x (before_in p (starts_from size end a) x)
  before_found p (here {a = a}) h = inl (refl, before_here p a h)
  before_found p {a} {x} (onward r) h =
      let far = reach_le r in
      let z = pos a in
      let e = before_later p a x (omega arith) (λ q. omega arith) in
      let b = before_in a (starts_from size end (a + size a)) x in
      subst⁻¹ (λ (y : ℕ). Found p a x y) e
      (⊎_elim (λ (w : (x ≡ a + size a) × (b ≡ a)). inr (subst⁻¹ (λ (y : ℕ). Reach size a y × (y + size y ≡ x)) w.1 (here, sym w.0)))
      (λ (w : Reach size (a + size a) b × (b + size b ≡ x)). inr (onward w.0, w.1))
      (before_found a r h))

  -- of two places that are reached, one is the other, or lies after its record
  reach_apart : {a b c : ℕ} → Reach size a b → Reach size a c → (b ≡ c) ⊎ ((b + size b ≤ c) ⊎ (c + size c ≤ b))
  reach_apart here here = inl refl
  reach_apart here (onward s) = inr (inl (reach_le s))
  reach_apart (onward r) here = inr (inr (reach_le r))
  reach_apart (onward r) (onward s) = reach_apart r s

  before_one : {a b c : ℕ} → Reach size a b → Reach size a c → b + size b ≡ c + size c → b ≡ c
  before_one {a} {b} {c} r s e =
      let z = pos b in
      let y = pos c in
      ⊎_elim (λ (q : b ≡ c). q) (λ h. ⊎_elim (λ (g : b + size b ≤ c). absurd (omega arith)) (λ (g : c + size c ≤ b). absurd (omega arith)) h) (reach_apart r s)

-- ---- of a file

module _ (f : List ℕ) (l : Layout) (x : ℕ) (m : Memᴰ x (starts f l)) where
  -- a record that is not the first has one before it
  pub before_there : (x ≡ l.starts → ⊥) → DirectlyBefore f l (record_before f l x) x
  unfolding record_before
  before_there n =
      let size = size_at f l in
      let pos = size_at_pos f l in
      let w = starts_between size l.end x l.starts m in
      let b = before_in 0 (starts f l) x in
      ⊎_elim (λ (h : (x ≡ l.starts) × (b ≡ 0)). absurd (n h.0))
      (λ (h : Reach size l.starts b × (b + size b ≡ x)).
      let z = pos b in
      let below = w.below in
      record { record_there = starts_reached size l.end b pos l.starts h.0 (omega (arith, h.1)); ends_there = h.1 })
      (before_found size l.end pos 0 w.reached w.below)

  -- and no other
  pub before_only : (b : ℕ) → DirectlyBefore f l b x → b ≡ record_before f l x
  unfolding record_before
  before_only b d =
      let size = size_at f l in
      let pos = size_at_pos f l in
      let w = starts_between size l.end x l.starts m in
      let v = starts_between size l.end b l.starts d.record_there in
      let far = reach_le v.reached in
      let z = pos b in
      let found = before_in 0 (starts f l) x in
      ⊎_elim (λ (h : (x ≡ l.starts) × (found ≡ 0)). absurd (omega (arith, h.0, d.ends_there)))
      (λ (h : Reach size l.starts found × (found + size found ≡ x)). before_one size l.end pos v.reached h.0 (d.ends_there ∙ sym h.1))
      (before_found size l.end pos 0 w.reached w.below)

-- ---- a loop over the records that keeps the start of the one before

pub following_start : (f : List ℕ) (l : Layout) (facts : ℕ → Kind → ℕ → List Fact) → Following f l facts 0 l.starts
unfolding record_before
following_start f l facts = record { walking = record { so = refl }; onward_is = λ x h. refl }

module _ {f : List ℕ} {l : Layout} {facts : ℕ → Kind → ℕ → List Fact} {before at : ℕ} (i : Following f l facts before at) where
  pub following_stop : l.end ≤ at → Ok tt ≡ first_fault (each_after f l facts)
  following_stop h = walking_stop i.walking h

  -- `before` is the record before this one
  is_before : at < l.end → before ≡ record_before f l at
  is_before h = sym (i.onward_is at (omega arith) ∙ before_here (size_at f l) l.end (size_at_pos f l) before at h)

  -- past a record, to the next one
  further : {k : Kind} {n : ℕ} → at < l.end → k ≡ kind_at l at → IsSize f k at n → (x : ℕ) → at + n ≤ x → record_before f l x ≡ before_in at (starts_from (size_at f l) l.end (at + n)) x
  further {k} {n} h kind size x far =
      let z = size_at_pos f l at in
      let is : n ≡ size_at f l at = size.is ∙ ap (λ (c : Kind). size_of f c at) kind in
      i.onward_is x (omega arith)
      ∙ before_later (size_at f l) l.end (size_at_pos f l) before at x h (λ q. omega arith)
      ∙ ap (λ (y : ℕ). before_in at (starts_from (size_at f l) l.end (at + y)) x) (sym is)

  -- a record whose tests pass is passed over
  pub following_over :
      {k : Kind} {t : Bool} {n : ℕ} → at < l.end → k ≡ kind_at l at → t ≡ all_tests (facts before k at) → t ≡ true → IsSize f k at n
      → Following f l facts at (at + n)
  following_over {k} {t} {n} h kind e holds size = record {
    walking = walking_over i.walking h kind (e ∙ ap (λ (b : ℕ). all_tests (facts b k at)) (is_before h)) holds size;
    onward_is = further h kind size;
  }

  -- at the first whose tests do not, the first fault is its own
  pub following_fault :
      {k : Kind} {t : Bool} {r : Judged} → at < l.end → k ≡ kind_at l at → t ≡ all_tests (facts before k at) → t ≡ false → r ≡ first_fault (facts before k at)
      → r ≡ first_fault (each_after f l facts)
  following_fault {k} {t} {r} h kind e fails judged =
      let b = is_before h in
      walking_fault i.walking h kind (e ∙ ap (λ (y : ℕ). all_tests (facts y k at)) b) fails (judged ∙ ap (λ (y : ℕ). first_fault (facts y k at)) b)

  -- the same of a loop that judges each record, whose first fault is w
  module _ {k : Kind} {w : Judged} (h : at < l.end) (kind : k ≡ kind_at l at) (judged : w ≡ first_fault (facts before k at)) where
    own : w ≡ first_fault (facts (record_before f l at) k at)
    own = judged ∙ ap (λ (y : ℕ). first_fault (facts y k at)) (is_before h)

    pub following_on : {n : ℕ} → w ≡ Ok tt → IsSize f k at n → Following f l facts at (at + n)
    following_on e size = record { walking = walking_on i.walking h kind own e size; onward_is = further h kind size }

    pub following_refused : (m : Mark) → w ≡ Err m → Err m ≡ first_fault (each_after f l facts)
    following_refused m e = walking_refused i.walking h kind own m e
