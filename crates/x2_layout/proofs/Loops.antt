-- The loops over a file's groups: one turn and the end of each.
use Prim.Native.Nat.{ℕ, suc, ◌+◌, ◌-◌, ◌≤◌, ◌<◌}
use mathlib.Core.Path.{◌≡◌, ◌∙◌, sym}
use mathlib.Core.List.{List, [], ◌∷◌}
use native.Mathlib.Omega.{arith}
use borrow.Author.Tests.{eq-eqb, ne_eqb}
use Rattle.rules.specs.Rules.{ends_at}
use Rattle.verdict.specs.Verdicts.{Judged}
use Rattle.std.specs.Prelude.{Ok, Err}
use Rattle.verdict.specs.declared.Mark.{Mark}
use Rattle.verdict.specs.Facts.{first_fault}
use Rattle.verdict.proofs.Facts.{accepted_first, stops, goes_on}
use Rattle.x2_layout.specs.declared.Offsets.{Offsets}
use Rattle.x2_layout.specs.Groups.{Group, group_in, groups_from, group_start, next_start, next_field, end_from, group_layout, made_facts, one_group, group_facts}

-- ---- the next nonzero offset, from the index j on; `off` is the one with that index

module _ (f : List ℕ) (o : Offsets) (j : ℕ) where
  pub next-none : o.count ≤ j → o.end ≡ next_start f o.end (groups_from o (o.count - j) j)
  unfolding next_start groups_from
  next-none h = let none : o.count - j ≡ 0 = omega arith in rw none

  pub field-none : o.count ≤ j → o.end ≡ next_field f o.end (groups_from o (o.count - j) j)
  unfolding next_field groups_from
  field-none h = let none : o.count - j ≡ 0 = omega arith in rw none

  module _ (off : ℕ) (is : off ≡ group_start f (group_in o j)) (h : j < o.count) where
    some : o.count - j ≡ suc (o.count - (j + 1))
    some = omega arith

    pub next-empty : off ≡ 0 → next_start f o.end (groups_from o (o.count - (j + 1)) (j + 1)) ≡ next_start f o.end (groups_from o (o.count - j) j)
    unfolding next_start groups_from
    next-empty e = rw (some, eq-eqb (group_start f (group_in o j)) 0 (sym is ∙ e))

    pub field_empty : off ≡ 0 → next_field f o.end (groups_from o (o.count - (j + 1)) (j + 1)) ≡ next_field f o.end (groups_from o (o.count - j) j)
    unfolding next_field groups_from
    field_empty e = rw (some, eq-eqb (group_start f (group_in o j)) 0 (sym is ∙ e))

    pub field-there : (off ≡ 0 → ⊥) → (group_in o j).field ≡ next_field f o.end (groups_from o (o.count - j) j)
    unfolding next_field groups_from
    field-there n = rw (some, ne_eqb (group_start f (group_in o j)) 0 (λ e. n (is ∙ e)))

    pub next_there : (off ≡ 0 → ⊥) → off ≡ next_start f o.end (groups_from o (o.count - j) j)
    unfolding next_start groups_from
    next_there n = rw (some, ne_eqb (group_start f (group_in o j)) 0 (λ e. n (is ∙ e))) is

-- ---- the facts of the groups from the index i on, due at a place

module _ (f : List ℕ) (last : ℕ) (o : Offsets) (i due : ℕ) where
  -- one group, whose first fault is w: a refusal is answered at once, and after an acceptance the next group counts
  module _ (h : i < o.count) (w : Judged) (until next : ℕ) (e : until ≡ end_from f o i due) (q : next ≡ next_field f o.end (groups_from o (o.count - (i + 1)) (i + 1))) (p : w ≡ first_fault (one_group f o.end due until next (group_in o i))) where
    pub groups_step : w ≡ Ok tt → first_fault (group_facts f last o.end until (groups_from o (o.count - (i + 1)) (i + 1))) ≡ first_fault (group_facts f last o.end due (groups_from o (o.count - i) i))
    unfolding group_facts groups_from
    groups_step ok =
        let less : o.count - i ≡ suc (o.count - (i + 1)) = omega arith in
        rw (less, ← e, ← q) (sym (accepted_first (one_group f o.end due until next (group_in o i)) (group_facts f last o.end until (groups_from o (o.count - (i + 1)) (i + 1))) (sym p ∙ ok)))

    pub groups_fault : (m : Mark) → w ≡ Err m → Err m ≡ first_fault (group_facts f last o.end due (groups_from o (o.count - i) i))
    unfolding group_facts groups_from
    groups_fault m bad =
        let less : o.count - i ≡ suc (o.count - (i + 1)) = omega arith in
        rw (less, ← e, ← q) (stops w m (one_group f o.end due until next (group_in o i)) (group_facts f last o.end until (groups_from o (o.count - (i + 1)) (i + 1))) p bad)

  pub groups_stop : o.count ≤ i → (r : Judged) → r ≡ first_fault (ends_at last due o.end ∷ []) → r ≡ first_fault (group_facts f last o.end due (groups_from o (o.count - i) i))
  unfolding group_facts groups_from
  groups_stop h r e = let none : o.count - i ≡ 0 = omega arith in rw none e

-- ---- one group

module _ (f : List ℕ) (end due until next : ℕ) (g : Group) (off : ℕ) (is : off ≡ group_start f g) where
  pub one_empty : off ≡ 0 → Ok tt ≡ first_fault (one_group f end due until next g)
  unfolding one_group first_fault
  one_empty e = rw (eq-eqb (group_start f g) 0 (sym is ∙ e))

  module _ (n : off ≡ 0 → ⊥) (x : Judged) (p : x ≡ first_fault (group_layout f g.field due until next end)) where
    pub one_fault : (m : Mark) → x ≡ Err m → Err m ≡ first_fault (one_group f end due until next g)
    unfolding one_group
    one_fault m e = rw (ne_eqb (group_start f g) 0 (λ z. n (is ∙ z))) (stops x m (group_layout f g.field due until next end) (made_facts f g.field until next g.made) p e)

    pub one_there : x ≡ Ok tt → (r : Judged) → r ≡ first_fault (made_facts f g.field until next g.made) → r ≡ first_fault (one_group f end due until next g)
    unfolding one_group
    one_there e r q = rw (ne_eqb (group_start f g) 0 (λ z. n (is ∙ z))) (goes_on x r (group_layout f g.field due until next end) (made_facts f g.field until next g.made) p e q)
