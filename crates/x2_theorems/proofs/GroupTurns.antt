-- The facts of a list of groups, group by group: an empty one has none, and what each that is there has, all have.
use Prim.Native.Nat.{ℕ}
use mathlib.Core.Path.{◌≡◌, sym, subst}
use mathlib.Core.List.{List, [], ◌∷◌, ◌++◌}
use native.Mathlib.Decide.{ℕ_discrete}
use borrow.Author.Tests.{eq-eqb, ne_eqb}
use Rattle.verdict.specs.declared.Mark.{Mark}
use Rattle.verdict.specs.Facts.{Claim, Fact}
use Rattle.refusals.proofs.Sections.{Each, each_append}
use Rattle.rules.specs.Rules.{ends_at}
use Rattle.x2_layout.specs.Groups.{Group, group_start, next_start, next_field, group_end, group_layout, made_facts, one_group, group_facts}

-- the facts of a group that is there, before others: it runs to the next nonzero offset, else to End
abbrev pub own_facts : List ℕ → ℕ → ℕ → Group → List Group → List Fact
own_facts f end due g gs =
    group_layout f g.field due (next_start f end gs) (next_field f end gs) end ++ made_facts f g.field (next_start f end gs) (next_field f end gs) g.made

module _ (f : List ℕ) (last end due : ℕ) (g : Group) (gs : List Group) where
  pub turn_empty : group_start f g ≡ 0 → group_facts f last end due (g ∷ gs) ≡ group_facts f last end due gs
  unfolding group_facts one_group group_end
  turn_empty e = rw (eq-eqb (group_start f g) 0 e)

  pub turn_there : (group_start f g ≡ 0 → ⊥) → group_facts f last end due (g ∷ gs) ≡ own_facts f end due g gs ++ group_facts f last end (next_start f end gs) gs
  unfolding group_facts one_group group_end
  turn_there n = rw (ne_eqb (group_start f g) 0 n)

-- LAW: what holds of each fact of a group that is there, and of the last one, holds of each.
module _ (f : List ℕ) (last end : ℕ) (P : Claim → Mark → Type 0)
    (own : (due : ℕ) (g : Group) (gs : List Group) → Each P (own_facts f end due g gs))
    (done : (due : ℕ) → Each P (ends_at last due end ∷ [])) where
  pub each_turn : (gs : List Group) (due : ℕ) → Each P (group_facts f last end due gs)
  unfolding group_facts
  each_turn [] due = done due
  each_turn (g ∷ gs) due = by_case (ℕ_discrete (group_start f g) 0) (each_turn gs due) (each_turn gs (next_start f end gs))
    where
      by_case : Dec (group_start f g ≡ 0) → Each P (group_facts f last end due gs) → Each P (group_facts f last end (next_start f end gs) gs) → Each P (group_facts f last end due (g ∷ gs))
      by_case (yes e) rest after = subst (Each P) (sym (turn_empty f last end due g gs e)) rest
      by_case (no n) rest after =
          subst (Each P) (sym (turn_there f last end due g gs n)) (each_append P (own_facts f end due g gs) (group_facts f last end (next_start f end gs) gs) (own due g gs) after)
