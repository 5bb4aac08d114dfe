-- The facts of any list of groups hold exactly where the groups stand one after the other from `due` to End.
use Prim.Native.Nat.{ℕ, ◌≤◌, ◌<◌}
use mathlib.Core.Path.{◌≡◌, refl, sym, ◌∙◌, subst}
use mathlib.Core.Bool.{Bool, true, false, cond}
use mathlib.Core.Logic.{◌↔◌}
use mathlib.Core.List.{List, [], ◌∷◌, ◌++◌}
use lib.Dec.{eqb}
use native.Mathlib.Decide.{ℕ_discrete}
use native.Mathlib.Omega.{arith}
use borrow.Author.Tests.{eq-eqb, ne_eqb, eqb-true, eqb-false}
use Rattle.octets.specs.Octets.{num_at}
use Rattle.verdict.specs.Facts.{Fact, AllHold}
use Rattle.verdict.specs.Walk.{starts_from}
use Rattle.verdict.proofs.Facts.{all_append, all_each}
use Rattle.x2_layout.specs.declared.Made.{Made}
use Rattle.x2_layout.specs.declared.Made.TheVariants.{Fixed, Balises}
use Rattle.x2_layout.specs.Groups.{Group, group_start, next_start, next_field, group_end, group_layout, balise_bytes, balise_layout, walk_layout, made_facts, one_group, group_facts}
use Rattle.x2_layout.specs.Obeys.{BaliseFits, MadeOf, Grouped, none, empty, there}

module _ (off due next : ℕ) where
  pub end_empty : off ≡ 0 → group_end off due next ≡ due
  unfolding group_end
  end_empty e = rw (eq-eqb off 0 e)

  pub end_there : (off ≡ 0 → ⊥) → group_end off due next ≡ next
  unfolding group_end
  end_there n = rw (ne_eqb off 0 n)

module _ (f : List ℕ) (end : ℕ) where
  next-empty : (g : Group) (gs : List Group) → group_start f g ≡ 0 → next_start f end (g ∷ gs) ≡ next_start f end gs
  unfolding next_start
  next-empty g gs e = rw (eq-eqb (group_start f g) 0 e)

  next_there : (g : Group) (gs : List Group) → (group_start f g ≡ 0 → ⊥) → next_start f end (g ∷ gs) ≡ group_start f g
  unfolding next_start
  next_there g gs n = rw (ne_eqb (group_start f g) 0 n)

  -- what stands there runs to the next nonzero offset, else to End
  pub grouped-next : {due : ℕ} {gs : List Group} → Grouped f end due gs → due ≡ next_start f end gs
  unfolding next_start
  grouped-next none = refl
  grouped-next (empty {g = g} {gs = gs} e r) = grouped-next r ∙ sym (next-empty g gs e)
  grouped-next (there {g = g} {gs = gs} until n e b m r) = sym e ∙ sym (next_there g gs (λ z. n (sym e ∙ z)))

  -- and not beyond End
  pub grouped_inside : {due : ℕ} {gs : List Group} → Grouped f end due gs → due ≤ end
  grouped_inside none = omega arith
  grouped_inside (empty e r) = grouped_inside r
  grouped_inside (there until n e b m r) = let h = grouped_inside r in omega arith

-- facts that stand only where a number is not 0
unless_zero : (x : ℕ) (fs : List Fact) (A : Type 0) → AllHold fs ↔ A → AllHold (cond (eqb x 0) [] fs) ↔ ((x ≡ 0 → ⊥) → A)
unfolding AllHold
unless_zero x fs A i = by_test (eqb x 0) refl
  where
    by_test : (t : Bool) → eqb x 0 ≡ t → AllHold (cond t [] fs) ↔ ((x ≡ 0 → ⊥) → A)
    by_test true e = (λ h n. absurd (n (eqb-true x 0 e)), λ h. tt)
    by_test false e = (λ h n. i.0 h, λ h. i.1 (h (eqb-false x 0 e)))

pub balise_iff : (f : List ℕ) (until next at : ℕ) → AllHold (balise_layout f until next at) ↔ BaliseFits f until at
unfolding AllHold
balise_iff f until next at = (λ h. record { left = h.0; size = h.1.0; rest = h.1.1.0 }, λ h. (h.left, (h.size, (h.rest, tt))))

made_iff : (f : List ℕ) (field until next : ℕ) (m : Made) → AllHold (made_facts f field until next m) ↔ MadeOf f (num_at 2 f field) until m
unfolding made_facts MadeOf AllHold walk_layout
made_iff f field until next (Fixed size) = (λ h. h.0, λ h. (h, tt))
made_iff f field until next Balises =
    let each = all_each (balise_layout f until next) (starts_from (balise_bytes f) until (num_at 2 f field)) in
    (λ h at i. (balise_iff f until next at).0 (each.0 h at i), λ h. each.1 (λ at i. (balise_iff f until next at).1 (h at i)))

-- one group
module _ (f : List ℕ) (end due until next : ℕ) (g : Group) where
  one_iff : AllHold (one_group f end due until next g) ↔ ((group_start f g ≡ 0 → ⊥) → (group_start f g ≡ due) × (group_start f g < until) × (until ≤ end) × MadeOf f (group_start f g) until g.made)
  unfolding one_group AllHold
  one_iff =
      let made = made_facts f g.field until next g.made in
      let cut = all_append (group_layout f g.field due until next end) made in
      let m = made_iff f g.field until next g.made in
      unless_zero (group_start f g) (group_layout f g.field due until next end ++ made) ((group_start f g ≡ due) × (group_start f g < until) × (until ≤ end) × MadeOf f (group_start f g) until g.made) (
        λ h. let k = (cut.0 h).0 in let above = k.1.0 in (k.0, omega arith, k.1.1.0, m.0 (cut.0 h).1),
        λ h. let above = h.1 in cut.1 ((h.0, (omega arith, (h.2, tt))), m.1 h.3),
      )

-- a group that is right does not end beyond End
pub one_inside : (f : List ℕ) (end due next field : ℕ) (g : Group)
    → AllHold (one_group f end due (group_end (group_start f g) due next) field g) → (top : ℕ) → due ≤ top → end ≤ top → group_end (group_start f g) due next ≤ top
one_inside f end due next field g h top p q = by_case (ℕ_discrete (group_start f g) 0)
  where
    by_case : Dec (group_start f g ≡ 0) → group_end (group_start f g) due next ≤ top
    by_case (yes e) = let k = end_empty (group_start f g) due next e in omega arith
    by_case (no n) = let i = ((one_iff f end due (group_end (group_start f g) due next) field g).0 h n).2 in omega arith

-- all of them
module _ (f : List ℕ) (last end : ℕ) where
  pub facts_grouped : (gs : List Group) (due : ℕ) → AllHold (group_facts f last end due gs) → Grouped f end due gs
  unfolding group_facts AllHold
  facts_grouped [] due h = subst (λ (d : ℕ). Grouped f end d []) (sym h.0) none
  facts_grouped (g ∷ gs) due h =
      let until = group_end (group_start f g) due (next_start f end gs) in
      let cut = (all_append (one_group f end due until (next_field f end gs) g) (group_facts f last end until gs)).0 h in
      by_case (ℕ_discrete (group_start f g) 0) until refl ((one_iff f end due until (next_field f end gs) g).0 cut.0) (facts_grouped gs until cut.1)
    where
      by_case :
          Dec (group_start f g ≡ 0) → (until : ℕ) → until ≡ group_end (group_start f g) due (next_start f end gs)
          → ((group_start f g ≡ 0 → ⊥) → (group_start f g ≡ due) × (group_start f g < until) × (until ≤ end) × MadeOf f (group_start f g) until g.made)
          → Grouped f end until gs → Grouped f end due (g ∷ gs)
      by_case (yes e) until u o r = empty e (subst (λ (d : ℕ). Grouped f end d gs) (u ∙ end_empty (group_start f g) due (next_start f end gs) e) r)
      by_case (no n) until u o r =
          let h = o n in
          let due_there = h.0 in
          let above = h.1 in
          there until (λ z. n (due_there ∙ z)) due_there (omega arith) (subst (λ (a : ℕ). MadeOf f a until g.made) due_there h.3) r

  pub grouped_facts : {gs : List Group} {due : ℕ} → Grouped f end due gs → AllHold (group_facts f last end due gs)
  unfolding group_facts AllHold
  grouped_facts none = (refl, tt)
  grouped_facts (empty {due = due} {g = g} {gs = gs} e r) =
      let next = next_start f end gs in
      let until = group_end (group_start f g) due next in
      (all_append (one_group f end due until (next_field f end gs) g) (group_facts f last end until gs)).1
      ((one_iff f end due until (next_field f end gs) g).1 (λ n. absurd (n e)), rw (end_empty (group_start f g) due next e) (grouped_facts r))
  grouped_facts (there {due = due} {g = g} {gs = gs} until n e b m r) =
      let next = next_start f end gs in
      let ends : group_end (group_start f g) due next ≡ until = end_there (group_start f g) due next (λ z. n (sym e ∙ z)) ∙ sym (grouped-next f end r) in
      rw ends
      ((all_append (one_group f end due until (next_field f end gs) g) (group_facts f last end until gs)).1 (
        (one_iff f end due until (next_field f end gs) g).1 (λ k. (e, omega arith, grouped_inside f end r, subst (λ (a : ℕ). MadeOf f a until g.made) (sym e) m)),
        grouped_facts r,
      ))

  pub groups_iff : (gs : List Group) (due : ℕ) → AllHold (group_facts f last end due gs) ↔ Grouped f end due gs
  groups_iff gs due = (facts_grouped gs due, grouped_facts)
