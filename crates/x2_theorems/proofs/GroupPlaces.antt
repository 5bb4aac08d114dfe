-- Where a refusal of groups is reported: by nonzero group its own fault, then its first balise at fault, and at last where what came ends.
use Prim.Native.Nat.{ℕ, ◌+◌, ◌-◌, ◌%◌}
use mathlib.Core.Path.{◌≡◌, refl, sym, ap, subst, ◌∙◌}
use mathlib.Core.Bool.{Bool, true, false, cond}
use mathlib.Core.Logic.{◌↔◌}
use mathlib.Core.List.{List, [], ◌∷◌, ◌++◌, append_assoc, Memᴰ}
use lib.Dec.{eqb}
use native.Mathlib.Decide.{ℕ_discrete}
use native.Mathlib.Nat.{le_refl}
use native.Mathlib.Omega.{arith}
use borrow.Author.Tests.{eq-eqb, ne_eqb}
use Rattle.verdict.specs.Facts.{Fact, first_fault, AllHold}
use Rattle.verdict.specs.Walk.{starts_from}
use Rattle.verdict.specs.Order.{Lowest, Or}
use Rattle.refusals.proofs.Sections.{Each}
use Rattle.refusals.proofs.Places.{Failing, failing_each, one_place, rises_one, Located, located, located_or, located_one, Only, only_or, only_at}
use Rattle.rules.specs.Rules.{ends_at}
use Rattle.x2_layout.specs.declared.Made.{Made}
use Rattle.x2_layout.specs.declared.Made.TheVariants.{Fixed, Balises}
use Rattle.x2_layout.specs.Groups.{Group, group_start, next_start, next_field, group_layout, balise_bytes, balise_layout, walk_layout, made_facts, group_facts}
use Rattle.x2_layout.specs.Obeys.{BaliseFits}
use Rattle.x2_theorems.specs.LayoutFaults.{GroupFits, GroupAtFault, BaliseAtFault, GroupsPlace}
use Rattle.x2_layout.proofs.Grouped.{balise_iff}
use Rattle.x2_layout.proofs.Records.{balise_bytes_pos}
use Rattle.x2_theorems.proofs.GroupsRise.{Rising, starts_rising}
use Rattle.x2_theorems.proofs.GroupTurns.{turn_empty, turn_there}

-- no group of balises is of one size
never_fixed : (size : ℕ) → Balises ≡ Fixed size → ⊥
never_fixed size e = let z : ◌≡◌ {A = ℕ} 0 1 = cc in omega arith

-- ---- a group that is there: the facts at its field, and those of its balises

module _ (f : List ℕ) (end due until next : ℕ) (g : Group) where
  abbrev whole_facts : Made → List Fact
  whole_facts (Fixed size) = made_facts f g.field until next (Fixed size)
  whole_facts Balises = []

  abbrev field_facts : Made → List Fact
  field_facts m = group_layout f g.field due until next end ++ whole_facts m

  abbrev balise_facts : Made → List Fact
  balise_facts (Fixed size) = []
  balise_facts Balises = made_facts f g.field until next Balises

  in_two : (m : Made) → field_facts m ++ balise_facts m ≡ group_layout f g.field due until next end ++ made_facts f g.field until next m
  unfolding made_facts
  in_two (Fixed size) = refl
  in_two Balises = refl

  field_at : (m : Made) → Each (λ c x. x.place ≡ g.field) (field_facts m)
  unfolding made_facts
  field_at (Fixed size) = (refl, (refl, (refl, (refl, tt))))
  field_at Balises = (refl, (refl, (refl, tt)))

  field_iff : (m : Made) → g.made ≡ m → AllHold (field_facts m) ↔ GroupFits f end due until g
  unfolding made_facts AllHold
  field_iff (Fixed size) e = (
    λ h. record { starts = h.0; above = let q = h.1.0 in omega arith; inside = h.1.1.0; whole = λ n q. let z : size ≡ n = cc in subst (λ (x : ℕ). (until - group_start f g) % x ≡ 0) z h.1.1.1.0 },
    λ o. (o.starts, (let q = o.above in omega arith, (o.inside, (o.whole size e, tt)))),
  )
  field_iff Balises e = (
    λ h. record { starts = h.0; above = let q = h.1.0 in omega arith; inside = h.1.1.0; whole = λ n q. absurd (never_fixed n (sym e ∙ q)) },
    λ o. (o.starts, (let q = o.above in omega arith, (o.inside, tt))),
  )

  field_fails : (p : ℕ) → Failing (field_facts g.made) p ↔ GroupAtFault f end due until g p
  field_fails p =
      let one = one_place g.field (field_facts g.made) (GroupFits f end due until g) (field_at g.made) (field_iff g.made refl) p in
      (λ h. let w = one.0 h in record { stands = w.0; fails = w.1 }, λ w. one.1 (w.stands, w.fails))

  field_located : Located (field_facts g.made) (Lowest (GroupAtFault f end due until g))
  field_located =
      located g.field g.field (field_facts g.made) (GroupAtFault f end due until g)
      (rises_one g.field g.field g.field (field_facts g.made) (field_at g.made) (le_refl g.field) (le_refl g.field)) field_fails

  one_balise : (at p : ℕ) → Failing (balise_layout f until next at) p ↔ ((p ≡ at) × (BaliseFits f until at → ⊥))
  one_balise at p = one_place at (balise_layout f until next at) (BaliseFits f until at) (refl, (refl, (refl, tt))) (balise_iff f until next at) p

  balises_fail : (m : Made) → g.made ≡ m → (p : ℕ) → Failing (balise_facts m) p ↔ BaliseAtFault f until g p
  unfolding made_facts walk_layout
  balises_fail (Fixed size) e p = (λ h. absurd h, λ w. absurd (never_fixed size (sym w.made ∙ e)))
  balises_fail Balises e p =
      let each = failing_each (balise_layout f until next) (starts_from (balise_bytes f) until (group_start f g)) p in (
        λ h.
            let w = each.0 h in
            let v = (one_balise w.0 p).0 w.2 in
            record {
              made = e;
              starts = subst (λ (x : ℕ). Memᴰ x (starts_from (balise_bytes f) until (group_start f g))) (sym v.0) w.1;
              fails = λ o. v.1 (subst (BaliseFits f until) v.0 o);
            },
        λ w. each.1 (p, w.starts, (one_balise p p).1 (refl, w.fails)),
      )

  balises_rise : (m : Made) → Rising (group_start f g) (balise_facts m)
  unfolding made_facts walk_layout
  balises_rise (Fixed size) = record { high = group_start f g; rises = le_refl (group_start f g) }
  balises_rise Balises = starts_rising (balise_bytes f) until (balise_layout f until next) (λ at. let z = balise_bytes_pos f at in omega arith) (group_start f g)

  -- what follows a group that is there
  group_then : (rest : List Fact) (Q : ℕ → Type 0) → Located rest Q
      → Located ((group_layout f g.field due until next end ++ made_facts f g.field until next g.made) ++ rest) (Or (GroupAtFault f end due until g) (Or (BaliseAtFault f until g) Q))
  group_then rest Q after =
      let A = field_facts g.made in
      let B = balise_facts g.made in
      let r = balises_rise g.made in
      let G = GroupAtFault f end due until g in
      let W = BaliseAtFault f until g in
      subst (λ (x : List Fact). Located (x ++ rest) (Or G (Or W Q))) (in_two g.made)
      (subst (λ (x : List Fact). Located x (Or G (Or W Q))) (sym (append_assoc A B rest))
      (located_or A (B ++ rest) G (Or W Q) field_located field_fails (λ _.
      located_or B rest W Q (located (group_start f g) r.high B W r.rises (balises_fail g.made refl)) (balises_fail g.made refl) (λ _. after))))

-- ---- all of them

module _ (f : List ℕ) (end due : ℕ) (g : Group) (gs : List Group) (p : ℕ) where
  place_empty : group_start f g ≡ 0 → GroupsPlace f end due gs p → GroupsPlace f end due (g ∷ gs) p
  unfolding GroupsPlace
  place_empty e h = rw (eq-eqb (group_start f g) 0 e) h

  place_there : (group_start f g ≡ 0 → ⊥) → Or (GroupAtFault f end due (next_start f end gs) g) (Or (BaliseAtFault f (next_start f end gs) g) (GroupsPlace f end (next_start f end gs) gs)) p → GroupsPlace f end due (g ∷ gs) p
  unfolding GroupsPlace
  place_there n h = rw (ne_eqb (group_start f g) 0 n) h

only_if : (t : Bool) (P Q : ℕ → Type 0) → Only P → Only Q → Only (λ p. cond t (P p) (Q p))
only_if true P Q a b = a
only_if false P Q a b = b

-- LAW: the refusal of any list of groups
pub groups_located : (f : List ℕ) (last end : ℕ) (gs : List Group) (due : ℕ) → Located (group_facts f last end due gs) (GroupsPlace f end due gs)
unfolding group_facts GroupsPlace
groups_located f last end [] due = located_one due (ends_at last due end ∷ []) (refl, tt)
groups_located f last end (g ∷ gs) due = by_case (ℕ_discrete (group_start f g) 0) (groups_located f last end gs due) (groups_located f last end gs (next_start f end gs))
  where
    by_case :
        Dec (group_start f g ≡ 0) → Located (group_facts f last end due gs) (GroupsPlace f end due gs)
        → Located (group_facts f last end (next_start f end gs) gs) (GroupsPlace f end (next_start f end gs) gs)
        → Located (group_facts f last end due (g ∷ gs)) (GroupsPlace f end due (g ∷ gs))
    by_case (yes e) rest after m q = place_empty f end due g gs m.place e (rest m (ap first_fault (sym (turn_empty f last end due g gs e)) ∙ q))
    by_case (no n) rest after m q =
        let until = next_start f end gs in
        place_there f end due g gs m.place n
        (group_then f end due until (next_field f end gs) g (group_facts f last end until gs) (GroupsPlace f end until gs) after m
        (ap first_fault (sym (turn_there f last end due g gs n)) ∙ q))

pub only_groups : (f : List ℕ) (end : ℕ) (gs : List Group) (due : ℕ) → Only (GroupsPlace f end due gs)
unfolding GroupsPlace
only_groups f end [] due = only_at due
only_groups f end (g ∷ gs) due =
    let G = GroupAtFault f end due (next_start f end gs) g in
    let W = BaliseAtFault f (next_start f end gs) g in
    let Q = GroupsPlace f end (next_start f end gs) gs in
    only_if (eqb (group_start f g) 0) (GroupsPlace f end due gs) (Or G (Or W Q)) (only_groups f end gs due) (only_or G (Or W Q) (only_or W Q (only_groups f end gs (next_start f end gs))))
