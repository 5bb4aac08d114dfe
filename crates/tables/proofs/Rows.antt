-- The laws of tables of fields, each proved once for any table: the facts hold exactly where the fields obey; a refusal is at the lowest
-- field at fault; each fact's claim is what its mark says; a table that passes the test `tiles` leaves no gap.
use Prim.Native.Nat.{ℕ, ◌+◌, ◌≤◌, ◌<◌}
use mathlib.Core.Path.{◌≡◌, refl, ap, sym, subst, ◌∙◌}
use mathlib.Core.Bool.{Bool, true, false, cond}
use mathlib.Core.List.{List, [], ◌∷◌, ◌++◌, Memᴰ}
use mathlib.Core.Logic.{◌⊎◌, inl, inr, ⊎_elim, ◌↔◌}
use native.Mathlib.Omega.{arith}
use native.Mathlib.Nat.{le_refl}
use lib.Dec.{eqb}
use borrow.Author.Tests.{eqb-true}
use Rattle.octets.specs.Octets.{num_at}
use Rattle.verdict.specs.declared.Mark.{Mark}
use Rattle.std.specs.Prelude.{Ok, Err}
use Rattle.verdict.specs.Facts.{Claim, test, Holds, Fact, fact, first_fault, AllHold, Marked}
use Rattle.verdict.proofs.Facts.{Agrees, agrees, never, all_append, accepted_iff, marked_append}
use Rattle.verdict.specs.Verdicts.{Judged}
use Rattle.verdict.specs.declared.Reason.TheVariants as reason
use Rattle.verdict.specs.declared.Rule.TheVariants as rule
use Rattle.rules.specs.Rules.{says}
use Rattle.names.specs.Names.{object_name}
use Rattle.verdict.proofs.Orders.{le-or-lt, and-true}
use Rattle.tables.specs.Table.{Part, bits, Values, any, link, exactly, between, within, among_four, among_five, named, parts, Row, tiles}
use Rattle.names.proofs.Names.{object_name_iff}
use Rattle.tables.specs.Rows.{part_facts, value_facts, row_facts, table_facts, HasParts, Allowed, RowObeys, TableObeys, RowAtFault, LowestAtFault, Tiled, done, next, InRow}

-- ---- the facts hold exactly where the fields obey

module _ (f : List ℕ) (at : ℕ) where
  parts_iff : (k w : ℕ) (ps : List Part) → AllHold (part_facts f at k w ps) ↔ HasParts (num_at w f (at + k)) ps
  unfolding AllHold
  parts_iff k w [] = (λ h. tt, λ h. tt)
  parts_iff k w (bits over modulo low high ∷ ps) = let ih = parts_iff k w ps in (λ h. (h.0, ih.0 h.1), λ h. (h.0, ih.1 h.1))

  values_iff : (k w : ℕ) (x : Values) → AllHold (value_facts f at k w x) ↔ Allowed f (at + k) w x
  unfolding AllHold
  values_iff k w any = (λ h. tt, λ h. tt)
  values_iff k w link = (λ h. tt, λ h. tt)
  values_iff k w (exactly n) = (λ h. h.0, λ h. (h, tt))
  values_iff k w (between low high) = (λ h. h.0, λ h. (h, tt))
  values_iff k w (within limit) = (λ h. h.0, λ h. (h, tt))
  values_iff k w (among_four a b c d) = (λ h. h.0, λ h. (h, tt))
  values_iff k w (among_five a b c d e) = (λ h. h.0, λ h. (h, tt))
  values_iff k w (named least) = let n = object_name_iff f (at + k) least in (λ h. n.0 h.0, λ h. (n.1 h, tt))
  values_iff k w (parts ps) = parts_iff k w ps

  pub row_iff : (r : Row) → AllHold (row_facts f at r) ↔ RowObeys f at r
  row_iff r = values_iff r.offset r.width r.values

  -- LAW: for any table
  pub table_iff : (t : List Row) → AllHold (table_facts f at t) ↔ TableObeys f at t
  unfolding AllHold
  table_iff [] = (λ h. record { each = λ r m. absurd (mathlib.Core.List.Memᴰ.not-nil m) }, λ o. tt)
  table_iff (r ∷ rs) =
      let ih = table_iff rs in
      let cut = all_append (row_facts f at r) (table_facts f at rs) in (
        λ h. record {
          each = λ s m. ⊎_elim (λ (e : s ≡ r). subst (λ (x : Row). RowObeys f at x) (sym e) ((row_iff r).0 (cut.0 h).0)) (λ (n : Memᴰ s rs). (ih.0 (cut.0 h).1).each s n) (mathlib.Core.List.Memᴰ.cases_cons m);
        },
        λ o. cut.1 ((row_iff r).1 (o.each r (mathlib.Core.List.Memᴰ.head refl)), ih.1 (record { each = λ s m. o.each s (mathlib.Core.List.Memᴰ.tail m) })),
      )

-- ---- a refusal is at the lowest field at fault

-- every fact of a list has this place
abbrev AllAt : ℕ → List Fact → Type 0
AllAt p [] = Unit {0}
AllAt p (fact c m ∷ fs) = (m.place ≡ p) × AllAt p fs

parts_at : (f : List ℕ) (at k w : ℕ) (ps : List Part) → AllAt (at + k) (part_facts f at k w ps)
parts_at f at k w [] = tt
parts_at f at k w (bits over modulo low high ∷ ps) = (refl, parts_at f at k w ps)

values_at : (f : List ℕ) (at k w : ℕ) (x : Values) → AllAt (at + k) (value_facts f at k w x)
values_at f at k w any = tt
values_at f at k w link = tt
values_at f at k w (exactly n) = (refl, tt)
values_at f at k w (between low high) = (refl, tt)
values_at f at k w (within limit) = (refl, tt)
values_at f at k w (among_four a b c d) = (refl, tt)
values_at f at k w (among_five a b c d e) = (refl, tt)
values_at f at k w (named least) = (refl, tt)
values_at f at k w (parts ps) = parts_at f at k w ps

-- facts of one place refuse there, or all hold and the facts after them refuse
first-at : (p : ℕ) (fs rest : List Fact) (m : Mark) → AllAt p fs → first_fault (fs ++ rest) ≡ Err m
    → ((AllHold fs → ⊥) × (m.place ≡ p)) ⊎ (AllHold fs × (first_fault rest ≡ Err m))
unfolding first_fault AllHold
first-at p [] rest m a e = inr (tt, e)
first-at p (fact c n ∷ fs) rest m a e = go (test c) (agrees c) e (first-at p fs rest m a.1)
  where
    go : (t : Bool) → Agrees t (Holds c) → cond t (first_fault (fs ++ rest)) (Err n) ≡ Err m
        → (first_fault (fs ++ rest) ≡ Err m → ((AllHold fs → ⊥) × (m.place ≡ p)) ⊎ (AllHold fs × (first_fault rest ≡ Err m)))
        → ((Holds c × AllHold fs → ⊥) × (m.place ≡ p)) ⊎ ((Holds c × AllHold fs) × (first_fault rest ≡ Err m))
    go true h e ih =
        ⊎_elim (λ (x : (AllHold fs → ⊥) × (m.place ≡ p)). inl (λ g. x.0 g.1, x.1)) (λ (x : AllHold fs × (first_fault rest ≡ Err m)). inr ((h, x.0), x.1)) (ih e)
    go false h e ih = let x : n ≡ m = cc in inl (λ g. h g.0, ap (λ (i : Mark). i.place) (sym x) ∙ a.0)

-- a field of a table stands after the table's start
fault_after : (f : List ℕ) (at from end : ℕ) (t : List Row) → Tiled from t end → (q : ℕ) → RowAtFault f at t q → at + from ≤ q
fault_after f at from end t d q x = go x.which x.there d x.stands
  where
    go : {from end : ℕ} {t : List Row} (r : Row) → Memᴰ r t → Tiled from t end → q ≡ at + r.offset → at + from ≤ q
    go r m done e = absurd (mathlib.Core.List.Memᴰ.not-nil m)
    go {from} {end} {t} r m (next {r = s} {rs = rs} p d) e =
        ⊎_elim (λ (z : r ≡ s). let y : r.offset ≡ s.offset = ap (λ (u : Row). u.offset) z in omega arith) (λ (n : Memᴰ r rs). let y = go r n d e in omega arith) (mathlib.Core.List.Memᴰ.cases_cons m)

-- LAW: for any table that leaves no gap
pub lowest_at_fault : (f : List ℕ) (at from end : ℕ) (t : List Row) (m : Mark) → Tiled from t end → first_fault (table_facts f at t) ≡ Err m → LowestAtFault f at t m.place
unfolding first_fault
lowest_at_fault f at from end [] m d e = absurd (never m (sym e))
lowest_at_fault f at from end (r ∷ rs) m (next p d) e =
    ⊎_elim here (later (lowest_at_fault f at (from + r.width) end rs m d)) (first-at (at + r.offset) (row_facts f at r) (table_facts f at rs) m (values_at f at r.offset r.width r.values) e)
  where
    here : (AllHold (row_facts f at r) → ⊥) × (m.place ≡ at + r.offset) → LowestAtFault f at (r ∷ rs) m.place
    here x = record {
      fault = record { which = r; there = mathlib.Core.List.Memᴰ.head refl; stands = x.1; fails = λ o. x.0 ((row_iff f at r).1 o) };
      least = λ q g. let y = fault_after f at from end (r ∷ rs) (next p d) q g in let z = x.1 in omega arith;
    }

    later : (first_fault (table_facts f at rs) ≡ Err m → LowestAtFault f at rs m.place) → AllHold (row_facts f at r) × (first_fault (table_facts f at rs) ≡ Err m) → LowestAtFault f at (r ∷ rs) m.place
    later again x =
        let ih = again x.1 in
        let g = ih.fault in
        let holds : RowObeys f at r = (row_iff f at r).0 x.0 in
        record {
          fault = record { which = g.which; there = mathlib.Core.List.Memᴰ.tail g.there; stands = g.stands; fails = g.fails };
          least = λ q h. ⊎_elim (λ (z : h.which ≡ r). absurd (h.fails (subst (λ (u : Row). RowObeys f at u) (sym z) holds)))
              (λ (n : Memᴰ h.which rs). ih.least q (record { which = h.which; there = n; stands = h.stands; fails = h.fails }))
              (mathlib.Core.List.Memᴰ.cases_cons h.there);
        }

-- ---- the test `tiles`, and what it means

pub tiled : (from : ℕ) (t : List Row) (end : ℕ) → tiles from t end ≡ true → Tiled from t end
tiled from [] end e = subst (λ (x : ℕ). Tiled from [] x) (eqb-true from end e) done
tiled from (r ∷ rs) end e =
    next (eqb-true from r.offset (and-true (eqb from r.offset) (tiles (from + r.width) rs end) e).0) (tiled (from + r.width) rs end (and-true (eqb from r.offset) (tiles (from + r.width) rs end) e).1)

-- LAW: each byte of the record lies in some field
pub covered : {from end : ℕ} {t : List Row} → Tiled from t end → (k : ℕ) → from ≤ k → k < end → InRow t k
covered done k l h = absurd (omega arith)
covered (next {from = from} {r = r} {rs = rs} p d) k l h = ⊎_elim (later (λ g. covered d k g h)) here (le-or-lt (from + r.width) k)
  where
    here : k < from + r.width → InRow (r ∷ rs) k
    here g = record { which = r; there = mathlib.Core.List.Memᴰ.head refl; from = omega arith; to = omega arith }

    later : (from + r.width ≤ k → InRow rs k) → from + r.width ≤ k → InRow (r ∷ rs) k
    later again g = let x = again g in record { which = x.which; there = mathlib.Core.List.Memᴰ.tail x.there; from = x.from; to = x.to }

tiled_le : {from end : ℕ} {t : List Row} → Tiled from t end → from ≤ end
tiled_le {from} done = le_refl from
tiled_le (next p d) = let h = tiled_le d in omega arith

-- LAW: each field lies inside the record
pub inside : {from end : ℕ} {t : List Row} → Tiled from t end → (r : Row) → Memᴰ r t → (from ≤ r.offset) × (r.offset + r.width ≤ end)
inside done r m = absurd (mathlib.Core.List.Memᴰ.not-nil m)
inside (next {r = s} {rs = rs} p d) r m =
    let e = tiled_le d in
    ⊎_elim (λ (z : r ≡ s). let y : r.offset ≡ s.offset = ap (λ (u : Row). u.offset) z in let w : r.width ≡ s.width = ap (λ (u : Row). u.width) z in (omega arith, omega arith))
    (λ (n : Memᴰ r rs). let y = inside d r n in (omega (arith, y.0), omega (arith, y.1))) (mathlib.Core.List.Memᴰ.cases_cons m)

-- ---- a table is refused at a place exactly where that is the lowest field at fault

-- a table is refused at p
pub record RefusedAt (f : List ℕ) (at : ℕ) (t : List Row) (p : ℕ) : Type 0 where
  pub mark : Mark
  pub refused : first_fault (table_facts f at t) ≡ Err mark
  pub place : mark.place ≡ p

-- LAW
pub fault_iff : (f : List ℕ) (at from end : ℕ) (t : List Row) (p : ℕ) → Tiled from t end → RefusedAt f at t p ↔ LowestAtFault f at t p
fault_iff f at from end t p d = (λ r. subst (LowestAtFault f at t) r.place (lowest_at_fault f at from end t r.mark d r.refused), λ x. back x (first_fault (table_facts f at t)) refl)
  where
    back : LowestAtFault f at t p → (v : Judged) → first_fault (table_facts f at t) ≡ v → RefusedAt f at t p
    back x (Ok tt) e =
        let o = (table_iff f at t).0 ((accepted_iff (table_facts f at t)).0 e) in
        absurd (x.fault.fails (o.each x.fault.which x.fault.there))
    back x (Err m) e =
        let y = lowest_at_fault f at from end t m d e in
        let a = x.least m.place y.fault in
        let b = y.least p x.fault in
        record { mark = m; refused = e; place = omega arith }

-- ---- each fact's claim is what its mark says; `other` is told of the shapes that `says` leaves open

module _ (f : List ℕ) (other : Mark → Claim) (at : ℕ)
    (names : (k w least : ℕ) → object_name f (at + k) least ≡ other (record { reason = reason.Field; start = at; place = at + k; width = w; rule = rule.ObjectName least })) where
  parts_marked : (k w : ℕ) (ps : List Part) → Marked (says f other) (part_facts f at k w ps)
  parts_marked k w [] = tt
  parts_marked k w (bits over modulo low high ∷ ps) = (refl, parts_marked k w ps)

  values_marked : (k w : ℕ) (x : Values) → Marked (says f other) (value_facts f at k w x)
  values_marked k w any = tt
  values_marked k w link = tt
  values_marked k w (exactly n) = (refl, tt)
  values_marked k w (between low high) = (refl, tt)
  values_marked k w (within limit) = (refl, tt)
  values_marked k w (among_four a b c d) = (refl, tt)
  values_marked k w (among_five a b c d e) = (refl, tt)
  values_marked k w (named least) = (names k w least, tt)
  values_marked k w (parts ps) = parts_marked k w ps

  -- LAW: for any table
  pub table_marked : (t : List Row) → Marked (says f other) (table_facts f at t)
  table_marked [] = tt
  table_marked (r ∷ rs) = marked_append (says f other) (row_facts f at r) (table_facts f at rs) (values_marked r.offset r.width r.values) (table_marked rs)
