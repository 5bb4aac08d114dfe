-- `x1_lookup::find_track` meets its contract. The invariant: the search among the entries from e on answers what the search among all does.
use Prim.Native.Nat.{◌+◌}
use mathlib.Core.Path.{◌∙◌, refl, sym}
use native.Mathlib.Omega.{arith}
use borrow.Author.Tests.{eq-eqb, ne_eqb}
use Rattle.x1_records.specs.Places.{entry_size}
use Rattle.x1_layout.specs.Layout.{points_at, entries}
use Rattle.x1_lookup.specs.Lookup.{number_at, has_number, find_track}
use Rattle.x1_lookup.proofs.Search.{where_here, where_next, where_stop}
use Rattle.x1_lookup.proofs.find_track.Goals as goal

pub loop-e-init : goal.loop-e-init
unfolding find_track entries
loop-e-init c = refl

pub returns-then-number_of-number : goal.returns-then-number_of-number
returns-then-number_of-number c = let h = c.loop-e in
    let a = c.args in
    let from = c.points_at-stop.ensures.value in
    sym (where_here (λ _. entry_size) (points_at a.f.now) (has_number a.f.now a.number) (λ x. omega arith) h.e (omega arith)
    (eq-eqb (number_at a.f.now h.e) a.number (sym c.number_of.ensures.is ∙ c.if-number_of-number.true)))
    ∙ h.invariant

pub loop-e-preserved : goal.loop-e-preserved
loop-e-preserved c = let h = c.loop-e in
    let a = c.args in
    let from = c.points_at-stop.ensures.value in
    where_next (λ _. entry_size) (points_at a.f.now) (has_number a.f.now a.number) (λ x. omega arith) h.e (omega arith)
    (ne_eqb (number_at a.f.now h.e) a.number (λ q. c.if-number_of-number.false (c.number_of.ensures.is ∙ q)))
    ∙ h.invariant

pub returns : goal.returns
returns c = let h = c.loop-e in
    let a = c.args in
    let from = c.points_at-stop.ensures.value in
    sym (where_stop (λ _. entry_size) (points_at a.f.now) (has_number a.f.now a.number) h.e (omega arith)) ∙ h.invariant

-- the last entry, which does not have the number
pub returns-else-number_of-number : goal.returns-else-number_of-number
returns-else-number_of-number c = let h = c.loop-e in
    let a = c.args in
    let from = c.points_at-stop.ensures.value in
    sym (where_stop (λ _. entry_size) (points_at a.f.now) (has_number a.f.now a.number) (h.e + entry_size) (omega arith))
    ∙ where_next (λ _. entry_size) (points_at a.f.now) (has_number a.f.now a.number) (λ x. omega arith) h.e (omega arith)
    (ne_eqb (number_at a.f.now h.e) a.number (λ q. c.if-number_of-number.false (c.number_of.ensures.is ∙ q)))
    ∙ h.invariant
