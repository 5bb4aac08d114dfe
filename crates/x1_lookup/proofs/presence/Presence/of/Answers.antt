-- `x1_lookup::presence::Presence::of` meets its contract. The invariant: the words so far, with the numbers of the entries from e on, are
-- the words of the file.
use Prim.Native.Nat.{◌+◌}
use mathlib.Core.Path.{◌∙◌}
use native.Mathlib.Omega.{arith}
use Rattle.x1_records.specs.Places.{entry_size}
use Rattle.x1_lookup.proofs.Present.{all_start, all_next, all-stop}
use Rattle.x1_lookup.proofs.presence.Presence.of.Goals as goal

pub loop-e-init : goal.loop-e-init
loop-e-init c = let a = c.args in all_start a.f.now c.none-words.result c.none-words.ensures

pub loop-e-preserved : goal.loop-e-preserved
loop-e-preserved c = let h = c.loop-e in
    let a = c.args in
    let from = c.points_at-stop.ensures.value in
    all_next a.f.now h.words h.e (omega arith) c.with-words.result _ c.number_of.ensures.is c.with-words.ensures ∙ h.invariant

pub returns : goal.returns
returns c = let h = c.loop-e in
    let a = c.args in
    let from = c.points_at-stop.ensures.value in
    all-stop a.f.now h.words h.e (omega arith) ∙ h.invariant

-- after the last entry
pub returns-2 : goal.returns-2
returns-2 c = let h = c.loop-e in
    let a = c.args in
    let from = c.points_at-stop.ensures.value in
    all-stop a.f.now c.with-words.result (h.e + entry_size) (omega arith)
    ∙ all_next a.f.now h.words h.e (omega arith) c.with-words.result _ c.number_of.ensures.is c.with-words.ensures
    ∙ h.invariant
