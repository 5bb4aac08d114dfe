-- `x1_verdict::fields::entries_fields` meets its contract. The invariant: the entries before e obey, so that the facts of the entries
-- from e on give the verdict that the facts of all entries give.
use Prim.Native.Nat.{◌+◌}
use mathlib.Core.Path.{◌∙◌, refl, sym}
use native.Mathlib.Omega.{arith}
use Rattle.verdict.proofs.Checks.{passes_over, fails_here, first_stop}
use Rattle.x1_records.specs.Places.{entry_size}
use Rattle.x1_layout.specs.Layout.{points_at, entries}
use Rattle.x1_fields.specs.Fields.{entry_fields}
use Rattle.x1_verdict.proofs.fields.entries_fields.Goals as goal

pub loop-e-init : goal.loop-e-init
unfolding entries
loop-e-init c = refl

pub returns-then-not-entry_obeys : goal.returns-then-not-entry_obeys
returns-then-not-entry_obeys c = let t = c.entry_obeys in
    let a = c.args in
    fails_here (λ _. entry_size) (points_at a.f.now) (entry_fields a.f.now) (λ x. omega arith) c.loop-e.e t.result (omega (arith, c.points_at-points.ensures.value)) t.ensures _ c.if-not-entry_obeys.true c.entry_fields.ensures ∙ c.loop-e.invariant

pub loop-e-preserved : goal.loop-e-preserved
loop-e-preserved c = let t = c.entry_obeys in
    let a = c.args in
    passes_over (λ _. entry_size) (points_at a.f.now) (entry_fields a.f.now) (λ x. omega arith) c.loop-e.e t.result (omega (arith, c.points_at-points.ensures.value)) t.ensures _ c.if-not-entry_obeys.false refl ∙ c.loop-e.invariant

pub returns : goal.returns
returns c = let a = c.args in
    sym (first_stop (λ _. entry_size) (points_at a.f.now) (entry_fields a.f.now) _ (omega (arith, c.points_at-points.ensures.value))) ∙ c.loop-e.invariant

pub returns-else-not-entry_obeys : goal.returns-else-not-entry_obeys
returns-else-not-entry_obeys c = let t = c.entry_obeys in
    let a = c.args in
    let next = c.loop-e.e + entry_size in
    sym (first_stop (λ _. entry_size) (points_at a.f.now) (entry_fields a.f.now) next (omega (arith, c.points_at-points.ensures.value)))
    ∙ passes_over (λ _. entry_size) (points_at a.f.now) (entry_fields a.f.now) (λ x. omega arith) c.loop-e.e t.result (omega (arith, c.points_at-points.ensures.value)) t.ensures next c.if-not-entry_obeys.false refl
    ∙ c.loop-e.invariant
