-- `x1_verdict::agreement::check_agreement` meets its contract. The invariant: the tracks before the entry at e obey, so that the facts of
-- the tracks from e on give the verdict that the facts of all tracks give.
use mathlib.Core.Path.{subst}
use Rattle.x1_verdict.specs.inner.Pass.{Reached}
use Prim.Native.Nat.{◌+◌}
use mathlib.Core.Path.{◌∙◌, refl, sym}
use native.Mathlib.Omega.{arith}
use Rattle.verdict.proofs.Checks.{passes_over, fails_here, first_stop}
use Rattle.x1_records.specs.Places.{entry_size}
use Rattle.x1_layout.specs.Layout.{points_at}
use Rattle.x1_verdict.specs.Agreement.{track_agrees, agreement_facts}
use Rattle.x1_verdict.proofs.agreement.check_agreement.Goals as goal

pub loop-e-init : goal.loop-e-init
unfolding agreement_facts
loop-e-init c = (subst (Reached c.args.f.now c.args.size) c.in-Err.is c.tracks_reached.ensures).1.agrees

pub returns-then-not-track_obeys : goal.returns-then-not-track_obeys
unfolding agreement_facts
returns-then-not-track_obeys c = let t = c.track_obeys in
    let a = c.args in
    fails_here (λ _. entry_size) (points_at a.f.now) (track_agrees a.f.now a.size) (λ x. omega arith) c.loop-e.e t.result (omega (arith, c.points_at-points.ensures.value)) t.ensures _
    c.if-not-track_obeys.true c.track_agrees.ensures
    ∙ c.loop-e.invariant

pub loop-e-preserved : goal.loop-e-preserved
loop-e-preserved c = let t = c.track_obeys in
    let a = c.args in
    passes_over (λ _. entry_size) (points_at a.f.now) (track_agrees a.f.now a.size) (λ x. omega arith) c.loop-e.e t.result (omega (arith, c.points_at-points.ensures.value)) t.ensures _
    c.if-not-track_obeys.false refl
    ∙ c.loop-e.invariant

pub returns-in-Err : goal.returns-in-Err
unfolding agreement_facts
returns-in-Err c = let a = c.args in
    sym (first_stop (λ _. entry_size) (points_at a.f.now) (track_agrees a.f.now a.size) _ (omega (arith, c.points_at-points.ensures.value))) ∙ c.loop-e.invariant

-- after the last track, which obeys
pub returns-else-not-track_obeys : goal.returns-else-not-track_obeys
unfolding agreement_facts
returns-else-not-track_obeys c = let t = c.track_obeys in
    let a = c.args in
    let next = c.loop-e.e + entry_size in
    let value = c.points_at-points.ensures.value in
    sym (first_stop (λ _. entry_size) (points_at a.f.now) (track_agrees a.f.now a.size) next (omega arith))
    ∙ passes_over (λ _. entry_size) (points_at a.f.now) (track_agrees a.f.now a.size) (λ x. omega arith) c.loop-e.e t.result (omega arith) t.ensures next
    c.if-not-track_obeys.false refl
    ∙ c.loop-e.invariant

-- the pass came over all tracks
pub returns-in_default : goal.returns-in_default
returns-in_default c = let a = c.args in
    let passing = subst (Reached a.f.now a.size) c.in_default.is c.tracks_reached.ensures in
    sym (first_stop (λ _. entry_size) (points_at a.f.now) (track_agrees a.f.now a.size) (points_at a.f.now) (omega arith)) ∙ passing.agrees
