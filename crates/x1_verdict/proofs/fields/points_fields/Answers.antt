-- `x1_verdict::fields::points_fields` meets its contract. The invariant: the points before p obey, so that the facts of the points
-- from p on give the verdict that the facts of all points give.
use mathlib.Core.Path.{◌∙◌, refl, sym}
use native.Mathlib.Omega.{arith}
use Rattle.verdict.proofs.Checks.{passes_over, fails_here, first_stop}
use Rattle.x1_layout.specs.Layout.{end_of}
use Rattle.x1_fields.specs.Fields.{point_fields}
use Rattle.x1_verdict.specs.Fields.{all_points}
use Rattle.x1_verdict.proofs.fields.points_fields.Goals as goal

pub loop-p-init : goal.loop-p-init
unfolding all_points
loop-p-init c = rw c.points_at-p.ensures.value

pub returns-then-not-point_obeys : goal.returns-then-not-point_obeys
returns-then-not-point_obeys c = let t = c.point_obeys in
    let a = c.args in
    fails_here (λ _. a.size) (end_of a.f.now) (point_fields a.f.now) (λ x. c.requires.1) c.loop-p.p t.result (omega (arith, c.end_of-end.ensures)) t.ensures _ c.if-not-point_obeys.true c.point_fields.ensures ∙ c.loop-p.invariant

pub loop-p-preserved : goal.loop-p-preserved
loop-p-preserved c = let t = c.point_obeys in
    let a = c.args in
    passes_over (λ _. a.size) (end_of a.f.now) (point_fields a.f.now) (λ x. c.requires.1) c.loop-p.p t.result (omega (arith, c.end_of-end.ensures)) t.ensures _ c.if-not-point_obeys.false refl ∙ c.loop-p.invariant

pub returns : goal.returns
returns c = let a = c.args in
    sym (first_stop (λ _. a.size) (end_of a.f.now) (point_fields a.f.now) _ (omega (arith, c.end_of-end.ensures))) ∙ c.loop-p.invariant
