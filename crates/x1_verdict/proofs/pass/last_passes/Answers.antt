-- `x1_verdict::pass::last_passes` meets its contract.
use mathlib.Core.Path.{sym}
use mathlib.Core.Bool.{true≢false}
use Rattle.x1_verdict.proofs.Passing.{last_passed}
use Rattle.x1_verdict.proofs.pass.last_passes.Goals as goal

pub returns-then-f-p : goal.returns-then-f-p
returns-then-f-p c = λ h. absurd (true≢false (sym h))

pub returns : goal.returns
returns c = λ h.
    let closes = c.closing_obeys-closes in
    let stays = c.stay_obeys-stays in
    let fields = c.fields_pass-fields in
    let here = c.number_of-here in
    let before = c.number_of-before in
    let a = c.args in
    let frame = c.requires.0 in
    last_passed a.f.now a.size a.e a.p fields.result stays.result fields.ensures stays.ensures before.result here.result before.ensures.is here.ensures.is
    a.t.first a.t.last frame.first frame.last c.requires.1 closes.result closes.ensures h
