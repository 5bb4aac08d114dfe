-- `x1_verdict::pass::first_passes` meets its contract.
use mathlib.Core.Path.{sym}
use mathlib.Core.Bool.{true≢false}
use Rattle.x1_verdict.proofs.Passing.{first_passed}
use Rattle.x1_verdict.proofs.pass.first_passes.Goals as goal

pub returns-then-f-p : goal.returns-then-f-p
returns-then-f-p c = λ h. absurd (true≢false (sym h))

pub returns : goal.returns
returns c = λ h.
    let fields = c.fields_pass-fields in
    let stays = c.stay_obeys-stays in
    let opens = c.opening_obeys-opens in
    let a = c.args in
    let frame = c.requires.0 in
    first_passed a.f.now a.size a.e a.t.first fields.result stays.result fields.ensures stays.ensures a.t.last frame.first frame.last c.requires.1 opens.result opens.ensures h
