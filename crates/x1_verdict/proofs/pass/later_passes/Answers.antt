-- `x1_verdict::pass::later_passes` meets its contract.
use Rattle.x1_verdict.proofs.Passing.{later_passed}
use Rattle.x1_verdict.proofs.pass.later_passes.Goals as goal

pub returns : goal.returns
returns c = λ h.
    let stays = c.stay_obeys-stays in
    let fields = c.fields_pass-fields in
    let a = c.args in
    later_passed a.f.now a.size a.e a.p fields.result stays.result fields.ensures stays.ensures a.before a.here c.requires.1 c.requires.2 a.t c.requires.0 h
