-- `x1_verdict::pass::fields_pass` meets its contract.
use Rattle.x1_verdict.proofs.Passing.{fields_passed}
use Rattle.x1_verdict.proofs.pass.fields_pass.Goals as goal

pub returns : goal.returns
returns c = λ h.
    let heading = c.number_of-heading in
    let near = c.lies_between-near in
    let a = c.args in
    fields_passed a.f.now a.p heading.result heading.ensures near.result near.ensures h
