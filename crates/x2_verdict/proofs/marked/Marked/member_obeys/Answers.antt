-- `Marked::member_obeys` meets its contract.
use native.Mathlib.Omega.{arith}
use Rattle.x2_verdict.proofs.Neighbours.{member_inside}
use Rattle.x2_verdict.proofs.marked.Marked.member_obeys.Goals as goal

pub returns : goal.returns
returns c = λ e.
    let a = c.args in
    let m = c.args.self.now in
    member_inside m.f.now m.l m.marks.now m.targets a.before a.at _ _ _ _
    c.previous_of-x.ensures c.next_of-y.ensures c.previous_of.ensures c.next_of.ensures
    c.if-x-previous_of.false c.if-y-next_of.false (omega arith) (omega arith)
    _ _ c.aims_right.ensures c.aims_right-2.ensures e
