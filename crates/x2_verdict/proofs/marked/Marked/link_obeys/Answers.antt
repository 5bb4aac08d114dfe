-- `Marked::link_obeys` meets its contract.
use native.Mathlib.Omega.{arith}
use Rattle.x2_verdict.proofs.Linked.{link_holds}
use Rattle.x2_verdict.proofs.Neighbours.{marked_aims}
use Rattle.x2_verdict.proofs.marked.Marked.link_obeys.Goals as goal

pub returns : goal.returns
returns c = λ e.
    let a = c.args in
    let m = c.args.self.now in
    let aimed = marked_aims m.marks.now a.at a.x c.if-x-eq0.false c.if-x-at.false _ c.is_target.ensures c.if-not-is_target.false in
    link_holds m.f.now m.l m.regions m.marks.now m.targets a.at a.x (omega arith) c.if-x-eq0.false aimed (c.names_back.ensures e)
