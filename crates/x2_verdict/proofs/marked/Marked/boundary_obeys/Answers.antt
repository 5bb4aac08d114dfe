-- `Marked::boundary_obeys` meets its contract.
use native.Mathlib.Omega.{arith}
use Rattle.x2_verdict.proofs.Linked.{at_link, boundary_linked}
use Rattle.x2_verdict.proofs.marked.Marked.boundary_obeys.Goals as goal

pub returns : goal.returns
returns c = λ e before.
    let x = c.link_at-x in
    boundary_linked _ c.args.self.now.l _ (omega (arith, x.ensures, c.if-x-eq0.false)) (omega (arith, x.ensures, x.type_inv)) (at_link _ c.args.self.now.l _ _ _ x.ensures (c.link_obeys.ensures e)) before
