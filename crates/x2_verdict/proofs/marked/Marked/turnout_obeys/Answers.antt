-- `Marked::turnout_obeys` meets its contract.
use Rattle.x2_verdict.proofs.Linked.{both_true, at_link, another, turnout_linked}
use Rattle.x2_verdict.proofs.marked.Marked.turnout_obeys.Goals as goal

pub returns : goal.returns
returns c = λ e before.
    let l = c.args.self.now.l in
    let x = c.link_at-x.ensures in
    let y = c.link_at-y.ensures in
    let z = c.link_at-z.ensures in
    let split = both_true _ _ e in
    let later = both_true _ _ split.1 in
    turnout_linked _ l _
    (at_link _ l _ _ _ x (c.link_obeys.ensures c.if-not-link_obeys.false))
    (at_link _ l _ _ _ y (c.link_obeys-2.ensures c.if-not-link_obeys-2.false))
    (at_link _ l _ _ _ z (c.link_obeys-3.ensures c.if-not-link_obeys-3.false))
    (another _ _ _ _ _ y x _ c.is_another.ensures split.0)
    (another _ _ _ _ _ z x _ c.is_another-2.ensures later.0)
    (another _ _ _ _ _ z y _ c.is_another-3.ensures later.1) before
