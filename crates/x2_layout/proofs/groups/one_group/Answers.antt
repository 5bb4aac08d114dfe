-- `x2_layout::groups::one_group` meets its contract.
use Rattle.x2_layout.specs.Groups.{group_in}
use Rattle.x2_layout.proofs.Loops.{one_there}
use Rattle.x2_layout.proofs.groups.one_group.Goals as goal

pub returns : goal.returns
returns c = let a = c.args in
    one_there a.f.now a.o.end a.due a.until a.next (group_in a.o a.i) _ c.u16_at.ensures.is c.if-u16_at-eq0.false _ c.group_layout.ensures
    c.in_ok-group_layout.was _ (simp (c.made_layout.ensures, c.made_of.ensures))
