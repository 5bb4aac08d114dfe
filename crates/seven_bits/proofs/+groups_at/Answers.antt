-- `seven_bits::groups_at` meets its contract. It ends since the groups that are left become fewer.
use mathlib.Core.Path.{sym, ◌∙◌}
use Rattle.seven_bits.proofs.Groups.{at_past, read_none, read-last, read_more}
use Rattle.seven_bits.proofs.+groups_at.Goals as goal

pub returns-then-left-eq0 : goal.returns-then-left-eq0
returns-then-left-eq0 t c = c.bad_number.ensures ∙ read_none _ _ _ c.if-left-eq0.true

pub returns-then-s-at : goal.returns-then-s-at
returns-then-s-at t c = c.bad_number-then-s-at.ensures ∙ sym (at_past _ _ _ c.if-s-at.true)

pub returns-then-b-lt-GROUP_VALUES : goal.returns-then-b-lt-GROUP_VALUES
returns-then-b-lt-GROUP_VALUES t c = c.found_number.ensures ∙ read-last _ _ _ _ c.if-left-eq0.false c.if-s-at.false c.byte_at-b.ensures c.if-b-lt-GROUP_VALUES.true

pub returns : goal.returns
returns t c = let rest = c.groups_at-rest.ensures in
    c.join.ensures
    ∙ read_more _ _ _ _ c.if-left-eq0.false c.if-s-at.false c.byte_at-b.ensures _ c.if-b-lt-GROUP_VALUES.false rest
