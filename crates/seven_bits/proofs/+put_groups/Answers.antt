-- `seven_bits::put_groups` meets its contract. It ends since the groups that are left become fewer.
use Rattle.seven_bits.proofs.Groups.{put_none, put_last, put_more}
use Rattle.seven_bits.proofs.+put_groups.Goals as goal

named_next_stored : {T0 T1 : Type 0} → T0 × T1 → record { next : T0; stored : T1 }
named_next_stored p = record { next = p.0; stored = p.1 }

pub returns-then-left-eq0 : goal.returns-then-left-eq0
returns-then-left-eq0 t c = named_next_stored (put_none _ _ _ _ c.if-left-eq0.true)

pub returns-then-v-lt-GROUP_VALUES : goal.returns-then-v-lt-GROUP_VALUES
returns-then-v-lt-GROUP_VALUES t c = named_next_stored (put_last _ _ _ _ c.if-left-eq0.false c.requires c.if-v-lt-GROUP_VALUES.true)

pub returns : goal.returns
returns t c = named_next_stored (put_more _ _ _ _ c.if-left-eq0.false c.requires _ _ c.if-v-lt-GROUP_VALUES.false (c.put_groups.ensures.next, c.put_groups.ensures.stored))
