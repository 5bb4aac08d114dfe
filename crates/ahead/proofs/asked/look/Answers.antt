-- `ahead::asked::look` meets its contract: one law for each way out.
use mathlib.Core.Path.{ap, ◌∙◌}
use native.Mathlib.Omega.{arith}
use Rattle.route_walks.specs.Lent.{lays}
use Rattle.ahead.specs.Seen.{Seen, sight_of}
use Rattle.ahead.proofs.Answering.{not_named, is_offset, seen-is, asked_is, not_asked, no_room, listed}
use mathlib.Core.Bool.{not}
use Rattle.ahead.proofs.asked.look.Goals as goal

pub returns-then-not-may_name : goal.returns-then-not-may_name
returns-then-not-may_name c = let a = c.args in
    let t = not_named a.g.now a.l a.offset a.link a.lies.now a.out.now _ c.may_name.ensures (ap not c.if-not-may_name.true) in
    record { value = c.refused.ensures ∙ t.answered; out_after = t.left }

pub overflow_cast-passed : goal.overflow_cast-passed
overflow_cast-passed c = let a = c.args in
    let small = is_offset a.g.now a.l a.offset a.link a.lies.now a.out.now _ c.may_name.ensures (ap not c.if-not-may_name.false) in
    omega arith

pub returns-then-not-link-link_count : goal.returns-then-not-link-link_count
returns-then-not-link-link_count c = let a = c.args in
    let t = not_asked a.g.now a.l a.offset a.link a.lies.now a.out.now _ c.may_name.ensures (ap not c.if-not-may_name.false) _ (asked_is a.g.now a.l a.offset a.link a.lies.now _ _ _ c.object_at-o.ensures c.link_count.ensures c.are_lies.ensures) (ap not c.if-not-link-link_count.true) in
    record { value = c.refused-then-not-link-link_count.ensures ∙ t.answered; out_after = t.left }

pub returns-then-out-lt-ROOM_LEAST : goal.returns-then-out-lt-ROOM_LEAST
returns-then-out-lt-ROOM_LEAST c = let a = c.args in
    let t = no_room a.g.now a.l a.offset a.link a.lies.now a.out.now _ c.may_name.ensures (ap not c.if-not-may_name.false) _ (asked_is a.g.now a.l a.offset a.link a.lies.now _ _ _ c.object_at-o.ensures c.link_count.ensures c.are_lies.ensures) (ap not c.if-not-link-link_count.false) c.if-out-lt-ROOM_LEAST.true in
    record { value = c.refused-then-out-lt-ROOM_LEAST.ensures ∙ t.answered; out_after = t.left }

pub returns : goal.returns
returns c = let a = c.args in
    let same = seen-is a.g.now a.l a.offset a.link a.lies.now _ _ c.object_at-o.ensures c.link.ensures in
    let t =
    listed a.g.now a.l a.offset a.link a.lies.now a.out.now _ c.may_name.ensures (ap not c.if-not-may_name.false) _
    (asked_is a.g.now a.l a.offset a.link a.lies.now _ _ _ c.object_at-o.ensures c.link_count.ensures c.are_lies.ensures) (ap not c.if-not-link-link_count.false) _ _ c.if-out-lt-ROOM_LEAST.false
    (c.list.ensures.seen ∙ ap sight_of same) (c.list.ensures.stored ∙ ap (λ (s : Seen). lays a.out.now 0 s.objects) same) in
    record { value = t.answered; out_after = t.left }
