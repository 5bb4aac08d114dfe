-- `route_lister::follow` and `route_lister::branch` meet their contracts, by one proof of their cycle of calls. What falls is twice the objects that are
-- left, and one more in `branch`. The loop of `follow` goes along a line: what remains to be followed from where it has come gives what following the first
-- link gives (`Line` of Turn). Each way out of the code is one law of Turn. In `follow`, h is where the way on is known, l is where the loop has
-- come, o is that a walk is opened there, p is the push of its last object, and way is how it goes on from there.
use mathlib.Core.Path.{sym, ap, ◌∙◌}
use native.Mathlib.Omega.{arith}
use borrow.Author.Rules.{rules}
use Rattle.route_graph.specs.declared.Object.{Object}
use Rattle.route_lister.specs.inner.Ways.{way_of}
use Rattle.route_lister.proofs.Turn.{ready_again, takes_legs, held_twice, line_starts, line_ends, line_arrives, line_forks, line_on, ready_there, as_long}
use Rattle.route_lister.proofs.lister.+branch_follow.Goals as goal

pub branch-follow-u-requires : goal.branch-follow-u-requires
branch-follow-u-requires t c = (omega arith, c.requires)

pub branch-follow-requires : goal.branch-follow-requires
branch-follow-requires t c = let h = c.follow-u in
    (omega arith, ready_again _ _ _ _ _ _ _ _ _ c.requires c.follow-u.auto.path c.follow-u.ensures.held c.follow-u.ensures.grown.sane)

pub branch-shape_of-path : goal.branch-shape_of-path
branch-shape_of-path t c = let h = c.follow-u in
    let k = c.follow in
    c.follow.auto.path ∙ c.follow-u.auto.path

pub branch-shape_of-out : goal.branch-shape_of-out
branch-shape_of-out t c = let h = c.follow-u in
    let k = c.follow in
    c.follow.auto.out ∙ c.follow-u.auto.out

pub branch-returns : goal.branch-returns
branch-returns t c = let h = c.follow-u in
    let k = c.follow in
    record { held = held_twice _ _ _ _ _ _ c.follow-u.ensures.held c.follow.ensures.held; grown = takes_legs _ _ _ c.args.n _ c.args.path.now _ c.follow-u.new.path _ _ _ _ _ _ c.follow-u.ensures.held.same c.follow-u.ensures.grown c.follow.ensures.grown }

named_held_grown : {T0 T1 : Type 0} → T0 × T1 → record { held : T0; grown : T1 }
named_held_grown p = record { held = p.0; grown = p.1 }

pub follow-loop-e-init : goal.follow-loop-e-init
follow-loop-e-init t c = line_starts _ _ _ _ _ _ _ _ _ _ c.requires

pub follow-opens-requires : goal.follow-opens-requires
follow-opens-requires t c = let l = c.loop-e in
    let r = l.invariant.ready in
    (omega arith, r.marked)

pub follow-push-requires : goal.follow-push-requires
follow-push-requires t c = let l = c.loop-e in
    let o = c.opens.ensures.open_if c.loop-e-test.true in
    let r = l.invariant.ready in
    (omega (arith, o.allowed), omega (arith, o.allowed), r.marked)

pub follow-opened-w-requires : goal.follow-opened-w-requires
follow-opened-w-requires t c = let l = c.loop-e in
    let r = l.invariant.ready in
    search rules

pub follow-object_in-requires : goal.follow-object_in-requires
follow-object_in-requires t c = search rules

pub follow-way_of-requires : goal.follow-way_of-requires
follow-way_of-requires t c = search rules

pub follow-enum_told-1 : goal.follow-enum_told-1
follow-enum_told-1 t c = search rules

pub follow-arrived-requires : goal.follow-arrived-requires
follow-arrived-requires t c = let l = c.loop-e in
    let o = c.opens.ensures.open_if c.loop-e-test.true in
    let p = c.push in
    let r = l.invariant.ready in
    let e = c.push.auto.path in
    (omega (arith, o.allowed), omega (arith, o.allowed), search rules)

pub follow-shape_of-path-in-Arrives : goal.follow-shape_of-path-in-Arrives
follow-shape_of-path-in-Arrives t c = let l = c.loop-e in
    let o = c.opens.ensures.open_if c.loop-e-test.true in
    let p = c.push in
    as_long _ _ _ _ _ _ _ _ _ _ _ _ _ _ _ _ _ l.invariant o c.push.new.marks c.push.new.path c.push.ensures.put c.push.ensures.marked

pub follow-shape_of-out-in-Arrives : goal.follow-shape_of-out-in-Arrives
follow-shape_of-out-in-Arrives t c = c.arrived.auto.out ∙ c.loop-e.invariant.same_out

pub follow-returns-in-Arrives : goal.follow-returns-in-Arrives
follow-returns-in-Arrives t c = let l = c.loop-e in
    let o = c.opens.ensures.open_if c.loop-e-test.true in
    let p = c.push in
    let way = ap (λ (x : Object). way_of x l.last) (sym c.object_in.ensures) ∙ sym c.way_of.ensures ∙ c.in-Arrives.is in
    let a = c.arrived in
    named_held_grown (line_arrives _ _ _ _ _ _ _ _ _ _ _ _ _ _ _ _ _ l.invariant o c.push.new.marks c.push.new.path c.push.ensures.put c.push.ensures.marked _ _ way c.arrived.ensures.counted c.arrived.ensures.stored)

pub follow-enum_known-j : goal.follow-enum_known-j
follow-enum_known-j t c = search rules

pub follow-branch-f-requires : goal.follow-branch-f-requires
follow-branch-f-requires t c = let l = c.loop-e in
    let o = c.opens.ensures.open_if c.loop-e-test.true in
    let p = c.push in
    (omega (arith, o.allowed, l.invariant.fewer), ready_there _ _ _ _ _ _ _ _ _ _ _ _ _ _ _ _ _ l.invariant o c.push.new.marks c.push.new.path c.push.ensures.put c.push.ensures.marked _ c.opened-w.ensures)

pub follow-shape_of-path-in-Forks : goal.follow-shape_of-path-in-Forks
follow-shape_of-path-in-Forks t c = let l = c.loop-e in
    let o = c.opens.ensures.open_if c.loop-e-test.true in
    let p = c.push in
    c.branch-f.auto.path ∙ as_long _ _ _ _ _ _ _ _ _ _ _ _ _ _ _ _ _ l.invariant o c.push.new.marks c.push.new.path c.push.ensures.put c.push.ensures.marked

pub follow-shape_of-out-in-Forks : goal.follow-shape_of-out-in-Forks
follow-shape_of-out-in-Forks t c = c.branch-f.auto.out ∙ c.loop-e.invariant.same_out

pub follow-returns-in-Forks : goal.follow-returns-in-Forks
follow-returns-in-Forks t c = let l = c.loop-e in
    let o = c.opens.ensures.open_if c.loop-e-test.true in
    let p = c.push in
    let way = ap (λ (x : Object). way_of x l.last) (sym c.object_in.ensures) ∙ sym c.way_of.ensures ∙ c.in-Forks.is in
    let b = c.branch-f in
    named_held_grown (line_forks _ _ _ _ _ _ _ _ _ _ _ _ _ _ _ _ _ l.invariant o c.push.new.marks c.push.new.path c.push.ensures.put c.push.ensures.marked _ _ c.branch-f.new.marks c.branch-f.new.path _ _ c.opened-w.ensures way c.branch-f.ensures.held c.branch-f.ensures.grown)

pub follow-enum_known-link : goal.follow-enum_known-link
follow-enum_known-link t c = search rules

pub follow-loop-e-smaller : goal.follow-loop-e-smaller
follow-loop-e-smaller t c = let l = c.loop-e in
    let o = c.opens.ensures.open_if c.loop-e-test.true in
    omega (arith, o.allowed)

pub follow-loop-e-preserved : goal.follow-loop-e-preserved
follow-loop-e-preserved t c = let l = c.loop-e in
    let o = c.opens.ensures.open_if c.loop-e-test.true in
    let p = c.push in
    let way = ap (λ (x : Object). way_of x l.last) (sym c.object_in.ensures) ∙ sym c.way_of.ensures ∙ c.in-On.is in
    line_on _ _ _ _ _ _ _ _ _ _ _ _ _ _ _ _ _ l.invariant o c.push.new.marks c.push.new.path c.push.ensures.put c.push.ensures.marked _ _ c.opened-w.ensures way

pub follow-shape_of-path : goal.follow-shape_of-path
follow-shape_of-path t c = c.loop-e.invariant.same_path

pub follow-shape_of-out : goal.follow-shape_of-out
follow-shape_of-out t c = c.loop-e.invariant.same_out

pub follow-returns : goal.follow-returns
follow-returns t c = let l = c.loop-e in
    named_held_grown (line_ends _ _ _ _ _ _ _ _ _ _ _ _ _ _ _ _ _ l.invariant (c.opens.ensures.shut_if c.loop-e-test.false))
