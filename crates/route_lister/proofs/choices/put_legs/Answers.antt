-- `route_lister::put_legs` meets its contract.
use native.Mathlib.Omega.{arith}
use borrow.Author.Tests.{eq-eqb, ne_eqb}
use Rattle.route_graph.specs.Ways.{legs_of}
use Rattle.route_lister.proofs.Opening.{put_more}
use Rattle.route_lister.proofs.choices.put_legs.Goals as goal

pub returns-then-front-from : goal.returns-then-front-from
unfolding legs_of
returns-then-front-from c = rw (ne_eqb _ _ c.if-front-from.true) c.put_choice.ensures

pub put_choice-requires-2 : goal.put_choice-requires-2
put_choice-requires-2 c = let b = c.put_choice-below in
    let e = b.ensures.number in
    (omega arith, c.requires.1, b.ensures.sized)

pub returns : goal.returns
unfolding legs_of
returns c = let below = c.put_choice-below in
    rw (eq-eqb _ _ c.if-front-from.false) (put_more _ _ _ _ _ _ _ _ _ _ _ _ below.ensures c.put_choice-2.ensures)
