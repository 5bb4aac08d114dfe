-- `route_walks::stands_in` meets its contract. The loop's invariant: whether x is one of the objects before those that are still to be looked at.
use Rattle.std.proofs.Common.{refl, ◌∙◌, ap, arith, List, ℕ}
use lib.Seq.{take_all}
use Rattle.route_walks.specs.Walks.{has}
use Rattle.route_walks.proofs.Paths.{looked_more}
use Rattle.route_walks.proofs.stands_in.Goals as goal

pub loop-y-init : goal.loop-y-init
unfolding has
loop-y-init c = refl

pub loop-y-preserved : goal.loop-y-preserved
loop-y-preserved c = looked_more c.args.walk.now c.loop-y.y-index c.args.x c.loop-y.found (omega arith) c.loop-y.invariant

pub returns : goal.returns
returns c = let walk = c.args.walk.now in
    c.loop-y.invariant ∙ ap (λ (l : List ℕ). has l c.args.x) (take_all c.loop-y.y-index walk (omega arith))
