-- `pair::pass::reaches` meets its contract.
use mathlib.Core.Path.{sym}
use mathlib.Core.Bool.{true≢false}
use Rattle.pair.proofs.Passing.{found_reaches}
use borrow.Author.Rules.{rules}
use Rattle.pair.proofs.pass.reaches.Goals as goal

pub returns-else-f-e : goal.returns-else-f-e
returns-else-f-e c = let a = c.args in
    λ e. found_reaches a.f.now a.position c.in-Some.is c.number_of.ensures.is e
