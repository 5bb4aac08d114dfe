-- `route_walks::put_words` meets its contract. The loop's invariant: the words before i are stored.
use Rattle.std.proofs.Common.{◌≡◌, take}
use Rattle.route_walks.specs.Lent.{lays}
use Rattle.route_walks.proofs.put_words.Given as goal

abbrev pub invariant-loop-i : goal.invariant-loop-i
invariant-loop-i l = l.out ≡ lays l.fn.out l.at (take l.i l.words)
