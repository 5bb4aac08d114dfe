-- `route_lister::put_in_room` meets its contract: the count is one word, and the offsets are those after it.
use Rattle.std.proofs.Common.{refl, add-one}
use Rattle.route_walks.specs.Lent.{lays}
use Rattle.route_lister.proofs.steps.put_in_room.Goals as goal

pub returns : goal.returns
unfolding lays
returns c = rw (c.put_words-2.ensures, c.put_words.ensures, add-one) refl
