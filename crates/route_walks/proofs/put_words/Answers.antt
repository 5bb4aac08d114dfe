-- `route_walks::put_words` meets its contract: as many words are stored as there is room for.
use Rattle.std.proofs.Common.{◌≡◌, ◌<◌, length, take, refl, ◌∙◌, arith}
use lib.Seq.{length-take-le, get_or-take}
use Rattle.route_walks.specs.Lent.{lays}
use Rattle.route_walks.proofs.Lent.{stored_more, stored_all}
use Rattle.route_walks.proofs.put_words.Goals as goal

pub loop-i-init : goal.loop-i-init
unfolding lays
loop-i-init c = refl

pub loop-i-preserved : goal.loop-i-preserved
loop-i-preserved c =
    let words = c.args.words.now in
    let n : length (take c.min.result words) ≡ c.min.result = length-take-le c.min.result words (omega arith) in
    let below : c.loop-i.i < c.min.result = omega arith in
    stored_more _ words _ _ _ c.loop-i.i (omega arith) c.loop-i.invariant (rw (get_or-take c.min.result words c.loop-i.i 0 below) at c.put_word.ensures)

pub returns : goal.returns
returns c =
    let words = c.args.words.now in
    let n : length (take c.min.result words) ≡ c.min.result = length-take-le c.min.result words (omega arith) in
    c.loop-i.invariant ∙ stored_all c.args.out.now c.args.at c.loop-i.i words (omega arith) (omega arith)
