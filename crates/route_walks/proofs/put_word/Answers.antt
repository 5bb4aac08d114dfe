-- `route_walks::put_word` meets its contract: there is room for the word.
use Rattle.std.proofs.Common.{◌≡◌, ◌%◌, ◌/◌, refl, sym, get_or, arith}
use Rattle.route_walks.proofs.Lent.{lay_in}
use Rattle.route_walks.proofs.put_word.Goals as goal

pub returns : goal.returns
returns c =
    let low : get_or c.to_le_bytes.result 0 0 ≡ c.args.word % 256 = rw c.to_le_bytes.ensures refl in
    let high : get_or c.to_le_bytes.result 1 0 ≡ c.args.word / 256 = rw c.to_le_bytes.ensures (omega arith) in
    rw (low, high) (sym (lay_in _ _ _ c.requires))
