-- `transfer::pieces::stated_in` meets its contract: its numbers are read one after the other.
use Rattle.transfer.proofs.Taking.{read_is}
use Rattle.transfer.proofs.pieces.stated_in.Goals as goal

pub returns : goal.returns
returns c = read_is _ _ _ _ _ _ _ _ _ c.number_at-station.ensures c.number_at-kind.ensures c.number_at-version.ensures c.number_at-total.ensures
    c.number_at-trailer.ensures c.number_at-start.ensures c.number_at-count.ensures c.follow-whole.ensures
