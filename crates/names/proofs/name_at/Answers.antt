-- `names::name_at` meets its contract: a name that is none has 0 bytes.
use Rattle.names.proofs.Spelling.{named_at}
use Rattle.names.proofs.name_at.Goals as goal

pub returns : goal.returns
returns c = named_at _ _ _ _ c.name_in.ensures c.unwrap_or-bytes.ensures
