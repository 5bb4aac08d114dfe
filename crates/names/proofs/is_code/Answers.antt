-- `names::is_code` meets its contract. What it computes is the test as it stands.
use mathlib.Core.Path.{refl}
use Rattle.names.proofs.is_code.Goals as goal

pub returns : goal.returns
returns c = refl
