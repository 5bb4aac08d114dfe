-- `x2_kinds::kind_obeys` meets its contract. Each arm is the test of its kind; the turnout's is too long a list for the search.
use Rattle.x2_kinds.specs.KindFields.{kind_fields}
use Rattle.x2_kinds.proofs.kind_obeys.Goals as goal

pub returns-in-Turnout : goal.returns-in-Turnout
unfolding kind_fields
returns-in-Turnout c = rw c.in-Turnout.is c.turnout_obeys.ensures
