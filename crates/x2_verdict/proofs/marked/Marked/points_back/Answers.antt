-- `Marked::points_back` meets its contract: a law of Linked for each sort of records.
use Rattle.x2_verdict.proofs.Linked.{boundary_names, turnout_names}
use Rattle.x2_verdict.proofs.marked.Marked.points_back.Goals as goal

pub returns-then-place-self : goal.returns-then-place-self
returns-then-place-self c = λ e h. boundary_names _ c.args.self.now.l _ _ c.if-place-self.true _ c.equals.ensures e

pub returns : goal.returns
returns c = λ e h. turnout_names _ c.args.self.now.l _ _ c.if-place-self.false h _ _ _ c.equals-front.ensures c.equals-normal.ensures c.equals-2.ensures e
