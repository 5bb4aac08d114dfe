-- `x1_lookup::presence::Presence::with` meets its contract.
use Rattle.x1_lookup.proofs.presence.Presence.with.Goals as goal

pub returns : goal.returns
returns c = simp (c.marked-4.ensures, c.marked-3.ensures, c.marked-2.ensures, c.marked.ensures)
