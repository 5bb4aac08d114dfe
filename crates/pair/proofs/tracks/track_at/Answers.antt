-- `pair::tracks::track_at` meets its contract.
use mathlib.Core.Path.{◌∙◌, ap}
use Rattle.x1_lookup.specs.Presence.{entry_by}
use borrow.Author.Rules.{rules}
use Rattle.pair.proofs.tracks.track_at.Goals as goal

pub returns : goal.returns
returns c = c.entry.ensures ∙ ap (entry_by c.args.tracks) c.byte_at.ensures.is ∙ c.requires _
