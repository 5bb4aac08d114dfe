-- `pair::spots::records_pair` meets its contract: the words of the tracks find what the search does.
use mathlib.Core.Path.{◌∙◌, ap}
use Rattle.x1_lookup.specs.Presence.{entry_by}
use Rattle.x1_lookup.specs.declared.presence.Presence.{Presence}
use Rattle.x1_lookup.proofs.Present.{words_answer}
use borrow.Author.Rules.{rules}
use Rattle.pair.proofs.spots.records_pair.Goals as goal

pub records_reached-from-requires : goal.records_reached-from-requires
records_reached-from-requires c = (λ n. ap (λ (w : Presence). entry_by w n) c.of-tracks.ensures ∙ words_answer c.args.f.now c.requires.0 n, c.requires.1, c.requires.2)

pub records_told-requires : goal.records_told-requires
records_told-requires c = (λ n. ap (λ (w : Presence). entry_by w n) c.of-tracks.ensures ∙ words_answer c.args.f.now c.requires.0 n, c.requires.1, c.records_reached-from.ensures)
