-- Each public function of crate x1_lookup: what its own contract allows is one answer.
use mathlib.Core.Path.{refl}
use Rattle.promises.specs.Determined.{Determined}
use Rattle.promises.proofs.Equations.{by_equation}
use Rattle.x1_lookup.proofs.find_track.Kinds as find-track-kinds
use Rattle.x1_lookup.proofs.find_track.Reads as find-track-reads
use Rattle.x1_lookup.proofs.presence.Presence.none.Kinds as presence-none-kinds
use Rattle.x1_lookup.proofs.presence.Presence.none.Reads as presence-none-reads
use Rattle.x1_lookup.proofs.presence.Presence.with.Kinds as presence-with-kinds
use Rattle.x1_lookup.proofs.presence.Presence.with.Reads as presence-with-reads
use Rattle.x1_lookup.proofs.presence.Presence.of.Kinds as presence-of-kinds
use Rattle.x1_lookup.proofs.presence.Presence.of.Reads as presence-of-reads
use Rattle.x1_lookup.proofs.presence.Presence.entry.Kinds as presence-entry-kinds
use Rattle.x1_lookup.proofs.presence.Presence.entry.Reads as presence-entry-reads

pub find_track_determined : Determined 1 find-track-kinds.ps find-track-kinds.r find-track-reads.Pre find-track-reads.Post
find_track_determined κs a = by_equation (λ v w. refl)

-- ---- the words of the track numbers

pub presence_none_determined : Determined 0 presence-none-kinds.ps presence-none-kinds.r presence-none-reads.Pre presence-none-reads.Post
presence_none_determined κs a = by_equation (λ v w. refl)

pub presence_with_determined : Determined 0 presence-with-kinds.ps presence-with-kinds.r presence-with-reads.Pre presence-with-reads.Post
presence_with_determined κs a = by_equation (λ v w. refl)

pub presence_of_determined : Determined 1 presence-of-kinds.ps presence-of-kinds.r presence-of-reads.Pre presence-of-reads.Post
presence_of_determined κs a = by_equation (λ v w. refl)

pub presence_entry_determined : Determined 0 presence-entry-kinds.ps presence-entry-kinds.r presence-entry-reads.Pre presence-entry-reads.Post
presence_entry_determined κs a = by_equation (λ v w. refl)
