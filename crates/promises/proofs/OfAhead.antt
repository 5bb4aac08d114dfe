-- Each public function of crate ahead: what its own contract allows is one answer.
use mathlib.Core.Path.{refl, sym, ap, ◌∙◌}
use mathlib.Core.List.{List}
use Prim.Native.Nat.{ℕ}
use Rattle.promises.specs.Determined.{Determined}
use Rattle.promises.proofs.Equations.{by_equation}
use Rattle.ahead.proofs.Stop.number.Kinds as stop-number-kinds
use Rattle.ahead.proofs.Stop.number.Reads as stop-number-reads
use Rattle.ahead.proofs.AheadFault.number.Kinds as aheadfault-number-kinds
use Rattle.ahead.proofs.AheadFault.number.Reads as aheadfault-number-reads
use Rattle.ahead.proofs.AheadFault.place.Kinds as aheadfault-place-kinds
use Rattle.ahead.proofs.AheadFault.place.Reads as aheadfault-place-reads
use Rattle.ahead.proofs.AheadFault.file.Kinds as aheadfault-file-kinds
use Rattle.ahead.proofs.AheadFault.file.Reads as aheadfault-file-reads
use Rattle.ahead.proofs.ahead.Kinds as ahead-kinds
use Rattle.ahead.proofs.ahead.Reads as ahead-reads

pub stop_number_determined : Determined 0 stop-number-kinds.ps stop-number-kinds.r stop-number-reads.Pre stop-number-reads.Post
stop_number_determined κs a = by_equation (λ v w. refl)

pub aheadfault_number_determined : Determined 0 aheadfault-number-kinds.ps aheadfault-number-kinds.r aheadfault-number-reads.Pre aheadfault-number-reads.Post
aheadfault_number_determined κs a = by_equation (λ v w. refl)

pub aheadfault_place_determined : Determined 0 aheadfault-place-kinds.ps aheadfault-place-kinds.r aheadfault-place-reads.Pre aheadfault-place-reads.Post
aheadfault_place_determined κs a = by_equation (λ v w. refl)

pub aheadfault_file_determined : Determined 0 aheadfault-file-kinds.ps aheadfault-file-kinds.r aheadfault-file-reads.Pre aheadfault-file-reads.Post
aheadfault_file_determined κs a = by_equation (λ v w. refl)

pub ahead_determined : Determined 4 ahead-kinds.ps ahead-kinds.r ahead-reads.Pre ahead-reads.Post
ahead_determined κs a = (tt, λ x y v w p q. (p.0 ∙ sym q.0, ap (λ (l : List ℕ). (tt, (tt, (tt, (tt, (tt, (l, tt))))))) (p.1 ∙ sym q.1)))
