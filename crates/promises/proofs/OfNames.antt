-- Each public function of crate names: what its own contract allows is one answer.
use mathlib.Core.Path.{refl}
use Rattle.promises.specs.Determined.{Determined}
use Rattle.promises.proofs.Equations.{by_equation, by_part}
use Rattle.names.proofs.name_in.Kinds as name-in-kinds
use Rattle.names.proofs.name_in.Reads as name-in-reads
use Rattle.names.proofs.name_at.Kinds as name-at-kinds
use Rattle.names.proofs.name_at.Reads as name-at-reads
use Rattle.names.proofs.is_name.Kinds as is-name-kinds
use Rattle.names.proofs.is_name.Reads as is-name-reads
use Rattle.names.proofs.object_name.Kinds as object-name-kinds
use Rattle.names.proofs.object_name.Reads as object-name-reads
use Rattle.names.proofs.station_name.Kinds as station-name-kinds
use Rattle.names.proofs.station_name.Reads as station-name-reads
use Rattle.names.proofs.station_name_length.Kinds as station-name-length-kinds
use Rattle.names.proofs.station_name_length.Reads as station-name-length-reads

pub name_in_determined : Determined 1 name-in-kinds.ps name-in-kinds.r name-in-reads.Pre name-in-reads.Post
name_in_determined κs a = by_equation (λ v w. refl)

pub name_at_determined : Determined 1 name-at-kinds.ps name-at-kinds.r name-at-reads.Pre name-at-reads.Post
name_at_determined κs a = by_equation (λ v w. refl)

pub is_name_determined : Determined 1 is-name-kinds.ps is-name-kinds.r is-name-reads.Pre is-name-reads.Post
is_name_determined κs a = by_equation (λ v w. refl)

pub object_name_determined : Determined 1 object-name-kinds.ps object-name-kinds.r object-name-reads.Pre object-name-reads.Post
object_name_determined κs a = by_equation (λ v w. refl)

pub station_name_determined : Determined 1 station-name-kinds.ps station-name-kinds.r station-name-reads.Pre station-name-reads.Post
station_name_determined κs a = by_equation (λ v w. refl)

pub station_name_length_determined : Determined 1 station-name-length-kinds.ps station-name-length-kinds.r station-name-length-reads.Pre station-name-length-reads.Post
station_name_length_determined κs a = by_part (λ x p. p.is) (λ v w. refl)
