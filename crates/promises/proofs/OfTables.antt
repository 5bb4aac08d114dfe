-- Each public function of crate tables: what its own contract allows is one answer.
use mathlib.Core.Path.{refl}
use Rattle.promises.specs.Determined.{Determined}
use Rattle.promises.proofs.Equations.{by_equation, by_part}
use Rattle.tables.proofs.place_of.Kinds as place-of-kinds
use Rattle.tables.proofs.place_of.Reads as place-of-reads
use Rattle.tables.proofs.name_place.Kinds as name-place-kinds
use Rattle.tables.proofs.name_place.Reads as name-place-reads
use Rattle.tables.proofs.number_of.Kinds as number-of-kinds
use Rattle.tables.proofs.number_of.Reads as number-of-reads
use Rattle.tables.proofs.signed_of.Kinds as signed-of-kinds
use Rattle.tables.proofs.signed_of.Reads as signed-of-reads
use Rattle.tables.proofs.name_of.Kinds as name-of-kinds
use Rattle.tables.proofs.name_of.Reads as name-of-reads
use Rattle.tables.proofs.bits_of.Kinds as bits-of-kinds
use Rattle.tables.proofs.bits_of.Reads as bits-of-reads
use Rattle.tables.proofs.number_is.Kinds as number-is-kinds
use Rattle.tables.proofs.number_is.Reads as number-is-reads
use Rattle.tables.proofs.number_between.Kinds as number-between-kinds
use Rattle.tables.proofs.number_between.Reads as number-between-reads
use Rattle.tables.proofs.equals.Kinds as equals-kinds
use Rattle.tables.proofs.equals.Reads as equals-reads
use Rattle.tables.proofs.lies_between.Kinds as lies-between-kinds
use Rattle.tables.proofs.lies_between.Reads as lies-between-reads
use Rattle.tables.proofs.lies_within.Kinds as lies-within-kinds
use Rattle.tables.proofs.lies_within.Reads as lies-within-reads
use Rattle.tables.proofs.is_among_four.Kinds as is-among-four-kinds
use Rattle.tables.proofs.is_among_four.Reads as is-among-four-reads
use Rattle.tables.proofs.is_among_five.Kinds as is-among-five-kinds
use Rattle.tables.proofs.is_among_five.Reads as is-among-five-reads
use Rattle.tables.proofs.has_part.Kinds as has-part-kinds
use Rattle.tables.proofs.has_part.Reads as has-part-reads
use Rattle.tables.proofs.has_name.Kinds as has-name-kinds
use Rattle.tables.proofs.has_name.Reads as has-name-reads
use Rattle.tables.proofs.exactly.Kinds as exactly-kinds
use Rattle.tables.proofs.exactly.Reads as exactly-reads
use Rattle.tables.proofs.between.Kinds as between-kinds
use Rattle.tables.proofs.between.Reads as between-reads
use Rattle.tables.proofs.within.Kinds as within-kinds
use Rattle.tables.proofs.within.Reads as within-reads
use Rattle.tables.proofs.among_four.Kinds as among-four-kinds
use Rattle.tables.proofs.among_four.Reads as among-four-reads
use Rattle.tables.proofs.among_five.Kinds as among-five-kinds
use Rattle.tables.proofs.among_five.Reads as among-five-reads
use Rattle.tables.proofs.part.Kinds as part-kinds
use Rattle.tables.proofs.part.Reads as part-reads
use Rattle.tables.proofs.named.Kinds as named-kinds
use Rattle.tables.proofs.named.Reads as named-reads

pub place_of_determined : Determined 0 place-of-kinds.ps place-of-kinds.r place-of-reads.Pre place-of-reads.Post
place_of_determined κs a = by_equation (λ v w. refl)

pub name_place_determined : Determined 0 name-place-kinds.ps name-place-kinds.r name-place-reads.Pre name-place-reads.Post
name_place_determined κs a = by_equation (λ v w. refl)

pub number_of_determined : Determined 1 number-of-kinds.ps number-of-kinds.r number-of-reads.Pre number-of-reads.Post
number_of_determined κs a = by_part (λ x p. p.is) (λ v w. refl)

pub signed_of_determined : Determined 1 signed-of-kinds.ps signed-of-kinds.r signed-of-reads.Pre signed-of-reads.Post
signed_of_determined κs a = by_part (λ x p. p.is) (λ v w. refl)

pub name_of_determined : Determined 1 name-of-kinds.ps name-of-kinds.r name-of-reads.Pre name-of-reads.Post
name_of_determined κs a = by_equation (λ v w. refl)

pub bits_of_determined : Determined 0 bits-of-kinds.ps bits-of-kinds.r bits-of-reads.Pre bits-of-reads.Post
bits_of_determined κs a = by_equation (λ v w. refl)

pub number_is_determined : Determined 1 number-is-kinds.ps number-is-kinds.r number-is-reads.Pre number-is-reads.Post
number_is_determined κs a = by_equation (λ v w. refl)

pub number_between_determined : Determined 1 number-between-kinds.ps number-between-kinds.r number-between-reads.Pre number-between-reads.Post
number_between_determined κs a = by_equation (λ v w. refl)

pub equals_determined : Determined 1 equals-kinds.ps equals-kinds.r equals-reads.Pre equals-reads.Post
equals_determined κs a = by_equation (λ v w. refl)

pub lies_between_determined : Determined 1 lies-between-kinds.ps lies-between-kinds.r lies-between-reads.Pre lies-between-reads.Post
lies_between_determined κs a = by_equation (λ v w. refl)

pub lies_within_determined : Determined 1 lies-within-kinds.ps lies-within-kinds.r lies-within-reads.Pre lies-within-reads.Post
lies_within_determined κs a = by_equation (λ v w. refl)

pub is_among_four_determined : Determined 1 is-among-four-kinds.ps is-among-four-kinds.r is-among-four-reads.Pre is-among-four-reads.Post
is_among_four_determined κs a = by_equation (λ v w. refl)

pub is_among_five_determined : Determined 1 is-among-five-kinds.ps is-among-five-kinds.r is-among-five-reads.Pre is-among-five-reads.Post
is_among_five_determined κs a = by_equation (λ v w. refl)

pub has_part_determined : Determined 1 has-part-kinds.ps has-part-kinds.r has-part-reads.Pre has-part-reads.Post
has_part_determined κs a = by_equation (λ v w. refl)

pub has_name_determined : Determined 1 has-name-kinds.ps has-name-kinds.r has-name-reads.Pre has-name-reads.Post
has_name_determined κs a = by_equation (λ v w. refl)

pub exactly_determined : Determined 1 exactly-kinds.ps exactly-kinds.r exactly-reads.Pre exactly-reads.Post
exactly_determined κs a = by_equation (λ v w. refl)

pub between_determined : Determined 1 between-kinds.ps between-kinds.r between-reads.Pre between-reads.Post
between_determined κs a = by_equation (λ v w. refl)

pub within_determined : Determined 1 within-kinds.ps within-kinds.r within-reads.Pre within-reads.Post
within_determined κs a = by_equation (λ v w. refl)

pub among_four_determined : Determined 1 among-four-kinds.ps among-four-kinds.r among-four-reads.Pre among-four-reads.Post
among_four_determined κs a = by_equation (λ v w. refl)

pub among_five_determined : Determined 1 among-five-kinds.ps among-five-kinds.r among-five-reads.Pre among-five-reads.Post
among_five_determined κs a = by_equation (λ v w. refl)

pub part_determined : Determined 1 part-kinds.ps part-kinds.r part-reads.Pre part-reads.Post
part_determined κs a = by_equation (λ v w. refl)

pub named_determined : Determined 1 named-kinds.ps named-kinds.r named-reads.Pre named-reads.Post
named_determined κs a = by_equation (λ v w. refl)
