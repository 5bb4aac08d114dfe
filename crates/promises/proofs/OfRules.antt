-- Each public function of crate rules: what its own contract allows is one answer.
use mathlib.Core.Path.{refl}
use Rattle.promises.specs.Determined.{Determined}
use Rattle.promises.proofs.Equations.{by_equation}
use Rattle.rules.proofs.length_between.Kinds as length-between-kinds
use Rattle.rules.proofs.length_between.Reads as length-between-reads
use Rattle.rules.proofs.is_number.Kinds as is-number-kinds
use Rattle.rules.proofs.is_number.Reads as is-number-reads
use Rattle.rules.proofs.between.Kinds as between-kinds
use Rattle.rules.proofs.between.Reads as between-reads
use Rattle.rules.proofs.fits.Kinds as fits-kinds
use Rattle.rules.proofs.fits.Reads as fits-reads
use Rattle.rules.proofs.whole.Kinds as whole-kinds
use Rattle.rules.proofs.whole.Reads as whole-reads
use Rattle.rules.proofs.ends_at.Kinds as ends-at-kinds
use Rattle.rules.proofs.ends_at.Reads as ends-at-reads
use Rattle.rules.proofs.zero_at.Kinds as zero-at-kinds
use Rattle.rules.proofs.zero_at.Reads as zero-at-reads
use Rattle.rules.proofs.same_as.Kinds as same-as-kinds
use Rattle.rules.proofs.same_as.Reads as same-as-reads
use Rattle.rules.proofs.above.Kinds as above-kinds
use Rattle.rules.proofs.above.Reads as above-reads
use Rattle.rules.proofs.quotient.Kinds as quotient-kinds
use Rattle.rules.proofs.quotient.Reads as quotient-reads
use Rattle.rules.proofs.rest.Kinds as rest-kinds
use Rattle.rules.proofs.rest.Reads as rest-reads

pub length_between_determined : Determined 1 length-between-kinds.ps length-between-kinds.r length-between-reads.Pre length-between-reads.Post
length_between_determined κs a = by_equation (λ v w. refl)

pub is_number_determined : Determined 1 is-number-kinds.ps is-number-kinds.r is-number-reads.Pre is-number-reads.Post
is_number_determined κs a = by_equation (λ v w. refl)

pub between_determined : Determined 1 between-kinds.ps between-kinds.r between-reads.Pre between-reads.Post
between_determined κs a = by_equation (λ v w. refl)

pub fits_determined : Determined 0 fits-kinds.ps fits-kinds.r fits-reads.Pre fits-reads.Post
fits_determined κs a = by_equation (λ v w. refl)

pub whole_determined : Determined 0 whole-kinds.ps whole-kinds.r whole-reads.Pre whole-reads.Post
whole_determined κs a = by_equation (λ v w. refl)

pub ends_at_determined : Determined 0 ends-at-kinds.ps ends-at-kinds.r ends-at-reads.Pre ends-at-reads.Post
ends_at_determined κs a = by_equation (λ v w. refl)

pub zero_at_determined : Determined 1 zero-at-kinds.ps zero-at-kinds.r zero-at-reads.Pre zero-at-reads.Post
zero_at_determined κs a = by_equation (λ v w. refl)

pub same_as_determined : Determined 1 same-as-kinds.ps same-as-kinds.r same-as-reads.Pre same-as-reads.Post
same_as_determined κs a = by_equation (λ v w. refl)

pub above_determined : Determined 1 above-kinds.ps above-kinds.r above-reads.Pre above-reads.Post
above_determined κs a = by_equation (λ v w. refl)

pub quotient_determined : Determined 0 quotient-kinds.ps quotient-kinds.r quotient-reads.Pre quotient-reads.Post
quotient_determined κs a = by_equation (λ v w. refl)

pub rest_determined : Determined 0 rest-kinds.ps rest-kinds.r rest-reads.Pre rest-reads.Post
rest_determined κs a = by_equation (λ v w. refl)
