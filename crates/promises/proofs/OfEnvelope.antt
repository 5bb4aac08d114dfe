-- Each public function of crate envelope: what its own contract allows is one answer.
use mathlib.Core.Path.{refl}
use Rattle.promises.specs.Determined.{Determined}
use Rattle.promises.proofs.Equations.{by_equation}
use Rattle.envelope.proofs.end_of.Kinds as end-of-kinds
use Rattle.envelope.proofs.end_of.Reads as end-of-reads
use Rattle.envelope.proofs.structure_of.Kinds as structure-of-kinds
use Rattle.envelope.proofs.structure_of.Reads as structure-of-reads
use Rattle.envelope.proofs.check_seal.Kinds as check-seal-kinds
use Rattle.envelope.proofs.check_seal.Reads as check-seal-reads
use Rattle.envelope.proofs.Header.read.Kinds as header-read-kinds
use Rattle.envelope.proofs.Header.read.Reads as header-read-reads

pub end_of_determined : Determined 1 end-of-kinds.ps end-of-kinds.r end-of-reads.Pre end-of-reads.Post
end_of_determined κs a = by_equation (λ v w. refl)

pub structure_of_determined : Determined 1 structure-of-kinds.ps structure-of-kinds.r structure-of-reads.Pre structure-of-reads.Post
structure_of_determined κs a = by_equation (λ v w. refl)

pub check_seal_determined : Determined 1 check-seal-kinds.ps check-seal-kinds.r check-seal-reads.Pre check-seal-reads.Post
check_seal_determined κs a = by_equation (λ v w. refl)

pub header_read_determined : Determined 1 header-read-kinds.ps header-read-kinds.r header-read-reads.Pre header-read-reads.Post
header_read_determined κs a = by_equation (λ v w. refl)
