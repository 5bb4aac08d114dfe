-- Each public function of crate checksum: what its own contract allows is one answer.
use mathlib.Core.Path.{refl}
use Rattle.promises.specs.Determined.{Determined}
use Rattle.promises.proofs.Equations.{by_part}
use Rattle.checksum.proofs.of.Kinds as of-kinds
use Rattle.checksum.proofs.of.Reads as of-reads
use Rattle.checksum.proofs.of_first.Kinds as of-first-kinds
use Rattle.checksum.proofs.of_first.Reads as of-first-reads

pub of_determined : Determined 1 of-kinds.ps of-kinds.r of-reads.Pre of-reads.Post
of_determined κs a = by_part (λ x p. p.is) (λ v w. refl)

pub of_first_determined : Determined 1 of-first-kinds.ps of-first-kinds.r of-first-reads.Pre of-first-reads.Post
of_first_determined κs a = by_part (λ x p. p.is) (λ v w. refl)
