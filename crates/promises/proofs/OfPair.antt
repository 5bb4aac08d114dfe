-- Each public function of crate pair: what its own contract allows is one answer.
use mathlib.Core.Path.{refl}
use Rattle.promises.specs.Determined.{Determined}
use Rattle.promises.proofs.Equations.{by_equation}
use Rattle.pair.proofs.pair_verdict.Kinds as pair-verdict-kinds
use Rattle.pair.proofs.pair_verdict.Reads as pair-verdict-reads

pub pair_verdict_determined : Determined 2 pair-verdict-kinds.ps pair-verdict-kinds.r pair-verdict-reads.Pre pair-verdict-reads.Post
pair_verdict_determined κs a = by_equation (λ v w. refl)
