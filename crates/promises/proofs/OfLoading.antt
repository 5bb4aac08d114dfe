-- Each public function of crate loading: what its own contract allows is one answer.
use mathlib.Core.Path.{refl}
use Rattle.promises.specs.Determined.{Determined}
use Rattle.promises.proofs.Equations.{by_equation}
use Rattle.loading.proofs.refusals.opening_refused.Kinds as opening-refused-kinds
use Rattle.loading.proofs.refusals.opening_refused.Reads as opening-refused-reads
use Rattle.loading.proofs.refusals.piece_refused.Kinds as piece-refused-kinds
use Rattle.loading.proofs.refusals.piece_refused.Reads as piece-refused-reads
use Rattle.loading.proofs.refusals.finishing_refused.Kinds as finishing-refused-kinds
use Rattle.loading.proofs.refusals.finishing_refused.Reads as finishing-refused-reads
use Rattle.loading.proofs.said.say.Kinds as say-kinds
use Rattle.loading.proofs.said.say.Reads as say-reads
use Rattle.loading.proofs.said.say_number.Kinds as say-number-kinds
use Rattle.loading.proofs.said.say_number.Reads as say-number-reads
use Rattle.loading.proofs.said.wrong.Kinds as wrong-kinds
use Rattle.loading.proofs.said.wrong.Reads as wrong-reads
use Rattle.loading.proofs.said.wrong_word.Kinds as wrong-word-kinds
use Rattle.loading.proofs.said.wrong_word.Reads as wrong-word-reads

pub opening_refused_determined : Determined 0 opening-refused-kinds.ps opening-refused-kinds.r opening-refused-reads.Pre opening-refused-reads.Post
opening_refused_determined κs a = by_equation (λ v w. refl)

pub piece_refused_determined : Determined 0 piece-refused-kinds.ps piece-refused-kinds.r piece-refused-reads.Pre piece-refused-reads.Post
piece_refused_determined κs a = by_equation (λ v w. refl)

pub finishing_refused_determined : Determined 0 finishing-refused-kinds.ps finishing-refused-kinds.r finishing-refused-reads.Pre finishing-refused-reads.Post
finishing_refused_determined κs a = by_equation (λ v w. refl)

pub say_determined : Determined 1 say-kinds.ps say-kinds.r say-reads.Pre say-reads.Post
say_determined κs a = by_equation (λ v w. refl)

pub say_number_determined : Determined 0 say-number-kinds.ps say-number-kinds.r say-number-reads.Pre say-number-reads.Post
say_number_determined κs a = by_equation (λ v w. refl)

pub wrong_determined : Determined 2 wrong-kinds.ps wrong-kinds.r wrong-reads.Pre wrong-reads.Post
wrong_determined κs a = by_equation (λ v w. refl)

pub wrong_word_determined : Determined 2 wrong-word-kinds.ps wrong-word-kinds.r wrong-word-reads.Pre wrong-word-reads.Post
wrong_word_determined κs a = by_equation (λ v w. refl)
