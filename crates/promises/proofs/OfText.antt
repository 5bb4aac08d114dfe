-- Each public function of crate text: what its own contract allows is one answer.
use mathlib.Core.Path.{refl}
use Rattle.promises.specs.Determined.{Determined}
use Rattle.promises.proofs.Equations.{by_equation}
use Rattle.text.proofs.write.Kinds as write-kinds
use Rattle.text.proofs.write.Reads as write-reads
use Rattle.text.proofs.write_number.Kinds as write-number-kinds
use Rattle.text.proofs.write_number.Reads as write-number-reads
use Rattle.text.proofs.head.Kinds as head-kinds
use Rattle.text.proofs.head.Reads as head-reads
use Rattle.text.proofs.text_line.Kinds as text-line-kinds
use Rattle.text.proofs.text_line.Reads as text-line-reads
use Rattle.text.proofs.line.Kinds as line-kinds
use Rattle.text.proofs.line.Reads as line-reads
use Rattle.text.proofs.lines.Kinds as lines-kinds
use Rattle.text.proofs.lines.Reads as lines-reads
use Rattle.text.proofs.signed_line.Kinds as signed-line-kinds
use Rattle.text.proofs.signed_line.Reads as signed-line-reads
use Rattle.text.proofs.bits_line.Kinds as bits-line-kinds
use Rattle.text.proofs.bits_line.Reads as bits-line-reads
use Rattle.text.proofs.name_line.Kinds as name-line-kinds
use Rattle.text.proofs.name_line.Reads as name-line-reads
use Rattle.text.proofs.message_line.Kinds as message-line-kinds
use Rattle.text.proofs.message_line.Reads as message-line-reads

pub write_determined : Determined 1 write-kinds.ps write-kinds.r write-reads.Pre write-reads.Post
write_determined κs a = by_equation (λ v w. refl)

pub write_number_determined : Determined 0 write-number-kinds.ps write-number-kinds.r write-number-reads.Pre write-number-reads.Post
write_number_determined κs a = by_equation (λ v w. refl)

pub head_determined : Determined 1 head-kinds.ps head-kinds.r head-reads.Pre head-reads.Post
head_determined κs a = by_equation (λ v w. refl)

pub text_line_determined : Determined 2 text-line-kinds.ps text-line-kinds.r text-line-reads.Pre text-line-reads.Post
text_line_determined κs a = by_equation (λ v w. refl)

pub line_determined : Determined 1 line-kinds.ps line-kinds.r line-reads.Pre line-reads.Post
line_determined κs a = by_equation (λ v w. refl)

pub lines_determined : Determined 2 lines-kinds.ps lines-kinds.r lines-reads.Pre lines-reads.Post
lines_determined κs a = by_equation (λ v w. refl)

pub signed_line_determined : Determined 1 signed-line-kinds.ps signed-line-kinds.r signed-line-reads.Pre signed-line-reads.Post
signed_line_determined κs a = by_equation (λ v w. refl)

pub bits_line_determined : Determined 1 bits-line-kinds.ps bits-line-kinds.r bits-line-reads.Pre bits-line-reads.Post
bits_line_determined κs a = by_equation (λ v w. refl)

pub name_line_determined : Determined 2 name-line-kinds.ps name-line-kinds.r name-line-reads.Pre name-line-reads.Post
name_line_determined κs a = by_equation (λ v w. refl)

pub message_line_determined : Determined 2 message-line-kinds.ps message-line-kinds.r message-line-reads.Pre message-line-reads.Post
message_line_determined κs a = by_equation (λ v w. refl)
