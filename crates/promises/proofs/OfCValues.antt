-- Each public function of crate c_values: what its own contract allows is one answer.
use Prim.Native.Nat.{ℕ}
use mathlib.Core.Path.{refl, sym, ap, ◌∙◌}
use mathlib.Core.List.{List}
use Rattle.promises.specs.Determined.{Determined}
use Rattle.promises.proofs.Equations.{by_equation}
use Rattle.c_values.proofs.values.header_words.Kinds as header-words-kinds
use Rattle.c_values.proofs.values.header_words.Reads as header-words-reads
use Rattle.c_values.proofs.values.named_header_words.Kinds as named-header-words-kinds
use Rattle.c_values.proofs.values.named_header_words.Reads as named-header-words-reads
use Rattle.c_values.proofs.values.track_words.Kinds as track-words-kinds
use Rattle.c_values.proofs.values.track_words.Reads as track-words-reads
use Rattle.c_values.proofs.values.point_words.Kinds as point-words-kinds
use Rattle.c_values.proofs.values.point_words.Reads as point-words-reads
use Rattle.c_values.proofs.values.coordinate_words.Kinds as coordinate-words-kinds
use Rattle.c_values.proofs.values.coordinate_words.Reads as coordinate-words-reads
use Rattle.c_values.proofs.values.degrees_words.Kinds as degrees-words-kinds
use Rattle.c_values.proofs.values.degrees_words.Reads as degrees-words-reads
use Rattle.c_values.proofs.values.record_words.Kinds as record-words-kinds
use Rattle.c_values.proofs.values.record_words.Reads as record-words-reads
use Rattle.c_values.proofs.values.routes_words.Kinds as routes-words-kinds
use Rattle.c_values.proofs.values.routes_words.Reads as routes-words-reads
use Rattle.c_values.proofs.words.answer.Kinds as answer-kinds
use Rattle.c_values.proofs.words.answer.Reads as answer-reads
use Rattle.c_values.proofs.words.refused.Kinds as refused-kinds
use Rattle.c_values.proofs.words.refused.Reads as refused-reads
use Rattle.c_values.proofs.words.word.Kinds as word-kinds
use Rattle.c_values.proofs.words.word.Reads as word-reads
use Rattle.c_values.proofs.words.signed_word.Kinds as signed-word-kinds
use Rattle.c_values.proofs.words.signed_word.Reads as signed-word-reads
use Rattle.c_values.proofs.words.show.Kinds as show-kinds
use Rattle.c_values.proofs.words.show.Reads as show-reads
use Rattle.c_values.proofs.seen.ahead_answer.Kinds as ahead-answer-kinds
use Rattle.c_values.proofs.seen.ahead_answer.Reads as ahead-answer-reads
use Rattle.c_values.proofs.load.state_in.Kinds as state-in-kinds
use Rattle.c_values.proofs.load.state_in.Reads as state-in-reads
use Rattle.c_values.proofs.load.state_words.Kinds as state-words-kinds
use Rattle.c_values.proofs.load.state_words.Reads as state-words-reads
use Rattle.c_values.proofs.words.pair_refused.Kinds as pair-refused-kinds
use Rattle.c_values.proofs.words.pair_refused.Reads as pair-refused-reads

pub header_words_determined : Determined 0 header-words-kinds.ps header-words-kinds.r header-words-reads.Pre header-words-reads.Post
header_words_determined κs a = by_equation (λ v w. refl)

pub named_header_words_determined : Determined 0 named-header-words-kinds.ps named-header-words-kinds.r named-header-words-reads.Pre named-header-words-reads.Post
named_header_words_determined κs a = by_equation (λ v w. refl)

pub track_words_determined : Determined 0 track-words-kinds.ps track-words-kinds.r track-words-reads.Pre track-words-reads.Post
track_words_determined κs a = by_equation (λ v w. refl)

pub point_words_determined : Determined 0 point-words-kinds.ps point-words-kinds.r point-words-reads.Pre point-words-reads.Post
point_words_determined κs a = by_equation (λ v w. refl)

pub coordinate_words_determined : Determined 0 coordinate-words-kinds.ps coordinate-words-kinds.r coordinate-words-reads.Pre coordinate-words-reads.Post
coordinate_words_determined κs a = by_equation (λ v w. refl)

pub degrees_words_determined : Determined 0 degrees-words-kinds.ps degrees-words-kinds.r degrees-words-reads.Pre degrees-words-reads.Post
degrees_words_determined κs a = by_equation (λ v w. refl)

pub record_words_determined : Determined 0 record-words-kinds.ps record-words-kinds.r record-words-reads.Pre record-words-reads.Post
record_words_determined κs a = by_equation (λ v w. refl)

pub routes_words_determined : Determined 0 routes-words-kinds.ps routes-words-kinds.r routes-words-reads.Pre routes-words-reads.Post
routes_words_determined κs a = by_equation (λ v w. refl)

pub answer_determined : Determined 0 answer-kinds.ps answer-kinds.r answer-reads.Pre answer-reads.Post
answer_determined κs a = by_equation (λ v w. refl)

pub refused_determined : Determined 0 refused-kinds.ps refused-kinds.r refused-reads.Pre refused-reads.Post
refused_determined κs a = by_equation (λ v w. refl)

pub word_determined : Determined 0 word-kinds.ps word-kinds.r word-reads.Pre word-reads.Post
word_determined κs a = by_equation (λ v w. refl)

pub signed_word_determined : Determined 0 signed-word-kinds.ps signed-word-kinds.r signed-word-reads.Pre signed-word-reads.Post
signed_word_determined κs a = by_equation (λ v w. refl)

pub show_determined : Determined 2 show-kinds.ps show-kinds.r show-reads.Pre show-reads.Post
show_determined κs a = (tt, λ x y v w p q. (p.0 ∙ sym q.0, ap (λ (l : List ℕ). (tt, (l, tt))) (p.1 ∙ sym q.1)))

pub ahead_answer_determined : Determined 0 ahead-answer-kinds.ps ahead-answer-kinds.r ahead-answer-reads.Pre ahead-answer-reads.Post
ahead_answer_determined κs a = by_equation (λ v w. refl)

pub state_in_determined : Determined 1 state-in-kinds.ps state-in-kinds.r state-in-reads.Pre state-in-reads.Post
state_in_determined κs a = by_equation (λ v w. refl)

pub state_words_determined : Determined 0 state-words-kinds.ps state-words-kinds.r state-words-reads.Pre state-words-reads.Post
state_words_determined κs a = by_equation (λ v w. refl)

pub pair_refused_determined : Determined 0 pair-refused-kinds.ps pair-refused-kinds.r pair-refused-reads.Pre pair-refused-reads.Post
pair_refused_determined κs a = by_equation (λ v w. refl)
