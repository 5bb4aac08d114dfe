-- `listings::routes` lends just the bytes of the words that it is asked to, and the question is asked of so many words.
use Rattle.std.proofs.Common.{◌≡◌, ℕ, ◌*◌, ◌/◌, List, arith, sym, ap, ◌∙◌, length-take-le}
use Rattle.verdict.specs.Answers.{answer_number}
use Rattle.route_lister.specs.Answered.{routes_answer}
use Rattle.route_question.specs.Routes.{routes_asked}
use Rattle.listings.proofs.routes.Goals as goal

-- the number of the answer with room for n words, where n is m
numbered : (f : List ℕ) (start limit budget n m : ℕ) {r : ℕ} → r ≡ answer_number (routes_answer (routes_asked f start limit budget n)) → n ≡ m → r ≡ answer_number (routes_answer (routes_asked f start limit budget m))
numbered f start limit budget n m e same = e ∙ ap (λ (x : ℕ). answer_number (routes_answer (routes_asked f start limit budget x))) same

-- the room in the bytes of k words
halved : (n k m : ℕ) → 2 * k ≡ n → k ≡ m → n / 2 ≡ m
halved n k m e same = omega arith

pub slice_bounds-lent-end : goal.slice_bounds-lent-end
slice_bounds-lent-end c = sym (length-take-le _ _ (omega arith))

pub returns : goal.returns
returns c =
    let asked = c.number.ensures ∙ ap (λ a. answer_number (routes_answer a)) c.routes_by-answer.ensures.value in
    numbered _ _ _ _ _ _ asked (halved _ _ _ (sym (length-take-le _ _ (omega arith))) c.min-words.ensures)
