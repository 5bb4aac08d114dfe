-- The question 'routes' of an X.2 file (01, 'A question ..' and 'Routes'), for every input: first the file's own fault, with every byte
-- lent as it was; of an accepted file what crate route_lister answers for its layout.
use Rattle.std.specs.Prelude.{ℕ, List}
use Rattle.verdict.specs.Answers.{after_verdict}
use Rattle.x2_layout.specs.Layout.{layout_of}
use Rattle.x2_verdict.specs.Facts.{verdict_of}
use Rattle.std.specs.Prelude.{Err}
use Rattle.route_lister.specs.Answered.{RoutesAnswer, answer_in, left_in}

-- the answer with room for some words, and the bytes lent after it
-- 01: Ask.1
unfoldable pub routes_asked : List ℕ → ℕ → ℕ → ℕ → ℕ → RoutesAnswer
routes_asked f start limit budget room = after_verdict Err (verdict_of f) (answer_in f (layout_of f) start limit budget room)

unfoldable pub left_asked : List ℕ → ℕ → ℕ → ℕ → List ℕ → List ℕ
left_asked f start limit budget out = after_verdict (λ t. out) (verdict_of f) (left_in f (layout_of f) start limit budget out)
