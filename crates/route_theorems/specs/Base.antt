-- The question 'routes' as document 01 alone has it, before ticket 8 of document 02, when a limit of 0 meant 64. Nothing of the product stands on
-- these definitions; they are here so that a question that states 64 is known to be answered as 0 was (proofs/Base).
use Rattle.std.specs.Prelude.{ℕ, cond, List, eqb}
use Rattle.verdict.specs.Answers.{after_verdict}
use Rattle.x2_layout.specs.Layout.{layout_of}
use Rattle.x2_verdict.specs.Facts.{verdict_of}
use Rattle.route_graph.specs.Objects.{object_at, boundary_starts}
use Rattle.route_walks.specs.Walks.{all_routes, words_of}
use Rattle.route_walks.specs.Lent.{room_of}
use Rattle.std.specs.Prelude.{Err}
use Rattle.route_lister.specs.Answered.{RoutesAnswer, answer_at, leaves}

-- the limit that 0 meant
-- 02: Ticket8.5
abbrev pub default_was : ℕ
default_was = 64

unfoldable pub limit_was : ℕ → ℕ
limit_was limit = cond (eqb limit 0) default_was limit

-- the answer of an accepted file, with room for some words, and the bytes lent after it
abbrev pub answer_was : List ℕ → ℕ → ℕ → ℕ → ℕ → RoutesAnswer
answer_was f start limit budget room = answer_at (object_at f (layout_of f)) (boundary_starts (layout_of f) start) start (limit_was limit) budget room

abbrev pub list_was : List ℕ → ℕ → ℕ → ℕ → List ℕ → List ℕ
list_was f start limit budget out =
    leaves (answer_was f start limit budget (room_of out)) (words_of (all_routes (object_at f (layout_of f)) start (limit_was limit))) out

-- the same of every file: its own fault comes first
-- 02: Ticket8.5
unfoldable pub routes_was : List ℕ → ℕ → ℕ → ℕ → ℕ → RoutesAnswer
routes_was f start limit budget room = after_verdict Err (verdict_of f) (answer_was f start limit budget room)

-- 02: Ticket8.5
unfoldable pub left_was : List ℕ → ℕ → ℕ → ℕ → List ℕ → List ℕ
left_was f start limit budget out = after_verdict (λ t. out) (verdict_of f) (list_was f start limit budget out)
