-- What the lister answers and what it leaves in the bytes lent, for every input (01, 'Routes'): 13, then 14, then 15, else the listing.
-- `v` says what stands at a place, and `asked` whether a boundary starts at `start`.
use Rattle.std.specs.Prelude.{ℕ, ◌*◌, Bool, true, false, cond, ◌&&◌, List, [], ◌∷◌, ◌++◌, ℤ, pos, length, drop, eqb, leb, ltb, Result, Ok, Err}
use Rattle.verdict.specs.declared.Fault.{Fault}
use Rattle.verdict.specs.declared.Reason.{Reason}
use Rattle.verdict.specs.declared.Reason.TheVariants.{Question, Steps, Room}
use Rattle.verdict.specs.Answers.{Answer, answered, refused, refusal}
use Rattle.x2_layout.specs.declared.Layout.{Layout}
use Rattle.route_graph.specs.declared.Object.{Object}
use Rattle.route_graph.specs.Objects.{object_at, boundary_starts}
use Rattle.route_walks.specs.declared.Tally.{Tally}
use Rattle.route_walks.specs.Walks.{all_walks, all_routes, words_of}
use Rattle.route_walks.specs.Lent.{word_size, room_of, octets_of}
use Rattle.route_walks.specs.Range.{limit_least, limit_most, budget_least, budget_most}

-- ---- the range

-- a limit of 0 means this one (02, ticket 8; 01 had 64)
-- 02: Ticket8.2
abbrev pub default_limit : ℕ
default_limit = 160

-- 01: List.2
-- 02: Ticket8.2
unfoldable pub limit_of : ℕ → ℕ
limit_of limit = cond (eqb limit 0) default_limit limit

-- of the limit that is meant
abbrev pub in_range : Bool → ℕ → ℕ → Bool
in_range asked limit budget = asked && (leb limit_least limit && (leb limit limit_most && (leb budget_least budget && leb budget budget_most)))

-- ---- the answer

-- a listing's numbers, or why there is none
abbrev pub RoutesAnswer : Type 0
RoutesAnswer = Result Tally Fault

-- the number of all partial walks, the number of routes, and the words that these take
unfoldable pub tally_of : (ℕ → Object) → ℕ → ℕ → Tally
tally_of v start limit = record {
  walks = length (all_walks v start limit);
  routes = length (all_routes v start limit);
  words = length (words_of (all_routes v start limit));
}

-- a refusal for a reason, at place 0
abbrev pub refused_for : Reason → RoutesAnswer
refused_for reason = Err (refusal reason)

-- the question is in range, the partial walks outnumber the budget, the list is longer than the room
unfoldable pub judged : Bool → Bool → Bool → Tally → RoutesAnswer
judged false steps room t = refused_for Question
judged true true room t = refused_for Steps
judged true false true t = refused_for Room
judged true false false t = Ok t

-- the answer, of a limit that is meant
unfoldable pub answer_at : (ℕ → Object) → Bool → ℕ → ℕ → ℕ → ℕ → RoutesAnswer
answer_at v asked start limit budget room =
    judged (in_range asked limit budget) (ltb budget (tally_of v start limit).walks) (ltb room (tally_of v start limit).words)
    (tally_of v start limit)

abbrev pub answer_of : (ℕ → Object) → Bool → ℕ → ℕ → ℕ → ℕ → RoutesAnswer
answer_of v asked start limit budget room = answer_at v asked start (limit_of limit) budget room

-- ---- the bytes lent

-- a listing puts its words in front, each as two bytes, low byte first, and leaves what stands after them; a refusal leaves every byte as
-- it was
-- 01: Ask.6
unfoldable pub leaves : RoutesAnswer → List ℕ → List ℕ → List ℕ
leaves (Ok t) ws out = octets_of ws ++ drop (word_size * length ws) out
leaves (Err t) ws out = out

abbrev pub left_of : (ℕ → Object) → Bool → ℕ → ℕ → ℕ → List ℕ → List ℕ
left_of v asked start limit budget out =
    leaves (answer_of v asked start limit budget (room_of out)) (words_of (all_routes v start (limit_of limit))) out

-- ---- the same of a file and its layout

-- 01: Yardlist.1
-- 02: Ticket8.3, Ticket12.2
abbrev pub answer_in : List ℕ → Layout → ℕ → ℕ → ℕ → ℕ → RoutesAnswer
answer_in f l start limit budget room = answer_of (object_at f l) (boundary_starts l start) start limit budget room

-- 02: Ticket12.2
abbrev pub left_in : List ℕ → Layout → ℕ → ℕ → ℕ → List ℕ → List ℕ
left_in f l start limit budget out = left_of (object_at f l) (boundary_starts l start) start limit budget out

-- ---- the answer as the one shape of answers (crate verdict)

-- the number of routes, the words used, the number of all partial walks
-- 01: List.5
abbrev pub tally_values : Tally → List ℤ
tally_values t = pos t.routes ∷ pos t.words ∷ pos t.walks ∷ []

-- 01: Form.10
abbrev pub routes_answer : RoutesAnswer → Answer
routes_answer (Ok t) = answered (tally_values t)
routes_answer (Err t) = refused 3 t
