-- What is answered and what is left in the bytes lent, for every input (02, ticket 9): the pair's own fault with its file, then 13, then 15, else
-- the list. f is X.1 and g is X.2.
use Rattle.std.specs.Prelude.{ℕ, ◌*◌, Bool, true, false, ◌&&◌, List, [], ◌∷◌, ◌++◌, pos, length, get_or, drop, ltb}
use Rattle.verdict.specs.declared.Reason.{Reason}
use Rattle.verdict.specs.declared.Reason.TheVariants.{Question, Room}
use Rattle.verdict.specs.Verdicts.{PairVerdict}
use Rattle.std.specs.Prelude.{Ok, Err}
use Rattle.verdict.specs.Reasons.{file_of}
use Rattle.verdict.specs.Answers.{Answer, answered, refused, refusal}
use Rattle.x2_layout.specs.declared.Layout.{Layout}
use Rattle.x2_layout.specs.Layout.{layout_of}
use Rattle.x2_links.specs.Links.{may_name}
use Rattle.pair.specs.Pair.{pair_of}
use Rattle.route_graph.specs.Objects.{object_at, links_of}
use Rattle.route_walks.specs.Lent.{word_size, octets_of}
use Rattle.ahead.specs.Results.{AheadAnswer}
use Rattle.ahead.specs.declared.AheadFault.TheVariants.{OfPair, OfQuestion}
use Rattle.ahead.specs.Lies.{are_lies}
use Rattle.ahead.specs.Ahead.{objects_most, seen_bytes, stop_number}
use Rattle.ahead.specs.Seen.{Seen, ahead_from, sight_of}

-- ---- of an X.2 and its layout

-- the question is in range: an object that a link may name starts at the offset and has a link of the index, and the lies are lies
-- 02: Ticket9.9
unfoldable pub in_range : List ℕ → Layout → ℕ → ℕ → List ℕ → Bool
in_range g l offset link lies = may_name g l offset && (ltb link (length (links_of (object_at g l offset))) && are_lies lies)

-- the list from the object at the offset, left by its link of the index
-- 02: Ticket9.2
unfoldable pub seen_in : List ℕ → Layout → ℕ → ℕ → List ℕ → Seen
seen_in g l offset link lies =
    ahead_from (object_at g l) lies offset objects_most [] offset (get_or (links_of (object_at g l offset)) link 0)

-- a refusal for a reason, at place 0
abbrev pub refused_for : Reason → AheadAnswer
refused_for reason = Err (OfQuestion (refusal reason))

-- whether the question is in range, whether the room is under 128 bytes, and the list
-- 02: Ticket9.9
unfoldable pub judged : Bool → Bool → Seen → AheadAnswer
judged false short s = refused_for Question
judged true true s = refused_for Room
judged true false s = Ok (sight_of s)

unfoldable pub answer_in : List ℕ → Layout → ℕ → ℕ → List ℕ → ℕ → AheadAnswer
answer_in g l offset link lies room = judged (in_range g l offset link lies) (ltb room seen_bytes) (seen_in g l offset link lies)

-- the objects stand in front, two bytes each, low byte first, and what stands after them is left; a refusal leaves every byte
-- 02: Ticket9.9
abbrev pub leaves : AheadAnswer → List ℕ → List ℕ → List ℕ
leaves (Ok s) objects out = octets_of objects ++ drop (word_size * length objects) out
leaves (Err (OfPair p)) objects out = out
leaves (Err (OfQuestion t)) objects out = out

unfoldable pub left_in : List ℕ → Layout → ℕ → ℕ → List ℕ → List ℕ → List ℕ
left_in g l offset link lies out = leaves (answer_in g l offset link lies (length out)) (seen_in g l offset link lies).objects out

-- ---- of a pair: its own fault first

-- 01: Form.5
-- 02: Ticket9.9
abbrev pub after_pair : PairVerdict → AheadAnswer → AheadAnswer
after_pair (Ok tt) a = a
after_pair (Err p) a = Err (OfPair p)

-- 02: Ticket9.1
unfoldable pub ahead_asked : List ℕ → List ℕ → ℕ → ℕ → List ℕ → ℕ → AheadAnswer
ahead_asked f g offset link lies room = after_pair (pair_of f g) (answer_in g (layout_of g) offset link lies room)

-- 01: Form.4
-- 02: Ticket9.1
unfoldable pub left_asked : List ℕ → List ℕ → ℕ → ℕ → List ℕ → List ℕ → List ℕ
left_asked f g offset link lies out =
    leaves (ahead_asked f g offset link lies (length out)) (seen_in g (layout_of g) offset link lies).objects out

-- ---- the answer as the one shape of answers (crate verdict), and the file

-- the stop's number, and how many objects are listed
-- 01: Form.10
abbrev pub ahead_answer : AheadAnswer → Answer
ahead_answer (Ok s) = answered (pos (stop_number s.stop) ∷ pos s.objects ∷ [])
ahead_answer (Err (OfPair p)) = refused 2 p.fault
ahead_answer (Err (OfQuestion t)) = refused 2 t

-- 01: Form.10
abbrev pub ahead_file : AheadAnswer → ℕ
ahead_file (Ok s) = 0
ahead_file (Err (OfPair p)) = file_of p.file
ahead_file (Err (OfQuestion t)) = 0
