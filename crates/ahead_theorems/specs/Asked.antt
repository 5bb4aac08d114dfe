-- What is asked with and what is answered (02, ticket 9), for every input: which file, number and place, and what an answer is that is not refused. f
-- is X.1 and g is X.2.
use Rattle.std.specs.Prelude.{ℕ, ◌*◌, ◌≤◌, ◌<◌, ◌≡◌, ◌⊎◌, List, [], ◌∷◌, length, get_or, drop}
use Rattle.octets.specs.Octets.{num_at}
use Rattle.verdict.specs.Order.{Check, check, Answered}
use Rattle.x2_layout.specs.Layout.{layout_of}
use Rattle.x2_obeys.specs.Links.{Target}
use Rattle.pair_theorems.specs.Obeys.{PairObeys}
use Rattle.pair_theorems.specs.Faults.{PairAnswered}
use Rattle.route_graph.specs.declared.Object.{Object}
use Rattle.route_graph.specs.Objects.{object_at, links_of}
use Rattle.ahead.specs.declared.Stop.{Stop}
use Rattle.ahead.specs.declared.Sight.{Sight}
use Rattle.ahead.specs.Ahead.{Ahead}

-- ---- the refusals

-- 13: an offset that starts no object, a siding, a balise of place above 1; a link its object hasn't; a lie list not of 256 bytes; a lie outside
-- the three
-- 02: Ticket9.9
pub record InRange (g : List ℕ) (offset link : ℕ) (lies : List ℕ) : Type 0 where
  -- an object starts there that a link may name: no siding, and of balises only place 1
  pub object : Target g (layout_of g) offset
  pub has_link : link < length (links_of (object_at g (layout_of g) offset))
  pub count : length lies ≡ 256
  pub each : (i : ℕ) → i < 256 → (get_or lies i 0 ≡ 0) ⊎ ((get_or lies i 0 ≡ 1) ⊎ (get_or lies i 0 ≡ 2))

-- 15: room under 128 bytes, after 13; both at place 0
-- 02: Ticket9.9
abbrev pub ahead_checks : List ℕ → ℕ → ℕ → List ℕ → ℕ → List Check
ahead_checks g offset link lies room =
    check 13 (InRange g offset link lies) (λ p. p ≡ 0) ∷ check 15 (128 ≤ room) (λ p. p ≡ 0) ∷ []

-- The file d, the number n and the place p are answered: the pair's own fault first; of a pair that obeys, what the question's own checks say, of
-- file 0.
-- 02: Ticket9.9
pub data AheadAnswered (f g : List ℕ) (offset link : ℕ) (lies : List ℕ) (room d n p : ℕ) : Type 0 where
  fault_of_pair : (n ≡ 0 → ⊥) → (d ≡ 0 → ⊥) → PairAnswered f g d n p → AheadAnswered f g offset link lies room d n p
  of_question : PairObeys f g → d ≡ 0 → Answered (ahead_checks g offset link lies room) n p → AheadAnswered f g offset link lies room d n p

-- ---- the list

-- what stands at the places of an X.2
abbrev pub objects_of : List ℕ → ℕ → Object
objects_of g = object_at g (layout_of g)

-- the link of an index of the object at an offset, from 0 in the order of its fields
-- 02: Ticket9.2
abbrev pub link_of : List ℕ → ℕ → ℕ → ℕ
link_of g offset link = get_or (links_of (objects_of g offset)) link 0

-- these objects lie ahead of the one at an offset, left by its link of an index, and the list stops for s
-- 02: Ticket9.2
abbrev pub LiesAhead : List ℕ → ℕ → ℕ → List ℕ → List ℕ → Stop → Type 0
LiesAhead g offset link lies objects s = Ahead (objects_of g) lies offset [] offset (link_of g offset link) objects s

-- What is answered is the list that lies ahead, with its stop. Its objects stand in front in the bytes lent, two bytes each, low byte first, and the
-- rest is untouched.
-- 02: Ticket9.2
pub record Listed (g : List ℕ) (offset link : ℕ) (lies : List ℕ) (s : Sight) (before after : List ℕ) : Type 0 where
  pub objects : List ℕ
  pub lies_ahead : LiesAhead g offset link lies objects s.stop
  pub count : s.objects ≡ length objects
  pub held : (i : ℕ) → i < s.objects → num_at 2 after (2 * i) ≡ get_or objects i 0
  pub whole : length after ≡ length before
  pub untouched : drop (2 * s.objects) after ≡ drop (2 * s.objects) before
