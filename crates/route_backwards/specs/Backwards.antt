-- Routes read backwards (02, ticket 13): what a route from one boundary to another is, what is seen of a listing in the memory lent, and what it is
-- for two listings to read backwards.
use Rattle.std.specs.Prelude.{ℕ, ◌*◌, ◌<◌, ◌≡◌, ◌↔◌, length, get_or}
use mathlib.Core.List.{List, reverse, Memᴰ}
use Rattle.octets.specs.Octets.{num_at}
use Rattle.route_graph.specs.declared.Object.{Object}
use Rattle.route_walks.specs.declared.Tally.{Tally}
use Rattle.route_walks.specs.Legal.{last_object, Route}
use Rattle.route_walks.specs.Walks.{words_of}
use Rattle.route_walks.specs.Lent.{word_size, room_of}
use Rattle.std.specs.Prelude.{Ok}
use Rattle.route_lister.specs.Answered.{limit_of}
use Rattle.route_question.specs.Routes.{routes_asked, left_asked}

-- w is a route from a to b within the limit
-- 02: Ticket13.1
pub record RouteTo (v : ℕ → Object) (a b limit : ℕ) (w : List ℕ) : Type 0 where
  pub route : Route v a limit w
  pub ends_at : last_object w ≡ b

-- ---- what stands in the memory

-- the first n words there are those of these routes, as a listing leaves them (route_lister Listing, `words_are` and `held`)
-- 02: Ticket13.2
pub record Holds (n : ℕ) (memory : List ℕ) (routes : List (List ℕ)) : Type 0 where
  pub words_are : n ≡ length (words_of routes)
  pub held : (i : ℕ) → i < n → num_at word_size memory (word_size * i) ≡ get_or (words_of routes) i 0

-- w is listed there: it is one of the routes whose words these are
-- 02: Ticket13.2
pub record ListedIn (n : ℕ) (memory w : List ℕ) : Type 0 where
  pub routes : List (List ℕ)
  pub holds : Holds n memory routes
  pub one_of_them : Memᴰ w routes

-- ---- two listings

-- what is seen of a listing: the file, the start and the limit that was meant; how many words the list is said to have; the memory after it
pub record Seen : Type 0 where
  pub file : List ℕ
  pub start : ℕ
  pub limit : ℕ
  pub words : ℕ
  pub memory : List ℕ

-- w is listed, and leads to b
pub record ListedTo (s : Seen) (b : ℕ) (w : List ℕ) : Type 0 where
  pub listed : ListedIn s.words s.memory w
  pub ends_at : last_object w ≡ b

-- where two listings are of one file and by one limit: a route from the one start to the other is listed exactly when its reverse is listed
-- from there
-- 02: Ticket13.2
abbrev pub Backwards : Seen → Seen → Type 0
Backwards s z = s.file ≡ z.file → s.limit ≡ z.limit → (w : List ℕ) → ListedTo s z.start w ↔ ListedTo z s.start (reverse w)

-- ---- the question 'routes'

-- it is not refused
-- 02: Ticket13.2
pub record NotRefused : Type 0 where
  pub file : List ℕ
  pub start : ℕ
  pub limit : ℕ
  -- 02: Ticket13.3
  pub budget : ℕ
  -- 02: Ticket13.3
  pub lent : List ℕ
  pub tally : Tally
  pub listed : routes_asked file start limit budget (room_of lent) ≡ Ok tally

abbrev pub seen_of : NotRefused → Seen
seen_of q = record {
  file = q.file;
  start = q.start;
  limit = limit_of q.limit;
  words = q.tally.words;
  memory = left_asked q.file q.start q.limit q.budget q.lent;
}
