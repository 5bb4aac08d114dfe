-- A line without its comment, and what is left of the memory lent.
use Prim.Native.Nat.{ℕ, ◌≤◌, ◌<◌}
use native.Mathlib.Omega.{arith}
use mathlib.Core.Path.{◌≡◌, refl, sym, ◌∙◌}
use mathlib.Core.Bool.{Bool, true, false, cond}
use mathlib.Core.List.{List, [], ◌∷◌, ◌++◌}
use lib.ListN.{length, take, drop}
use lib.Dec.{ltb, eqb}
use borrow.Author.Tests.{ltb-false, le-leb, lt-leb}
use Rattle.std.specs.Prelude.{Result, Ok, Err}
use Rattle.decimal.specs.Decimal.{number_in}
use Rattle.plan_lines.specs.declared.Line.{Line}
use Rattle.plan_lines.specs.declared.Line.TheVariants as line
use Rattle.plan_lines.specs.declared.Slip.{Slip}
use Rattle.plan_lines.specs.declared.Slip.TheVariants as slip
use Rattle.plan_lines.specs.Lines.{is_said, said, words_in, offset_most, is_offset, all_offsets, offsets_of, route_least, route_most, is_from, from_by, route_of, route_by, line_by, line_of, leaves, left_by}
use Rattle.plan_lines.proofs.Fronts.{front_taken}

-- ---- words that say a route

from_no_route : (ws : List (List ℕ)) (n : ℕ) → from_by ws ≡ Ok (line.Route n) → ⊥
unfolding from_by
from_no_route [] n e = let z : ◌≡◌ {A = ℕ} 0 1 = cc in omega arith
from_no_route (w ∷ []) n e = by_test (is_offset w) e
  where
    by_test : (b : Bool) → cond b (Ok (line.From (number_in w offset_most))) (Err slip.From) ≡ Ok (line.Route n) → ⊥
    by_test true q = let z : ◌≡◌ {A = ℕ} 0 1 = cc in omega arith
    by_test false q = let z : ◌≡◌ {A = ℕ} 0 1 = cc in omega arith
from_no_route (w ∷ x ∷ ws) n e = let z : ◌≡◌ {A = ℕ} 0 1 = cc in omega arith

-- a route has 2 to 512 offsets
route_of_count : (m n : ℕ) → route_of m ≡ Ok (line.Route n) → (m ≡ n) × (route_least ≤ m) × (m ≤ route_most)
unfolding route_of
route_of_count m n e = by_tests (eqb m 0) (ltb m route_least) (ltb route_most m) refl refl e
  where
    by_tests : (none few many : Bool) → ltb m route_least ≡ few → ltb route_most m ≡ many
        → cond none (Ok line.Empty) (cond few (Err slip.Few) (cond many (Err slip.Many) (Ok (line.Route m)))) ≡ Ok (line.Route n) → (m ≡ n) × (route_least ≤ m) × (m ≤ route_most)
    by_tests true few many f g q = let z : ◌≡◌ {A = ℕ} 0 1 = cc in absurd (omega arith)
    by_tests false true many f g q = let z : ◌≡◌ {A = ℕ} 0 1 = cc in absurd (omega arith)
    by_tests false false true f g q = let z : ◌≡◌ {A = ℕ} 0 1 = cc in absurd (omega arith)
    by_tests false false false f g q = (cc, ltb-false m route_least f, ltb-false route_most m g)

-- what is told by a route: its words are offsets, and as many as it says, 2 to 512
abbrev pub Told : List (List ℕ) → ℕ → Type 0
Told ws n = (all_offsets ws ≡ true) × (length ws ≡ n) × (route_least ≤ length ws) × (length ws ≤ route_most)

route_told : (ws : List (List ℕ)) (n : ℕ) → route_by ws ≡ Ok (line.Route n) → Told ws n
unfolding route_by
route_told ws n e = by_test (all_offsets ws) e
  where
    by_test : (b : Bool) → cond b (route_of (length ws)) (Err slip.Word) ≡ Ok (line.Route n) → (b ≡ true) × (length ws ≡ n) × (route_least ≤ length ws) × (length ws ≤ route_most)
    by_test true q = let c = route_of_count (length ws) n q in (refl, c.0, c.1, c.2)
    by_test false q = let z : ◌≡◌ {A = ℕ} 0 1 = cc in absurd (omega arith)

pub line_told : (ws : List (List ℕ)) (n : ℕ) → line_by ws ≡ Ok (line.Route n) → Told ws n
unfolding line_by
line_told [] n e = let z : ◌≡◌ {A = ℕ} 0 1 = cc in absurd (omega arith)
line_told (w ∷ ws) n e = by_test (is_from w) e
  where
    by_test : (b : Bool) → cond b (from_by ws) (route_by (w ∷ ws)) ≡ Ok (line.Route n) → Told (w ∷ ws) n
    by_test true q = absurd (from_no_route ws n q)
    by_test false q = route_told (w ∷ ws) n q

-- ---- what is left of the memory lent

left_other : (l : Result Line Slip) (offsets out : List ℕ) → ((n : ℕ) → l ≡ Ok (line.Route n) → ⊥) → out ≡ leaves l offsets out
unfolding leaves
left_other (Ok line.Empty) offsets out none = refl
left_other (Ok (line.From n)) offsets out none = refl
left_other (Ok (line.Route n)) offsets out none = absurd (none n refl)
left_other (Err w) offsets out none = refl

pub left_stored : (n : ℕ) (offsets out : List ℕ) → n ≤ length out → offsets ++ drop n out ≡ leaves (Ok (line.Route n)) offsets out
unfolding leaves
left_stored n offsets out h = rw (le-leb n (length out) h)

left_full : (n : ℕ) (offsets out : List ℕ) → length out < n → out ≡ leaves (Ok (line.Route n)) offsets out
unfolding leaves
left_full n offsets out h = rw (lt-leb n (length out) h)

-- what is wrong says no route, and so does what is read and is none
pub no_route : (l : Result Line Slip) (e : Slip) → l ≡ Err e → (n : ℕ) → l ≡ Ok (line.Route n) → ⊥
no_route l e h n q = let z : ◌≡◌ {A = ℕ} 0 1 = cc in omega arith

pub other_route : (l : Result Line Slip) (x : Line) → l ≡ Ok x → ((n : ℕ) → x ≡ line.Route n → ⊥) → (n : ℕ) → l ≡ Ok (line.Route n) → ⊥
other_route l x h none n q = none n cc

-- ---- a line, and its bytes before the comment as the code lends them

module _ (s : List ℕ) (r : ℕ) (is : r ≡ length (said s)) (l : Result Line Slip) (e : l ≡ line_by (words_in (take r s))) where
  said_taken : take r s ≡ said s
  said_taken = rw is (front_taken is_said s)

  pub line-is : l ≡ line_of s
  line-is = rw said_taken at e

  -- no route: nothing is stored
  pub other_left : (out : List ℕ) → ((n : ℕ) → l ≡ Ok (line.Route n) → ⊥) → out ≡ left_by s out
  other_left out none = rw (← line-is) (left_other l (offsets_of (words_in (said s))) out none)

  -- a route
  module _ (n : ℕ) (route : l ≡ Ok (line.Route n)) where
    pub route_words : (all_offsets (words_in (take r s)) ≡ true) × (length (words_in (take r s)) ≡ n)
    route_words = let t = line_told (words_in (take r s)) n (sym e ∙ route) in (t.0, t.1)

    pub route_left : (out : List ℕ) → length out < n → out ≡ left_by s out
    route_left out h = rw (← line-is, route) (left_full n (offsets_of (words_in (said s))) out h)

    pub route_stored : (out out' : List ℕ) → n ≤ length out → out' ≡ offsets_of (words_in (take r s)) ++ drop (length (words_in (take r s))) out → out' ≡ left_by s out
    route_stored out out' h o =
        let k : length (words_in (take r s)) ≡ n = route_words.1 in
        rw (← line-is, route) (rw (k, said_taken) at o ∙ left_stored n (offsets_of (words_in (said s))) out h)
