-- THEOREM: of what lies ahead, the five parts come back from the number that is returned, for every pair and every question. The place is small
-- enough for its four bytes (crate places), and the objects, at most 64, for their one.
use Prim.Native.Nat.{ℕ, ◌≤◌, ◌<◌}
use native.Mathlib.Omega.{arith}
use mathlib.Core.Bool.{Bool, true, false}
use mathlib.Core.List.{List}
use lib.ListN.{length}
use lib.Dec.{ltb}
use Rattle.verdict.specs.Verdicts.{PairVerdict}
use Rattle.std.specs.Prelude.{Ok, Err}
use Rattle.verdict.specs.Reasons.{pair_place_in}
use Rattle.verdict.specs.Answers.{answer_number, answer_place}
use Rattle.x2_layout.specs.Layout.{layout_of}
use Rattle.pair.specs.Pair.{pair_of}
use Rattle.ahead.specs.declared.Stop.{Stop}
use Rattle.ahead.specs.declared.Stop.TheVariants as stop
use Rattle.ahead.specs.Results.{AheadAnswer}
use Rattle.ahead.specs.declared.AheadFault.TheVariants.{OfPair, OfQuestion}
use Rattle.ahead.specs.Ahead.{objects_most, seen_bytes, stop_number}
use Rattle.ahead.specs.Seen.{Seen}
use Rattle.ahead.specs.Asked.{in_range, seen_in, judged, answer_in, after_pair, ahead_asked, ahead_answer, ahead_file}
use Rattle.ahead.proofs.Answering.{list_few}
use Rattle.places.specs.Places.{place_over}
use Rattle.places.proofs.Pair.{pair_place}
use Rattle.c_values.specs.Words.{over_byte}
use Rattle.c_values.specs.Ahead.{stop_of, count_of, ahead_shown}
use Rattle.c_values.proofs.Numbers.{number_fits, file_fits}
use Rattle.c_values.proofs.Ahead.{number_back, file_back, place-back, stop_back, objects_back}
use Rattle.export_theorems.specs.Ahead.{AheadBack}

-- ---- every part fits its bytes

number_small : (a : AheadAnswer) → answer_number (ahead_answer a) < over_byte
number_small (Ok s) = omega arith
number_small (Err (OfPair p)) = number_fits p.fault.reason
number_small (Err (OfQuestion t)) = number_fits t.reason

file_small : (a : AheadAnswer) → ahead_file a < over_byte
file_small (Ok s) = omega arith
file_small (Err (OfPair p)) = file_fits p.file
file_small (Err (OfQuestion t)) = omega arith

six_stops : (s : Stop) → stop_number s ≤ 6
six_stops stop.Boundary = omega arith
six_stops stop.NoLink = omega arith
six_stops stop.UnknownLie = omega arith
six_stops stop.Repeated = omega arith
six_stops stop.AgainstLie = omega arith
six_stops stop.Full = omega arith

stop_small : (a : AheadAnswer) → stop_of a < over_byte
stop_small (Ok s) = omega (arith, six_stops s.stop)
stop_small (Err (OfPair p)) = omega arith
stop_small (Err (OfQuestion t)) = omega arith

parts_back : (a : AheadAnswer) → answer_place (ahead_answer a) < place_over → count_of a ≤ objects_most → AheadBack a (ahead_shown a)
parts_back a p o =
    let n = number_small a in
    let f = file_small a in
    let s = stop_small a in
    record {
      number_is = number_back a n f (omega arith) s (omega arith);
      file_is = file_back a n f (omega arith) s (omega arith);
      place_is = place-back a n f (omega arith) s (omega arith);
      stop_is = stop_back a n f (omega arith) s (omega arith);
      objects_are = objects_back a n f (omega arith) s (omega arith);
      objects_few = omega (arith, objects_back a n f (omega arith) s (omega arith));
    }

-- the place is the pair's, or 0
place_small :
    (v : PairVerdict) (inside short : Bool) (s : Seen) → pair_place_in v < place_over → answer_place (ahead_answer (after_pair v (judged inside short s))) < place_over
unfolding judged
place_small (Err p) inside short s h = h
place_small (Ok tt) false short s h = omega arith
place_small (Ok tt) true true s h = omega arith
place_small (Ok tt) true false s h = omega arith

objects_small :
    (v : PairVerdict) (inside short : Bool) (s : Seen) → length s.objects ≤ objects_most → count_of (after_pair v (judged inside short s)) ≤ objects_most
unfolding judged
objects_small (Err p) inside short s h = omega arith
objects_small (Ok tt) false short s h = omega arith
objects_small (Ok tt) true true s h = omega arith
objects_small (Ok tt) true false s h = h

-- ---- THEOREM: of every question on every pair

module _ (f g : List ℕ) (offset link : ℕ) (lies : List ℕ) where
  -- its five parts come back from the number that is returned
  pub ahead_back : (room : ℕ) → AheadBack (ahead_asked f g offset link lies room) (ahead_shown (ahead_asked f g offset link lies room))
  unfolding ahead_asked answer_in
  ahead_back room =
      let inside = in_range g (layout_of g) offset link lies in
      let short = ltb room seen_bytes in
      let s = seen_in g (layout_of g) offset link lies in
      parts_back (after_pair (pair_of f g) (judged inside short s)) (place_small (pair_of f g) inside short s (pair_place f g))
      (objects_small (pair_of f g) inside short s (list_few g (layout_of g) offset link lies lies))
