-- The pass over the tracks of a file and their points: a point that obeys is passed over, by its fields and as one of its track; and what
-- the pass has seen of a track, and of the file at its end.
use Prim.Native.Nat.{ℕ, suc, ◌+◌, ◌-◌, ◌^◌, ◌≤◌, ◌<◌}
use mathlib.Core.Path.{◌≡◌, ◌∙◌, refl, sym, ap, subst}
use mathlib.Core.Bool as bool
use mathlib.Core.Bool.{Bool, true, cond, ◌&&◌, ◌||◌}
use mathlib.Core.List.{List, [], ◌++◌, flat_map}
use mathlib.Core.Logic.{⊎_elim}
use native.Mathlib.Omega.{arith}
use lib.Dec.{ltb, leb, eqb}
use lib.ListN.{length}
use lib.IntN.{nat_abs}
use borrow.Author.Tests.{ltb-true, leb-true, eqb-true, le-leb, lt-ltb, le-ltb, eq-eqb, ne_eqb}
use Rattle.octets.specs.Octets.{half_of, signed, signed_at, Is}
use Rattle.octets.proofs.Signs.{low_distance, high_distance}
use Rattle.verdict.specs.Verdicts.{Judged}
use Rattle.std.specs.Prelude.{Ok, Err, is_ok}
use Rattle.verdict.specs.Facts.{same, at_most, either, test, all_tests, first_fault}
use Rattle.verdict.proofs.Facts.{tested, tests_append, accepted_first}
use Rattle.verdict.proofs.Orders.{and-true}
use Rattle.verdict.proofs.Checks.{passes_over, first_stop}
use Rattle.rules.specs.Rules.{lies_between}
use Rattle.tables.specs.Table.{field_place, value_of, signed_of}
use Rattle.x1_records.specs.Places.{entries_at, entry_size, position_most, heading_most}
use Rattle.x1_records.specs.Rows.{position, heading, near}
use Rattle.x1_layout.specs.Layout.{end_of, points_at, first_of, last_of, entries}
use Rattle.x1_fields.specs.Fields.{header_fields, entry_fields, point_fields}
use Rattle.x1_verdict.specs.declared.agreement.Frame.{Frame}
use Rattle.x1_verdict.specs.Fields.{all_points, field_facts}
use Rattle.x1_verdict.specs.Agreement.{FrameOf, opens, rises, stays, closes, number_agrees, point_agrees, track_agrees, agreement_facts}
use Rattle.x1_verdict.specs.inner.FirstOff.{points_from, Later, LaterOff}
use Rattle.x1_verdict.specs.inner.Pass.{fields_from, FieldsIfSmall, PointPassed, EdgePassed, LastPassed, RoomyInside, FieldsPassed, LaterPassed, TrackPassed, Passing, TracksPassed, AllPassed}
use Rattle.x1_verdict.proofs.Checks.{point_tested, later_tested}
use Rattle.x1_verdict.proofs.Tracks.{record_over, later_over, off_none, track_tested}

-- ---- one point

-- the least heading as a number without sign: it has two bytes
abbrev heading_least : ℕ
heading_least = 256 ^ 2 - heading_most

-- from it on, and up to the limit, a heading is at most so far from 0
heading_small : (f : List ℕ) (p k : ℕ) → Is 2 f (field_place p heading) k → (leb k heading_most || leb (heading_least) k) ≡ true → nat_abs (signed_of f p heading) ≤ heading_most
unfolding signed_at
heading_small f p k a h =
    let is : nat_abs (signed (half_of 2) k) ≡ nat_abs (signed_of f p heading) = ap (λ (n : ℕ). nat_abs (signed (half_of 2) n)) a.is in
    ⊎_elim
    (λ (g : k ≤ heading_most). omega (arith, is, low_distance (half_of 2) k (omega arith)))
    (λ (g : heading_least ≤ k). omega (arith, is, high_distance (half_of 2) k (omega arith) (omega (arith, a.below))))
    ((tested (either (at_most k heading_most) (at_most (heading_least) k))).0 h)

-- the fields of a point, if its position is not above the limit: k is its heading without sign, y the test of its near flag
pub fields_passed :
    (f : List ℕ) (p k : ℕ) → Is 2 f (field_place p heading) k → (y : Bool) → y ≡ test (lies_between 0 1 (value_of f p near))
    → ((leb k heading_most || leb (heading_least) k) && y) ≡ true → FieldsIfSmall f p
fields_passed f p k a y b h g =
    let both = and-true (leb k heading_most || leb (heading_least) k) y h in
    simp (bool.and-true, le-leb 0 (value_of f p position) (omega arith), le-leb (value_of f p position) position_most g, le-leb _ _ (heading_small f p k a both.0), sym b ∙ both.1)

-- the tests of a point: of its fields (x) and of every point (z); of the first one (o), and of the last one (d)
module _ (f : List ℕ) (size e p : ℕ) (x z : Bool) (a : x ≡ true → FieldsIfSmall f p) (b : z ≡ all_tests (stays f e p)) where
  pub first_passed :
      (last : ℕ) → p ≡ first_of f e → last ≡ last_of f e → 0 < size → (o : Bool) → o ≡ all_tests (opens f size p) → (ltb p last && (o && (z && x))) ≡ true
      → EdgePassed f size e p
  first_passed last i j pos o q h =
      let alone = and-true (ltb p last) (o && (z && x)) h in
      let opened = and-true o (z && x) alone.1 in
      let stayed = and-true z x opened.1 in
      let n : p ≡ last → ⊥ = λ r. omega (arith, ltb-true p last alone.0) in
      let zero : value_of f p position ≡ 0 = (tested (same (value_of f p position) 0)).0 (and-true (test (same (value_of f p position) 0)) _ (sym q ∙ opened.0)).0 in
      record {
        fields = a stayed.1 (omega (arith, zero));
        agrees =
            sym (point_tested f size o z true e p last p i j (rw (lt-ltb p (p + size) (omega arith)) q) b (rw (ne_eqb p last n)))
            ∙ simp (opened.0, stayed.0);
      }

  -- neither the first nor the last one: n is its position, m that of the point before it
  module _ (m n : ℕ) (i : m ≡ value_of f (p - size) position) (j : n ≡ value_of f p position) where
    rising : ltb m n ≡ all_tests (rises f size p)
    rising = simp (bool.and-true, i, j)

    pub later_passed : (t : Frame) → Later f size e t p → (ltb m n && (x && z)) ≡ true → PointPassed f size e p
    later_passed t l h =
        let rises = and-true (ltb m n) (x && z) h in
        let rest = and-true x z rises.1 in
        record {
          fields = a rest.0;
          agrees =
              sym (later_tested f size (ltb m n) z e t.first t.last p l.frame.first l.frame.last l.after l.before rising b)
              ∙ simp (rises.0, rest.1);
        }

    pub last_passed :
        (first last : ℕ) → first ≡ first_of f e → last ≡ last_of f e → first + size ≤ p → (d : Bool) → d ≡ all_tests (closes f e p)
        → (eqb p last && (ltb m n && (leb n position_most && (x && (z && d))))) ≡ true → LastPassed f size e p
    last_passed first last k l after d q h =
        let at = and-true (eqb p last) (ltb m n && (leb n position_most && (x && (z && d)))) h in
        let rises = and-true (ltb m n) (leb n position_most && (x && (z && d))) at.1 in
        let limited = and-true (leb n position_most) (x && (z && d)) rises.1 in
        let fields = and-true x (z && d) limited.1 in
        let rest = and-true z d fields.1 in
        let here = eqb-true p last at.0 in
        record {
          edge = record {
            fields = a fields.0 (omega (arith, leb-true n position_most limited.0, j));
            agrees =
                sym (point_tested f size (ltb m n) z d e first last p k l (rw (le-ltb p (first + size) after) rising) b (rw (eq-eqb p last here) q))
                ∙ simp (rises.0, rest.0, rest.1);
          };
          here = here ∙ l;
        }

-- a track with room for every increment and more than one point, the last of which ends at n
pub roomy_inside :
    (f : List ℕ) (e : ℕ) (t : Frame) (n : ℕ) → FrameOf f e t → field_place t.last near < n → (t.roomy && (ltb t.first t.last && leb n (length f))) ≡ true
    → RoomyInside f e t
roomy_inside f e t n frame l h =
    let roomy = and-true t.roomy (ltb t.first t.last && leb n (length f)) h in
    let whole = and-true (ltb t.first t.last) (leb n (length f)) roomy.1 in
    record { frame = frame; roomy = roomy.0; more = ltb-true t.first t.last whole.0; inside = omega (arith, leb-true n (length f) whole.1) }

-- a point of it, neither the first nor the last one: n is the point's position, m that of the point before it, k its heading without sign, b
-- its near flag
pub roomy_passed :
    (f : List ℕ) (size e p : ℕ) (t : Frame) → t.roomy ≡ true → Later f size e t p
    → (m n : ℕ) → m ≡ value_of f (p - size) position → n ≡ value_of f p position → m < n
    → (k : ℕ) → Is 2 f (field_place p heading) k → (leb k heading_most || leb (heading_least) k) ≡ true
    → (b : ℕ) → Is 1 f (field_place p near) b → b ≤ 1 → PointPassed f size e p
roomy_passed f size e p t roomy l m n i j rises k a heads b c low =
    let flag = (tested (lies_between 0 1 (value_of f p near))).1 (omega arith, omega (arith, c.is)) in
    later_passed f size e p true true (λ _. fields_passed f p k a true (sym flag) (simp (bool.and-true, heads))) (sym (l.frame.roomy roomy p)) m n i j t l
    (simp (bool.and-true, lt-ltb m n rises))

module _ (f : List ℕ) (size e p : ℕ) where
  -- what the tests of a point say of its position: it is not above the limit, and above that of the point before it
  position_small : all_tests (point_fields f p) ≡ true → value_of f p position ≤ position_most
  position_small h =
      let n = value_of f p position in
      ((tested (lies_between 0 position_most n)).0 (and-true (test (lies_between 0 position_most n)) _ h).0).1

  position_rises : first_of f e + size ≤ p → all_tests (point_agrees f size e p) ≡ true → value_of f (p - size) position < value_of f p position
  position_rises l h =
      let rest = stays f e p ++ cond (eqb p (last_of f e)) (closes f e p) [] in
      let both = sym (tests_append (rises f size p) rest) ∙ subst (λ (t : Bool). all_tests (cond t (opens f size p) (rises f size p) ++ rest) ≡ true) (le-ltb p (first_of f e + size) l) h in
      let c = at_most (suc (value_of f (p - size) position)) (value_of f p position) in
      (tested c).0 (and-true (test c) true (and-true (all_tests (rises f size p)) (all_tests rest) both).0).0

-- a point that obeys by its fields is passed over
fields_over : (f : List ℕ) (size p from : ℕ) → 0 < size → all_tests (point_fields f p) ≡ true → FieldsPassed f size from p → FieldsPassed f size from (p + size)
fields_over f size p from pos t passed = record { so = record_over size (end_of f) (point_fields f) pos p t ∙ passed.so }

-- ---- the points of a track

pub later_start : (f : List ℕ) (size e first : ℕ) → first ≡ first_of f e → first + size < 2 ^ 17 → LaterPassed f size e (first + size)
later_start f size e first i small = record {
  fields = λ _. record { so = ap (λ (n : ℕ). first_fault (fields_from f size (n + size))) i };
  agrees = ap (λ (n : ℕ). first_fault (points_from f size e (n + size))) i;
  after = omega arith;
  small = small;
}

pub later_step : (f : List ℕ) (size e p : ℕ) → 0 < size → p + size < 2 ^ 17 → PointPassed f size e p → LaterPassed f size e p → LaterPassed f size e (p + size)
later_step f size e p pos small point later =
    let back : p + size - size ≡ p = omega arith in
    let rises = position_rises f size e p later.after point.agrees in
    record {
      fields = λ h.
          let here : value_of f p position ≤ position_most = subst (λ (n : ℕ). value_of f n position ≤ position_most) back h in
          fields_over f size p (first_of f e + size) pos (point.fields here) (later.fields (omega (arith, rises, here)));
      agrees = later_over f size e pos p true (sym point.agrees) refl ∙ later.agrees;
      after = omega (arith, later.after);
      small = small;
    }

-- the number of a track agrees, its points stand where they are due, and the first one, those after it and the last one have passed
module _ (f : List ℕ) (size e : ℕ) (pos : 0 < size) (p : ℕ) (later : LaterPassed f size e p) (after : last_of f e ≤ p) where
  off : LaterOff f size e p
  off = record { before = later.agrees; here = λ h. absurd (omega arith); small = later.small }

  pub track_passed :
      (due first : ℕ) → first ≡ first_of f e → first ≡ due → (n : Bool) → n ≡ all_tests (number_agrees f e) → n ≡ true
      → EdgePassed f size e first → EdgePassed f size e p → TrackPassed f size e due (p + size)
  track_passed due first i d n j number opens closes =
      let none = off_none f size e pos first i true (sym opens.agrees) refl p off true (sym closes.agrees) after refl in
      let small = position_small f size e p closes.fields in
      let rises = position_rises f size e p later.after closes.agrees in
      record {
        fields = record {
          so =
              record_over size (end_of f) (point_fields f) pos p closes.fields
              ∙ (later.fields (omega (arith, small, rises))).so
              ∙ ap (λ (n : ℕ). first_fault (fields_from f size (n + size))) (sym i)
              ∙ record_over size (end_of f) (point_fields f) pos first opens.fields
              ∙ ap (λ (n : ℕ). first_fault (fields_from f size n)) d;
        };
        agrees =
            sym (track_tested f size e (p + size) pos none n true j (sym (le-leb (last_of f e + size) (p + size) (omega arith)))) ∙ simp number;
      }

-- ---- all tracks

pub passing_start : (f : List ℕ) (size : ℕ) → Passing f size entries_at (points_at f)
unfolding agreement_facts entries
passing_start f size = record { fields = record { so = refl }; agrees = refl }

pub passing_over :
    (f : List ℕ) (size e due next : ℕ) → e < points_at f → Passing f size e due → TrackPassed f size e due next → Passing f size (e + entry_size) next
passing_over f size e due next h passing track = record {
  fields = record { so = track.fields.so ∙ passing.fields.so };
  agrees = passes_over (λ _. entry_size) (points_at f) (track_agrees f size) (λ x. omega arith) e true h (sym track.agrees) (e + entry_size) refl refl ∙ passing.agrees;
}

pub passing_end : (f : List ℕ) (size e due : ℕ) → points_at f ≤ e → Passing f size e due → Passing f size (points_at f) due
passing_end f size e due h passing = record {
  fields = passing.fields;
  agrees =
      first_stop (λ _. entry_size) (points_at f) (track_agrees f size) (points_at f) (omega arith)
      ∙ sym (first_stop (λ _. entry_size) (points_at f) (track_agrees f size) e h)
      ∙ passing.agrees;
}

pub passing_all : (f : List ℕ) (size e due : ℕ) → points_at f ≤ e → end_of f ≤ due → Passing f size e due → TracksPassed f size
unfolding all_points
passing_all f size e due h g passing = record {
  fields = sym (first_stop (λ _. size) (end_of f) (point_fields f) due g) ∙ passing.fields.so;
  agrees = sym (first_stop (λ _. entry_size) (points_at f) (track_agrees f size) e h) ∙ passing.agrees;
}

-- ---- the fields of the header and of the entries too: x and y are the verdicts on them

accepted : (v : Judged) → is_ok v ≡ true → v ≡ Ok tt
accepted (Ok _) e = refl
accepted (Err m) e = absurd (bool.true≢false (sym e))

pub all_passed :
    (f : List ℕ) (size : ℕ) (x y : Judged) → x ≡ first_fault (header_fields f) → is_ok x ≡ true → y ≡ first_fault (flat_map (entry_fields f) (entries f)) → is_ok y ≡ true
    → TracksPassed f size → AllPassed f size
unfolding field_facts
all_passed f size x y i h j g tracks =
    let points = flat_map (point_fields f) (all_points f size) in
    let entered = flat_map (entry_fields f) (entries f) in
    record {
      fields =
          tracks.fields
          ∙ sym (accepted_first entered points (sym j ∙ accepted y g))
          ∙ sym (accepted_first (header_fields f) (entered ++ points) (sym i ∙ accepted x h));
      agrees = tracks.agrees;
    }
