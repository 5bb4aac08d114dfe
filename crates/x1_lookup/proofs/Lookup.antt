-- Looking for a track's entry in a file that obeys: it is found exactly where a track has the number, and it is that track's entry, since
-- numbers strictly rise and so no two tracks have one number.
use Prim.Native.Nat.{ℕ, ◌<◌}
use mathlib.Core.Path.{◌≡◌, ap}
use mathlib.Core.Logic.{◌↔◌}
use mathlib.Core.List.{List}
use native.Mathlib.Omega.{arith}
use borrow.Author.Tests.{eq-eqb, ne_eqb, eqb-true, eqb-false}
use Rattle.std.specs.Prelude.{Ok}
use Rattle.x1_records.specs.Places as place
use Rattle.x1_layout.specs.Layout.{count_of, points_at, entries}
use Rattle.x1_verdict.specs.Facts.{judged_of, verdict_of}
use Rattle.x1_obeys.specs.Obeys.{entry_place, Obeys}
use Rattle.x1_obeys.proofs.Obeys.{accepted_obeys}
use Rattle.x1_lookup.specs.Lookup.{number_at, has_number, find_track}
use Rattle.std.specs.Prelude.{Some, None}
use Rattle.verdict.proofs.Questions.{shown_accepted}
use Rattle.x1_lookup.proofs.Search.{first_iff, no_start_iff}
use Rattle.x1_lookup.proofs.Rising.{rise, rise_one}

-- ---- the verdict that is answered is 0 exactly where the file obeys

pub verdict_obeys : (f : List ℕ) → (verdict_of f ≡ Ok tt) ↔ Obeys f
verdict_obeys f =
    let shown = shown_accepted (judged_of f) in
    let obeys = accepted_obeys f in
    (λ e. obeys.0 (shown.0 e), λ o. shown.1 (obeys.1 o))

-- ---- where a track is found

-- a track of the file has the number, and its entry is at e
pub record HasNumber (f : List ℕ) (number e : ℕ) : Type 0 where
  pub track : ℕ
  pub in_file : track < count_of f
  pub there : e ≡ entry_place track
  pub same : number_at f e ≡ number

module _ (f : List ℕ) (number : ℕ) where
  start_in : (i : ℕ) → i < count_of f → entry_place i < points_at f
  start_in i h = omega arith

  -- THEOREM: no track is found exactly where none has the number.
  pub absent_iff : (find_track f number ≡ None) ↔ ((i : ℕ) → i < count_of f → number_at f (entry_place i) ≡ number → ⊥)
  unfolding find_track entries
  absent_iff =
      let none = no_start_iff (has_number f number) place.entry_size (points_at f) (omega arith) place.entries_at in (
        λ e i h. eqb-false (number_at f (entry_place i)) number (none.0 e i (start_in i h)),
        λ h. none.1 (λ j l. ne_eqb (number_at f (entry_place j)) number (h j (omega arith))),
      )

  -- what is found has the number, in every file
  pub found_number : (e : ℕ) → find_track f number ≡ Some e → HasNumber f number e
  unfolding find_track entries
  found_number e q =
      let w = (first_iff (has_number f number) place.entry_size (points_at f) (omega arith) place.entries_at e).0 q in
      let p = w.there in
      let l = w.inside in
      record { track = w.steps; in_file = omega arith; there = p; same = eqb-true (number_at f e) number w.passes }

-- ---- in a file that obeys

module _ (f : List ℕ) (o : Obeys f) where
  -- numbers strictly rise, from any track to any later one
  pub numbers_rise : (j i : ℕ) → i < j → j < count_of f → number_at f (entry_place i) < number_at f (entry_place j)
  numbers_rise = rise (λ k. number_at f (entry_place k)) (count_of f) o.agreement.numbers

  -- no two tracks have one number
  pub one_track : (i j : ℕ) → i < count_of f → j < count_of f → number_at f (entry_place i) ≡ number_at f (entry_place j) → i ≡ j
  one_track = rise_one (λ k. number_at f (entry_place k)) (count_of f) o.agreement.numbers

  -- THEOREM: in a file that obeys, a track's entry is found exactly where the track has the number.
  pub found_iff : (number e : ℕ) → (find_track f number ≡ Some e) ↔ HasNumber f number e
  unfolding find_track entries
  found_iff number e = (
    found_number f number e,
    λ w.
        let i = w.track in
        let p = w.there in
        let s = w.same in
        (first_iff (has_number f number) place.entry_size (points_at f) (omega arith) place.entries_at e).1 (record {
          steps = i;
          there = p;
          inside = omega (arith, w.in_file);
          passes = eq-eqb (number_at f e) number s;
          failed = λ k l. ne_eqb (number_at f (entry_place k)) number (λ q. let n = numbers_rise i k l w.in_file in let r = ap (number_at f) p in omega arith);
        }),
  )
