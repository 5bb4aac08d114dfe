-- THEOREM: the place of every verdict on a pair is below the bound, whatever the files are. It is that of X.1, or that of X.2, or, both being
-- accepted, the station's or one in a record of X.2, which starts before End.
use Prim.Native.Nat.{ℕ, ◌≤◌, ◌<◌}
use mathlib.Core.Path.{◌≡◌, refl}
use mathlib.Core.List.{List}
use native.Mathlib.Omega.{arith}
use Rattle.verdict.specs.Verdicts.{Judged}
use Rattle.std.specs.Prelude.{Ok, Err}
use Rattle.verdict.specs.Verdicts.{Verdict}
use Rattle.verdict.specs.Verdicts.{PairVerdict}
use Rattle.verdict.specs.Facts.{first_fault}
use Rattle.verdict.specs.Reasons.{shown_of, place_in, pair_place_in}
use Rattle.envelope.specs.Seal.{most_length}
use Rattle.x2_records.specs.declared.Kind.{Kind}
use Rattle.x2_records.specs.declared.Kind.TheVariants as kind
use Rattle.x2_layout.specs.declared.Layout.{Layout}
use Rattle.x2_layout.specs.Layout.{layout_of}
use Rattle.x2_layout.specs.Records.{kind_at}
use Rattle.x1_verdict.specs.Facts as geography
use Rattle.x2_verdict.specs.Facts as application
use Rattle.x2_verdict.proofs.Obeys.{accepted_obeys}
use Rattle.pair.specs.Pair.{spots, spots_facts, record_pair, records_pair, pair_facts, of_first, of_second, of_pair, pair_of}
use Rattle.places.specs.Places.{place_over, PlacesBelow}
use Rattle.places.proofs.Lists.{fault_below}
use Rattle.places.proofs.X1.{x1_place}
use Rattle.places.proofs.X2.{records_below, stop_most, x2_place}

module _ (f g : List ℕ) where
  spots_below : (at : ℕ) → at < most_length → (k : Kind) → PlacesBelow place_over (spots_facts f g at (spots k at))
  spots_below at inside kind.StartBoundary = omega arith
  spots_below at inside kind.EndBoundary = omega arith
  spots_below at inside kind.Turnout = omega arith
  spots_below at inside kind.Balise = omega arith
  spots_below at inside kind.Signal = omega arith
  spots_below at inside kind.Joint = omega arith
  spots_below at inside kind.Siding = omega arith

  facts_below : (l : Layout) → l.end ≤ most_length → PlacesBelow place_over (pair_facts f g l)
  unfolding pair_facts records_pair
  facts_below l most = (omega arith, λ _. records_below g l most (λ at. record_pair f g (kind_at l at) at) (λ at h. spots_below at h (kind_at l at)))

  -- the pair's own faults, of an X.2 that is accepted
  own_place : application.judged_of g ≡ Ok tt → place_in (shown_of (first_fault (pair_facts f g (layout_of g)))) < place_over
  own_place e = fault_below place_over (omega arith) (pair_facts f g (layout_of g)) (facts_below (layout_of g) (stop_most g ((accepted_obeys g).0 e).most))

  pub pair_place : pair_place_in (pair_of f g) < place_over
  unfolding pair_of
  pair_place = fault_of_first (geography.verdict_of f) (x1_place f) _ (fault_of_second (application.judged_of g) refl (x2_place g))
    where
      fault_of_first : (v : Verdict) → place_in v < place_over → (r : PairVerdict) → pair_place_in r < place_over → pair_place_in (of_first v r) < place_over
      fault_of_first (Ok tt) h r p = p
      fault_of_first (Err t) h r p = h

      of_own : (v : Judged) → place_in (shown_of v) < place_over → pair_place_in (of_pair v) < place_over
      of_own (Ok tt) h = h
      of_own (Err m) h = h

      fault_of_second : (v : Judged) → application.judged_of g ≡ v → place_in (shown_of v) < place_over → pair_place_in (of_second (shown_of v) (of_pair (first_fault (pair_facts f g (layout_of g))))) < place_over
      fault_of_second (Ok tt) e h = of_own (first_fault (pair_facts f g (layout_of g))) (own_place e)
      fault_of_second (Err m) e h = h
