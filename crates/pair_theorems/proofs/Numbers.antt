-- THEOREM: the number and the place of the pair's own refusal, where X.1 obeys, are those of the first of its checks that is not passed.
use Prim.Native.Nat.{ℕ, ◌≤◌}
use mathlib.Core.Logic.{◌↔◌}
use mathlib.Core.List.{List, [], ◌∷◌, ◌++◌, flat_map}
use Rattle.octets.specs.Octets.{num_at}
use Rattle.verdict.specs.Facts.{Fact}
use Rattle.refusals.proofs.Tells.{Tells, nothing, one_more}
use Rattle.x1_obeys.specs.Obeys.{Obeys}
use Rattle.x1_lookup.specs.Lookup.{find_track}
use Rattle.x2_layout.specs.declared.Layout.{Layout}
use Rattle.x2_layout.specs.Records.{kind_at, starts}
use Rattle.pair.specs.Pair.{Spot, lies, stands, spots, reach, spots_facts, record_pair, records_pair, pair_facts}
use Rattle.pair_theorems.specs.Obeys.{SpotObeys}
use Rattle.pair_theorems.specs.Faults.{HasTrack, spot_checks, own_checks}
use Rattle.pair_theorems.proofs.Obeys.{present_iff, within_iff}

-- ---- the pair's own checks

module _ (f g : List ℕ) (o : Obeys f) where
  -- of a track that is in X.1
  position_iff : (t q : ℕ) → HasTrack f (num_at 1 g t) → (num_at 4 g q ≤ reach f (find_track f (num_at 1 g t))) ↔ SpotObeys f g (lies t q)
  position_iff t q a =
      let w = within_iff f o (num_at 1 g t) (num_at 4 g q) in
      let there = (present_iff f o (num_at 1 g t)).1 a in
      (λ h. w.0 (there, h), λ h. (w.1 h).1)

  -- the spots of the record at `at`, and then others
  tells_spots : (at : ℕ) (ss : List Spot) (b : List Fact) (rest : List Spot) → Tells b (spot_checks f g rest) → Tells (spots_facts f g at ss ++ b) (spot_checks f g (ss ++ rest))
  tells_spots at [] b rest h = h
  tells_spots at (lies t q ∷ ss) b rest h =
      let more = tells_spots at ss b rest h in
      one_more _ _ _ (HasTrack f (num_at 1 g t)) _ (present_iff f o (num_at 1 g t)) (λ a. one_more _ _ _ (SpotObeys f g (lies t q)) _ (position_iff t q a) (λ _. more))
  tells_spots at (stands t ∷ ss) b rest h =
      let more = tells_spots at ss b rest h in
      one_more _ _ _ (HasTrack f (num_at 1 g t)) _ (present_iff f o (num_at 1 g t)) (λ _. more)

  module _ (l : Layout) where
    tells_records : (ats : List ℕ) → Tells (flat_map (λ at. record_pair f g (kind_at l at) at) ats) (spot_checks f g (flat_map (λ at. spots (kind_at l at) at) ats))
    unfolding flat_map
    tells_records [] = nothing
    tells_records (at ∷ ats) =
        tells_spots at (spots (kind_at l at) at) (flat_map (λ at. record_pair f g (kind_at l at) at) ats) (flat_map (λ at. spots (kind_at l at) at) ats) (tells_records ats)

    -- THEOREM
    pub own_is : Tells (pair_facts f g l) (own_checks f g l)
    unfolding pair_facts records_pair
    own_is = one_more _ _ _ _ _ (λ h. h, λ h. h) (λ _. tells_records (starts g l))
