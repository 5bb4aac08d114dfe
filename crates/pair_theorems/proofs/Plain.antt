-- THEOREMS: 10, 11 and 12 are answered exactly where 01 says so, in plain words: what the first track or position in stored order is that
-- does not obey, and why it does not.
use Prim.Native.Nat.{ℕ, ◌+◌, ◌≤◌, ◌<◌}
use mathlib.Core.Path.{◌≡◌, refl, sym, ap, subst, ◌∙◌}
use mathlib.Core.Bool.{Bool, true, false, cond, not, ◌&&◌, true≢false}
use mathlib.Core.Logic.{◌⊎◌, inl, inr, ⊎_elim, ◌↔◌}
use mathlib.Core.List.Memᴰ
use mathlib.Core.List.{List, [], ◌∷◌, ◌++◌, Memᴰ}
use lib.Dec.{eqb}
use borrow.Author.Tests.{eq-eqb, eqb-false}
use native.Mathlib.Omega.{arith}
use Rattle.octets.specs.Octets.{num_at}
use Rattle.verdict.specs.Order.{Check, check, fresh, Answered, Reported}
use Rattle.verdict.proofs.Orders.{le-or-lt, and-true}
use Rattle.x1_obeys.specs.Obeys.{entry_place}
use Rattle.x1_obeys.specs.Obeys as geography
use Rattle.x1_theorems.specs.Faults as first
use Rattle.x2_layout.specs.Layout.{layout_of}
use Rattle.x2_verdict.specs.Obeys as application
use Rattle.x2_theorems.specs.Checks as second
use Rattle.pair.specs.Pair.{Spot, lies, stands, pair_of}
use Rattle.pair_theorems.specs.Obeys.{SpotObeys}
use Rattle.pair_theorems.specs.Faults.{HasTrack, spots_of, spot_checks, own_checks, PairAnswered, accepted, fault_of_first, fault_of_second, fault_of_pair, FirstAtFault, track_place, StationsDiffer, TrackMissing, PositionBeyond}
use Rattle.pair_theorems.proofs.Whole.{Shows, pair_is}

-- ---- the first that does not obey, and its number and place

module _ (f g : List ℕ) where
  -- where its track is not there, 11 at the track; else 12 at the position
  abbrev Why : Spot → ℕ → ℕ → Type 0
  Why (lies t q) n p = ((HasTrack f (num_at 1 g t) → ⊥) × ((n ≡ 11) × (p ≡ t))) ⊎ (HasTrack f (num_at 1 g t) × ((n ≡ 12) × (p ≡ q)))
  Why (stands t) n p = (HasTrack f (num_at 1 g t) → ⊥) × ((n ≡ 11) × (p ≡ t))

  record Explained (ss : List Spot) (n p : ℕ) : Type 0 where
    pub spot : Spot
    pub in_order : FirstAtFault f g ss spot
    pub why : Why spot n p

  -- an obeying spot before it
  later : (r s : Spot) (ss : List Spot) → SpotObeys f g r → FirstAtFault f g ss s → FirstAtFault f g (r ∷ ss) s
  later r s ss o w = record {
    before = r ∷ w.before;
    after = w.after;
    there = ap (λ (l : List Spot). r ∷ l) w.there;
    obeyed = λ x m. ⊎_elim (λ (e : x ≡ r). subst (SpotObeys f g) (sym e) o) (λ (i : Memᴰ x w.before). w.obeyed x i) (Memᴰ.cases_cons m);
    fails = w.fails;
  }

  next : (r : Spot) (ss : List Spot) (n p : ℕ) → SpotObeys f g r → Explained ss n p → Explained (r ∷ ss) n p
  next r ss n p o w = record { spot = w.spot; in_order = later r w.spot ss o w.in_order; why = w.why }

  here : (s : Spot) (ss : List Spot) (n p : ℕ) → (SpotObeys f g s → ⊥) → Why s n p → Explained (s ∷ ss) n p
  here s ss n p fails w = record { spot = s; in_order = record { before = []; after = ss; there = refl; obeyed = λ r m. absurd (Memᴰ.not-nil m); fails = fails }; why = w }

  first_there : (ss : List Spot) (n p : ℕ) → (n ≡ 0 → ⊥) → Reported (spot_checks f g ss) n p → Explained ss n p
  first_there [] n p z h = absurd (z h.0)
  first_there (lies t q ∷ ss) n p z (inl (has, inl (o, h))) = next (lies t q) ss n p o (first_there ss n p z h)
  first_there (lies t q ∷ ss) n p z (inl (has, inr (fails, e))) = here (lies t q) ss n p fails (inr (has, e))
  first_there (lies t q ∷ ss) n p z (inr (none, e)) = here (lies t q) ss n p (λ o. none (o.0, o.1)) (inl (none, e))
  first_there (stands t ∷ ss) n p z (inl (o, h)) = next (stands t) ss n p o (first_there ss n p z h)
  first_there (stands t ∷ ss) n p z (inr (none, e)) = here (stands t) ss n p none (none, e)

  -- where those before it obey, what is reported of the rest counts
  passed_over : (before rest : List Spot) (n p : ℕ) → ((r : Spot) → Memᴰ r before → SpotObeys f g r) → Reported (spot_checks f g rest) n p → Reported (spot_checks f g (before ++ rest)) n p
  passed_over [] rest n p o h = h
  passed_over (lies t q ∷ ss) rest n p o h = let w = o (lies t q) (Memᴰ.head refl) in inl ((w.0, w.1), inl (w, passed_over ss rest n p (λ r m. o r (Memᴰ.tail m)) h))
  passed_over (stands t ∷ ss) rest n p o h = inl (o (stands t) (Memᴰ.head refl), passed_over ss rest n p (λ r m. o r (Memᴰ.tail m)) h)

  reported : (s : Spot) (after : List Spot) (n p : ℕ) → (SpotObeys f g s → ⊥) → Why s n p → Reported (spot_checks f g (s ∷ after)) n p
  reported (lies t q) after n p fails (inl (none, e)) = inr (none, e)
  reported (lies t q) after n p fails (inr (has, e)) = inl (has, inr (fails, e))
  reported (stands t) after n p fails (none, e) = inr (none, e)

  first_back : (ss : List Spot) (n p : ℕ) → Explained ss n p → Reported (spot_checks f g ss) n p
  first_back ss n p w =
      let i = w.in_order in
      subst (λ (l : List Spot). Reported (spot_checks f g l) n p) (sym i.there)
      (passed_over i.before (w.spot ∷ i.after) n p i.obeyed (reported w.spot i.after n p i.fails w.why))

-- ---- the numbers of a file's own table are other ones

none_answered : (cs : List Check) (k p : ℕ) → fresh k cs ≡ true → Answered cs k p → ⊥
none_answered [] k p e h = go (eqb k 0) refl e
  where
    go : (t : Bool) → eqb k 0 ≡ t → not t ≡ true → ⊥
    go true q i = true≢false (sym i)
    go false q i = eqb-false k 0 q h.0
none_answered (check j A At ∷ cs) k p e h = go (eqb k j) e h (none_answered cs k p)
  where
    go : (t : Bool) → (not t && fresh k cs) ≡ true → cond t ((A → ⊥) × At p) (A × Answered cs k p) → (fresh k cs ≡ true → Answered cs k p → ⊥) → ⊥
    go true i h ih = true≢false (sym i)
    go false i h ih = ih i h.1

none_reported : (cs : List Check) (k p : ℕ) → fresh k cs ≡ true → Reported cs k p → ⊥
none_reported [] k p e h = none_answered [] k p e h
none_reported (check j A At ∷ cs) k p e h =
    let both = and-true (not (eqb k j)) (fresh k cs) e in
    ⊎_elim (λ (x : A × Reported cs k p). none_reported cs k p both.1 x.1) (λ (x : (A → ⊥) × ((k ≡ j) × At p)). let q = eq-eqb k j x.1.0 in true≢false (sym both.0 ∙ ap not q)) h

module _ (f g : List ℕ) (d p : ℕ) where
  abbrev Own : ℕ → Type 0
  Own n = (d ≡ 2) × (geography.Obeys f × (application.Obeys g × Reported (own_checks f g (layout_of g)) n p))

  own : (n : ℕ) → (n ≡ 0 → ⊥) → fresh n (first.checks f) ≡ true → fresh n (second.checks g) ≡ true → PairAnswered f g d n p → Own n
  own n z x y (accepted i j k o) = absurd (z j)
  own n z x y (fault_of_first i k w) = absurd (none_reported (first.checks f) n p x w)
  own n z x y (fault_of_second i o k w) = absurd (none_answered (second.checks g) n p y w)
  own n z x y (fault_of_pair i o h k w) = (i, (o, (h, w)))

  -- ---- why, by the number

  not_ten : (s : Spot) → Why f g s 10 p → ⊥
  not_ten (lies t q) (inl (none, (e, i))) = omega arith
  not_ten (lies t q) (inr (has, (e, i))) = omega arith
  not_ten (stands t) (none, (e, i)) = omega arith

  eleven_why : (s : Spot) → Why f g s 11 p ↔ ((HasTrack f (num_at 1 g (track_place s)) → ⊥) × (p ≡ track_place s))
  eleven_why (lies t q) = (there, λ h. inl (h.0, (refl, h.1)))
    where
      there : Why f g (lies t q) 11 p → (HasTrack f (num_at 1 g t) → ⊥) × (p ≡ t)
      there (inl (none, (e, i))) = (none, i)
      there (inr (has, (e, i))) = absurd (omega arith)
  eleven_why (stands t) = (λ h. (h.0, h.1.1), λ h. (h.0, (refl, h.1)))

  twelve_why : (s : Spot) → Why f g s 12 p → (t : ℕ) × (s ≡ lies t p) × HasTrack f (num_at 1 g t)
  twelve_why (lies t q) (inl (none, (e, i))) = absurd (omega arith)
  twelve_why (lies t q) (inr (has, (e, i))) = (t, ap (lies t) (sym i), has)
  twelve_why (stands t) (none, (e, i)) = absurd (omega arith)

  -- ---- the theorems

  abbrev all : List Spot
  all = spots_of g (layout_of g)

  -- THEOREM
  pub ten_is : Shows (pair_of f g) d 10 p ↔ ((d ≡ 2) × StationsDiffer f g p)
  ten_is =
      let iff = pair_is f g d 10 p in (
        λ h. there (own 10 (λ e. omega arith) refl refl (iff.0 h)),
        λ h. let w = h.1 in iff.1 (fault_of_pair h.0 w.first w.second (λ e. omega arith) (inr (w.differ, (refl, w.place)))),
      )
    where
      there : Own 10 → (d ≡ 2) × StationsDiffer f g p
      there (i, (o, (s, inl (same, r)))) = let w = first_there f g all 10 p (λ e. omega arith) r in absurd (not_ten w.spot w.why)
      there (i, (o, (s, inr (differ, (e, q))))) = (i, record { first = o; second = s; differ = differ; place = q })

  -- THEOREM
  pub eleven_is : Shows (pair_of f g) d 11 p ↔ ((d ≡ 2) × TrackMissing f g p)
  eleven_is =
      let iff = pair_is f g d 11 p in (
        λ h. there (own 11 (λ e. omega arith) refl refl (iff.0 h)),
        λ h.
            let w = h.1 in
            let r = first_back f g all 11 p (record { spot = w.spot; in_order = w.in_order; why = (eleven_why w.spot).1 (w.missing, w.place) }) in
            iff.1 (fault_of_pair h.0 w.first w.second (λ e. omega arith) (inl (w.station, r))),
      )
    where
      there : Own 11 → (d ≡ 2) × TrackMissing f g p
      there (i, (o, (s, inl (same, r)))) =
          let w = first_there f g all 11 p (λ e. omega arith) r in
          let y = (eleven_why w.spot).0 w.why in
          (i, record { first = o; second = s; station = same; spot = w.spot; in_order = w.in_order; missing = y.0; place = y.1 })
      there (i, (o, (s, inr (differ, (e, q))))) = absurd (omega arith)

  -- THEOREM
  pub twelve_is : Shows (pair_of f g) d 12 p ↔ ((d ≡ 2) × PositionBeyond f g p)
  twelve_is =
      let iff = pair_is f g d 12 p in (
        λ h. there (own 12 (λ e. omega arith) refl refl (iff.0 h)),
        λ h.
            let w = h.1 in
            let r = first_back f g all 12 p (record { spot = lies w.track p; in_order = w.in_order; why = inr ((w.index, w.there), (refl, refl)) }) in
            iff.1 (fault_of_pair h.0 w.first w.second (λ e. omega arith) (inl (w.station, r))),
      )
    where
      there : Own 12 → (d ≡ 2) × PositionBeyond f g p
      there (i, (o, (s, inl (same, r)))) =
          let w = first_there f g all 12 p (λ e. omega arith) r in
          let y = twelve_why w.spot w.why in
          let z : FirstAtFault f g all (lies y.0 p) = subst (FirstAtFault f g all) y.1 w.in_order in (
            i,
            record {
              first = o;
              second = s;
              station = same;
              track = y.0;
              in_order = z;
              index = y.2.0;
              there = y.2.1;
              beyond = ⊎_elim (λ (k : num_at 4 g p ≤ num_at 4 f (entry_place y.2.0 + 14)). absurd (z.fails (y.2.0, y.2.1, k)))
                  (λ (k : num_at 4 f (entry_place y.2.0 + 14) < num_at 4 g p). k) (le-or-lt (num_at 4 g p) (num_at 4 f (entry_place y.2.0 + 14)));
            },
          )
      there (i, (o, (s, inr (differ, (e, q))))) = absurd (omega arith)
