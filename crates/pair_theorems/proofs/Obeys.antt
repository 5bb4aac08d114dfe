-- THEOREM: a pair is accepted exactly where it obeys. In an X.1 that obeys, a track is found exactly where one has the number.
use Prim.Native.Nat.{ℕ, ◌+◌, ◌≤◌}
use mathlib.Core.Path.{◌≡◌, refl, sym, ap, subst, ◌∙◌}
use mathlib.Core.Logic.{⊎_elim, ◌↔◌}
use mathlib.Core.List.Memᴰ
use mathlib.Core.List.{List, [], ◌∷◌, Memᴰ}
use native.Mathlib.Omega.{arith}
use Rattle.octets.specs.Octets.{num_at}
use Rattle.verdict.specs.Facts.{AllHold, first_fault}
use Rattle.verdict.specs.Verdicts.{Judged}
use Rattle.std.specs.Prelude.{Ok, Err}
use Rattle.verdict.specs.Verdicts.{Verdict}
use Rattle.verdict.specs.Reasons.{shown_of}
use Rattle.verdict.proofs.Facts.{accepted_iff, all_append, all_each}
use Rattle.x1_verdict.specs.Facts as geography
use Rattle.x1_obeys.specs.Obeys.{entry_place, Obeys}
use Rattle.std.specs.Prelude.{Option, Some, None}
use Rattle.x1_lookup.specs.Lookup.{find_track}
use Rattle.x1_lookup.proofs.Lookup as lookup
use Rattle.x2_layout.specs.declared.Layout.{Layout}
use Rattle.x2_layout.specs.Layout.{layout_of}
use Rattle.x2_layout.specs.Records.{kind_at, starts}
use Rattle.x2_verdict.specs.Facts as application
use Rattle.x2_verdict.proofs.Obeys.{accepted_obeys}
use Rattle.x2_verdict.proofs.Questions.{verdict_obeys}
use Rattle.pair.specs.Pair.{Spot, lies, stands, spots, present, reach, spot_facts, spots_facts, record_pair, records_pair, pair_facts, of_first, of_second, of_pair, pair_of}
use Rattle.pair_theorems.specs.Obeys.{TrackIn, SpotObeys, PairObeys}

module _ (f : List ℕ) (o : Obeys f) where
  -- a track that has a number is the one that is found
  pub found_in : (number i : ℕ) → TrackIn f number i → find_track f number ≡ Some (entry_place i)
  found_in number i w = (lookup.found_iff f o number (entry_place i)).1 (record { track = i; in_file = w.in_file; there = refl; same = w.same })

  -- a track that is found has the number
  in_found : (number e : ℕ) → find_track f number ≡ Some e → (i : ℕ) × TrackIn f number i × (e ≡ entry_place i)
  in_found number e q =
      let w = lookup.found_number f number e q in
      (w.track, record { in_file = w.in_file; same = subst (λ (x : ℕ). num_at 1 f (x + 0) ≡ number) w.there w.same }, w.there)

  pub present_iff : (number : ℕ) → (present (find_track f number) ≡ 1) ↔ ((i : ℕ) × TrackIn f number i)
  present_iff number = (λ h. by_case (find_track f number) refl h, λ w. ap present (found_in number w.0 w.1))
    where
      by_case : (d : Option ℕ) → find_track f number ≡ d → present d ≡ 1 → (i : ℕ) × TrackIn f number i
      by_case (Some e) q h = let w = in_found number e q in (w.0, w.1)
      by_case None q h = absurd (omega arith)

  pub within_iff : (number x : ℕ) → ((present (find_track f number) ≡ 1) × (x ≤ reach f (find_track f number))) ↔ ((i : ℕ) × TrackIn f number i × (x ≤ num_at 4 f (entry_place i + 14)))
  within_iff number x = (
    λ h. by_case (find_track f number) refl h.0 h.1,
    λ w. let q = found_in number w.0 w.1 in (ap present q, subst (λ (d : Option ℕ). x ≤ reach f d) (sym q) w.2),
  )
    where
      by_case : (d : Option ℕ) → find_track f number ≡ d → present d ≡ 1 → x ≤ reach f d → (i : ℕ) × TrackIn f number i × (x ≤ num_at 4 f (entry_place i + 14))
      by_case (Some e) q h k = let w = in_found number e q in (w.0, w.1, subst (λ (y : ℕ). x ≤ num_at 4 f (y + 14)) w.2 k)
      by_case None q h k = absurd (omega arith)

  module _ (g : List ℕ) where
    spot_iff : (at : ℕ) (s : Spot) → AllHold (spot_facts f g at s) ↔ SpotObeys f g s
    unfolding AllHold
    spot_iff at (lies t p) = let w = within_iff (num_at 1 g t) (num_at 4 g p) in (λ h. w.0 (h.0, h.1.0), λ h. let r = w.1 h in (r.0, (r.1, tt)))
    spot_iff at (stands t) = let w = present_iff (num_at 1 g t) in (λ h. w.0 h.0, λ h. (w.1 h, tt))

    spots_iff : (at : ℕ) (ss : List Spot) → AllHold (spots_facts f g at ss) ↔ ((s : Spot) → Memᴰ s ss → SpotObeys f g s)
    unfolding AllHold
    spots_iff at [] = (λ h s m. absurd (Memᴰ.not-nil m), λ h. tt)
    spots_iff at (r ∷ rs) =
        let ih = spots_iff at rs in
        let one = spot_iff at r in
        let cut = all_append (spot_facts f g at r) (spots_facts f g at rs) in (
          λ h s m. ⊎_elim (λ (e : s ≡ r). subst (SpotObeys f g) (sym e) (one.0 (cut.0 h).0)) (λ (m' : Memᴰ s rs). ih.0 (cut.0 h).1 s m') (Memᴰ.cases_cons m),
          λ h. cut.1 (one.1 (h r (Memᴰ.head refl)), ih.1 (λ s m. h s (Memᴰ.tail m))),
        )

    -- the pair's own facts
    pair_iff : (l : Layout) → AllHold (pair_facts f g l)
        ↔ ((num_at 2 g 5 ≡ num_at 2 f 5) × ((at : ℕ) → Memᴰ at (starts g l) → (s : Spot) → Memᴰ s (spots (kind_at l at) at) → SpotObeys f g s))
    unfolding pair_facts records_pair AllHold
    pair_iff l =
        let each = all_each (λ at. record_pair f g (kind_at l at) at) (starts g l) in (
          λ h. (h.0, λ at m. (spots_iff at (spots (kind_at l at) at)).0 (each.0 h.1 at m)),
          λ h. (h.0, each.1 (λ at m. (spots_iff at (spots (kind_at l at) at)).1 (h.1 at m))),
        )

-- ---- the verdict

-- accepted, in each of the three parts
parts : (v w : Verdict) (u : Judged) → of_first v (of_second w (of_pair u)) ≡ Ok tt → (v ≡ Ok tt) × ((w ≡ Ok tt) × (u ≡ Ok tt))
parts (Err t) w u e = let z : ◌≡◌ {A = ℕ} 0 1 = cc in absurd (omega arith)
parts (Ok a) (Err t) u e = let z : ◌≡◌ {A = ℕ} 0 1 = cc in absurd (omega arith)
parts (Ok a) (Ok b) (Err m) e = let z : ◌≡◌ {A = ℕ} 0 1 = cc in absurd (omega arith)
parts (Ok a) (Ok b) (Ok c) e = (refl, (refl, refl))

-- THEOREM (demand 2, of the pair)
pub pair_accepted : (f g : List ℕ) → (pair_of f g ≡ Ok tt) ↔ PairObeys f g
unfolding pair_of
pair_accepted f g =
    let l = layout_of g in
    let all = accepted_iff (pair_facts f g l) in (
      λ e.
          let h = parts (geography.verdict_of f) (application.verdict_of g) (first_fault (pair_facts f g l)) e in
          let o = (lookup.verdict_obeys f).0 h.0 in
          let r = (pair_iff f o g l).0 (all.0 h.1.1) in
          record { first = o; second = verdict_obeys g h.1.0; station = r.0; on_track_lem = r.1 },
      λ w.
          let a = (lookup.verdict_obeys f).1 w.first in
          let b = ap shown_of ((accepted_obeys g).1 w.second) in
          let c = all.1 ((pair_iff f w.first g l).1 (w.station, w.on_track_lem)) in
          ap (λ (v : Verdict). of_first v (of_second (application.verdict_of g) (of_pair (first_fault (pair_facts f g l))))) a
          ∙ ap (λ (v : Verdict). of_second v (of_pair (first_fault (pair_facts f g l)))) b ∙ ap of_pair c,
    )
