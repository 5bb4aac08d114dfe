-- THEOREMS: the mark of the pair's own refusal is its true reason, and it is of the record and the field that it says. Each fact of the pair
-- has the reason of its shape, and its claim is what its mark says.
use Prim.Native.Nat.{ℕ, ◌+◌, ◌≤◌}
use mathlib.Core.Path.{◌≡◌, refl, sym, ap, subst, ◌∙◌}
use mathlib.Core.Logic.{◌↔◌}
use mathlib.Core.List.{List, [], ◌∷◌, ◌++◌, flat_map, Memᴰ}
use native.Mathlib.Omega.{arith}
use Rattle.octets.specs.Octets.{num_at}
use Rattle.verdict.specs.declared.Mark.{Mark}
use Rattle.verdict.specs.declared.Rule.{Rule}
use Rattle.verdict.specs.declared.Rule.TheVariants as rule
use Rattle.verdict.specs.declared.Fault.{Fault}
use Rattle.verdict.specs.declared.File.TheVariants.{Second}
use Rattle.verdict.specs.Verdicts.{Judged}
use Rattle.std.specs.Prelude.{Ok, Err}
use Rattle.verdict.specs.Verdicts.{Verdict}
use Rattle.verdict.specs.Facts.{Claim, Holds, Fact, fact, first_fault, Marked, TrueReason}
use Rattle.verdict.specs.declared.PairFault.{PairFault}
use Rattle.verdict.specs.Reasons.{number_of, fault_of, own_fault, shown_of, number_in, place_in}
use Rattle.verdict.specs.Order.{Reported}
use Rattle.verdict.proofs.Facts.{true_reason, marked_each}
use Rattle.refusals.proofs.Sections.{Each, each_append}
use Rattle.x1_obeys.specs.Obeys.{entry_place, Obeys}
use Rattle.std.specs.Prelude.{Option, Some, None}
use Rattle.x1_lookup.proofs.Lookup as lookup
use Rattle.x2_records.specs.declared.Kind.{Kind}
use Rattle.x2_layout.specs.declared.Layout.{Layout}
use Rattle.x2_layout.specs.Layout.{layout_of}
use Rattle.x2_layout.specs.Records.{kind_at, starts}
use Rattle.x2_verdict.specs.Facts as application
use Rattle.x2_verdict.specs.Obeys as obeys
use Rattle.x2_verdict.proofs.Obeys.{accepted_obeys}
use Rattle.pair.specs.Pair.{Spot, lies, stands, spots, reach, spots_facts, record_pair, records_pair, pair_facts, of_first, of_second, of_pair, pair_of}
use Rattle.pair_theorems.specs.Obeys.{TrackIn}
use Rattle.pair_theorems.specs.Faults.{HasTrack, own_checks}
use Rattle.pair_theorems.specs.Says.{own_claim, pair_says, PairHeld, of_station, of_track, of_position}
use Rattle.pair_theorems.proofs.Obeys.{found_in, present_iff}
use Rattle.pair_theorems.proofs.Numbers.{own_is}

-- ---- what each fact's mark says

module _ (f g : List ℕ) where
  spots_marked : (at : ℕ) (ss : List Spot) → Marked (pair_says f g) (spots_facts f g at ss)
  spots_marked at [] = tt
  spots_marked at (lies t q ∷ ss) = (refl, (refl, spots_marked at ss))
  spots_marked at (stands t ∷ ss) = (refl, spots_marked at ss)

  -- THEOREM: each claim is what its mark says.
  pub facts_marked : (l : Layout) → Marked (pair_says f g) (pair_facts f g l)
  unfolding pair_facts records_pair
  facts_marked l = (refl, marked_each (pair_says f g) (λ at. record_pair f g (kind_at l at) at) (starts g l) (λ at. spots_marked at (spots (kind_at l at) at)))

  -- ---- what each fact's mark is of

  spots_start : (at : ℕ) (ss : List Spot) → Each (λ c m. m.start ≡ at) (spots_facts f g at ss)
  spots_start at [] = tt
  spots_start at (lies t q ∷ ss) = (refl, (refl, spots_start at ss))
  spots_start at (stands t ∷ ss) = (refl, spots_start at ss)

  -- THEOREM: each fact of a record carries that record's start.
  pub record_starts : (k : Kind) (at : ℕ) → Each (λ c m. m.start ≡ at) (record_pair f g k at)
  record_starts k at = spots_start at (spots k at)

  module _ (l : Layout) where
    spots_held : (at : ℕ) → Memᴰ at (starts g l) → (ss : List Spot) → ((s : Spot) → Memᴰ s ss → Memᴰ s (spots (kind_at l at) at)) → Each (λ c m. PairHeld g l m) (spots_facts f g at ss)
    spots_held at i [] own = tt
    spots_held at i (lies t q ∷ ss) own =
        let here = own (lies t q) (Memᴰ.head refl) in
        (of_track refl refl i (lies t q) here refl, (of_position refl t refl i here, spots_held at i ss (λ s m. own s (Memᴰ.tail m))))
    spots_held at i (stands t ∷ ss) own = (of_track refl refl i (stands t) (own (stands t) (Memᴰ.head refl)) refl, spots_held at i ss (λ s m. own s (Memᴰ.tail m)))

    records_held : (ats : List ℕ) → ((at : ℕ) → Memᴰ at ats → Memᴰ at (starts g l)) → Each (λ c m. PairHeld g l m) (flat_map (λ at. record_pair f g (kind_at l at) at) ats)
    unfolding flat_map
    records_held [] own = tt
    records_held (at ∷ ats) own =
        each_append (λ c m. PairHeld g l m) (record_pair f g (kind_at l at) at) (flat_map (λ at. record_pair f g (kind_at l at) at) ats)
        (spots_held at (own at (Memᴰ.head refl)) (spots (kind_at l at) at) (λ s m. m)) (records_held ats (λ x m. own x (Memᴰ.tail m)))

    -- THEOREM: each fact has the reason of its shape, and the start and the place of what its mark is of.
    pub facts_held : Each (λ c m. PairHeld g l m) (pair_facts f g l)
    unfolding pair_facts records_pair
    facts_held = (of_station refl refl refl refl, records_held (starts g l) (λ at m. m))

-- ---- what a mark says, where X.1 obeys

module _ (f g : List ℕ) (o : Obeys f) (m : Mark) where
  -- THEOREM: the track at the mark's place is in X.1.
  pub in_first_says : m.rule ≡ rule.InFirst → Holds (pair_says f g m) ↔ HasTrack f (num_at m.width g m.place)
  in_first_says e = subst (λ (r : Rule). Holds (own_claim f g m.place m.width r) ↔ HasTrack f (num_at m.width g m.place)) (sym e) (present_iff f o (num_at m.width g m.place))

  -- THEOREM: the position at the mark's place is at most the end of the track, of X.1, that the byte at t names.
  pub within_says : (t i : ℕ) → m.rule ≡ rule.WithinTrack t → TrackIn f (num_at 1 g t) i → Holds (pair_says f g m) ↔ (num_at m.width g m.place ≤ num_at 4 f (entry_place i + 14))
  within_says t i e w =
      subst (λ (r : Rule). Holds (own_claim f g m.place m.width r) ↔ (num_at m.width g m.place ≤ num_at 4 f (entry_place i + 14))) (sym e)
      (subst (λ (d : Option ℕ). (num_at m.width g m.place ≤ reach f d) ↔ (num_at m.width g m.place ≤ num_at 4 f (entry_place i + 14))) (sym (found_in f o (num_at 1 g t) i w)) (λ h. h, λ h. h))

-- ---- the pair's own refusal

-- what is so of each fact is so of one of them
each_there : (P : Claim → Mark → Type 0) (a b : List Fact) (c : Claim) (m : Mark) → Each P (a ++ (fact c m ∷ b)) → P c m
each_there P [] b c m h = h.0
each_there P (fact d n ∷ a) b c m h = each_there P a b c m h.1

module _ (f g : List ℕ) where
  abbrev own : List Fact
  own = pair_facts f g (layout_of g)

  module _ (m : Mark) (e : first_fault own ≡ Err m) where
    -- THEOREM: the mark is the true reason: it stands in the list, every fact before it holds, and what it says fails.
    pub refused_truly : TrueReason (pair_says f g) own m
    refused_truly = true_reason (pair_says f g) own m (facts_marked f g (layout_of g)) e

    -- THEOREM: it is of the record and the field that it says.
    pub refused_held : PairHeld g (layout_of g) m
    refused_held =
        let r = refused_truly in
        each_there (λ c n. PairHeld g (layout_of g) n) r.before r.after (pair_says f g m) m (subst (Each (λ c n. PairHeld g (layout_of g) n)) r.there (facts_held f g (layout_of g)))

    -- THEOREM: the number of its reason and its place are those answered.
    pub refused_answered : Obeys f → Reported (own_checks f g (layout_of g)) (number_of m.reason) m.place
    refused_answered o =
        ((own_is f g o (layout_of g)).is (number_of m.reason) m.place).0 (ap (λ (v : Judged). number_in (shown_of v)) e, ap (λ (v : Judged). place_in (shown_of v)) e)

  by_mark : (t : Fault) (u : Judged) → first_fault own ≡ u → of_pair u ≡ Err (record { file = Second; fault = t }) → (m : Mark) × (fault_of m ≡ t) × TrueReason (pair_says f g) own m
  by_mark t (Ok tt) q e = let z : ◌≡◌ {A = ℕ} 0 1 = cc in absurd (omega arith)
  by_mark t (Err m) q e = let p : own_fault m ≡ record { file = Second; fault = t } = cc in (m, ap (λ (x : PairFault). x.fault) p, refused_truly m q)

  -- THEOREM: where both files obey, the fault that is answered of file 2 is that of a mark which is the true reason of the pair's own refusal.
  pub own_refusal : Obeys f → obeys.Obeys g → (t : Fault) → pair_of f g ≡ Err (record { file = Second; fault = t }) → (m : Mark) × (fault_of m ≡ t) × TrueReason (pair_says f g) own m
  unfolding pair_of
  own_refusal o h t e =
      let a = (lookup.verdict_obeys f).1 o in
      let b : application.verdict_of g ≡ Ok tt = ap shown_of ((accepted_obeys g).1 h) in
      by_mark t (first_fault own) refl
      (sym (ap (λ (v : Verdict). of_first v (of_second (application.verdict_of g) (of_pair (first_fault own)))) a ∙ ap (λ (v : Verdict). of_second v (of_pair (first_fault own))) b) ∙ e)
