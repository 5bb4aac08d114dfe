-- THEOREM: the file, the number and the place of a pair's verdict are those of 01's tables.
use Prim.Native.Nat.{ℕ}
use mathlib.Core.Path.{◌≡◌, refl, sym, ap, subst, ◌∙◌}
use mathlib.Core.Logic.{◌↔◌}
use mathlib.Core.List.{List}
use Rattle.verdict.specs.Verdicts.{Judged}
use Rattle.std.specs.Prelude.{Ok, Err}
use Rattle.verdict.specs.Verdicts.{Verdict}
use Rattle.verdict.specs.Verdicts.{PairVerdict}
use Rattle.verdict.specs.Facts.{first_fault}
use Rattle.verdict.specs.Reasons.{shown_of, number_in, place_in, pair_number_in, pair_place_in, pair_file_in}
use Rattle.verdict.proofs.Questions.{some_number}
use Rattle.x1_verdict.specs.Facts as geography
use Rattle.x1_theorems.proofs.Numbers as first
use Rattle.x1_lookup.proofs.Lookup as lookup
use Rattle.x2_layout.specs.Layout.{layout_of}
use Rattle.x2_verdict.specs.Facts as application
use Rattle.x2_verdict.proofs.Obeys.{accepted_obeys}
use Rattle.x2_verdict.proofs.Questions.{verdict_obeys}
use Rattle.x2_theorems.proofs.Numbers as second
use Rattle.pair.specs.Pair.{pair_facts, of_first, of_second, of_pair, pair_of}
use Rattle.pair_theorems.specs.Faults.{PairAnswered, accepted, fault_of_first, fault_of_second, fault_of_pair}
use Rattle.pair_theorems.proofs.Obeys.{pair_accepted}
use Rattle.pair_theorems.proofs.Numbers.{own_is}

-- the verdict v shows the file d, the number n and the place p
abbrev pub Shows : PairVerdict → ℕ → ℕ → ℕ → Type 0
Shows v d n p = (pair_file_in v ≡ d) × ((pair_number_in v ≡ n) × (pair_place_in v ≡ p))

-- ---- the three parts of a pair's verdict, over plain verdicts

shows_first : (v : Verdict) (r : PairVerdict) (n p : ℕ) → (n ≡ 0 → ⊥) → number_in v ≡ n → place_in v ≡ p → Shows (of_first v r) 1 n p
shows_first (Err t) r n p z e q = (refl, (e, q))
shows_first (Ok tt) r n p z e q = absurd (z (sym e))

shows_second : (v : Verdict) (r : PairVerdict) (n p : ℕ) → (n ≡ 0 → ⊥) → number_in v ≡ n → place_in v ≡ p → Shows (of_second v r) 2 n p
shows_second (Err t) r n p z e q = (refl, (e, q))
shows_second (Ok tt) r n p z e q = absurd (z (sym e))

shows_pair : (u : Judged) (n p : ℕ) → (n ≡ 0 → ⊥) → number_in (shown_of u) ≡ n → place_in (shown_of u) ≡ p → Shows (of_pair u) 2 n p
shows_pair (Err m) n p z e q = (refl, (e, q))
shows_pair (Ok tt) n p z e q = absurd (z (sym e))

-- ---- both ways

module _ (f g : List ℕ) where
  abbrev a : Verdict
  a = geography.verdict_of f

  abbrev b : Verdict
  b = application.verdict_of g

  abbrev u : Judged
  u = first_fault (pair_facts f g (layout_of g))

  back : (d n p : ℕ) → PairAnswered f g d n p → Shows (of_first a (of_second b (of_pair u))) d n p
  unfolding pair_of
  back d n p (accepted i j k o) =
      let e = (pair_accepted f g).1 o in
      (ap pair_file_in e ∙ sym i, (ap pair_number_in e ∙ sym j, ap pair_place_in e ∙ sym k))
  back d n p (fault_of_first i z w) =
      let e = (first.answer_is f n p).1 w in
      subst (λ (x : ℕ). Shows (of_first a (of_second b (of_pair u))) x n p) (sym i) (shows_first a (of_second b (of_pair u)) n p z e.0 e.1)
  back d n p (fault_of_second i o z w) =
      let e = (second.answer_is g n p).1 w in
      let x = (lookup.verdict_obeys f).1 o in
      subst (λ (v : Verdict). Shows (of_first v (of_second b (of_pair u))) d n p) (sym x)
      (subst (λ (y : ℕ). Shows (of_second b (of_pair u)) y n p) (sym i) (shows_second b (of_pair u) n p z e.0 e.1))
  back d n p (fault_of_pair i o h z w) =
      let e = ((own_is f g o (layout_of g)).is n p).1 w in
      let x = (lookup.verdict_obeys f).1 o in
      let y : b ≡ Ok tt = ap shown_of ((accepted_obeys g).1 h) in
      subst (λ (v : Verdict). Shows (of_first v (of_second b (of_pair u))) d n p) (sym x)
      (subst (λ (v : Verdict). Shows (of_second v (of_pair u)) d n p) (sym y) (subst (λ (k : ℕ). Shows (of_pair u) k n p) (sym i) (shows_pair u n p z e.0 e.1)))

  there : (d n p : ℕ) → Shows (of_first a (of_second b (of_pair u))) d n p → PairAnswered f g d n p
  unfolding pair_of
  there d n p s = by_first a refl s
    where
      by_pair : a ≡ Ok tt → b ≡ Ok tt → (y : Judged) → u ≡ y → Shows (of_pair y) d n p → PairAnswered f g d n p
      by_pair i j (Err m) e s =
          let o = (lookup.verdict_obeys f).0 i in
          fault_of_pair (sym s.0) o (verdict_obeys g j) (λ z. some_number m.reason (s.1.0 ∙ z))
          (((own_is f g o (layout_of g)).is n p).0 (ap (λ (x : Judged). number_in (shown_of x)) e ∙ s.1.0, ap (λ (x : Judged). place_in (shown_of x)) e ∙ s.1.1))
      by_pair i j (Ok tt) e s =
          accepted (sym s.0) (sym s.1.0) (sym s.1.1) ((pair_accepted f g).0
          (ap (λ (v : Verdict). of_first v (of_second b (of_pair u))) i ∙ ap (λ (v : Verdict). of_second v (of_pair u)) j ∙ ap of_pair e))

      by_second : a ≡ Ok tt → (w : Verdict) → b ≡ w → Shows (of_second w (of_pair u)) d n p → PairAnswered f g d n p
      by_second i (Err t) e s =
          fault_of_second (sym s.0) ((lookup.verdict_obeys f).0 i) (λ z. some_number t.reason (s.1.0 ∙ z)) ((second.answer_is g n p).0 (ap number_in e ∙ s.1.0, ap place_in e ∙ s.1.1))
      by_second i (Ok tt) e s = by_pair i e u refl s

      by_first : (v : Verdict) → a ≡ v → Shows (of_first v (of_second b (of_pair u))) d n p → PairAnswered f g d n p
      by_first (Err t) e s =
          fault_of_first (sym s.0) (λ z. some_number t.reason (s.1.0 ∙ z)) ((first.answer_is f n p).0 (ap number_in e ∙ s.1.0, ap place_in e ∙ s.1.1))
      by_first (Ok tt) e s = by_second e b refl s

-- THEOREM
pub pair_is : (f g : List ℕ) (d n p : ℕ) → ((pair_file_in (pair_of f g) ≡ d) × ((pair_number_in (pair_of f g) ≡ n) × (pair_place_in (pair_of f g) ≡ p))) ↔ PairAnswered f g d n p
unfolding pair_of
pair_is f g d n p = (there f g d n p, back f g d n p)
