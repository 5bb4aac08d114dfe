-- How a tally and the bytes lent grow, walk by walk.
use Prim.Native.Nat.{ℕ, ◌+◌, ◌≤◌, ◌<◌}
use native.Mathlib.Numerals.{add-one}
use native.Mathlib.Omega.{arith}
use mathlib.Core.Path.{◌≡◌, refl, sym, ap, ◌∙◌}
use mathlib.Core.Bool.{Bool, true, false, cond}
use mathlib.Core.Logic.{⊎_elim}
use mathlib.Core.List.{List, [], ◌∷◌, ◌++◌, append_assoc, append-nil}
use lib.ListN.{length, length-append}
use Rattle.verdict.proofs.Orders.{le-or-lt}
use Rattle.route_graph.specs.declared.Object.{Object}
use Rattle.route_walks.specs.Walks.{is_route, routes_among, words_of}
use Rattle.route_walks.specs.declared.Tally.{Tally}
use Rattle.route_walks.specs.Lent.{lays}
use Rattle.route_walks.specs.inner.Grown.{Sane, Counted, Grown}
use Rattle.route_walks.proofs.Lent.{lays_append}

routes_append : (v : ℕ → Object) (a b : List (List ℕ)) → routes_among v (a ++ b) ≡ routes_among v a ++ routes_among v b
unfolding routes_among
routes_append v [] b = refl
routes_append v (w ∷ a) b = step (is_route v w) (routes_append v a b)
  where
    step : (x : Bool) → routes_among v (a ++ b) ≡ routes_among v a ++ routes_among v b
        → cond x (w ∷ routes_among v (a ++ b)) (routes_among v (a ++ b)) ≡ cond x (w ∷ routes_among v a) (routes_among v a) ++ routes_among v b
    step true e = ap (λ (l : List (List ℕ)). w ∷ l) e
    step false e = e

words_append : (a b : List (List ℕ)) → words_of (a ++ b) ≡ words_of a ++ words_of b
unfolding words_of
words_append [] b = refl
words_append (w ∷ a) b = ap (λ (l : List ℕ). length w ∷ (w ++ l)) (words_append a b) ∙ ap (λ (l : List ℕ). length w ∷ l) (sym (append_assoc w (words_of a) (words_of b)))

module _ (v : ℕ → Object) (budget : ℕ) where
  -- no walk
  pub grown_none : (t : Tally) (out : List ℕ) → Sane budget t → Grown v [] budget t t out out
  unfolding routes_among words_of lays
  grown_none t out h = record { sane = h; grows = omega arith; beyond = λ p. omega arith; counted = λ p. record { walks_are = omega arith; routes_are = omega arith; words_are = omega arith }; out-is = λ p. refl }

  -- beyond the budget already
  pub grown_over : (ws : List (List ℕ)) (t : Tally) (out : List ℕ) → Sane budget t → budget < t.walks → Grown v ws budget t t out out
  grown_over ws t out h q = record { sane = h; grows = omega arith; beyond = λ p. q; counted = λ p. absurd (omega arith); out-is = λ p. absurd (omega arith) }

  -- a walk that is no route
  pub grown_open : (w : List ℕ) (t u : Tally) (out : List ℕ) → Sane budget t → t.walks ≤ budget → is_route v w ≡ false → Counted 1 0 0 t u → Grown v (w ∷ []) budget t u out out
  unfolding routes_among words_of lays
  grown_open w t u out h q e k = record {
    sane = record { capped = omega arith; fewer = omega arith; short = omega arith };
    grows = omega arith;
    beyond = λ p. omega arith;
    counted = rw (e, routes_among) (λ p. k);
    out-is = rw (e, routes_among) (λ p. refl);
  }

  -- a route
  pub grown_route : (w : List ℕ) (t u : Tally) (out out' : List ℕ) → Sane budget t → t.walks ≤ budget → is_route v w ≡ true → length w ≤ 512 → Counted 1 1 (length w + 1) t u
      → out' ≡ lays out t.words (length w ∷ w) → Grown v (w ∷ []) budget t u out out'
  unfolding routes_among words_of
  grown_route w t u out out' h q e l k x = record {
    sane = record { capped = omega arith; fewer = omega arith; short = omega arith };
    grows = omega arith;
    beyond = λ p. omega arith;
    counted = rw (e, routes_among, append-nil w) (λ p. rw add-one at k);
    out-is = rw (e, routes_among, append-nil w) (λ p. x);
  }

  -- some walks after others
  pub grown_seq : (ws ws' : List (List ℕ)) (t u r : Tally) (out out₁ out₂ : List ℕ) → Grown v ws budget t u out out₁ → Grown v ws' budget u r out₁ out₂ → Grown v (ws ++ ws') budget t r out out₂
  grown_seq ws ws' t u r out out₁ out₂ a b =
      let la : length (ws ++ ws') ≡ length ws + length ws' = length-append ws ws' in
      record {
        sane = b.sane;
        grows = omega arith;
        beyond = λ p. ⊎_elim (λ q. let k = a.counted q in b.beyond (omega arith)) (λ q. let k = a.beyond q in omega arith) (le-or-lt (t.walks + length ws) budget);
        counted = λ p.
            let k = a.counted (omega arith) in
            let m = b.counted (omega arith) in
            record {
              walks_are = omega arith;
              routes_are = rw (routes_append v ws ws', length-append (routes_among v ws) (routes_among v ws')) (omega arith);
              words_are = rw (routes_append v ws ws', words_append (routes_among v ws) (routes_among v ws'), length-append (words_of (routes_among v ws)) (words_of (routes_among v ws'))) (omega arith);
            };
        out-is = λ p.
            let k = a.counted (omega arith) in
            rw (routes_append v ws ws', words_append (routes_among v ws) (routes_among v ws'), lays_append out t.words (words_of (routes_among v ws)) (words_of (routes_among v ws')), ← a.out-is (omega arith), ← k.words_are)
            (b.out-is (omega arith));
      }
