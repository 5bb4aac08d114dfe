-- The pass from the start, and the answer: what both listers share.
use Prim.Native.Nat.{ℕ, zero, suc, ◌*◌, ◌-◌, ◌≤◌}
use native.Mathlib.Nat.{zero-add}
use native.Mathlib.Numerals.{sub-one}
use native.Mathlib.Omega.{arith}
use mathlib.Core.Path.{◌≡◌, refl, sym, ap, subst, ◌∙◌}
use mathlib.Core.Bool.{Bool, true, false}
use mathlib.Core.Logic.{⊎_elim, ◌↔◌}
use mathlib.Core.List.{List, [], ◌∷◌, ◌++◌}
use lib.ListN.{length}
use lib.Dec.{leb, ltb}
use borrow.Author.Tests.{leb-true, le-leb, ltb-false, lt-ltb}
use Rattle.verdict.specs.declared.Fault.{Fault}
use Rattle.verdict.specs.declared.Reason.TheVariants.{Question}
use Rattle.verdict.specs.Answers.{refusal}
use Rattle.verdict.proofs.Orders.{le-or-lt, and-true}
use Rattle.x2_layout.specs.declared.Layout.{Layout}
use Rattle.route_graph.specs.declared.Object.{Object}
use Rattle.route_graph.specs.declared.regions.Ends.{Ends}
use Rattle.route_graph.specs.Objects.{object_at, edge_link, offset_most, boundary_starts}
use Rattle.route_graph.specs.inner.Ends.{ends_of, object_in}
use Rattle.route_graph.proofs.Places.{boundary_facts}
use Rattle.route_graph.proofs.EndsLaws.{same_objects}
use Rattle.route_walks.specs.declared.Tally.{Tally}
use Rattle.route_walks.specs.Walks.{walks, all_walks, is_route, all_routes, words_of}
use Rattle.route_walks.specs.Lent.{room_of, lays}
use Rattle.route_walks.specs.Range.{limit_least, limit_most, budget_least, budget_most}
use Rattle.route_walks.specs.inner.Grown.{nothing, Grown}
use Rattle.route_walks.proofs.Lent.{lays_front}
use Rattle.route_walks.proofs.Grow.{grown_open, grown_seq}
use Rattle.std.specs.Prelude.{Ok, Err}
use Rattle.route_lister.specs.Answered.{RoutesAnswer, in_range, limit_of, tally_of, judged, answer_at, answer_of, leaves, left_of}
use Rattle.route_lister.specs.Listing.{Within}
use Rattle.route_lister.specs.inner.Ready.{PassedOver}
use Rattle.route_lister.specs.inner.Choices.{one_walk}

-- ---- the pass

starts : (v : ℕ → Object) (start budget : ℕ) (out : List ℕ) → Grown v ((start ∷ []) ∷ []) budget nothing one_walk out out
unfolding is_route
starts v start budget out = grown_open v budget (start ∷ []) nothing one_walk out (record { capped = omega arith; fewer = omega arith; short = omega arith }) (omega arith) refl
    (record { walks_are = refl; routes_are = refl; words_are = refl })

from_start : (v : ℕ → Object) (start limit budget : ℕ) (out out' : List ℕ) (r : Tally) → limit_least ≤ limit → Grown v (walks v (limit - 1) (start ∷ []) start (edge_link (v start))) budget one_walk r out out'
    → Grown v (all_walks v start limit) budget nothing r out out'
unfolding all_walks
from_start v start zero budget out out' r h g = absurd (omega arith)
from_start v start (suc k) budget out out' r h g =
    grown_seq v budget ((start ∷ []) ∷ []) (walks v k (start ∷ []) start (edge_link (v start))) nothing one_walk r out out out' (starts v start budget out) (rw (sub-one (suc k)) at g)

-- e and o are what the code has read: where the objects of the layout end, and what stands at the start
pub passes_through : (f : List ℕ) (l : Layout) (e : Ends) (o : Object) (start limit budget first : ℕ) (out out' : List ℕ) (r : Tally) → e ≡ ends_of l → o ≡ object_at f l start → first ≡ edge_link o → limit_least ≤ limit
    → Grown (object_in f e) (walks (object_in f e) (limit - 1) (start ∷ []) start first) budget one_walk r out out' → PassedOver f l start limit budget r out out'
passes_through f l e o start limit budget first out out' r ends at link h g =
    let same = ap (object_in f) ends ∙ same_objects f l in
    let there = subst (λ (v : ℕ → Object). Grown v (walks v (limit - 1) (start ∷ []) start first) budget one_walk r out out') same g in
    from_start (object_at f l) start limit budget out out' r h (rw (link, at) at there)

-- ---- the range

tested : (asked : Bool) (limit budget : ℕ) → in_range asked limit budget ≡ true → Within asked limit budget
tested asked limit budget e =
    let a = and-true asked _ e in
    let b = and-true (leb limit_least limit) _ a.1 in
    let c = and-true (leb limit limit_most) _ b.1 in
    let d = and-true (leb budget_least budget) _ c.1 in
    record {
      boundary = a.0;
      bounds = record { least = leb-true limit_least limit b.0; most = leb-true limit limit_most c.0; some = leb-true budget_least budget d.0; few = leb-true budget budget_most d.1 };
    }

met : (asked : Bool) (limit budget : ℕ) → Within asked limit budget → in_range asked limit budget ≡ true
met asked limit budget w =
    let b = w.bounds in
    rw (w.boundary, le-leb limit_least limit b.least, le-leb limit limit_most b.most, le-leb budget_least budget b.some, le-leb budget budget_most b.few) refl

-- THEOREM: what is tested is that the question is in range
pub in_range_iff : (asked : Bool) (limit budget : ℕ) → (in_range asked limit budget ≡ true) ↔ Within asked limit budget
in_range_iff asked limit budget = (tested asked limit budget, met asked limit budget)

-- what the code's test of the range says
pub within : (asked ok : Bool) (limit budget : ℕ) → ok ≡ in_range asked limit budget → ok ≡ true → Within asked limit budget
within asked ok limit budget o e = tested asked limit budget (sym o ∙ e)

pub start_fits : (l : Layout) (start limit budget : ℕ) (asked ok : Bool) → asked ≡ boundary_starts l start → ok ≡ in_range asked limit budget → ok ≡ true → start ≤ offset_most
start_fits l start limit budget asked ok a o e = (boundary_facts l start (sym a ∙ (within asked ok limit budget o e).boundary)).small

-- ---- the answer by the tally of a pass

module _ (v : ℕ → Object) (start limit budget : ℕ) (c : Tally) (x x' : List ℕ) (g : Grown v (all_walks v start limit) budget nothing c x x') where
  counts_all : length (all_walks v start limit) ≤ budget → c ≡ tally_of v start limit
  unfolding tally_of
  counts_all h =
      let y = g.counted (omega arith) in
      λ i. record { walks = (y.walks_are ∙ zero-add _) i; routes = (y.routes_are ∙ zero-add _) i; words = (y.words_are ∙ zero-add _) i }

  -- where the walks outnumber the budget, so do those that the pass has counted
  by_count : (asked : Bool) (room : ℕ) → in_range asked limit budget ≡ true → judged true (ltb budget c.walks) (ltb room c.words) c ≡ answer_at v asked start limit budget room
  unfolding answer_at judged tally_of
  by_count asked room e =
      ⊎_elim (λ q. rw (e, counts_all q) refl)
      (λ q. rw (e, lt-ltb budget c.walks (g.beyond (omega arith)), lt-ltb budget (length (all_walks v start limit)) q) refl)
      (le-or-lt (length (all_walks v start limit)) budget)

not_listed : (x : Fault) (c : Tally) → Err x ≡ Ok c → ⊥
not_listed x c e = let z : ◌≡◌ {A = ℕ} 0 1 = cc in omega arith

-- what a listing says of the tests
listed_if : (steps room : Bool) (t c : Tally) → judged true steps room t ≡ Ok c → (steps ≡ false) × (room ≡ false)
unfolding judged
listed_if true room t c e = absurd (not_listed _ c e)
listed_if false true t c e = absurd (not_listed _ c e)
listed_if false false t c e = (refl, refl)

-- nothing is lent, and nothing changes
lent_none : (part out : List ℕ) → length part ≡ 0 → part ++ out ≡ out
lent_none [] out e = refl
lent_none (x ∷ part) out e = absurd (omega arith)

-- ---- the ways out of a lister, each with the answer and the bytes that it leaves. The question is `start`, `limit` and `budget`; `most` is the limit that
-- is meant, and `ok` says whether it is in range.

module _ (v : ℕ → Object) (there asked ok : Bool) (start limit most budget : ℕ) (out : List ℕ) (asked_is : asked ≡ there) (most_is : most ≡ limit_of limit) (ok_is : ok ≡ in_range asked most budget) where
  abbrev Right : RoutesAnswer → List ℕ → Type 0
  Right r out' = (r ≡ answer_of v there start limit budget (room_of out)) × (out' ≡ left_of v there start limit budget out)

  -- what is right for the values that the code has found is right for the question as it was put
  as_put : (r : RoutesAnswer) (out' : List ℕ) → r ≡ answer_at v asked start most budget (room_of out) → out' ≡ leaves r (words_of (all_routes v start most)) out → Right r out'
  as_put r out' a b = (rw (asked_is, most_is) at a, rw (a, asked_is, most_is) at b)

  pub out_of_range : (t : Fault) → t ≡ refusal Question → ok ≡ false → Right (Err t) out
  unfolding answer_at judged leaves
  out_of_range t e n =
      let q : in_range asked most budget ≡ false = sym ok_is ∙ n in
      as_put (Err t) out (ap Err e ∙ rw (q, answer_at, judged) refl) refl

  -- the counting pass is lent no byte, and answer is what its tally settles
  module _ (granted : ok ≡ true) (c : Tally) (x part : List ℕ) (none : length part ≡ 0) (g : Grown v (all_walks v start most) budget nothing c x part) (answer : RoutesAnswer)
      (settled : answer ≡ judged true (ltb budget c.walks) (ltb (room_of (part ++ out)) c.words) c) where
    in_range_lem : in_range asked most budget ≡ true
    in_range_lem = sym ok_is ∙ granted

    right : answer ≡ answer_at v asked start most budget (room_of out)
    right = (rw (lent_none part out none) at settled) ∙ by_count v start most budget c x part g asked (room_of out) in_range_lem

    pub refuses : (t : Fault) → answer ≡ Err t → Right (Err t) (part ++ out)
    unfolding leaves
    refuses t e = as_put (Err t) (part ++ out) (sym e ∙ right) (lent_none part out none)

    pub lists : (t r : Tally) (out' : List ℕ) → answer ≡ Ok t → Grown v (all_walks v start most) budget nothing r (part ++ out) out' → Right (Ok r) out'
    unfolding answer_at judged leaves tally_of
    lists t r out' e f =
        let q = listed_if (ltb budget (length (all_walks v start most))) (ltb (room_of out) (length (words_of (all_routes v start most)))) (tally_of v start most) t (rw in_range_lem at (sym right ∙ e)) in
        let fits = ltb-false budget (length (all_walks v start most)) q.0 in
        let enough = ltb-false (room_of out) (length (words_of (all_routes v start most))) q.1 in
        let room : 2 * length (words_of (all_routes v start most)) ≤ length out = omega arith in
        as_put (Ok r) out' (ap Ok (counts_all v start most budget r (part ++ out) out' f fits) ∙ rw (in_range_lem, q.0, q.1, answer_at, judged) refl)
        (f.out-is (omega arith) ∙ ap (λ (o : List ℕ). lays o 0 (words_of (all_routes v start most))) (lent_none part out none) ∙ lays_front (words_of (all_routes v start most)) out room)
