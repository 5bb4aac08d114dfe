-- What a comparison means: what its numbers count, that none is missing and none extra exactly where file and plan agree, where it is refused,
-- and what the words lent hold.
use Prim.Native.Nat.{ℕ, ◌-◌, min}
use native.Mathlib.Omega.{arith}
use mathlib.Core.Path.{◌≡◌, refl, sym, ap, ◌∙◌}
use mathlib.Core.Bool.{Bool, true, false, not, ◌&&◌, true≢false}
use mathlib.Core.Logic.{◌↔◌}
use mathlib.Core.List.{List, Memᴰ}
use lib.ListN.{length, take, drop}
use lib.Seq.{take_at}
use Rattle.verdict.specs.declared.Fault.{Fault}
use Rattle.x2_layout.specs.Layout.{layout_of}
use Rattle.x2_obeys.specs.Links.{Target}
use Rattle.route_graph.specs.Objects.{object_at, boundary_starts}
use Rattle.std.specs.Prelude.{Ok, Err}
use Rattle.route_walks.specs.declared.Tally.{Tally}
use Rattle.route_walks.specs.Walks.{words_of}
use Rattle.route_walks.specs.All.{Exactly}
use Rattle.route_walks.proofs.Order.{all_routes_lem}
use Rattle.std.specs.Prelude.{Ok, Err}
use Rattle.route_lister.specs.Answered.{RoutesAnswer, limit_of}
use Rattle.route_lister.proofs.Whole.{in_range_iff}
use Rattle.route_question.specs.Routes.{routes_asked}
use Rattle.plan_routes.specs.Routes.{routes_in, among, starts_at, is_apart, apart}
use Rattle.plan_routes.proofs.Listed.{routes_back}
use Rattle.plan_question.specs.declared.Compared.{Compared as Counts}
use Rattle.plan_question.specs.Compared.{most_room, routes_from, counts_of, compared_by, compared_asked, leaves_by, left_compared}
use Rattle.plan_question.proofs.Told.{Told, told}
use Rattle.plan_question.proofs.Fits.{compared_by_lem}
use Rattle.route_theorems.proofs.Listed.{linked, place}
use Rattle.plan_theorems.specs.Agree.{Legal, Planned, From, Agree, Counted}
use Rattle.plan_theorems.proofs.Standing.{among_iff, from_iff, apart_iff, picked, picked_number, picked_rest, apart_picked, none_apart}

module _ (f plan : List ℕ) (start limit budget room : ℕ) (c : Counts) (e : compared_asked f start limit budget plan room ≡ Ok c) where
  by : (t : Tally) × (routes_asked f start limit budget (min room most_room) ≡ Ok t) × (c ≡ counts_of (routes_in plan) start (routes_from f start limit) t)
  by = compared_by_lem (routes_in plan) (routes_from f start limit) start c (routes_asked f start limit budget (min room most_room)) e

  known : Told f start limit budget (min room most_room) by.0
  known = told f start limit budget by.0 (min room most_room) by.1

  -- the routes that are listed are the legal ones, each once
  all : Exactly (Legal f start limit) (routes_from f start limit)
  all =
      let b = ((in_range_iff (boundary_starts (layout_of f) start) (limit_of limit) budget).0 known.in_range_lem).boundary in
      (all_routes_lem (object_at f (layout_of f)) (Target f (layout_of f)) (linked f known.accepted) start (limit_of limit) (place f known.accepted start b)).exactly

  missing_is : c.missing ≡ apart (routes_in plan) start (routes_from f start limit)
  missing_is = ap (λ (k : Counts). k.missing) by.2

  extra_is : c.extra ≡ apart (routes_from f start limit) start (routes_in plan)
  extra_is = ap (λ (k : Counts). k.extra) by.2

  -- a legal route is from the start
  from_start : (w : List ℕ) → Legal f start limit w → starts_at start w ≡ true
  from_start w h = (from_iff start w).1 (record { rest = h.walk.rest; is = h.walk.is })

  -- a route of the plan is counted as missing exactly where it is from the start and not legal
  missing_says : (w : List ℕ) → (Memᴰ w (routes_in plan) × (is_apart w start (routes_from f start limit) ≡ true)) ↔ (Planned plan w × From start w × (¬ Legal f start limit w))
  missing_says w =
      let i = apart_iff w start (routes_from f start limit) in (
        λ h. let k = i.0 h.1 in (h.0, (from_iff start w).0 k.0, λ l. k.1 (all.complete w l)),
        λ h. (h.0, i.1 ((from_iff start w).1 h.1, λ m. h.2 (all.sound w m))),
      )

  -- a listed route is counted as extra exactly where it does not stand in the plan
  extra_says : (w : List ℕ) → (Memᴰ w (routes_from f start limit) × (is_apart w start (routes_in plan) ≡ true)) ↔ (Legal f start limit w × (¬ Planned plan w))
  extra_says w =
      let i = apart_iff w start (routes_in plan) in (
        λ h. (all.sound w h.0, (i.0 h.1).1),
        λ h. (all.complete w h.0, i.1 (from_start w h.0, h.1)),
      )

  -- and is not, exactly where it does
  both_says : (w : List ℕ) → (Memᴰ w (routes_from f start limit) × (not (is_apart w start (routes_in plan)) ≡ true)) ↔ (Legal f start limit w × Planned plan w)
  both_says w = (
    λ h. let l = all.sound w h.0 in (l, (among_iff (routes_in plan) w).0 (there (starts_at start w) (among (routes_in plan) w) (from_start w l) h.1)),
    λ h. (all.complete w h.0, rw (from_start w h.0, (among_iff (routes_in plan) w).1 h.1) refl),
  )
    where
      there : (s t : Bool) → s ≡ true → not (s && not t) ≡ true → t ≡ true
      there s true q h = refl
      there true false q h = absurd (true≢false (sym h))
      there false false q h = absurd (true≢false (sym q))

  -- THEOREM: what the numbers of a comparison count
  pub counted : Counted f plan start limit c
  counted =
      let rs = routes_from f start limit in
      let apart_from : List ℕ → Bool = λ r. is_apart r start (routes_in plan) in
      let routes_are : c.routes ≡ length rs = ap (λ (k : Counts). k.routes) by.2 ∙ known.routes in
      let extra_are : c.extra ≡ length (picked apart_from rs) = extra_is ∙ apart_picked rs start (routes_in plan) in
      let rest = picked_rest apart_from rs in
      let both_are : length (picked (λ r. not (apart_from r)) rs) ≡ c.routes - c.extra = omega arith in
      record {
        routes = record { all = rs; exactly = all; count = sym routes_are };
        extra = rw extra_are (picked_number apart_from rs _ all.once extra_says);
        both = rw (← both_are) (picked_number (λ r. not (apart_from r)) rs _ all.once both_says);
        within = omega arith;
        missing = λ d. rw (missing_is, apart_picked (routes_in plan) start rs) (picked_number (λ r. is_apart r start rs) (routes_in plan) _ d missing_says);
      }

  -- THEOREM: none is missing and none is extra exactly where file and plan agree
  pub agrees_iff : ((c.missing ≡ 0) × (c.extra ≡ 0)) ↔ Agree f plan start limit
  agrees_iff =
      let missing = none_apart (routes_in plan) start (routes_from f start limit) in
      let extra = none_apart (routes_from f start limit) start (routes_in plan) in (
        λ h.
            record {
              planned = λ w l. extra.0 (sym extra_is ∙ h.1) w (all.complete w l) (from_start w l);
              legal = λ w p s. all.sound w (missing.0 (sym missing_is ∙ h.0) w p ((from_iff start w).1 s));
            },
        λ a. (missing_is ∙ missing.1 (λ w m s. all.complete w (a.legal w m ((from_iff start w).0 s))), extra_is ∙ extra.1 (λ w m s. a.planned w (all.sound w m))),
      )

-- THEOREM: a comparison is refused exactly as the question routes is, and then every word lent is as it was
pub refused_iff : (f plan : List ℕ) (start limit budget room : ℕ) (u : Fault) → (compared_asked f start limit budget plan room ≡ Err u) ↔ (routes_asked f start limit budget (min room most_room) ≡ Err u)
unfolding compared_by
refused_iff f plan start limit budget room u = (
  there (routes_asked f start limit budget (min room most_room)),
  λ e. ap (compared_by (routes_in plan) start (routes_from f start limit)) e,
)
  where
    there : (a : RoutesAnswer) → compared_by (routes_in plan) start (routes_from f start limit) a ≡ Err u → a ≡ Err u
    there (Ok t) e = let z : ◌≡◌ {A = ℕ} 0 1 = cc in absurd (omega arith)
    there (Err v) e = cc

pub refused_keeps : (f plan list : List ℕ) (start limit budget : ℕ) (u : Fault) → compared_asked f start limit budget plan (length list) ≡ Err u → left_compared f start limit budget list ≡ list
unfolding leaves_by
refused_keeps f plan list start limit budget u e = rw ((refused_iff f plan start limit budget (length list) u).0 e) refl

-- THEOREM: the words lent hold every route that is listed
pub listed_words : (f plan list : List ℕ) (start limit budget : ℕ) (c : Counts) → compared_asked f start limit budget plan (length list) ≡ Ok c
    → routes_in (take c.words (left_compared f start limit budget list)) ≡ routes_from f start limit
unfolding leaves_by
listed_words f plan list start limit budget c e =
    let rs = routes_from f start limit in
    let b = by f plan start limit budget (length list) c e in
    let n : length (words_of rs) ≡ c.words = sym (ap (λ (k : Counts). k.words) b.2 ∙ (known f plan start limit budget (length list) c e).words) in
    rw b.1 (ap routes_in (take_at (words_of rs) (drop (length (words_of rs)) list) c.words n) ∙ routes_back rs)
