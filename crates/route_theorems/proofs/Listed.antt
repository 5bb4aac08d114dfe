-- What an answer about the routes of an X.2 file means. A listing has every legal route of the accepted file once, in order, with the number
-- of all partial walks; 13, 14 and 15 are answered exactly where 01 says; a refusal, by one of these or by the file's own fault, leaves every
-- byte lent as it was.
use Prim.Native.Nat.{ℕ, ◌≤◌, ◌<◌}
use native.Mathlib.Omega.{arith}
use mathlib.Core.Path.{◌≡◌, refl, sym, ap, ◌∙◌, subst⁻¹}
use mathlib.Core.Bool.{Bool, true, false}
use mathlib.Core.Logic.{◌↔◌}
use mathlib.Core.List.{List}
use lib.ListN.{length}
use Rattle.verdict.specs.declared.Fault.{Fault}
use Rattle.verdict.specs.declared.Reason.{Reason}
use Rattle.verdict.specs.declared.Reason.TheVariants.{Question, Steps, Room}
use Rattle.verdict.specs.Reasons.{number_of}
use Rattle.verdict.specs.Verdicts.{Verdict}
use Rattle.std.specs.Prelude.{Ok, Err}
use Rattle.verdict.specs.Answers.{answer_number, after_verdict}
use Rattle.verdict.proofs.Questions.{no_fault}
use Rattle.x2_layout.specs.Layout.{layout_of}
use Rattle.x2_layout.specs.inner.Regions.{Regions}
use Rattle.x2_layout.proofs.Regions.{regions}
use Rattle.x2_layout.proofs.Bounds.{regions_bounded}
use Rattle.x2_obeys.specs.Links.{Target}
use Rattle.x2_verdict.specs.Facts.{verdict_of}
use Rattle.x2_verdict.specs.Obeys.{Obeys}
use Rattle.x2_verdict.proofs.Questions.{verdict_obeys}
use Rattle.route_graph.specs.declared.Object.{Object}
use Rattle.route_graph.specs.Links.{Joined}
use Rattle.route_graph.specs.Objects.{object_at, boundary_starts, offset_most}
use Rattle.route_walks.specs.declared.Tally.{Tally}
use Rattle.route_walks.specs.Legal.{Walk, Route}
use Rattle.route_walks.specs.Walks.{words_of}
use Rattle.route_walks.specs.Lent.{room_of}
use Rattle.route_walks.specs.All.{Exactly, Number}
use Rattle.std.specs.Prelude.{Ok, Err}
use Rattle.route_lister.specs.Answered.{RoutesAnswer, limit_of, refused_for, judged, answer_at, answer_of, answer_in, left_in, routes_answer}
use Rattle.route_lister.specs.Listing.{Within, Listing}
use Rattle.route_theorems.proofs.Listing.{no_room_iff as room-iff}
use Rattle.route_theorems.proofs.Listing.{listing, question_iff, steps_iff, kept}
use Rattle.route_question.specs.Routes.{routes_asked, left_asked}
use Rattle.route_theorems.proofs.Links.{joined, boundary_place}

-- only from a boundary is anything else answered than 13
from_boundary : (v : ℕ → Object) (b : Bool) (start limit budget room : ℕ) (r : RoutesAnswer) → answer_of v b start limit budget room ≡ r → ¬ (answer_number (routes_answer r) ≡ 13) → b ≡ true
unfolding answer_at judged
from_boundary v true start limit budget room r e n = refl
from_boundary v false start limit budget room r e n = absurd (n (ap answer_number (ap routes_answer (sym e))))

keeps :
    (w : Verdict) (f : List ℕ) (start limit budget : ℕ) (out : List ℕ) (u : Fault) → after_verdict Err w (answer_in f (layout_of f) start limit budget (room_of out)) ≡ Err u
    → after_verdict (λ (t : Fault). out) w (left_in f (layout_of f) start limit budget out) ≡ out
keeps (Err t) f start limit budget out u e = refl
keeps (Ok tt) f start limit budget out u e = kept (object_at f (layout_of f)) (boundary_starts (layout_of f) start) start limit budget out u e

-- THEOREM: a refusal leaves every byte lent as it was
pub refused_keeps : (f : List ℕ) (start limit budget : ℕ) (out : List ℕ) (u : Fault) → routes_asked f start limit budget (room_of out) ≡ Err u → left_asked f start limit budget out ≡ out
unfolding routes_asked left_asked
refused_keeps f start limit budget out u e = keeps (verdict_of f) f start limit budget out u e

module _ (f : List ℕ) (e : verdict_of f ≡ Ok tt) where
  obeys : Obeys f
  obeys = verdict_obeys f e

  pub whole : Regions f (layout_of f)
  whole = regions f obeys.layout

  pub small : (layout_of f).end ≤ offset_most
  small = (regions_bounded f (layout_of f) whole obeys.most).end

  pub linked : Joined (object_at f (layout_of f)) (Target f (layout_of f))
  linked = joined f (layout_of f) whole obeys.targets obeys.returns

  pub place : (x : ℕ) → boundary_starts (layout_of f) x ≡ true → Target f (layout_of f) x
  place x b = boundary_place f (layout_of f) whole obeys.targets obeys.returns small x b

  asked_is : (start limit budget room : ℕ) → routes_asked f start limit budget room ≡ answer_in f (layout_of f) start limit budget room
  unfolding routes_asked
  asked_is start limit budget room = no_fault Err (verdict_of f) _ e

  left_is : (start limit budget : ℕ) (out : List ℕ) → left_asked f start limit budget out ≡ left_in f (layout_of f) start limit budget out
  unfolding left_asked
  left_is start limit budget out = no_fault (λ (t : Fault). out) (verdict_of f) _ e

  -- THEOREM: an answer lists every legal route once, in order, and nothing else
  pub listed : (start limit budget : ℕ) (out : List ℕ) (t : Tally) → routes_asked f start limit budget (room_of out) ≡ Ok t
      → Listing (object_at f (layout_of f)) start (limit_of limit) budget t out (left_asked f start limit budget out)
  listed start limit budget out t q =
      let a = sym (asked_is start limit budget (room_of out)) ∙ q in
      let b = from_boundary (object_at f (layout_of f)) (boundary_starts (layout_of f) start) start limit budget (room_of out) (Ok t) a (λ z. omega arith) in
      subst⁻¹ (Listing (object_at f (layout_of f)) start (limit_of limit) budget t out) (left_is start limit budget out)
      (listing (object_at f (layout_of f)) (Target f (layout_of f)) linked start (place start b) (boundary_starts (layout_of f) start) limit budget out t a)

  -- THEOREM: 13 exactly where the question is not in range
  pub out_of_range_iff : (start limit budget room : ℕ) → (routes_asked f start limit budget room ≡ refused_for Question) ↔ (¬ Within (boundary_starts (layout_of f) start) (limit_of limit) budget)
  out_of_range_iff start limit budget room =
      rw (asked_is start limit budget room) (question_iff (object_at f (layout_of f)) (boundary_starts (layout_of f) start) start limit budget room)

  -- a refusal that is answered from a boundary alone, exactly where B holds
  from_start : (start limit budget room : ℕ) (u : Reason) (B : Type 0) → ¬ (number_of u ≡ 13) → (B → boundary_starts (layout_of f) start ≡ true)
      → (boundary_starts (layout_of f) start ≡ true → (answer_in f (layout_of f) start limit budget room ≡ refused_for u) ↔ B)
      → (routes_asked f start limit budget room ≡ refused_for u) ↔ B
  from_start start limit budget room u B n b h =
      rw (asked_is start limit budget room) (
        (λ e. (h (from_boundary (object_at f (layout_of f)) (boundary_starts (layout_of f) start) start limit budget room (refused_for u) e n)).0 e),
        (λ p. (h (b p)).1 p),
      )

  module _ (start limit budget room n : ℕ) (number : Number (Walk (object_at f (layout_of f)) start (limit_of limit)) n) where
    -- THEOREM: 14 exactly where the question is in range and the legal partial walks outnumber the budget
    pub too_many_iff : (routes_asked f start limit budget room ≡ refused_for Steps) ↔ (Within (boundary_starts (layout_of f) start) (limit_of limit) budget × (budget < n))
    too_many_iff =
        from_start start limit budget room Steps (Within (boundary_starts (layout_of f) start) (limit_of limit) budget × (budget < n)) (λ z. omega arith) (λ p. p.0.boundary)
        (λ b. steps_iff (object_at f (layout_of f)) (Target f (layout_of f)) linked start (place start b) (boundary_starts (layout_of f) start) limit budget room n number)

    -- THEOREM: 15 exactly where the question is in range, the legal partial walks are at most the budget, and the words of all legal routes are
    -- more than find room
    pub no_room_iff : (routes : List (List ℕ)) → Exactly (Route (object_at f (layout_of f)) start (limit_of limit)) routes
        → (routes_asked f start limit budget room ≡ refused_for Room) ↔ (Within (boundary_starts (layout_of f) start) (limit_of limit) budget × (n ≤ budget) × (room < length (words_of routes)))
    no_room_iff routes exactly =
        from_start start limit budget room Room (Within (boundary_starts (layout_of f) start) (limit_of limit) budget × (n ≤ budget) × (room < length (words_of routes))) (λ z. omega arith) (λ p. p.0.boundary)
        (λ b. room-iff (object_at f (layout_of f)) (Target f (layout_of f)) linked start (place start b) (boundary_starts (layout_of f) start) limit budget room n number routes exactly)
