-- A plan that is read from its first line on has whole routes, none twice, and they are those of the lines that say one; so the number of
-- missing routes is what it is said to be for every plan that is read.
use Prim.Native.Nat.{ℕ, suc, ◌+◌, ◌≤◌}
use native.Mathlib.Omega.{arith}
use mathlib.Core.Path.{◌≡◌, refl, sym, ap, ◌∙◌}
use mathlib.Core.Bool.{Bool, true, false, true≢false}
use mathlib.Core.Logic.{⊎_elim}
use mathlib.Core.List.{
  List,
  [],
  ◌∷◌,
  ◌++◌,
  append_assoc,
  append-nil,
  Memᴰ,
}
use lib.ListN.{length, take, drop, length-append}
use lib.Seq.{length-take-le, take_at}
use Rattle.std.specs.Prelude.{Option, None, Some, Result, Ok, Err}
use Rattle.route_walks.specs.Legal.{NoneTwice}
use Rattle.route_walks.specs.Walks.{words_of}
use Rattle.route_walks.specs.All.{Number}
use Rattle.plan_lines.specs.declared.Line.{Line}
use Rattle.plan_lines.specs.declared.Line.TheVariants as line
use Rattle.plan_lines.specs.declared.Slip.{Slip}
use Rattle.plan_lines.specs.declared.Slip.TheVariants as slip
use Rattle.plan_lines.specs.Lines as lines
use Rattle.plan_lines.specs.Lines.{route_least, route_most, words_in, line_of, offsets_in}
use Rattle.plan_lines.proofs.Lent.{line_told}
use Rattle.plan_lines.proofs.Stores.{offsets_length}
use Rattle.plan_routes.specs.Routes.{routes_in, routes_after, among}
use Rattle.plan_routes.proofs.Listed.{routes_back}
use Rattle.plan_reading.specs.declared.Reading.{Reading}
use Rattle.plan_reading.specs.declared.Said.{Said}
use Rattle.plan_reading.specs.declared.Said.TheVariants as said
use Rattle.plan_reading.specs.declared.Taken.{Taken}
use Rattle.plan_reading.specs.Reading.{is_elsewhere, end_of, routes_so_far, is_full, route_by, route_taken, taken_by, taken_of, laid, route_laid, route_left, left_by, plan_after}
use Rattle.plan_reading.proofs.After.{within}
use Rattle.plan_question.specs.declared.Compared.{Compared as Counts}
use Rattle.plan_question.specs.Compared.{compared_asked}
use Rattle.plan_theorems.specs.Agree.{Legal, Planned, From}
use Rattle.plan_reading.specs.ReadPlan.{ReadPlan, unread, said_by, after_line, read_lines}
use Rattle.plan_theorems.specs.PlanRoutes.{plan_words, plan_routes, route_said, routes_said, Whole}
use Rattle.plan_theorems.proofs.Standing.{among_iff}
use Rattle.plan_theorems.proofs.Agreed.{counted}

-- ---- one route more

words_more : (rs : List (List ℕ)) (r : List ℕ) → words_of (rs ++ (r ∷ [])) ≡ words_of rs ++ (length r ∷ r)
unfolding words_of
words_more [] r = ap (λ (l : List ℕ). length r ∷ l) (append-nil r)
words_more (q ∷ rs) r =
    ap (λ (l : List ℕ). length q ∷ (q ++ l)) (words_more rs r) ∙ ap (λ (l : List ℕ). length q ∷ l) (sym (append_assoc q (words_of rs) (length r ∷ r)))

once_more : (rs : List (List ℕ)) (r : List ℕ) → NoneTwice rs → ¬ Memᴰ r rs → NoneTwice (rs ++ (r ∷ []))
unfolding NoneTwice
once_more [] r d n = (λ m. mathlib.Core.List.Memᴰ.not-nil m, tt)
once_more (q ∷ rs) r d n = (
  λ m. ⊎_elim (λ k. d.0 k) (λ k. n (mathlib.Core.List.Memᴰ.head (sym (mathlib.Core.List.Memᴰ.eq_of_singleton k)))) (mathlib.Core.List.Memᴰ.append_cases rs m),
  once_more rs r d.1 (λ m. n (mathlib.Core.List.Memᴰ.tail m)),
)

-- ---- one line more

abbrev read_to : Reading → List ℕ → ReadPlan
read_to r plan = record { reading = r; lent = plan }

abbrev Sized : List ℕ → Type 0
Sized route = (route_least ≤ length route) × (length route ≤ route_most)

-- what a line makes of a plan with these routes
record Next (rs : List (List ℕ)) (route : List ℕ) (t : Taken) (left : List ℕ) : Type 0 where
  whole : Whole (read_to t.reading left)
  routes : plan_routes (read_to t.reading left) ≡ rs ++ route_said t.said route

module _ (r : Reading) (plan : List ℕ) (w : Whole (read_to r plan)) (route : List ℕ) where
  abbrev so_far : List (List ℕ)
  so_far = plan_routes (read_to r plan)

  -- the words stay
  same_words : (s : Result Said Slip) (start : Option ℕ) → route_said s route ≡ [] → Next so_far route (record { said = s; reading = record { start = start; words = r.words } }) plan
  same_words s start e = record {
    whole = record { within = w.within; whole = w.whole; once = w.once; sizes = w.sizes };
    routes = rw e (sym (append-nil so_far));
  }

  -- a route is put after those so far
  module _ (at : ℕ) (ends : at ≡ r.words) where
    front_length : length (take at plan ++ (length route ∷ route)) ≡ at + suc (length route)
    front_length = omega (arith, length-append (take at plan) (length route ∷ route), length-take-le at plan (omega (arith, ends, w.within)))

    words_put : take (at + suc (length route)) (laid route at plan) ≡ words_of (so_far ++ (route ∷ []))
    words_put =
        take_at (take at plan ++ (length route ∷ route)) (drop (at + suc (length route)) plan) (at + suc (length route)) front_length
        ∙ ap (λ (k : ℕ). take k plan ++ (length route ∷ route)) ends
        ∙ ap (λ (l : List ℕ). l ++ (length route ∷ route)) w.whole
        ∙ sym (words_more so_far route)

    routes_put : routes_in (take (at + suc (length route)) (laid route at plan)) ≡ so_far ++ (route ∷ [])
    routes_put = ap routes_in words_put ∙ routes_back (so_far ++ (route ∷ []))

    route_put : (first : ℕ) → at + suc (length route) ≤ length (laid route at plan) → ¬ Memᴰ route so_far → Sized route
        → Next so_far route (record { said = Ok (said.Route first); reading = record { start = r.start; words = at + suc (length route) } }) (laid route at plan)
    unfolding route_said
    route_put first h new size = record {
      whole = record {
        within = h;
        whole = words_put ∙ ap words_of (sym routes_put);
        once = rw routes_put (once_more so_far route w.once new);
        sizes = rw routes_put (λ q m. ⊎_elim (w.sizes q) (λ k. let e : q ≡ route = mathlib.Core.List.Memᴰ.eq_of_singleton k in rw e size) (mathlib.Core.List.Memᴰ.append_cases so_far m));
      };
      routes = routes_put;
    }

  by_route : Sized route → (route_taken route r plan).reading.words ≤ length (route_left route r plan) → Next so_far route (route_taken route r plan) (route_left route r plan)
  unfolding route_by route_laid route_said
  by_route size h = by_tests (is_elsewhere route r.start) (among (routes_so_far r plan) route) (is_full route r plan) refl h
    where
      ends : end_of r plan ≡ r.words
      ends = omega (arith, w.within)

      by_tests : (e a f : Bool) → among (routes_so_far r plan) route ≡ a → (route_by e a f route r plan).reading.words ≤ length (route_laid e a f route (end_of r plan) plan)
          → Next so_far route (route_by e a f route r plan) (route_laid e a f route (end_of r plan) plan)
      by_tests true a f q k = same_words _ r.start refl
      by_tests false true f q k = same_words _ r.start refl
      by_tests false false true q k = same_words _ r.start refl
      by_tests false false false q k =
          let new : ¬ Memᴰ route so_far = λ m. true≢false (sym ((among_iff so_far route).1 m) ∙ rw ends at q) in
          route_put (end_of r plan) ends _ k new size

  by_line : (l : Result Line Slip) → ((n : ℕ) → l ≡ Ok (line.Route n) → Sized route) → (taken_by l route r plan).reading.words ≤ length (left_by l route r plan)
      → Next so_far route (taken_by l route r plan) (left_by l route r plan)
  unfolding taken_by left_by route_said
  by_line (Ok line.Empty) size h = same_words (Ok said.Nothing) r.start refl
  by_line (Ok (line.From start)) size h = same_words (Ok (said.Start start)) (Some start) refl
  by_line (Ok (line.Route n)) size h = by_route (size n refl) h
  by_line (Err slip.From) size h = same_words _ None refl
  by_line (Err s) size h = same_words (Err s) r.start refl

next : (p : ReadPlan) → Whole p → (text : List ℕ) → Next (plan_routes p) (offsets_in text) (taken_of text p.reading p.lent) (plan_after text p.reading p.lent)
next p w text =
    let k = within text p.reading p.lent w.within in
    by_line p.reading p.lent w (offsets_in text) (line_of text) size (rw k.0 k.1)
  where
    -- a route has 2 to 512 offsets
    size : (n : ℕ) → line_of text ≡ Ok (line.Route n) → Sized (offsets_in text)
    size n e =
        let t = line_told (words_in (lines.said text)) n e in
        let l = offsets_length (words_in (lines.said text)) in
        (omega arith, omega arith)

-- THEOREM: a line adds its route where it says one, and nothing else
pub line_adds : (p : ReadPlan) → Whole p → (text : List ℕ) → plan_routes (after_line text p) ≡ plan_routes p ++ route_said (said_by text p) (offsets_in text)
line_adds p w text = (next p w text).routes

-- ---- all lines

unread_whole : (lent : List ℕ) → Whole (unread lent)
unfolding routes_after words_of NoneTwice
unread_whole lent = record { within = omega arith; whole = refl; once = tt; sizes = λ w m. absurd (mathlib.Core.List.Memᴰ.not-nil m) }

-- THEOREM: lines leave a plan whole that is whole
pub whole_after : (texts : List (List ℕ)) (p : ReadPlan) → Whole p → Whole (read_lines texts p)
unfolding read_lines
whole_after [] p w = w
whole_after (text ∷ texts) p w = whole_after texts (after_line text p) (next p w text).whole

routes_after_lem : (texts : List (List ℕ)) (p : ReadPlan) → Whole p → plan_routes (read_lines texts p) ≡ plan_routes p ++ routes_said texts p
unfolding read_lines routes_said
routes_after_lem [] p w = sym (append-nil (plan_routes p))
routes_after_lem (text ∷ texts) p w =
    let n = next p w text in
    let more = routes_said texts (after_line text p) in
    routes_after_lem texts (after_line text p) n.whole
    ∙ ap (λ (rs : List (List ℕ)). rs ++ more) n.routes
    ∙ append_assoc (plan_routes p) (route_said (said_by text p) (offsets_in text)) more

-- THEOREM: whatever lines are read, and whatever words are lent, the plan has whole routes of 2 to 512 objects, and none twice
pub read_whole : (texts : List (List ℕ)) (lent : List ℕ) → Whole (read_lines texts (unread lent))
read_whole texts lent = whole_after texts (unread lent) (unread_whole lent)

-- THEOREM: they are the routes of the lines that say one, in the order of the lines
pub read_routes : (texts : List (List ℕ)) (lent : List ℕ) → plan_routes (read_lines texts (unread lent)) ≡ routes_said texts (unread lent)
unfolding routes_after
read_routes texts lent = routes_after_lem texts (unread lent) (unread_whole lent)

-- THEOREM: beside a plan that is read, the number of missing routes is that of its routes from the start that are not legal
pub missing_read : (texts : List (List ℕ)) (lent f : List ℕ) (start limit budget room : ℕ) (c : Counts)
    → compared_asked f start limit budget (plan_words (read_lines texts (unread lent))) room ≡ Ok c
    → Number (λ w. Planned (plan_words (read_lines texts (unread lent))) w × From start w × (¬ Legal f start limit w)) c.missing
missing_read texts lent f start limit budget room c e =
    (counted f (plan_words (read_lines texts (unread lent))) start limit budget room c e).missing (read_whole texts lent).once
