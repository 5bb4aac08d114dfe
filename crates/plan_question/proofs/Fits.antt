-- Routes are compared only where they are listed; so the words of the list are among those lent, of which there are as many as before.
use Prim.Native.Nat.{ℕ, min, ◌≤◌}
use native.Mathlib.Omega.{arith}
use mathlib.Core.Path.{◌≡◌, refl, sym, ap, ◌∙◌}
use mathlib.Core.List.{List, ◌++◌}
use lib.ListN.{length, drop, length-append, length-drop}
use Rattle.std.specs.Prelude.{Result, Ok}
use Rattle.verdict.specs.declared.Fault.{Fault}
use Rattle.route_walks.specs.declared.Tally.{Tally}
use Rattle.route_walks.specs.Walks.{words_of}
use Rattle.route_lister.specs.Answered.{RoutesAnswer}
use Rattle.std.specs.Prelude.{Ok, Err}
use Rattle.route_question.specs.Routes.{routes_asked}
use Rattle.plan_routes.specs.Routes.{routes_in}
use Rattle.plan_question.specs.declared.Compared.{Compared as Counts}
use Rattle.plan_question.specs.Compared.{most_room, routes_from, counts_of, compared_by, compared_asked, leaves_by, left_compared}
use Rattle.plan_question.proofs.Told.{told}

pub compared_by_lem : (plan rs : List (List ℕ)) (start : ℕ) (c : Counts) (a : RoutesAnswer) → compared_by plan start rs a ≡ Ok c → (t : Tally) × (a ≡ Ok t) × (c ≡ counts_of plan start rs t)
unfolding compared_by
compared_by_lem plan rs start c (Ok t) e = (t, refl, cc)
compared_by_lem plan rs start c (Err u) e = let z : ◌≡◌ {A = ℕ} 0 1 = cc in absurd (omega arith)

pub words_fit : (f plan list list' : List ℕ) (start limit budget : ℕ) (a : Result Counts Fault) (c : Counts) → a ≡ compared_asked f start limit budget plan (length list) → a ≡ Ok c
    → list' ≡ left_compared f start limit budget list → c.words ≤ length list'
unfolding leaves_by
words_fit f plan list list' start limit budget a c e q l =
    let ws = words_of (routes_from f start limit) in
    let b = compared_by_lem (routes_in plan) (routes_from f start limit) start c (routes_asked f start limit budget (min (length list) most_room)) (sym e ∙ q) in
    let k = told f start limit budget b.0 (min (length list) most_room) b.1 in
    let n : c.words ≡ length ws = ap (λ (d : Counts). d.words) b.2 ∙ k.words in
    let m : list' ≡ ws ++ drop (length ws) list = l ∙ rw b.1 refl in
    omega (arith, n, k.fits, ap length m, length-append ws (drop (length ws) list), length-drop (length ws) list)
