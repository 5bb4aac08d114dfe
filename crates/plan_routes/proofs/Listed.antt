-- The words of some routes, as a list has them (crate route_walks), are read back as these routes.
use Prim.Native.Nat.{ℕ}
use mathlib.Core.Path.{◌≡◌, refl, sym, ap, ap₂, ◌∙◌}
use mathlib.Core.List.{List, [], ◌∷◌, ◌++◌}
use lib.ListN.{length}
use lib.Seq.{take-append_seam, drop-append_seam}
use Rattle.route_walks.specs.Walks.{words_of}
use Rattle.plan_routes.specs.Routes.{routes_after, routes_in}
use Rattle.plan_routes.proofs.Words.{first_route}

-- THEOREM: the words of some routes are read back as these routes
pub routes_back : (rs : List (List ℕ)) → routes_in (words_of rs) ≡ rs
unfolding words_of routes_after
routes_back [] = refl
routes_back (r ∷ rs) =
    first_route (length r) (r ++ words_of rs)
    ∙ ap₂ (λ (q : List ℕ) (qs : List (List ℕ)). q ∷ qs)
    (take-append_seam r (words_of rs))
    (ap routes_in (drop-append_seam r (words_of rs)) ∙ routes_back rs)

-- so no two lists of routes have the same words
pub words_one_way : (rs qs : List (List ℕ)) → words_of rs ≡ words_of qs → rs ≡ qs
words_one_way rs qs e = sym (routes_back rs) ∙ ap routes_in e ∙ routes_back qs
