-- The routes in words, one at a time from a place on.
use Prim.Native.Nat.{ℕ, zero, suc, ◌<◌, min}
use native.Mathlib.Nat.{zero-min, min-zero, suc-min-suc}
use native.Mathlib.Omega.{arith}
use mathlib.Core.Path.{◌≡◌, refl, sym, ap, ap₂, ◌∙◌}
use mathlib.Core.List.{List, [], ◌∷◌}
use lib.ListN.{length, take, drop}
use Rattle.plan_routes.specs.Routes.{routes_after, routes_in, route_end}

-- words that are passed over are as if they were not there
passed_over : (n : ℕ) (ws : List ℕ) → routes_after n ws ≡ routes_in (drop n ws)
unfolding routes_after
passed_over zero ws = refl
passed_over (suc n) [] = refl
passed_over (suc n) (c ∷ ws) = passed_over n ws

-- no more are taken or passed over than there are
take_least : (n : ℕ) (l : List ℕ) → take (min n (length l)) l ≡ take n l
take_least zero l = rw (zero-min (length l)) refl
take_least (suc n) [] = rw (min-zero (suc n)) refl
take_least (suc n) (x ∷ l) = rw (suc-min-suc n (length l)) (ap (λ (r : List ℕ). x ∷ r) (take_least n l))

drop_least : (n : ℕ) (l : List ℕ) → drop (min n (length l)) l ≡ drop n l
drop_least zero l = rw (zero-min (length l)) refl
drop_least (suc n) [] = rw (min-zero (suc n)) refl
drop_least (suc n) (x ∷ l) = rw (suc-min-suc n (length l)) (drop_least n l)

-- the route whose count is the first word, and those after it
pub first_route : (c : ℕ) (ws : List ℕ) → routes_in (c ∷ ws) ≡ take c ws ∷ routes_in (drop c ws)
unfolding routes_after
first_route c ws = ap (λ (rs : List (List ℕ)). take c ws ∷ rs) (passed_over c ws)

-- the words of the first route, its count among them, and those after it
pub next_route : (ws : List ℕ) (end : ℕ) → 0 < length ws → end ≡ route_end ws 0 → routes_in ws ≡ drop 1 (take end ws) ∷ routes_in (drop end ws)
next_route [] end h e = absurd (omega arith)
next_route (c ∷ ws) end h e =
    let k : end ≡ suc (min c (length ws)) = omega arith in
    first_route c ws ∙ rw k (ap₂ (λ (r rest : List ℕ). r ∷ routes_in rest) (sym (take_least c ws)) (sym (drop_least c ws)))

-- without a word there is none
pub no_routes : (ws : List ℕ) → length ws ≡ 0 → routes_in ws ≡ []
unfolding routes_after
no_routes [] e = refl
no_routes (c ∷ ws) e = absurd (omega arith)
