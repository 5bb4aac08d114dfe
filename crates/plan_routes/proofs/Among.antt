-- Whether a route stands among others, and how many do not, by the first route and those after it; and whether a route is apart from others.
use Prim.Native.Nat.{ℕ, ◌+◌, ◌≤◌, ◌<◌}
use native.Mathlib.Omega.{arith}
use mathlib.Core.Path.{◌≡◌, refl, ap}
use mathlib.Core.Bool.{Bool, true, false, cond, ◌||◌}
use mathlib.Core.List.{List, [], ◌∷◌}
use lib.ListN.{length, get_or}
use lib.Dec.{eqb}
use Rattle.std.specs.List.{list_any, filter}
use Rattle.plan_routes.specs.Routes.{same_route, among, starts_at, is_apart, apart}

-- as a test that some of them pass, and as a test that picks some
pub among_any : (rs : List (List ℕ)) (r : List ℕ) → list_any (λ q. same_route q r) rs ≡ among rs r
unfolding among
among_any [] r = refl
among_any (q ∷ rs) r = ap (λ (t : Bool). same_route q r || t) (among_any rs r)

pub apart_filter : (rs : List (List ℕ)) (start : ℕ) (others : List (List ℕ)) → length (filter (λ r. is_apart r start others) rs) ≡ apart rs start others
unfolding apart
apart_filter [] start others = refl
apart_filter (r ∷ rs) start others = by_test (is_apart r start others) (apart_filter rs start others)
  where
    by_test : (b : Bool) → length (filter (λ q. is_apart q start others) rs) ≡ apart rs start others
        → length (cond b (r ∷ filter (λ q. is_apart q start others) rs) (filter (λ q. is_apart q start others) rs)) ≡ cond b 1 0 + apart rs start others
    by_test true e = omega arith
    by_test false e = omega arith

-- whether a route is from a start
pub no_start : (route : List ℕ) (start : ℕ) → length route < 1 → starts_at start route ≡ false
unfolding starts_at
no_start [] start h = refl
no_start (x ∷ route) start h = absurd (omega arith)

pub first_start : (route : List ℕ) (start : ℕ) → 1 ≤ length route → starts_at start route ≡ eqb (get_or route 0 0) start
unfolding starts_at
first_start [] start h = absurd (omega arith)
first_start (x ∷ route) start h = refl
