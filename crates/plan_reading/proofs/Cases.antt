-- What a route says with the lines above it, by the three tests.
use Prim.Native.Nat.{ℕ, ◌+◌, ◌-◌, min, ◌≤◌, ◌<◌}
use native.Mathlib.Numerals.{add-one}
use mathlib.Core.Path.{◌≡◌, refl, sym, ◌∙◌}
use mathlib.Core.Bool.{Bool, true, false}
use mathlib.Core.List.{List, [], ◌∷◌}
use lib.ListN.{length, get_or, take}
use lib.Dec.{leb}
use borrow.Author.Tests.{le-leb, lt-leb}
use Rattle.std.specs.Prelude.{Ok}
use Rattle.plan_lines.specs.declared.Slip.TheVariants as slip
use Rattle.plan_routes.specs.Routes.{routes_in, among}
use Rattle.plan_reading.specs.declared.Reading.{Reading}
use Rattle.plan_reading.specs.declared.Said.TheVariants as said
use Rattle.plan_reading.specs.declared.Taken.{Taken}
use Rattle.plan_reading.specs.Reading.{is_elsewhere, first_of, laid, wrong_by, route_by, route_taken, route_laid, route_left}

pub first-is : (route : List ℕ) → get_or route 0 0 ≡ first_of route
unfolding first_of
first-is [] = refl
first-is (x ∷ route) = refl

-- ---- the ways out of `take_route`

module _ (route : List ℕ) (r : Reading) (plan : List ℕ) (t : Taken) (b : Bool) (tested : b ≡ is_elsewhere route r.start) where
  pub elsewhere : b ≡ true → t ≡ wrong_by slip.Elsewhere r → (t ≡ route_taken route r plan) × (plan ≡ route_left route r plan)
  unfolding route_by route_laid
  elsewhere h e = (e ∙ rw (sym tested ∙ h) refl, rw (sym tested ∙ h) refl)

  module _ (here : b ≡ false) (at : ℕ) (ends : at ≡ min r.words (length plan)) (a : Bool) (looked : a ≡ among (routes_in (take at plan)) route) where
    there : is_elsewhere route r.start ≡ false
    there = sym tested ∙ here

    seen : among (routes_in (take (min r.words (length plan)) plan)) route ≡ a
    seen = sym (rw ends at looked)

    pub again : a ≡ true → t ≡ wrong_by slip.Again r → (t ≡ route_taken route r plan) × (plan ≡ route_left route r plan)
    unfolding route_by route_laid
    again h e = (e ∙ rw (there, seen, h) refl, rw (there, seen, h) refl)

    module _ (new : a ≡ false) where
      pub full : length plan - at ≤ length route → t ≡ wrong_by slip.NoRoom r → (t ≡ route_taken route r plan) × (plan ≡ route_left route r plan)
      unfolding route_by route_laid
      full h e =
          let f : leb (length plan - min r.words (length plan)) (length route) ≡ true = le-leb _ _ (rw ends at h) in
          (e ∙ rw (there, seen, new, f) refl, rw (there, seen, new, f) refl)

      pub taken : (after : List ℕ) → length route < length plan - at → after ≡ laid route at plan
          → t ≡ record { said = Ok (said.Route (get_or route 0 0)); reading = record { start = r.start; words = at + (length route + 1) } }
          → (t ≡ route_taken route r plan) × (after ≡ route_left route r plan)
      unfolding route_by route_laid
      taken after h l e =
          let f : leb (length plan - min r.words (length plan)) (length route) ≡ false = lt-leb _ _ (rw ends at h) in
          (e ∙ rw (there, seen, new, f, first-is route, ← ends, add-one (length route)) refl, l ∙ rw (there, seen, new, f, ← ends) refl)
