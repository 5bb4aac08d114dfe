-- The places of a list of facts, part by part: of two lists, of the facts of each number of a list, of one list or another. What is reported of
-- such a list, the first fact that fails, has its place below the number.
use Prim.Native.Nat.{ℕ, ◌<◌}
use mathlib.Core.Path.{refl}
use mathlib.Core.Bool.{Bool, true, false, cond}
use mathlib.Core.List.{List, [], ◌∷◌, ◌++◌, flat_map, Memᴰ}
use Rattle.std.specs.Prelude.{Ok, Err}
use Rattle.verdict.specs.Facts.{test, Holds, Fact, fact, first_fault, AllHold}
use Rattle.verdict.specs.Reasons.{shown_of, place_in}
use Rattle.verdict.proofs.Facts.{Agrees, agrees}
use Rattle.places.specs.Places.{PlacesBelow}

module _ (n : ℕ) where
  pub below_append : (a b : List Fact) → PlacesBelow n a → (AllHold a → PlacesBelow n b) → PlacesBelow n (a ++ b)
  unfolding AllHold
  below_append [] b p q = q tt
  below_append (fact c m ∷ fs) b p q = (p.0, λ h. below_append fs b (p.1 h) (λ g. q (h, g)))

  -- where the second list does not lean on the first
  pub below_both : (a b : List Fact) → PlacesBelow n a → PlacesBelow n b → PlacesBelow n (a ++ b)
  below_both a b p q = below_append a b p (λ _. q)

  pub below_each : (g : ℕ → List Fact) (xs : List ℕ) → ((x : ℕ) → Memᴰ x xs → PlacesBelow n (g x)) → PlacesBelow n (flat_map g xs)
  unfolding flat_map
  below_each g [] h = tt
  below_each g (x ∷ xs) h =
      below_both (g x) (flat_map g xs) (h x (Memᴰ.head refl)) (below_each g xs (λ y m. h y (Memᴰ.tail m)))

  pub below_if : (t : Bool) (a b : List Fact) → PlacesBelow n a → PlacesBelow n b → PlacesBelow n (cond t a b)
  below_if true a b p q = p
  below_if false a b p q = q

  -- what is reported; an accepted answer has the place 0
  pub fault_below : 0 < n → (fs : List Fact) → PlacesBelow n fs → place_in (shown_of (first_fault fs)) < n
  unfolding first_fault
  fault_below z [] p = z
  fault_below z (fact c m ∷ fs) p = go (test c) (agrees c) (λ h. fault_below z fs (p.1 h))
    where
      go : (t : Bool) → Agrees t (Holds c) → (Holds c → place_in (shown_of (first_fault fs)) < n) → place_in (shown_of (cond t (first_fault fs) (Err m))) < n
      go true a ih = ih a
      go false a ih = p.0
