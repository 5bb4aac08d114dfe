-- The open choices of the second lister: the walks that are still to be found are those that go on by each of them, the one put last first.
use Rattle.std.specs.Prelude.{ℕ, zero, suc, ◌+◌, ◌-◌, ◌≤◌, ◌<◌, ◌≡◌, Bool, true, false, cond, not, ◌&&◌, List, [], ◌∷◌, ◌++◌, length, get_or, take, eqb, ltb}
use Rattle.route_graph.specs.declared.Object.{Object}
use Rattle.route_graph.specs.declared.regions.Ends.{Ends}
use Rattle.route_graph.specs.inner.Ends.{object_in}
use Rattle.route_walks.specs.declared.Tally.{Tally}
use Rattle.route_walks.specs.Walks.{has, walks}
use Rattle.route_walks.specs.Lent.{lays}
use Rattle.route_walks.specs.Range.{limit_most}
use Rattle.route_walks.specs.inner.Grown.{Counted, Grown}
use Rattle.route_lister.specs.declared.choices.Choice.{Choice}

-- ---- the arrays

-- the choice at an index of the two arrays
abbrev pub choice_at : List ℕ → List ℕ → ℕ → Choice
choice_at objects links i = record { objects = get_or objects i 0; link = get_or links i 0 }

-- the first n choices, the last one first
unfoldable pub open_of : List ℕ → List ℕ → ℕ → List Choice
open_of objects links zero = []
open_of objects links (suc n) = choice_at objects links n ∷ open_of objects links n

-- the choices that a walk of n objects has by some links
unfoldable pub choices_of : ℕ → List ℕ → List Choice
choices_of n [] = []
choices_of n (x ∷ xs) = record { objects = n; link = x } ∷ choices_of n xs

-- both arrays have their whole length
pub record Sized (objects links : List ℕ) : Type 0 where
  pub objects_are : length objects ≡ limit_most
  pub links_are : length links ≡ limit_most

-- the choices of a walk of n objects by the links xs are put above the first k: the arrays become objects' and links', and m choices are open
pub record Put (n : ℕ) (xs : List ℕ) (k m : ℕ) (objects links objects' links' : List ℕ) : Type 0 where
  pub sized : Sized objects' links'
  pub number : m ≡ k + length xs
  pub choices : open_of objects' links' m ≡ choices_of n xs ++ open_of objects links k

-- ---- what is still to be found

-- the walks that go on by a choice
abbrev pub walks_by : (ℕ → Object) → ℕ → List ℕ → Choice → List (List ℕ)
walks_by v limit path c = walks v (limit - c.objects) (take c.objects path) (get_or path (c.objects - 1) 0) c.link

-- the walks that go on by some choices
unfoldable pub walks_by_all : (ℕ → Object) → ℕ → List ℕ → List Choice → List (List ℕ)
walks_by_all v limit path [] = []
walks_by_all v limit path (c ∷ cs) = walks_by v limit path c ++ walks_by_all v limit path cs

-- the walk of a choice is at most as long as that of the one above it, and at most n objects; it has more objects than there are choices below
-- it, so that the arrays have room
unfoldable pub Stacked : ℕ → List Choice → Type 0
Stacked n [] = Unit {0}
Stacked n (c ∷ cs) = (c.objects ≤ n) × (length cs < c.objects) × Stacked c.objects cs

-- ---- one choice

-- the walk p of n objects goes on by a link
unfoldable pub goes_on : List ℕ → ℕ → ℕ → ℕ → Bool
goes_on p n link limit = not (eqb link 0) && (ltb n limit && not (has p link))

-- r is t with one walk more of n objects, which is a route or not
unfoldable pub Taken : Bool → ℕ → Tally → Tally → Type 0
Taken true n t r = Counted 1 1 (n + 1) t r
Taken false n t r = Counted 1 0 0 t r

-- the bytes lent after that walk, w
abbrev pub taken_bytes : Bool → List ℕ → ℕ → ℕ → List ℕ → List ℕ
taken_bytes route out at n w = cond route (lays out at (n ∷ w)) out

-- ---- all

abbrev pub one_walk : Tally
one_walk = record { walks = 1; routes = 0; words = 0 }

-- the tally is r, and out becomes out', by the walks that go on from the first object of the path by a link
abbrev pub TakenUp : List ℕ → Ends → ℕ → ℕ → ℕ → List ℕ → Tally → List ℕ → List ℕ → Type 0
TakenUp f e first limit budget path r out out' =
    Grown (object_in f e) (walks (object_in f e) (limit - 1) (take 1 path) (get_or path 0 0) first) budget one_walk r out out'
