-- The links of a kind, as a value, are those of its table.
use Prim.Native.Nat.{ℕ}
use mathlib.Core.Path.{◌≡◌, refl, ap, ◌∙◌}
use mathlib.Core.List.{List}
use Rattle.x2_records.specs.declared.Kind.{Kind}
use Rattle.x2_records.specs.declared.Kind.TheVariants as kind
use Rattle.x2_records.specs.declared.Links.{Links}
use Rattle.x2_records.specs.Records.{link_places, link_fields, places_in}

pub same_places : (k : Kind) (at : ℕ) → places_in (link_fields k at) ≡ link_places k at
same_places kind.StartBoundary at = refl
same_places kind.EndBoundary at = refl
same_places kind.Turnout at = refl
same_places kind.Balise at = refl
same_places kind.Signal at = refl
same_places kind.Joint at = refl
same_places kind.Siding at = refl

-- what is so of the places of a value that a kind's links are, is so of the places in its table
pub by_links : {A : Type 0} (g : List ℕ → A) (k : Kind) (at : ℕ) (ls : Links) (r : A) → ls ≡ link_fields k at → r ≡ g (places_in ls) → r ≡ g (link_places k at)
by_links g k at ls r e p = p ∙ ap (λ (x : Links). g (places_in x)) e ∙ ap g (same_places k at)
