-- The test that the code makes of a link's return is the one that the definition has.
use Prim.Native.Nat.{ℕ}
use mathlib.Core.Path.{◌≡◌, ap, ◌∙◌}
use mathlib.Core.Bool.{Bool}
use mathlib.Core.List.{List}
use Rattle.verdict.specs.Facts.{test}
use Rattle.x2_records.specs.declared.Kind.{Kind}
use Rattle.x2_records.specs.Records.{link_places}
use Rattle.x2_layout.specs.declared.Layout.{Layout}
use Rattle.x2_layout.specs.Records.{kind_at}
use Rattle.x2_links.specs.Links.{link_at, some_names, links_to}

pub returned_is : (f : List ℕ) (l : Layout) (at p x : ℕ) (k : Kind) (b : Bool) → x ≡ link_at f p → k ≡ kind_at l x → b ≡ test (some_names f (link_places k x) at)
    → b ≡ test (links_to f (kind_at l (link_at f p)) (link_at f p) at)
unfolding links_to
returned_is f l at p x k b e d n =
    n ∙ ap (λ (j : Kind). test (some_names f (link_places j x) at)) d ∙ ap (λ (y : ℕ). test (some_names f (link_places (kind_at l y) y) at)) e
