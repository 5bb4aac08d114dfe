-- The three numbers tell what the layout tells: each region of the layout is tested, and regions of objects with the same links are one.
use Prim.Native.Nat.{ℕ, max}
use native.Mathlib.Omega.{arith}
use mathlib.Core.Path.{◌≡◌, refl}
use mathlib.Core.Bool.{Bool, true, false, cond, ◌||◌}
use mathlib.Core.List.{List}
use lib.Dec.{ltb}
use borrow.Author.Tests.{ltb-true, lt-ltb, ltb-false, le-ltb}
use Rattle.x2_records.specs.declared.Kind.TheVariants as kind
use Rattle.x2_layout.specs.declared.Layout.{Layout}
use Rattle.x2_layout.specs.Records.{kind_at}
use Rattle.route_graph.specs.Objects.{view_at, object_at}
use Rattle.route_graph.specs.inner.Ends.{ends_of, kind_in, object_in}

-- a place lies before the later of two where it lies before one of them
below_max : (x a b : ℕ) → ltb x (max a b) ≡ (ltb x a || ltb x b)
below_max x a b = go (ltb x a) (ltb x b) refl refl
  where
    go : (p q : Bool) → ltb x a ≡ p → ltb x b ≡ q → ltb x (max a b) ≡ (p || q)
    go true q h k = let m = ltb-true x a h in lt-ltb x (max a b) (omega arith)
    go false true h k = let m = ltb-true x b k in lt-ltb x (max a b) (omega arith)
    go false false h k = let m = ltb-false x a h in let n = ltb-false x b k in le-ltb x (max a b) (omega arith)

object_same : (f : List ℕ) (l : Layout) (at : ℕ) → object_in f (ends_of l) at ≡ object_at f l at
unfolding object_in kind_in ends_of object_at kind_at view_at
object_same f l at =
    rw (below_max at l.ends l.turnouts, below_max at (max l.signals l.joints) l.sidings, below_max at l.signals l.joints)
    (go (ltb at l.ends) (ltb at l.turnouts) (ltb at l.balises) (ltb at l.signals) (ltb at l.joints) (ltb at l.sidings))
  where
    go : (a b c d e g : Bool)
        → view_at f (cond (a || b) kind.EndBoundary (cond c kind.Turnout (cond ((d || e) || g) kind.Balise kind.Siding))) at
        ≡ view_at f (cond a kind.StartBoundary (cond b kind.EndBoundary (cond c kind.Turnout (cond d kind.Balise (cond e kind.Signal (cond g kind.Joint kind.Siding)))))) at
    go true b c d e g = refl
    go false true c d e g = refl
    go false false true d e g = refl
    go false false false true e g = refl
    go false false false false true g = refl
    go false false false false false true = refl
    go false false false false false false = refl

-- THEOREM: what stands at each place is the same
pub same_objects : (f : List ℕ) (l : Layout) → object_in f (ends_of l) ≡ object_at f l
same_objects f l = λ i at. object_same f l at i
