-- The pass over the records of X.2, and the telling from where it stops: one turn of each loop, and its end. f is X.1, g is X.2.
use Prim.Native.Nat.{ℕ, ◌+◌, ◌≤◌, ◌<◌}
use mathlib.Core.Path.{◌≡◌, refl, sym, ap, ap₂, ◌∙◌, subst}
use mathlib.Core.Bool.{Bool, true, false, not, ◌&&◌, and-true}
use mathlib.Core.List.{List, [], ◌∷◌}
use native.Mathlib.Omega.{arith}
use lib.Dec.{leb}
use borrow.Author.Tests.{not-false}
use Rattle.octets.specs.Octets.{num_at}
use Rattle.verdict.specs.Verdicts.{Judged}
use Rattle.std.specs.Prelude.{Ok, Err, is_ok}
use Rattle.verdict.specs.declared.Mark.{Mark}
use Rattle.verdict.specs.Facts.{Fact, same, at_most, both, test, all_tests, first_fault}
use Rattle.verdict.proofs.Facts.{tests_append, tests_judged}
use Rattle.verdict.proofs.Orders as orders
use Rattle.tables.specs.Table.{value_of}
use Rattle.x1_records.specs.Rows as track
use Rattle.x1_lookup.specs.Lookup.{find_track}
use Rattle.std.specs.Prelude.{Option, Some, None}
use Rattle.x2_records.specs.declared.Kind.{Kind}
use Rattle.x2_layout.specs.declared.Layout.{Layout}
use Rattle.x2_layout.specs.Records.{kind_at, IsSize, each_record}
use Rattle.x2_layout.specs.inner.Bounds.{place_most, Bounded}
use Rattle.x2_layout.specs.inner.Walking.{Walking}
use Rattle.x2_layout.proofs.Walking.{walking_over, walking_fault}
use Rattle.x2_verdict.specs.inner.Passes.{Sort}
use Rattle.pair.specs.Pair.{Spot, lies, stands, present, reach, spot_facts, spots_facts, record_pair}
use Rattle.pair.specs.inner.Tracks.{Onward}

-- ---- the pass

-- a track that was found: its entry is at e, and n is its end
pub found_reaches :
    (f : List ℕ) {found : (Option ℕ)} {e n : ℕ} (x : ℕ) → found ≡ Some e → n ≡ value_of f e track.end_position → leb x n ≡ true
    → test (both (same (present found) 1) (at_most x (reach f found))) ≡ true
found_reaches f x is end h = rw is (ap (leb x) (sym end) ∙ h)

-- a position on its track: found is its track, x is the position
pub lies_passed :
    (f g : List ℕ) (at t p : ℕ) {found : (Option ℕ)} {x : ℕ} → found ≡ find_track f (num_at 1 g t) → x ≡ num_at 4 g p
    → test (both (same (present found) 1) (at_most x (reach f found))) ≡ true → all_tests (spot_facts f g at (lies t p)) ≡ true
lies_passed f g at t p is position e =
    ap (λ (b : Bool). test (same (present (find_track f (num_at 1 g t))) 1) && b) (and-true (test (at_most (num_at 4 g p) (reach f (find_track f (num_at 1 g t))))))
    ∙ sym (ap₂ (λ (w : Option ℕ) (y : ℕ). test (both (same (present w) 1) (at_most y (reach f w)))) is position) ∙ e

-- a track alone
pub stands_passed : (f g : List ℕ) (at t : ℕ) {found : (Option ℕ)} {b : Bool} → found ≡ find_track f (num_at 1 g t) → b ≡ test (same (present found) 1) → not b ≡ false → all_tests (spot_facts f g at (stands t)) ≡ true
stands_passed f g at t is e passes =
    and-true (test (same (present (find_track f (num_at 1 g t))) 1)) ∙ sym (ap (λ (w : Option ℕ). test (same (present w) 1)) is) ∙ sym e ∙ not-false _ passes

-- three in a record
pub three_pass :
    (f g : List ℕ) (at : ℕ) (a b c : Spot) {x y z : Bool}
    → (x ≡ true → all_tests (spot_facts f g at a) ≡ true) → (y ≡ true → all_tests (spot_facts f g at b) ≡ true) → (z ≡ true → all_tests (spot_facts f g at c) ≡ true)
    → (x && (y && z)) ≡ true → all_tests (spots_facts f g at (a ∷ b ∷ c ∷ [])) ≡ true
three_pass f g at a b c {x} {y} {z} p q r e =
    let first = orders.and-true x (y && z) e in
    let rest = orders.and-true y z first.1 in
    tests_append (spot_facts f g at a) (spots_facts f g at (b ∷ c ∷ []))
    ∙ ap₂ ◌&&◌ (p first.0)
    (tests_append (spot_facts f g at b) (spots_facts f g at (c ∷ []))
    ∙ ap₂ ◌&&◌ (q rest.0) (tests_append (spot_facts f g at c) [] ∙ ap₂ ◌&&◌ (r rest.1) refl))

-- so far, and one record more
pub record Reached (f g : List ℕ) (k : Kind) (from until at : ℕ) : Type 0 where
  pub order : from ≤ at
  pub onward : Onward f g k from until at

pub reached_none : {f g : List ℕ} {k : Kind} {from until : ℕ} → Reached f g k from until from
reached_none = record { order = omega arith; onward = λ l s w. w }

pub reached-more :
    {f g : List ℕ} {k : Kind} {from until at n : ℕ}
    → Reached f g k from until at → at < until → all_tests (record_pair f g k at) ≡ true → IsSize g k at n → Reached f g k from until (at + n)
reached-more r below passes size = record {
  order = omega (arith, r.order);
  onward = λ l s w. walking_over (r.onward l s w) (omega (arith, s.inside)) (s.kind _ r.order below) (sym passes) refl size;
}

-- ---- kind by kind

-- the records of a kind end within the numbers of a file
pub sort_small : {l : Layout} {k : Kind} {from until : ℕ} → Bounded l → Sort l k from until → until ≤ place_most
sort_small b s = omega (arith, b.end, s.inside)

pub sort_is : {l : Layout} {k j : Kind} {from until : ℕ} → k ≡ j → Sort l k from until → Sort l j from until
sort_is e s = record { order = s.order; inside = s.inside; kind = λ x g h. sym e ∙ s.kind x g h }

-- at the end of one kind the next begins
pub walked_to : {g : List ℕ} {l : Layout} {facts : Kind → ℕ → List Fact} {at next : ℕ} → Walking g l facts at → at ≡ next → Walking g l facts next
walked_to {g} {l} {facts} w e = subst (λ (x : ℕ). Walking g l facts x) e w

-- ---- the telling: v is the verdict on the record at `at`

module _ {g : List ℕ} {l : Layout} {facts : Kind → ℕ → List Fact} {at : ℕ} (i : Walking g l facts at) (below : at < l.end) {k : Kind} (kind : k ≡ kind_at l at) {v : Judged} (told : v ≡ first_fault (facts k at)) where
  pub told_over : {n : ℕ} → v ≡ Ok tt → IsSize g k at n → Walking g l facts (at + n)
  told_over e size = walking_over i below kind (tests_judged v true (facts k at) told (sym (ap is_ok e))) refl size

  pub told_fault : {m : Mark} → v ≡ Err m → Err m ≡ first_fault (each_record g l facts)
  told_fault e = walking_fault i below kind (tests_judged v false (facts k at) told (sym (ap is_ok e))) refl (sym e ∙ told)
