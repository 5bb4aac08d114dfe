-- The question's own test is what the ticket's words say: an object that a link may name starts there, it has the link, and the lies are lies.
use Prim.Native.Nat.{ℕ, zero, suc, ◌≤◌, ◌<◌}
use native.Mathlib.Omega.{arith}
use mathlib.Core.Path.{◌≡◌, refl}
use mathlib.Core.Bool.{true, ◌&&◌}
use mathlib.Core.Logic.{◌⊎◌, inl, inr, ◌↔◌}
use mathlib.Core.List.{List, [], ◌∷◌, Memᴰ}
use lib.ListN.{length, get_or}
use lib.Dec.{eqb, leb, ltb}
use borrow.Author.Tests.{eqb-true, eq-eqb, leb-true, le-leb, ltb-true, lt-ltb}
use Rattle.std.specs.Prelude.{Ok, Err}
use Rattle.verdict.proofs.Orders.{and-true}
use Rattle.x2_layout.specs.Layout.{layout_of}
use Rattle.x2_layout.proofs.Starts.{start_below}
use Rattle.x2_links.specs.Links.{may_name}
use Rattle.x2_links.proofs.Seeking.{may_name_lem}
use Rattle.x2_obeys.specs.Links.{Target}
use Rattle.x2_obeys.proofs.Links.{target_iff}
use Rattle.x2_verdict.specs.Facts.{verdict_of}
use Rattle.route_graph.specs.Objects.{object_at, links_of}
use Rattle.route_theorems.proofs.Listed.{whole, small}
use Rattle.ahead.specs.Lies.{unknown, lie_count, all_lies, are_lies}
use Rattle.ahead.specs.Asked.{in_range}
use Rattle.ahead_theorems.specs.Asked.{InRange}
use Rattle.ahead_theorems.proofs.Leads.{three}

-- ---- the lies

-- one of the three
abbrev Lie : ℕ → Type 0
Lie b = (b ≡ 0) ⊎ ((b ≡ 1) ⊎ (b ≡ 2))

of_lie : (b : ℕ) → Lie b → b ≤ unknown
of_lie b (inl e) = omega arith
of_lie b (inr (inl e)) = omega arith
of_lie b (inr (inr e)) = omega arith

all_there : (lies : List ℕ) → all_lies lies ≡ true → (i : ℕ) → i < length lies → Lie (get_or lies i 0)
unfolding all_lies
all_there [] e i h = absurd (omega arith)
all_there (b ∷ bs) e zero h = three b (leb-true b unknown (and-true (leb b unknown) (all_lies bs) e).0)
all_there (b ∷ bs) e (suc i) h = all_there bs (and-true (leb b unknown) (all_lies bs) e).1 i (omega arith)

all_back : (lies : List ℕ) → ((i : ℕ) → i < length lies → Lie (get_or lies i 0)) → all_lies lies ≡ true
unfolding all_lies
all_back [] h = refl
all_back (b ∷ bs) h = rw (le-leb b unknown (of_lie b (h 0 (omega arith)))) (all_back bs (λ i q. h (suc i) (omega arith)))

pub lies_iff : (lies : List ℕ) → (are_lies lies ≡ true) ↔ ((length lies ≡ 256) × ((i : ℕ) → i < 256 → Lie (get_or lies i 0)))
unfolding are_lies
lies_iff lies = (
  (λ e.
      let a = and-true (eqb (length lies) lie_count) (all_lies lies) e in
      let n = eqb-true (length lies) lie_count a.0 in
      (n, λ i h. all_there lies a.1 i (omega arith))),
  (λ h. rw (eq-eqb (length lies) lie_count h.0) (all_back lies (λ i q. let n = h.0 in h.1 i (omega arith)))),
)

-- ---- a link of an object, by its index

pub in_links : (xs : List ℕ) (i : ℕ) → i < length xs → Memᴰ (get_or xs i 0) xs
in_links [] i h = absurd (omega arith)
in_links (x ∷ xs) zero h = Memᴰ.head refl
in_links (x ∷ xs) (suc i) h = Memᴰ.tail (in_links xs i (omega arith))

-- ---- an accepted X.2

module _ (g : List ℕ) (e : verdict_of g ≡ Ok tt) where
  -- THEOREM: a link may name a place exactly where an object starts that it may name
  pub named_iff : (x : ℕ) → (may_name g (layout_of g) x ≡ true) ↔ Target g (layout_of g) x
  named_iff x =
      let m = may_name_lem g (layout_of g) x in
      let t = target_iff g (layout_of g) x in
      let end = small g e in (
        (λ b. t.0 (m.0 b).1),
        (λ h. let below = start_below g (layout_of g) (whole g e) x h.record_there in m.1 (omega arith, t.1 h)),
      )

  -- THEOREM: a question is in range exactly where the words say so
  pub range_iff : (offset link : ℕ) (lies : List ℕ) → (in_range g (layout_of g) offset link lies ≡ true) ↔ InRange g offset link lies
  unfolding in_range
  range_iff offset link lies =
      let n = length (links_of (object_at g (layout_of g) offset)) in
      let t = lies_iff lies in (
        (λ b.
            let a = and-true (may_name g (layout_of g) offset) (ltb link n && are_lies lies) b in
            let c = and-true (ltb link n) (are_lies lies) a.1 in
            let h = t.0 c.1 in
            record { object = (named_iff offset).0 a.0; has_link = ltb-true link n c.0; count = h.0; each = h.1 }),
        (λ r. rw ((named_iff offset).1 r.object, lt-ltb link n r.has_link, t.1 (r.count, r.each)) refl),
      )
