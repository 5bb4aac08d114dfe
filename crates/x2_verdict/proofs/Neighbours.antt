-- Links in the second pass, of balises, signals and joints that lie inside the file: what Linked says of such a record and of each of its
-- links, from what was read there, for each way out of the code. And how far a loop over such records comes.
use Prim.Native.Nat.{ℕ, ◌+◌, ◌-◌, ◌≤◌, ◌<◌}
use mathlib.Core.Path.{◌≡◌, ◌∙◌, refl, sym, ap, subst}
use mathlib.Core.Bool.{Bool, true, ◌&&◌, or-true}
use mathlib.Core.List.{List}
use native.Mathlib.Omega.{arith}
use lib.Dec.{eqb}
use lib.ListN.{length}
use borrow.Author.Tests.{eq-eqb, ne_eqb}
use Rattle.octets.specs.Octets.{Is}
use Rattle.verdict.specs.Facts.{test, same, both, either, denied, Holds, AllHold}
use Rattle.x2_records.specs.declared.Kind.TheVariants.{Balise}
use Rattle.x2_records.specs.Places.{balise_size, balise_size_byte}
use Rattle.x2_records.specs.Records.{link_places}
use Rattle.x2_layout.specs.declared.Layout.{Layout}
use Rattle.x2_layout.specs.Facts.{balise_bytes}
use Rattle.x2_layout.specs.Records.{size_of, IsSize}
use Rattle.x2_layout.specs.inner.Bounds.{place_most}
use Rattle.x2_links.specs.Links.{link_at, is_target, links_to}
use Rattle.x2_links.specs.inner.Marks.{mark_at, Targets}
use Rattle.x2_verdict.specs.inner.Passes.{aims, LinkHolds, NextHolds, LinksHold, MemberHolds, link_kind}
use Rattle.x2_verdict.proofs.Linked.{both_true, plain_names, aims_hold, at_link, plain_linked}

-- the previous or the next object of a balise, a signal or a joint is `at`, which was read at p or at q
module _ (f : List ℕ) (l : Layout) (x at : ℕ) (order : l.turnouts ≤ l.balises) (h : l.balises ≤ x) where
  pub previous_names : (p : ℕ) → p ≡ link_at f (x + 1) → p ≡ at → test (links_to f (link_kind l x) x at) ≡ true
  previous_names p e d = plain_names f l x at (omega arith) h true (eqb (link_at f (x + 3)) at) (sym (eq-eqb (link_at f (x + 1)) at (sym e ∙ d))) refl refl

  pub next_names : (q : ℕ) → q ≡ link_at f (x + 3) → eqb q at ≡ true → test (links_to f (link_kind l x) x at) ≡ true
  next_names q e t =
      plain_names f l x at (omega arith) h (eqb (link_at f (x + 1)) at) true refl (sym t ∙ ap (λ (n : ℕ). eqb n at) e) (or-true (eqb (link_at f (x + 1)) at))

-- a link that is not 0 aims right where it does not name its own record and m says that it names a marked place
pub marked_aims : (marks : List ℕ) (at x : ℕ) → (x ≡ 0 → ⊥) → (x ≡ at → ⊥) → (m : Bool) → m ≡ mark_at marks x → m ≡ true → true ≡ aims marks at x
marked_aims marks at x n o m e h = rw (ne_eqb x 0 n, ne_eqb x at o, ← e, h)

-- the links of a balise of place 1, a signal or a joint, from what was read: x and y
pub pair_linked :
    (f : List ℕ) (l : Layout) (at x y : ℕ) → x ≡ link_at f (at + 1) → y ≡ link_at f (at + 3) → LinkHolds f l at x → NextHolds f l at x y
    → LinksHold f l at (link_places Balise at)
pair_linked f l at x y d e p q =
    let other = subst (λ (n : ℕ). Holds (either (same n 0) (denied (same x n)))) e q.another in
    plain_linked f l at (at_link f l at (at + 1) x d p) (at_link f l at (at + 3) y e q.link)
    (subst (λ (n : ℕ). Holds (either (same (link_at f (at + 3)) 0) (denied (same n (link_at f (at + 3)))))) d other)

-- a member, from what was read: x and y are its links, p and q those of the record at `before`; a and b say that they aim right
pub member_inside :
    (f : List ℕ) (l : Layout) (marks : List ℕ) → Targets f l marks → (before at x y p q : ℕ)
    → x ≡ link_at f (at + 1) → y ≡ link_at f (at + 3) → p ≡ link_at f (before + 1) → q ≡ link_at f (before + 3) → x ≡ p → y ≡ q → x ≤ place_most → y ≤ place_most
    → (a b : Bool) → a ≡ aims marks at x → b ≡ aims marks at y → (a && b) ≡ true → MemberHolds f l before at
unfolding AllHold
member_inside f l marks t before at x y p q d e g h i j m n a b s u r =
    let both_aim = both_true a b r in
    record {
      targets = (
        subst (λ (z : ℕ). Holds (either (same z 0) (both (denied (same z at)) (is_target f l z)))) d (aims_hold f l marks t at x m (sym s ∙ both_aim.0)),
        (subst (λ (z : ℕ). Holds (either (same z 0) (both (denied (same z at)) (is_target f l z)))) e (aims_hold f l marks t at y n (sym u ∙ both_aim.1)), tt),
      );
      alike = (sym d ∙ i ∙ g, (sym e ∙ j ∙ h, tt));
    }

-- how many bytes a balise has whose size byte is not under 16
pub whole_size : (f : List ℕ) (at n : ℕ) → Is 1 f (at + balise_size_byte) n → balise_size ≤ n → IsSize f Balise at n
unfolding size_of balise_bytes
whole_size f at n h least = record { is = omega (arith, h.is); least = omega arith; most = omega (arith, h.below) }

-- ---- a loop over balises, signals or joints: from `stop` on none has room before `until`, which lies in the file
abbrev pub Room : List ℕ → ℕ → ℕ → Type 0
Room f until stop = (stop ≡ until - (balise_size - 1)) × (until ≤ length f) × (until ≤ place_most)

pub room_left : (at until stop : ℕ) → at < stop → stop ≡ until - (balise_size - 1) → at + balise_size ≤ until
room_left at until stop h e = omega arith

pub nearer : (at n until : ℕ) → at + balise_size ≤ until → 1 ≤ n → until - (at + n) < until - at
nearer at n until h g = omega arith
