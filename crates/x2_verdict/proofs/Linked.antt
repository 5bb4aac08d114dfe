-- Links in the second pass, one law for each way out of the code: what a record that a link may name has as links, what a link obeys, and
-- what the links of a record of each kind obey.
use Prim.Native.Nat.{ℕ, ◌+◌, ◌≤◌, ◌<◌}
use mathlib.Core.Path.{◌≡◌, ◌∙◌, refl, sym, ap, subst}
use mathlib.Core.Bool.{Bool, true, false, not, cond, ◌&&◌, ◌||◌, or-false, true≢false}
use mathlib.Core.Logic.{inl, inr, ⊎_elim}
use mathlib.Core.List.{List, [], ◌∷◌}
use lib.Dec.{eqb}
use borrow.Author.Tests.{lt-ltb, le-ltb}
use Rattle.octets.specs.Octets.{num_at}
use Rattle.verdict.specs.Facts.{test, same, both, either, denied, Holds, Fact, fact, AllHold, all_tests}
use Rattle.verdict.proofs.Facts.{tested}
use Rattle.verdict.proofs.Orders.{le-or-lt}
use Rattle.x2_records.specs.declared.Kind.{Kind}
use Rattle.x2_records.specs.declared.Kind.TheVariants.{StartBoundary, EndBoundary, Turnout, Balise, Signal, Joint}
use Rattle.x2_records.specs.Records.{link_places}
use Rattle.x2_layout.specs.declared.Layout.{Layout}
use Rattle.x2_layout.specs.Records.{kind_at}
use Rattle.x2_layout.specs.inner.Bounds.{place_most}
use Rattle.x2_layout.specs.inner.Regions.{Regions}
use Rattle.x2_layout.proofs.Starts.{kind_start, kind_end, kind_turnout, kind_balise, kind_signal, kind_joint, kind_siding}
use Rattle.envelope.specs.Seal.{number_most}
use Rattle.x2_links.specs.Links.{link_at, linkable, is_target, links_to, returns, same_links, is_member}
use Rattle.x2_links.specs.inner.Marks.{Targets}
use Rattle.x2_verdict.specs.inner.Passes.{aims, LinkHolds, LinksHold, MemberHolds, RecordLinked, link_kind}

-- ---- tests and facts

pub all_tests_lem : (fs : List Fact) → AllHold fs → true ≡ all_tests fs
unfolding AllHold
all_tests_lem [] h = refl
all_tests_lem (fact c m ∷ fs) h = rw ((tested c).1 h.0) (all_tests_lem fs h.1)

pub both_true : (p q : Bool) → (p && q) ≡ true → (p ≡ true) × (q ≡ true)
both_true true q h = (refl, h)
both_true false q h = absurd (true≢false (sym h))

-- ---- some link names back

module _ (f : List ℕ) (l : Layout) (x at : ℕ) where
  pub boundary_names : x < l.turnouts → (r : Bool) → r ≡ eqb (num_at 2 f (x + 1)) at → r ≡ true → test (links_to f (link_kind l x) x at) ≡ true
  unfolding links_to
  boundary_names h r e t = rw (lt-ltb x l.turnouts h, ← e, t)

  pub turnout_names :
      l.turnouts ≤ x → x < l.balises → (p q r : Bool) → p ≡ eqb (num_at 2 f (x + 15)) at → q ≡ eqb (num_at 2 f (x + 17)) at → r ≡ eqb (num_at 2 f (x + 19)) at
      → (p || (q || r)) ≡ true → test (links_to f (link_kind l x) x at) ≡ true
  unfolding links_to
  turnout_names g h p q r d e i t = rw (le-ltb x l.turnouts g, lt-ltb x l.balises h, ← d, ← e, ← i, or-false r) t

  pub plain_names :
      l.turnouts ≤ x → l.balises ≤ x → (p q : Bool) → p ≡ eqb (num_at 2 f (x + 1)) at → q ≡ eqb (num_at 2 f (x + 3)) at
      → (p || q) ≡ true → test (links_to f (link_kind l x) x at) ≡ true
  unfolding links_to
  plain_names g h p q d e t = rw (le-ltb x l.turnouts g, le-ltb x l.balises h, ← d, ← e, or-false q) t

-- ---- one link

-- a link of 0 asks nothing
pub zero_holds : (f : List ℕ) (l : Layout) (at x : ℕ) → x ≡ 0 → LinkHolds f l at x
zero_holds f l at x e = record { aims = inl e; returned = inl e }

-- what the marks say of a link
pub aims_hold :
    (f : List ℕ) (l : Layout) (marks : List ℕ) → Targets f l marks → (at x : ℕ) → x ≤ place_most → aims marks at x ≡ true
    → Holds (either (same x 0) (both (denied (same x at)) (is_target f l x)))
aims_hold f l marks t at x small e =
    (tested (either (same x 0) (both (denied (same x at)) (is_target f l x)))).0 (ap (λ (m : Bool). eqb x 0 || (not (eqb x at) && m)) (sym (t x small)) ∙ e)

module _ (f : List ℕ) (l : Layout) (r : Regions f l) where
  -- a record that a link may name is no siding
  named_kind : (x : ℕ) → Holds (is_target f l x) → Holds (linkable f (kind_at l x) x)
  unfolding is_target
  named_kind x h = subst (λ (s : ℕ). Holds (linkable f (kind_at l s) s)) h.2.0 h.2.1

  no_siding : (x : ℕ) → Holds (is_target f l x) → x < l.sidings
  no_siding x h =
      ⊎_elim (λ (far : l.sidings ≤ x). absurd (subst (λ (k : Kind). Holds (linkable f k x)) (kind_siding f l r x far) (named_kind x h) tt)) (λ (g : x < l.sidings). g) (le-or-lt l.sidings x)

  -- as far as links go, it is what its place says
  told_kind : (x at : ℕ) → x < l.sidings → links_to f (link_kind l x) x at ≡ links_to f (kind_at l x) x at
  unfolding links_to
  told_kind x at below =
      ⊎_elim (λ (g : l.turnouts ≤ x).
      ⊎_elim (λ (h : l.balises ≤ x).
      ⊎_elim (λ (i : l.signals ≤ x).
      ⊎_elim (λ (j : l.joints ≤ x). rw (kind_joint f l r x j below, le-ltb x l.turnouts g, le-ltb x l.balises h))
      (λ (j : x < l.joints). rw (kind_signal f l r x i j, le-ltb x l.turnouts g, le-ltb x l.balises h))
      (le-or-lt l.joints x))
      (λ (i : x < l.signals). rw (kind_balise f l r x h i, le-ltb x l.turnouts g, le-ltb x l.balises h))
      (le-or-lt l.signals x))
      (λ (h : x < l.balises). rw (kind_turnout f l r x g h, le-ltb x l.turnouts g, lt-ltb x l.balises h))
      (le-or-lt l.balises x))
      (λ (g : x < l.turnouts).
      ⊎_elim (λ (h : l.ends ≤ x). rw (kind_end f l r x h g, lt-ltb x l.turnouts g))
      (λ (h : x < l.ends). rw (kind_start f l r x h, lt-ltb x l.turnouts g))
      (le-or-lt l.ends x))
      (le-or-lt l.turnouts x)

  module _ (marks : List ℕ) (t : Targets f l marks) (at x : ℕ) (small : x ≤ place_most) where
    -- a link that aims right and is returned
    pub link_holds : (x ≡ 0 → ⊥) → true ≡ aims marks at x → test (links_to f (link_kind l x) x at) ≡ true → LinkHolds f l at x
    link_holds n e b =
        let aim = aims_hold f l marks t at x small (sym e) in
        let named : Holds (is_target f l x) = ⊎_elim (λ (z : x ≡ 0). absurd (n z)) (λ (w : (x ≡ at → ⊥) × Holds (is_target f l x)). w.1) aim in
        record { aims = aim; returned = inr ((tested (links_to f (kind_at l x) x at)).0 (ap test (sym (told_kind x at (no_siding x named))) ∙ b)) }

-- ---- the links of a record of each kind

-- the link at p obeys
abbrev At : List ℕ → Layout → ℕ → ℕ → Type 0
At f l at p = LinkHolds f l at (link_at f p)

-- the link at p is 0, or is not the one at q
abbrev Another : List ℕ → ℕ → ℕ → Type 0
Another f p q = Holds (either (same (link_at f p) 0) (denied (same (link_at f q) (link_at f p))))

-- from what was read: x is the link at p, and y the link at q
pub at_link : (f : List ℕ) (l : Layout) (at p x : ℕ) → x ≡ link_at f p → LinkHolds f l at x → At f l at p
at_link f l at p x e h = subst (LinkHolds f l at) e h

pub another : (f : List ℕ) (p q x y : ℕ) → x ≡ link_at f p → y ≡ link_at f q → (r : Bool) → r ≡ test (either (same x 0) (denied (same y x))) → r ≡ true → Another f p q
another f p q x y d e r i t = (tested (either (same (link_at f p) 0) (denied (same (link_at f q) (link_at f p))))).0 (rw (← d, ← e) (sym i ∙ t))

module _ (f : List ℕ) (l : Layout) (at : ℕ) where
  pub boundary_linked : 1 ≤ link_at f (at + 1) → link_at f (at + 1) ≤ number_most → At f l at (at + 1) → (before : ℕ) → RecordLinked f l before StartBoundary at
  unfolding AllHold
  boundary_linked some most h before = record { targets = ((some, most), (h.aims, tt)); returns = (h.returned, tt) }

  pub like_boundary : (before : ℕ) → RecordLinked f l before StartBoundary at → RecordLinked f l before EndBoundary at
  unfolding AllHold
  like_boundary before h = record { targets = h.targets; returns = h.returns }

  pub turnout_linked :
      At f l at (at + 15) → At f l at (at + 17) → At f l at (at + 19) → Another f (at + 17) (at + 15) → Another f (at + 19) (at + 15) → Another f (at + 19) (at + 17)
      → (before : ℕ) → RecordLinked f l before Turnout at
  unfolding AllHold
  turnout_linked p q r d e g before = record {
    targets = (p.aims, (q.aims, (r.aims, tt)));
    returns = (p.returned, (q.returned, (d, (r.returned, (e, (g, tt))))));
  }

  pub plain_linked : At f l at (at + 1) → At f l at (at + 3) → Another f (at + 3) (at + 1) → LinksHold f l at (link_places Balise at)
  unfolding AllHold
  plain_linked p q d = record { targets = (p.aims, (q.aims, tt)); returns = (p.returned, (q.returned, (d, tt))) }

  pub like_signal : (before : ℕ) → LinksHold f l at (link_places Balise at) → RecordLinked f l before Signal at
  unfolding AllHold
  like_signal before h = record { targets = h.targets; returns = h.returns }

  pub like_joint : (before : ℕ) → LinksHold f l at (link_places Balise at) → RecordLinked f l before Joint at
  unfolding AllHold
  like_joint before h = record { targets = h.targets; returns = h.returns }

  pub first_linked : (before : ℕ) → is_member f Balise at ≡ false → LinksHold f l at (link_places Balise at) → RecordLinked f l before Balise at
  unfolding AllHold
  first_linked before e h = record {
    targets = h.targets;
    returns = subst (λ (b : Bool). AllHold (cond b (same_links f before at) (returns f l at [] (link_places Balise at)))) (sym e) h.returns;
  }

  pub member_linked : (before : ℕ) → is_member f Balise at ≡ true → MemberHolds f l before at → RecordLinked f l before Balise at
  unfolding AllHold
  member_linked before e h = record {
    targets = h.targets;
    returns = subst (λ (b : Bool). AllHold (cond b (same_links f before at) (returns f l at [] (link_places Balise at)))) (sym e) h.alike;
  }
