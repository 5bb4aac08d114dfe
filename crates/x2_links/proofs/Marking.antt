-- The marks while they are being filled. A record has more bytes than a cell has places, so the next one starts in a later cell, and the
-- mark of one start leaves those of the others as they are.
use Prim.Native.Nat.{ℕ, zero, suc, ◌+◌, ◌/◌, ◌≤◌, ◌<◌}
use mathlib.Core.Path.{◌≡◌, refl, sym, ◌∙◌, subst}
use mathlib.Core.Bool.{Bool, true, false, ◌||◌, or-false}
use mathlib.Core.Logic.{inl}
use mathlib.Core.List.{List}
use lib.Dec.{eqb}
use lib.ListN.{length, get_or, set, replicate, length-set}
use lib.Seq.{get_or-set_same, get_or-set_other}
use native.Mathlib.Decide.{ℕ_discrete}
use native.Mathlib.Omega.{arith}
use borrow.Author.Tests.{eq-eqb, ne_eqb}
use Rattle.verdict.specs.Facts.{test, any_of}
use Rattle.verdict.specs.Walk.{starts_from}
use Rattle.verdict.proofs.Walk.{starts_step, starts_stop, find_none}
use Rattle.x2_layout.specs.declared.Layout.{Layout}
use Rattle.x2_layout.specs.inner.Bounds.{place_most}
use Rattle.x2_layout.specs.Records.{kind_at, size_at}
use Rattle.x2_layout.proofs.Records.{size_at_least, size_at_pos}
use Rattle.x2_links.specs.Links.{linkable, named, is_target}
use Rattle.x2_links.specs.inner.Marks.{cell, cells, mark_of, mark_if, mark_at, Blank, Targets, Marking}
use Rattle.x2_links.proofs.Seeking.{other}

-- ---- marks: of the place itself, and of another place of its cell

own_mark : (b : Bool) (x : ℕ) → eqb (mark_if b x) (mark_of x) ≡ b
own_mark true x = eq-eqb (mark_of x) (mark_of x) refl
own_mark false x = ne_eqb 0 (mark_of x) (λ e. omega arith)

other_mark : (b : Bool) (at x : ℕ) → x / cell ≡ at / cell → (x ≡ at → ⊥) → eqb (mark_if b at) (mark_of x) ≡ false
other_mark true at x e n = ne_eqb (mark_of at) (mark_of x) (λ q. n (omega arith))
other_mark false at x e n = ne_eqb 0 (mark_of x) (λ q. omega arith)

module _ (f : List ℕ) (l : Layout) where
  pub marking_none : (marks : List ℕ) → length marks ≡ cells → Blank marks → Marking f l marks l.starts
  unfolding is_target
  marking_none marks r b = record { room = r; blank = λ i h. b i; found = λ x. rw (b (x / cell), ne_eqb 0 (mark_of x) (λ q. omega arith)) }

  module _ (marks : List ℕ) (at next m : ℕ) (below : at < l.end) (fits : at ≤ place_most) (is : m ≡ mark_if (test (linkable f (kind_at l at) at)) at) (step : next ≡ at + size_at f l at) (g : Marking f l marks at) where
    onward : at < next
    onward = omega (arith, size_at_least f l at)

    -- the next record starts in a later cell
    later : at / cell < next / cell
    later = omega (arith, size_at_least f l at)

    -- the cell of `at` before it is filled
    unfilled : (x : ℕ) → x / cell ≡ at / cell → mark_at marks x ≡ false
    unfilled x e = rw (g.blank (x / cell) (omega arith)) (ne_eqb 0 (mark_of x) (λ q. omega arith))

    here : (mark_at (set marks (at / cell) m) at || any_of (λ s. test (named f l at s)) (starts_from (size_at f l) l.end next)) ≡ test (is_target f l at)
    here =
        let may = test (linkable f (kind_at l at) at) in
        let none = find_none (size_at f l) l.end at (λ s. test (named f l at s)) (other f l at) next (inl onward) in
        let filled = get_or-set_same marks (at / cell) m 0 (omega (arith, g.room)) in
        let left : (mark_at (set marks (at / cell) m) at || any_of (λ s. test (named f l at s)) (starts_from (size_at f l) l.end next)) ≡ may =
        rw (none, filled, is, own_mark may at) (or-false may)
        in
        let right : (mark_at marks at || any_of (λ s. test (named f l at s)) (starts_from (size_at f l) l.end at)) ≡ may =
        rw (unfilled at refl, starts_step (size_at f l) l.end (size_at_pos f l) at below, ← step, none, eq-eqb at at refl) (or-false may)
        in
        left ∙ sym right ∙ g.found at

    -- another place is marked as before
    kept : (x : ℕ) → (x ≡ at → ⊥) → Dec (x / cell ≡ at / cell) → mark_at (set marks (at / cell) m) x ≡ mark_at marks x
    kept x n (yes e) =
        rw (e, get_or-set_same marks (at / cell) m 0 (omega (arith, g.room)), is) (other_mark (test (linkable f (kind_at l at) at)) at x e n) ∙ sym (unfilled x e)
    kept x n (no o) = rw (get_or-set_other marks (at / cell) (x / cell) m 0 o)

    there : (x : ℕ) → (x ≡ at → ⊥) → (mark_at (set marks (at / cell) m) x || any_of (λ s. test (named f l x s)) (starts_from (size_at f l) l.end next)) ≡ test (is_target f l x)
    there x n =
        let skip : any_of (λ s. test (named f l x s)) (starts_from (size_at f l) l.end at) ≡ any_of (λ s. test (named f l x s)) (starts_from (size_at f l) l.end next) =
        rw (starts_step (size_at f l) l.end (size_at_pos f l) at below, ← step, ne_eqb at x (λ q. n (sym q)))
        in
        rw (kept x n (ℕ_discrete (x / cell) (at / cell)), ← skip) (g.found x)

    pick : (x : ℕ) → Dec (x ≡ at) → (mark_at (set marks (at / cell) m) x || any_of (λ s. test (named f l x s)) (starts_from (size_at f l) l.end next)) ≡ test (is_target f l x)
    pick x (yes e) = subst (λ (y : ℕ). (mark_at (set marks (at / cell) m) y || any_of (λ s. test (named f l y s)) (starts_from (size_at f l) l.end next)) ≡ test (is_target f l y)) (sym e) here
    pick x (no n) = there x n

    pub marking_step : Marking f l (set marks (at / cell) m) next
    marking_step = record {
      room = length-set marks (at / cell) m ∙ g.room;
      blank = λ i h. get_or-set_other marks (at / cell) i m 0 (λ e. omega (arith, later)) ∙ g.blank i (omega (arith, later));
      found = λ x. pick x (ℕ_discrete x at);
    }

  pub marking_all : (marks : List ℕ) (at : ℕ) → l.end ≤ at → Marking f l marks at → Targets f l marks
  marking_all marks at h g x below = sym (rw (starts_stop (size_at f l) l.end at h) (or-false (mark_at marks x))) ∙ g.found x

-- cells of zeros are blank
pub blank_zeros : (n i : ℕ) → get_or {A = ℕ} (replicate n 0) i 0 ≡ 0
blank_zeros zero i = refl
blank_zeros (suc n) zero = refl
blank_zeros (suc n) (suc i) = blank_zeros n i
