-- The marks while a path grows and shrinks: an object that its cell's mark does not tell stands not in the path; an object more keeps the marks
-- right; and marks that are right for a path are right for the first of its objects, so that none is ever taken back.
use Prim.Native.Nat.{ℕ, zero, suc, ◌+◌, ◌≤◌, ◌<◌}
use native.Mathlib.Omega.{arith}
use mathlib.Core.Path.{◌≡◌, refl, sym, ap, subst, ◌∙◌}
use mathlib.Core.Bool.{Bool, true, false, cond, true≢false, ◌||◌}
use mathlib.Core.Logic.{⊎_elim}
use mathlib.Core.List.{List, [], ◌∷◌}
use lib.ListN.{length, get_or, take, set, replicate, length-set, length-replicate}
use lib.Seq.{length-take-le, get_or-take, get_or-set_same, get_or-set_other}
use lib.Dec.{eqb}
use borrow.Author.Tests.{lt-ltb, le-ltb, ltb-true, eq-eqb, eqb-true, eqb-false}
use native.Mathlib.Nat.{mod-lt}
use Rattle.verdict.proofs.Orders.{le-or-lt, and-true}
use Rattle.route_walks.specs.Walks.{has}
use Rattle.route_lister.specs.inner.Marks.{cells, cell_of, mark_of, told, mark_for, Marked}

-- where an element stands
record Found (l : List ℕ) (x : ℕ) : Type 0 where
  pub at : ℕ
  pub below : at < length l
  pub is : get_or l at 0 ≡ x

has_at : (l : List ℕ) (x : ℕ) → has l x ≡ true → Found l x
unfolding has
has_at [] x h = absurd (true≢false (sym h))
has_at (y ∷ l) x h = go (eqb y x) refl h (λ q. has_at l x q)
  where
    go : (b : Bool) → eqb y x ≡ b → (b || has l x) ≡ true → (has l x ≡ true → Found l x) → Found (y ∷ l) x
    go true e q rec = record { at = 0; below = omega arith; is = eqb-true y x e }
    go false e q rec = let f = rec q in record { at = suc f.at; below = omega (arith, f.below); is = f.is }

pub cell_below : (x : ℕ) → cell_of x < cells
unfolding cell_of
cell_below x = mod-lt x (omega arith)

-- what the tests of the code say: the mark i is none of the first n, or the object that it says lies in the cell b of x or not
module _ (marks path : List ℕ) (n x i : ℕ) (mark : i ≡ mark_of marks x) where
  pub told_none : n ≤ i → false ≡ told marks path n x
  unfolding told
  told_none h = let q : n ≤ mark_of marks x = omega arith in rw (le-ltb (mark_of marks x) n q, told) refl

  pub told_one : (a b : ℕ) → i < n → a ≡ cell_of (get_or path i 0) → b ≡ cell_of x → eqb a b ≡ told marks path n x
  unfolding told
  told_one a b h p q = let r : mark_of marks x < n = omega arith in rw (p, q, mark, lt-ltb (mark_of marks x) n r, told) refl

pub mark_kept : (marks path : List ℕ) (n x : ℕ) → told marks path n x ≡ true → mark_of marks x ≡ mark_for marks path n x
unfolding mark_for
mark_kept marks path n x e = rw (e, mark_for) refl

pub mark_new : (marks path : List ℕ) (n x : ℕ) → told marks path n x ≡ false → n ≡ mark_for marks path n x
unfolding mark_for
mark_new marks path n x e = rw (e, mark_for) refl

module _ (marks path : List ℕ) (n x : ℕ) (marked : Marked marks path n) where
  -- an object of the path in the cell of x is told
  told_at : (j : ℕ) → j < n → cell_of (get_or path j 0) ≡ cell_of x → told marks path n x ≡ true
  unfolding told
  told_at j h e =
      let m : mark_of marks (get_or path j 0) ≡ mark_of marks x = ap (λ (c : ℕ). get_or marks c 0) e in
      let below : mark_of marks x < n = omega (arith, marked.not_after j h) in
      let same : cell_of (get_or path (mark_of marks x) 0) ≡ cell_of x = ap (λ (i : ℕ). cell_of (get_or path i 0)) (sym m) ∙ marked.same_cell j h ∙ e in
      rw (lt-ltb (mark_of marks x) n below, eq-eqb (cell_of (get_or path (mark_of marks x) 0)) (cell_of x) same, told) refl

  pub not_told : n ≤ length path → told marks path n x ≡ false → has (take n path) x ≡ false
  not_told l e = go (has (take n path) x) refl
    where
      go : (b : Bool) → has (take n path) x ≡ b → has (take n path) x ≡ false
      go false h = h
      go true h =
          let f = has_at (take n path) x h in
          let below : f.at < n = omega (arith, f.below, length-take-le n path l) in
          absurd (true≢false (sym (told_at f.at below (ap cell_of (sym (get_or-take n path f.at 0 below) ∙ f.is))) ∙ e))

  module _ (room : n < length path) where
    -- x stands after the first n, and the mark m of its cell says one of the path: the first n, where one of them lies in that cell, have it already
    with_mark : (m : ℕ) → m ≤ n → cell_of (get_or (set path n x) m 0) ≡ cell_of x → ((j : ℕ) → j < n → cell_of (get_or path j 0) ≡ cell_of x → m ≡ mark_of marks x) → Marked (set marks (cell_of x) m) (set path n x) (n + 1)
    with_mark m low own shared = record {
      size = length-set marks (cell_of x) m ∙ marked.size;
      not_after = λ j h. (right j h).0;
      same_cell = λ j h. (right j h).1;
    }
      where
        Right : ℕ → Type 0
        Right j =
            (mark_of (set marks (cell_of x) m) (get_or (set path n x) j 0) ≤ j)
            × (cell_of (get_or (set path n x) (mark_of (set marks (cell_of x) m) (get_or (set path n x) j 0)) 0) ≡ cell_of (get_or (set path n x) j 0))

        stored : get_or (set marks (cell_of x) m) (cell_of x) 0 ≡ m
        stored = get_or-set_same marks (cell_of x) m 0 (omega (arith, cell_below x, marked.size))

        at-end : Right n
        at-end = rw (get_or-set_same path n x 0 room, stored) (low, own)

        kept : (j : ℕ) → j < n → (b : Bool) → eqb (cell_of (get_or path j 0)) (cell_of x) ≡ b → mark_of (set marks (cell_of x) m) (get_or path j 0) ≡ mark_of marks (get_or path j 0)
        kept j h true e =
            let q = eqb-true (cell_of (get_or path j 0)) (cell_of x) e in
            ap (λ (c : ℕ). get_or (set marks (cell_of x) m) c 0) q ∙ stored ∙ shared j h q ∙ sym (ap (λ (c : ℕ). get_or marks c 0) q)
        kept j h false e = get_or-set_other marks (cell_of x) (cell_of (get_or path j 0)) m 0 (eqb-false (cell_of (get_or path j 0)) (cell_of x) e)

        before_end : (j : ℕ) → j < n → Right j
        before_end j h =
            let i = mark_of marks (get_or path j 0) in
            let low_there : i ≤ j = marked.not_after j h in
            rw (get_or-set_other path n j x 0 (λ e. omega arith), kept j h (eqb (cell_of (get_or path j 0)) (cell_of x)) refl, get_or-set_other path n i x 0 (λ e. omega arith))
            (low_there, marked.same_cell j h)

        right : (j : ℕ) → j < n + 1 → Right j
        right j h = ⊎_elim (λ q. let e : n ≡ j = omega arith in subst (λ (k : ℕ). Right k) e at-end) (λ q. before_end j q) (le-or-lt n j)

    -- an object more
    pub marked_more : Marked (set marks (cell_of x) (mark_for marks path n x)) (set path n x) (n + 1)
    unfolding told mark_for
    marked_more = go (told marks path n x) refl
      where
        go : (b : Bool) → told marks path n x ≡ b → Marked (set marks (cell_of x) (cond b (mark_of marks x) n)) (set path n x) (n + 1)
        go true e =
            let a = and-true _ _ e in
            let below = ltb-true (mark_of marks x) n a.0 in
            let same = eqb-true (cell_of (get_or path (mark_of marks x) 0)) (cell_of x) a.1 in
            with_mark (mark_of marks x) (omega arith) (ap cell_of (get_or-set_other path n (mark_of marks x) x 0 (λ q. omega arith)) ∙ same) (λ j h q. refl)
        go false e = with_mark n (omega arith) (ap cell_of (get_or-set_same path n x 0 room)) (λ j h q. absurd (true≢false (sym (told_at j h q) ∙ e)))

-- fewer objects
pub marked_less : (marks path : List ℕ) (n k : ℕ) → n ≤ k → Marked marks path k → Marked marks path n
marked_less marks path n k h g = record {
  size = g.size;
  not_after = λ j q. g.not_after j (omega arith);
  same_cell = λ j q. g.same_cell j (omega arith);
}

-- marks of 0 are right for one object
zeros : (n i : ℕ) → get_or {A = ℕ} (replicate n 0) i 0 ≡ 0
zeros zero i = refl
zeros (suc n) zero = refl
zeros (suc n) (suc i) = zeros n i

pub marked_one : (n : ℕ) (path : List ℕ) → n ≡ cells → Marked (replicate n 0) path 1
marked_one n path e = record {
  size = length-replicate {A = ℕ} n 0 ∙ e;
  not_after = λ j h. omega (arith, zeros n (cell_of (get_or path j 0)));
  same_cell = λ j h. let z : j ≡ 0 = omega arith in ap (λ (i : ℕ). cell_of (get_or path i 0)) (zeros n (cell_of (get_or path j 0)) ∙ sym z);
}
