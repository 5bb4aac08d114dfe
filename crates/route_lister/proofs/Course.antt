-- The course of the second lister's loop, over plain numbers and lists: what is done, and then what the open choices still give, is all that is to be found.
use Prim.Native.Nat.{ℕ, zero, suc, ◌+◌, ◌-◌, ◌≤◌, ◌<◌}
use native.Mathlib.Numerals.{sub-one}
use native.Mathlib.Omega.{arith}
use mathlib.Core.Path.{◌≡◌, refl, sym, ap, subst, ◌∙◌}
use mathlib.Core.Bool.{Bool, true, false, cond, not, true≢false, ◌&&◌}
use mathlib.Core.Logic.{◌⊎◌, inl, inr}
use mathlib.Core.List.{List, [], ◌∷◌, ◌++◌, append_assoc, append-nil}
use lib.ListN.{length, get_or, take, set, length-append, length-set}
use lib.Seq.{length-take-le, take-set-le, get_or-set_same, get_or-set_other}
use lib.Dec.{eqb, ltb}
use borrow.Author.Tests.{not-true, eqb-true, eqb-false, ltb-true, ltb-false}
use Rattle.verdict.proofs.Orders.{and-true}
use Rattle.route_graph.specs.declared.Object.{Object}
use Rattle.route_graph.specs.declared.Object.TheVariants.{Boundary, Plain, Turnout, Nothing}
use Rattle.route_graph.specs.Objects.{is_boundary}
use Rattle.route_graph.specs.Ways.{legs_of, exits_of}
use Rattle.route_walks.specs.declared.Tally.{Tally}
use Rattle.route_walks.specs.Walks.{has, each, walks, is_route}
use Rattle.route_walks.specs.Range.{limit_most, budget_most, Bounds}
use Rattle.route_walks.specs.inner.Grown.{Sane, Grown}
use Rattle.route_walks.proofs.Grow.{grown_none, grown_over, grown_open, grown_route, grown_seq}
use Rattle.route_walks.proofs.Unfold.{walks_none, walks_end, walks_passed, walks_more, route_at}
use Rattle.route_lister.specs.declared.choices.Choice.{Choice}
use Rattle.route_lister.specs.inner.Marks.{Marked}
use Rattle.route_lister.specs.inner.Choices.{choice_at, open_of, choices_of, Sized, Put, walks_by, walks_by_all, Stacked, goes_on, Taken, taken_bytes, one_walk}
use Rattle.route_lister.proofs.Stores.{path_more}
use Rattle.route_lister.proofs.Marking.{marked_less}

-- ---- the open choices

open_length : (objects links : List ℕ) (k : ℕ) → length (open_of objects links k) ≡ k
unfolding open_of
open_length objects links zero = refl
open_length objects links (suc k) = ap suc (open_length objects links k)

-- the choice that stands above the others
open-top : (objects links : List ℕ) (waiting : ℕ) → 0 < waiting → open_of objects links waiting ≡ choice_at objects links (waiting - 1) ∷ open_of objects links (waiting - 1)
unfolding open_of
open-top objects links zero h = absurd (omega arith)
open-top objects links (suc k) h = rw (sub-one (suc k)) refl

-- choices of shorter walks may stand below a longer one
stacked_more : (n m : ℕ) (cs : List Choice) → n ≤ m → Stacked n cs → Stacked m cs
unfolding Stacked
stacked_more n m [] h s = tt
stacked_more n m (c ∷ cs) h s = (omega (arith, s.0), s.1, s.2)

few_exits : (o : Object) (from : ℕ) → length (exits_of o from) ≤ 2
unfolding exits_of legs_of
few_exits (Boundary link) from = omega arith
few_exits (Plain p) from = omega arith
few_exits (Turnout t) from = legs (eqb t.front from)
  where
    legs : (b : Bool) → length (cond b (t.normal ∷ t.reverse ∷ []) (t.front ∷ [])) ≤ 2
    legs true = omega arith
    legs false = omega arith
few_exits Nothing from = omega arith

-- the exits of a walk that was longer by one than there were choices below it: there is room for their choices
stacked_exits : (n : ℕ) (xs : List ℕ) (cs : List Choice) → length xs ≤ 2 → length cs < n → Stacked n cs → Stacked (n + 1) (choices_of (n + 1) xs ++ cs)
unfolding Stacked choices_of
stacked_exits n [] cs f h s = stacked_more n (n + 1) cs (omega arith) s
stacked_exits n (x ∷ []) cs f h s = (omega arith, omega arith, stacked_more n (n + 1) cs (omega arith) s)
stacked_exits n (x ∷ y ∷ []) cs f h s = (omega arith, omega arith, (omega arith, omega arith, stacked_more n (n + 1) cs (omega arith) s))
stacked_exits n (x ∷ y ∷ z ∷ xs) cs f h s = absurd (omega arith)

module _ (v : ℕ → Object) (limit : ℕ) where
  -- an object stored after the first n leaves the walks by choices of at most n objects
  walks_kept : (path : List ℕ) (n x : ℕ) (cs : List Choice) → Stacked n cs → walks_by_all v limit (set path n x) cs ≡ walks_by_all v limit path cs
  unfolding walks_by_all Stacked
  walks_kept path n x [] s = refl
  walks_kept path n x (c ∷ cs) s =
      let below : c.objects ≤ n = s.0 in
      let some : 0 < c.objects = omega (arith, s.1) in
      rw (take-set-le c.objects path n x below, get_or-set_other path n (c.objects - 1) x 0 (λ e. omega arith), walks_kept path n x cs (stacked_more c.objects n cs below s.2)) refl

  -- the walks by the exits of a walk of n objects
  walks_exits : (path : List ℕ) (n : ℕ) (xs : List ℕ) (cs : List Choice)
      → walks_by_all v limit path (choices_of n xs ++ cs) ≡ each (λ x. walks v (limit - n) (take n path) (get_or path (n - 1) 0) x) xs ++ walks_by_all v limit path cs
  unfolding walks_by_all choices_of each
  walks_exits path n [] cs = refl
  walks_exits path n (x ∷ xs) cs =
      rw (walks_exits path n xs cs) (sym (append_assoc (walks v (limit - n) (take n path) (get_or path (n - 1) 0) x) (each (λ y. walks v (limit - n) (take n path) (get_or path (n - 1) 0) y) xs) (walks_by_all v limit path cs)))

-- ---- the test

-- a walk that does not go on by a link gives none
gives_none : (v : ℕ → Object) (p : List ℕ) (n from link limit : ℕ) → goes_on p n link limit ≡ false → walks v (limit - n) p from link ≡ []
unfolding goes_on
gives_none v p n from link limit e = go (eqb link 0) refl (ltb n limit) refl (has p link) refl e
  where
    go : (a : Bool) → eqb link 0 ≡ a → (b : Bool) → ltb n limit ≡ b → (c : Bool) → has p link ≡ c → (not a && (b && not c)) ≡ false → walks v (limit - n) p from link ≡ []
    go true a b b' c c' h = walks_none v p from link (limit - n) (eqb-true link 0 a)
    go false a false b c c' h = walks_end v p from link (limit - n) (omega (arith, ltb-false n limit b))
    go false a true b true c h = walks_passed v p from link (limit - n) c
    go false a true b false c h = absurd (true≢false h)

pub record Goes (p : List ℕ) (n link limit : ℕ) : Type 0 where
  pub named : link ≡ 0 → ⊥
  pub allowed : n < limit
  pub fresh : has p link ≡ false

pub goes : (p : List ℕ) (n link limit : ℕ) → goes_on p n link limit ≡ true → Goes p n link limit
unfolding goes_on
goes p n link limit e =
    let a = and-true (not (eqb link 0)) _ e in
    let b = and-true (ltb n limit) _ a.1 in
    record { named = eqb-false link 0 (not-true (eqb link 0) a.0); allowed = ltb-true n limit b.0; fresh = not-true (has p link) b.1 }

-- one that does gives itself with the object more, and then what its exits give
gives_more : (v : ℕ → Object) (p : List ℕ) (n from link limit : ℕ) → Goes p n link limit
    → walks v (limit - n) p from link ≡ (p ++ (link ∷ [])) ∷ each (λ x. walks v (limit - (n + 1)) (p ++ (link ∷ [])) link x) (exits_of (v link) from)
gives_more v p n from link limit g =
    let k : limit - n ≡ suc (limit - (n + 1)) = omega (arith, g.allowed) in
    ap (λ (j : ℕ). walks v j p from link) k ∙ walks_more v p from link g.named g.fresh (limit - (n + 1))

-- ---- the loop

-- n objects stand in the path; `done` has been found of `all`, and the choices give the rest
pub record Course (v : ℕ → Object) (all : List (List ℕ)) (limit budget : ℕ) (path₀ out₀ : List ℕ) (n waiting : ℕ) (objects links marks path out : List ℕ) (t : Tally) : Type 0 where
  pub bounds : Bounds limit budget
  pub sized : Sized objects links
  pub stacked : Stacked n (open_of objects links waiting)
  pub short : n ≤ limit
  pub marked : Marked marks path n
  pub same_path : length path ≡ length path₀
  pub long : limit_most ≤ length path
  pub same_out : length out ≡ length out₀
  pub done : List (List ℕ)
  pub grown : Grown v done budget one_walk t out₀ out
  pub whole : done ++ walks_by_all v limit path (open_of objects links waiting) ≡ all

-- at first the one choice is the link of the first object
pub course_starts : (v : ℕ → Object) (limit budget first w : ℕ) (path out objects₀ links₀ objects links marks : List ℕ) → Bounds limit budget → limit_most ≤ length path → Marked marks path 1
    → Put 1 (first ∷ []) 0 w objects₀ links₀ objects links
    → Course v (walks v (limit - 1) (take 1 path) (get_or path 0 0) first) limit budget path out 1 w objects links marks path out one_walk
unfolding open_of choices_of walks_by_all Stacked
course_starts v limit budget first w path out objects₀ links₀ objects links marks b l m p = record {
  bounds = b;
  sized = p.sized;
  stacked = rw p.choices (omega arith, omega arith, tt);
  short = omega (arith, b.least);
  marked = m;
  same_path = refl;
  long = l;
  same_out = refl;
  done = [];
  grown = grown_none v budget one_walk out (record { capped = omega (arith, b.some); fewer = omega arith; short = omega arith });
  whole = rw p.choices (append-nil _);
}

module _ (v : ℕ → Object) (all : List (List ℕ)) (limit budget : ℕ) (path₀ out₀ : List ℕ) (n waiting : ℕ) (objects links marks path out : List ℕ) (t : Tally)
    (course : Course v all limit budget path₀ out₀ n waiting objects links marks path out t) where
  pub course_ends : (waiting ≡ 0) ⊎ (budget < t.walks) → Grown v all budget one_walk t out₀ out
  unfolding open_of walks_by_all
  course_ends (inl e) = subst (λ (ws : List (List ℕ)). Grown v ws budget one_walk t out₀ out) (sym (append-nil course.done) ∙ (rw e at course.whole)) course.grown
  course_ends (inr h) =
      subst (λ (ws : List (List ℕ)). Grown v ws budget one_walk t out₀ out) course.whole
      (grown_seq v budget course.done (walks_by_all v limit path (open_of objects links waiting)) one_walk t t out₀ out out course.grown (grown_over v budget _ t out course.grown.sane h))

  -- the choice c is taken up, and k stand below it
  module _ (some : 0 < waiting) (k : ℕ) (below : k ≡ waiting - 1) (c : Choice) (top : c ≡ choice_at objects links k) where
    opened : open_of objects links waiting ≡ c ∷ open_of objects links k
    opened = open-top objects links waiting some ∙ rw (top, below) refl

    stack : Stacked n (c ∷ open_of objects links k)
    stack = rw opened at course.stacked

    pub fewer : k < c.objects
    unfolding Stacked
    fewer = omega (arith, stack.1, open_length objects links k)

    pub cut : c.objects ≤ n
    unfolding Stacked
    cut = stack.0

    pub cut_marked : Marked marks path c.objects
    cut_marked = marked_less marks path c.objects n cut course.marked

    abbrev rest : List (List ℕ)
    rest = walks_by_all v limit path (open_of objects links k)

    whole_there : course.done ++ (walks_by v limit path c ++ rest) ≡ all
    unfolding walks_by_all
    whole_there = rw opened at course.whole

    pub course_shut : goes_on (take c.objects path) c.objects c.link limit ≡ false → Course v all limit budget path₀ out₀ c.objects k objects links marks path out t
    unfolding Stacked
    course_shut e = record {
      bounds = course.bounds;
      sized = course.sized;
      stacked = stack.2;
      short = omega (arith, cut, course.short);
      marked = cut_marked;
      same_path = course.same_path;
      long = course.long;
      same_out = course.same_out;
      done = course.done;
      grown = course.grown;
      whole = rw (gives_none v (take c.objects path) c.objects (get_or path (c.objects - 1) 0) c.link limit e) at whole_there;
    }

    -- the walk with one object more may be counted
    pub countable : Goes (take c.objects path) c.objects c.link limit → (path₁ : List ℕ) → path₁ ≡ set path c.objects c.link
        → (c.objects + 1 ≤ length path₁) × (c.objects + 1 ≤ limit_most) × Sane budget_most t
    countable g path₁ put =
        let s = course.grown.sane in
        let b = course.bounds in
        let e = ap length put ∙ length-set path c.objects c.link in
        (omega (arith, g.allowed, course.long), omega (arith, g.allowed), record { capped = omega arith; fewer = s.fewer; short = s.short })

    -- with the object that the link names: o stands there, and it was entered from `from`
    module _ (open_to : Goes (take c.objects path) c.objects c.link limit) (within : t.walks ≤ budget) (marks₁ path₁ : List ℕ) (put : path₁ ≡ set path c.objects c.link)
        (marked : Marked marks₁ path₁ (c.objects + 1)) (o : Object) (o_is : o ≡ v c.link) (u : Tally) (out₁ : List ℕ) (counted : Taken (is_boundary o) (c.objects + 1) t u)
        (stored : out₁ ≡ taken_bytes (is_boundary o) out t.words (c.objects + 1) (take (c.objects + 1) path₁)) where
      abbrev m : ℕ
      m = c.objects

      abbrev longer : List ℕ
      longer = take m path ++ (c.link ∷ [])

      in_path : m < length path
      in_path = omega (arith, open_to.allowed, course.bounds.most, course.long)

      at_path : take (m + 1) path₁ ≡ longer
      at_path = ap (take (m + 1)) put ∙ path_more path m c.link in_path

      begun : 1 ≤ length (take m path)
      begun = omega (arith, length-take-le m path (omega (arith, in_path)), fewer)

      one_longer : length longer ≡ m + 1
      one_longer = length-append (take m path) (c.link ∷ []) ∙ ap (λ (j : ℕ). j + 1) (length-take-le m path (omega (arith, in_path)))

      walk_counted : Grown v (longer ∷ []) budget t u out out₁
      unfolding Taken
      walk_counted = go (is_boundary o) (route_at v (take m path) c.link begun ∙ ap is_boundary (sym o_is)) counted stored
        where
          go : (b : Bool) → is_route v longer ≡ b → Taken b (m + 1) t u → out₁ ≡ taken_bytes b out t.words (m + 1) (take (m + 1) path₁) → Grown v (longer ∷ []) budget t u out out₁
          go true r k q =
              grown_route v budget longer t u out out₁ course.grown.sane within r (omega (arith, one_longer, open_to.allowed, course.bounds.most)) (rw one_longer k)
              (q ∙ rw (at_path, one_longer) refl)
          go false r k q = subst (λ (x : List ℕ). Grown v (longer ∷ []) budget t u out x) (sym q) (grown_open v budget longer t u out course.grown.sane within r k)

      pub course_more : (from w : ℕ) (objects₁ links₁ : List ℕ) → from ≡ get_or path (m - 1) 0 → length out₁ ≡ length out → Put (m + 1) (exits_of o from) k w objects links objects₁ links₁
          → Course v all limit budget path₀ out₀ (m + 1) w objects₁ links₁ marks₁ path₁ out₁ u
      unfolding Stacked
      course_more from w objects₁ links₁ f l p = record {
        bounds = course.bounds;
        sized = p.sized;
        stacked = rw p.choices (stacked_exits m (exits_of o from) (open_of objects links k) (few_exits o from) stack.1 stack.2);
        short = omega (arith, open_to.allowed);
        marked = marked;
        same_path = ap length put ∙ length-set path m c.link ∙ course.same_path;
        long = omega (arith, ap length put ∙ length-set path m c.link, course.long);
        same_out = l ∙ course.same_out;
        done = course.done ++ (longer ∷ []);
        grown = grown_seq v budget course.done (longer ∷ []) one_walk t u out₀ out out₁ course.grown walk_counted;
        whole =
            rw (p.choices, walks_exits v limit path₁ (m + 1) (exits_of o from) (open_of objects links k), at_path, last-is, below_is, o_is, f)
            (append_assoc course.done (longer ∷ []) (each (λ x. walks v (limit - (m + 1)) longer c.link x) (exits_of (v c.link) (get_or path (m - 1) 0)) ++ rest)
            ∙ rw (gives_more v (take m path) m (get_or path (m - 1) 0) c.link limit open_to) at whole_there);
      }
        where
          last-is : get_or path₁ (m + 1 - 1) 0 ≡ c.link
          last-is = let e : m + 1 - 1 ≡ m = omega arith in ap (λ (j : ℕ). get_or path₁ j 0) e ∙ ap (λ (q : List ℕ). get_or q m 0) put ∙ get_or-set_same path m c.link 0 in_path

          below_is : walks_by_all v limit path₁ (open_of objects links k) ≡ rest
          below_is = ap (λ (q : List ℕ). walks_by_all v limit q (open_of objects links k)) put ∙ walks_kept v limit path m c.link (open_of objects links k) stack.2

      -- twice the walks that the budget still allows, and the choices that are open, fall
      pub course_falls : (from w : ℕ) (objects₁ links₁ : List ℕ) → Put (m + 1) (exits_of o from) k w objects links objects₁ links₁
          → (budget + 1 - u.walks) + (budget + 1 - u.walks) + w < (budget + 1 - t.walks) + (budget + 1 - t.walks) + waiting
      unfolding Taken
      course_falls from w objects₁ links₁ p = omega (arith, few_exits o from, p.number, one_more (is_boundary o) counted)
        where
          one_more : (b : Bool) → Taken b (m + 1) t u → u.walks ≡ t.walks + 1
          one_more true k = k.walks_are
          one_more false k = k.walks_are
