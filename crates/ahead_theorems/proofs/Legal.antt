-- What the meaning of the list says of routes (01), whatever the links: at most 64 objects, none twice, each step a step of a route. So a partial
-- walk that goes from the object last passed to the first object listed goes on over all of them, and from a boundary the list is a partial walk,
-- and a route where it stops at a boundary.
use Prim.Native.Nat.{ℕ, ◌+◌, ◌≤◌}
use native.Mathlib.Omega.{arith}
use mathlib.Core.Path.{◌≡◌, refl, ap, subst, ◌∙◌}
use mathlib.Core.Bool.{true}
use mathlib.Core.Logic.{inl, inr}
use mathlib.Core.List.Memᴰ
use mathlib.Core.List.{List, [], ◌∷◌, ◌++◌, cons-ne-nil}
use lib.ListN.{length, length-append}
use Rattle.route_graph.specs.declared.Object.{Object}
use Rattle.route_graph.specs.declared.Object.TheVariants.{Boundary, Plain, Turnout, Nothing}
use Rattle.route_graph.specs.Objects.{is_boundary, edge_link}
use Rattle.route_walks.specs.Legal.{Follows, FromStart, NoneTwice, last_object, Walk, Route}
use Rattle.route_walks.proofs.Paths.{not_has, has_not, Fresh, fresh_distinct}
use Rattle.ahead.specs.declared.Stop.{Stop}
use Rattle.ahead.specs.declared.Stop.TheVariants as stop
use Rattle.ahead.specs.Ways.{StopsAt}
use Rattle.ahead.specs.Ahead.{objects_most, stop_number, Ahead}
use Rattle.ahead_theorems.proofs.Leads.{leads_left}

-- ---- from any link on

module _ (v : ℕ → Object) (lies : List ℕ) (passed : ℕ) where
  few : (objects listed : List ℕ) (from to : ℕ) (s : Stop) → length listed ≤ objects_most → Ahead v lies passed listed from to objects s
      → length listed + length objects ≤ objects_most
  unfolding Ahead
  few [] listed from to s l h = omega arith
  few (x ∷ xs) listed from to s l (e, n, a, m, inl (p, z)) = rw z (omega arith)
  few (x ∷ xs) listed from to s l (e, n, a, m, inr (y, p, r)) =
      let more = length-append listed (x ∷ []) in omega (arith, few xs (listed ++ (x ∷ [])) x y s (omega arith) r)

  fresh : (objects listed : List ℕ) (from to : ℕ) (s : Stop) → Ahead v lies passed listed from to objects s → Fresh (passed ∷ listed) objects
  unfolding Ahead
  fresh [] listed from to s h = tt
  fresh (x ∷ xs) listed from to s (e, n, a, m, inl (p, z)) = (not_has (passed ∷ listed) x a, rw z tt)
  fresh (x ∷ xs) listed from to s (e, n, a, m, inr (y, p, r)) = (not_has (passed ∷ listed) x a, fresh xs (listed ++ (x ∷ [])) x y s r)

  steps : (objects listed : List ℕ) (from to : ℕ) (s : Stop) → Ahead v lies passed listed from to objects s → Follows v from objects
  unfolding Ahead Follows
  steps [] listed from to s h = tt
  steps (x ∷ []) listed from to s h = tt
  steps (x ∷ y ∷ w) listed from to s (e, n, a, m, inl (p, z)) = absurd (cons-ne-nil y w z)
  steps (x ∷ y ∷ w) listed from to s (e, n, a, m, inr (u, p, r)) =
      (rw r.0 (leads_left (v x) lies from u p), r.1, steps (y ∷ w) (listed ++ (x ∷ [])) x u s r)

  -- a stop at a boundary

  at_boundary : (o : Object) (from : ℕ) → StopsAt o from lies stop.Boundary → is_boundary o ≡ true
  unfolding StopsAt
  at_boundary (Boundary link) from h = refl
  at_boundary (Plain p) from h = absurd h
  at_boundary (Turnout t) from (inl (f, e, z)) = let n = ap stop_number z in absurd (omega arith)
  at_boundary (Turnout t) from (inr (inl (f, e, z))) = let n = ap stop_number z in absurd (omega arith)
  at_boundary (Turnout t) from (inr (inr (f, e, z))) = let n = ap stop_number z in absurd (omega arith)
  at_boundary Nothing from h = absurd h

  not-before : (listed : List ℕ) (from to : ℕ) → Ahead v lies passed listed from to [] stop.Boundary → ⊥
  unfolding Ahead
  not-before listed from to (inl (e, z)) = let n = ap stop_number z in omega arith
  not-before listed from to (inr (inl (n, a, z))) = let n = ap stop_number z in omega arith
  not-before listed from to (inr (inr (n, a, f, z))) = let n = ap stop_number z in omega arith

  last_boundary : (x : ℕ) (xs listed : List ℕ) (from to : ℕ) → Ahead v lies passed listed from to (x ∷ xs) stop.Boundary → is_boundary (v (last_object (x ∷ xs))) ≡ true
  unfolding Ahead last_object
  last_boundary x [] listed from to (e, n, a, m, inl (p, z)) = at_boundary (v x) from p
  last_boundary x [] listed from to (e, n, a, m, inr (y, p, r)) = absurd (not-before (listed ++ (x ∷ [])) x y r)
  last_boundary x (y ∷ w) listed from to (e, n, a, m, inl (p, z)) = absurd (cons-ne-nil y w z)
  last_boundary x (y ∷ w) listed from to (e, n, a, m, inr (u, p, r)) = last_boundary y w (listed ++ (x ∷ [])) x u r

-- ---- steps go on

-- steps up to two objects that stand last, and steps from these
go_on : (v : ℕ → Object) (w : List ℕ) (from a b : ℕ) (xs : List ℕ) → Follows v from (w ++ (a ∷ b ∷ [])) → Follows v a (b ∷ xs) → Follows v from (w ++ (a ∷ b ∷ xs))
unfolding Follows
go_on v [] from a b xs h r = (h.0, h.1, r)
go_on v (c ∷ []) from a b xs h r = (h.0, h.1, go_on v [] c a b xs h.2 r)
go_on v (c ∷ d ∷ w) from a b xs h r = (h.0, h.1, go_on v (d ∷ w) c a b xs h.2 r)

start_on : (v : ℕ → Object) (start : ℕ) (w : List ℕ) (a b : ℕ) (xs : List ℕ) → FromStart v start (w ++ (a ∷ b ∷ [])) → Follows v a (b ∷ xs)
    → FromStart v start (w ++ (a ∷ b ∷ xs))
unfolding FromStart
start_on v start [] a b xs h r = (h.0, h.1, go_on v [] start a b xs h.2 r)
start_on v start (c ∷ w) a b xs h r = (h.0, h.1, go_on v (c ∷ w) start a b xs h.2 r)

-- ---- from the object last passed

module _ (v : ℕ → Object) (lies : List ℕ) (passed first : ℕ) where
  -- THEOREM: at most 64 objects are listed
  pub ahead_few : (objects : List ℕ) (s : Stop) → Ahead v lies passed [] passed first objects s → length objects ≤ objects_most
  ahead_few objects s h = omega (arith, few v lies passed objects [] passed first s (omega arith) h)

  -- THEOREM: no object is listed twice, and the one last passed is not listed
  pub ahead_once : (objects : List ℕ) (s : Stop) → Ahead v lies passed [] passed first objects s → NoneTwice (passed ∷ objects)
  unfolding NoneTwice
  ahead_once objects s h =
      let d = fresh_distinct (passed ∷ []) objects (fresh v lies passed objects [] passed first s h) in
      ((λ m. has_not (passed ∷ []) passed (d.1 passed m) (Memᴰ.head refl)), d.0)

  -- THEOREM: the first object is the one that the link names, and each step is a step of a route
  pub ahead_steps : (b : ℕ) (w : List ℕ) (s : Stop) → Ahead v lies passed [] passed first (b ∷ w) s → (b ≡ first) × (¬ (b ≡ 0)) × Follows v passed (b ∷ w)
  unfolding Ahead
  ahead_steps b w s h = (h.0, h.1, steps v lies passed (b ∷ w) [] passed first s h)

  -- THEOREM: a partial walk that goes from the object last passed to the first object listed goes on over all objects listed, up to its limit and
  -- while none stands twice
  pub walk_goes_on : (start limit : ℕ) (w : List ℕ) (b : ℕ) (xs : List ℕ) (s : Stop) → Ahead v lies passed [] passed first (b ∷ xs) s
      → Walk v start limit (w ++ (passed ∷ b ∷ [])) → NoneTwice (w ++ (passed ∷ b ∷ xs)) → length (w ++ (passed ∷ b ∷ xs)) ≤ limit
      → Walk v start limit (w ++ (passed ∷ b ∷ xs))
  unfolding FromStart
  walk_goes_on start limit [] b xs s h k d l =
      let p : passed ≡ start = cc k.is in
      let q : k.rest ≡ b ∷ [] = cc k.is in
      let led = subst (λ (r : List ℕ). FromStart v start r) q k.led in
      record {
        rest = b ∷ xs;
        is = rw p refl;
        led = (led.0, led.1, subst (λ (a : ℕ). Follows v a (b ∷ xs)) p (ahead_steps b xs s h).2);
        once = d;
        short = l;
      }
  walk_goes_on start limit (a ∷ w) b xs s h k d l =
      let p : a ≡ start = cc k.is in
      let q : k.rest ≡ w ++ (passed ∷ b ∷ []) = cc k.is in
      record {
        rest = w ++ (passed ∷ b ∷ xs);
        is = rw p refl;
        led = start_on v start w passed b xs (subst (λ (r : List ℕ). FromStart v start r) q k.led) (ahead_steps b xs s h).2;
        once = d;
        short = l;
      }

  -- ---- from a boundary, left by its link

  module _ (edge : first ≡ edge_link (v passed)) where
    led_from : (objects : List ℕ) (s : Stop) → Ahead v lies passed [] passed first objects s → FromStart v passed objects
    unfolding FromStart
    led_from [] s h = tt
    led_from (b ∷ w) s h = let t = ahead_steps b w s h in (t.0 ∙ edge, t.1, t.2)

    -- THEOREM: the boundary and the objects listed are a partial walk
    pub from_boundary : (objects : List ℕ) (s : Stop) → Ahead v lies passed [] passed first objects s → Walk v passed 65 (passed ∷ objects)
    from_boundary objects s h =
        record { rest = objects; is = refl; led = led_from objects s h; once = ahead_once objects s h; short = omega (arith, ahead_few objects s h) }

    -- THEOREM: and a route, where the list stops at a boundary
    pub route_ahead : (objects : List ℕ) → Ahead v lies passed [] passed first objects stop.Boundary → Route v passed 65 (passed ∷ objects)
    unfolding last_object
    route_ahead [] h = absurd (not-before v lies passed [] passed first h)
    route_ahead (b ∷ w) h =
        record { walk = from_boundary (b ∷ w) stop.Boundary h; two = omega arith; ends = last_boundary v lies passed b w [] passed first h }
