-- Why the list stops, seen from its end: each of the six stops is answered exactly where its own condition holds of the object that stands last and
-- of the link by which that is left; and of a list of no objects, of the link asked with.
use Prim.Native.Nat.{ℕ}
use native.Mathlib.Omega.{arith}
use mathlib.Core.Path.{◌≡◌, refl, sym, subst}
use mathlib.Core.Bool.{true, true≢false}
use mathlib.Core.Logic.{◌⊎◌, inl, inr, ◌↔◌}
use mathlib.Core.List.Memᴰ
use mathlib.Core.List.{List, [], ◌∷◌, ◌++◌, append_assoc, concat-ne-nil, Memᴰ}
use Rattle.route_graph.specs.declared.Object.{Object}
use Rattle.route_graph.specs.declared.Object.TheVariants.{Boundary, Plain, Turnout, Nothing}
use Rattle.route_graph.specs.Objects.{links_of, is_boundary}
use Rattle.route_graph.specs.Links.{Joined}
use Rattle.route_walks.specs.Legal.{last_object}
use Rattle.ahead.specs.declared.Stop.{Stop}
use Rattle.ahead.specs.declared.Stop.TheVariants as stop
use Rattle.ahead.specs.Lies.{are_lies}
use Rattle.ahead.specs.Ways.{LeadsOn, StopsAt}
use Rattle.ahead.specs.Ahead.{Ahead}
use Rattle.ahead_theorems.specs.Stops.{EndsFor}
use Rattle.ahead_theorems.proofs.Exactly.{ahead_one}

module _ (v : ℕ → Object) (lies : List ℕ) (passed : ℕ) where
  -- what the meaning says of the last object x, entered from `from`, where all objects are listed
  abbrev Last : Object → ℕ → ℕ → List ℕ → Stop → Type 0
  Last o from x all s = StopsAt o from lies s ⊎ ((y : ℕ) × LeadsOn o from lies y × Ahead v lies passed all x y [] s)

  module _ (from x : ℕ) (all : List ℕ) where
    last_ends : (o : Object) (s : Stop) → Last o from x all s → EndsFor o from lies passed all s
    unfolding EndsFor StopsAt Ahead
    last_ends (Boundary link) s (inl z) = subst (λ (u : Stop). EndsFor (Boundary link) from lies passed all u) (sym z) refl
    last_ends (Plain p) s (inl h) = absurd h
    last_ends (Turnout t) s (inl (inl (f, e, z))) = subst (λ (u : Stop). EndsFor (Turnout t) from lies passed all u) (sym z) (t, refl, f, e)
    last_ends (Turnout t) s (inl (inr (inl (f, e, z)))) = subst (λ (u : Stop). EndsFor (Turnout t) from lies passed all u) (sym z) (t, refl, inl (f, e))
    last_ends (Turnout t) s (inl (inr (inr (f, e, z)))) = subst (λ (u : Stop). EndsFor (Turnout t) from lies passed all u) (sym z) (t, refl, inr (f, e))
    last_ends Nothing s (inl h) = absurd h
    last_ends o s (inr (y, p, inl (e, z))) =
        subst (λ (u : Stop). EndsFor o from lies passed all u) (sym z) (subst (λ (n : ℕ). LeadsOn o from lies n) e p)
    last_ends o s (inr (y, p, inr (inl (n, a, z)))) = subst (λ (u : Stop). EndsFor o from lies passed all u) (sym z) (y, p, n, a)
    last_ends o s (inr (y, p, inr (inr (n, a, f, z)))) = subst (λ (u : Stop). EndsFor o from lies passed all u) (sym z) (y, p, n, a, f)

    boundary_stops : (o : Object) → is_boundary o ≡ true → StopsAt o from lies stop.Boundary
    unfolding StopsAt
    boundary_stops (Boundary link) b = refl
    boundary_stops (Plain p) b = absurd (true≢false (sym b))
    boundary_stops (Turnout t) b = absurd (true≢false (sym b))
    boundary_stops Nothing b = absurd (true≢false (sym b))

    ends_last : (o : Object) (s : Stop) → EndsFor o from lies passed all s → Last o from x all s
    unfolding EndsFor StopsAt Ahead
    ends_last o stop.Boundary h = inl (boundary_stops o h)
    ends_last o stop.NoLink h = inr (0, h, inl (refl, refl))
    ends_last o stop.UnknownLie (t, q, f, e) = inl (rw q (inl (f, e, refl)))
    ends_last o stop.Repeated (y, p, n, a) = inr (y, p, inr (inl (n, a, refl)))
    ends_last o stop.AgainstLie (t, q, inl (f, e)) = inl (rw q (inr (inl (f, e, refl))))
    ends_last o stop.AgainstLie (t, q, inr (f, e)) = inl (rw q (inr (inr (f, e, refl))))
    ends_last o stop.Full (y, p, n, a, f) = inr (y, p, inr (inr (n, a, f, refl)))

  last_of : (w listed : List ℕ) (from to x : ℕ) (s : Stop) → Ahead v lies passed listed from to (w ++ (x ∷ [])) s
      → Last (v x) (last_object (from ∷ w)) x (listed ++ (w ++ (x ∷ []))) s
  unfolding Ahead last_object
  last_of [] listed from to x s (e, n, a, l, inl (p, z)) = inl p
  last_of [] listed from to x s (e, n, a, l, inr h) = inr h
  last_of (c ∷ w) listed from to x s (e, n, a, l, inl (p, z)) = absurd (concat-ne-nil x w z)
  last_of (c ∷ w) listed from to x s (e, n, a, l, inr (y, p, r)) =
      subst (λ (all : List ℕ). Last (v x) (last_object (c ∷ w)) x all s) (append_assoc listed (c ∷ []) (w ++ (x ∷ []))) (last_of w (listed ++ (c ∷ [])) c y x s r)

  -- the same list with another stop
  other_stop : (w listed : List ℕ) (from to x : ℕ) (s s' : Stop) → Ahead v lies passed listed from to (w ++ (x ∷ [])) s
      → Last (v x) (last_object (from ∷ w)) x (listed ++ (w ++ (x ∷ []))) s' → Ahead v lies passed listed from to (w ++ (x ∷ [])) s'
  unfolding Ahead last_object
  other_stop [] listed from to x s s' (e, n, a, l, h) (inl p) = (e, n, a, l, inl (p, refl))
  other_stop [] listed from to x s s' (e, n, a, l, h) (inr q) = (e, n, a, l, inr q)
  other_stop (c ∷ w) listed from to x s s' (e, n, a, l, inl (p, z)) q = absurd (concat-ne-nil x w z)
  other_stop (c ∷ w) listed from to x s s' (e, n, a, l, inr (y, p, r)) q =
      let back = subst (λ (all : List ℕ). Last (v x) (last_object (c ∷ w)) x all s') (sym (append_assoc listed (c ∷ []) (w ++ (x ∷ [])))) q in
      (e, n, a, l, inr (y, p, other_stop w (listed ++ (c ∷ [])) c y x s s' r back))

  -- THEOREM: no object is listed exactly where the link is missing, or names the object last passed
  pub none_ahead : (first : ℕ) (s : Stop) → Ahead v lies passed [] passed first [] s
      ↔ (((first ≡ 0) × (s ≡ stop.NoLink)) ⊎ ((¬ (first ≡ 0)) × (first ≡ passed) × (s ≡ stop.Repeated)))
  unfolding Ahead
  none_ahead first s = (to_words, to_meaning)
    where
      to_words : Ahead v lies passed [] passed first [] s → ((first ≡ 0) × (s ≡ stop.NoLink)) ⊎ ((¬ (first ≡ 0)) × (first ≡ passed) × (s ≡ stop.Repeated))
      to_words (inl h) = inl h
      to_words (inr (inl (n, a, z))) = inr (n, Memᴰ.eq_of_singleton a, z)
      to_words (inr (inr (n, a, f, z))) = absurd (omega arith)

      to_meaning : ((first ≡ 0) × (s ≡ stop.NoLink)) ⊎ ((¬ (first ≡ 0)) × (first ≡ passed) × (s ≡ stop.Repeated)) → Ahead v lies passed [] passed first [] s
      to_meaning (inl h) = inl h
      to_meaning (inr (n, e, z)) = inr (inl (n, Memᴰ.head e, z))

module _ (v : ℕ → Object) (Good : ℕ → Type 0) (joined : Joined v Good) (lies : List ℕ) (right : are_lies lies ≡ true) (passed first : ℕ) where
  -- THEOREM: where objects are listed, the last of them x, the list stops for a reason exactly where its condition holds
  pub ahead_stops : Good passed → Memᴰ first (links_of (v passed)) → (w : List ℕ) (x : ℕ) (s : Stop)
      → Ahead v lies passed [] passed first (w ++ (x ∷ [])) s
      → (s' : Stop) → (s ≡ s') ↔ EndsFor (v x) (last_object (passed ∷ w)) lies passed (w ++ (x ∷ [])) s'
  ahead_stops good link w x s h s' = (
    λ e.
        subst (λ (u : Stop). EndsFor (v x) (last_object (passed ∷ w)) lies passed (w ++ (x ∷ [])) u) e
        (last_ends v lies passed (last_object (passed ∷ w)) x (w ++ (x ∷ [])) (v x) s (last_of v lies passed w [] passed first x s h)),
    λ c.
        (ahead_one v Good joined lies right passed first good link (w ++ (x ∷ [])) (w ++ (x ∷ [])) s s' h
        (other_stop v lies passed w [] passed first x s s' h (ends_last v lies passed (last_object (passed ∷ w)) x (w ++ (x ∷ [])) (v x) s' c))).1,
  )
