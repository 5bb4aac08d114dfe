-- The list computed is what lies ahead by the ticket's words, and nothing else is: for every start, link and lies there is exactly one list with
-- one stop.
use Prim.Native.Nat.{ℕ, zero, suc, ◌+◌}
use native.Mathlib.Omega.{arith}
use mathlib.Core.Path.{◌≡◌, refl, sym, ap, subst₂, ◌∙◌}
use mathlib.Core.Bool.{Bool, true, false}
use mathlib.Core.Logic.{inl, inr, ◌↔◌}
use mathlib.Core.List.{List, [], ◌∷◌, ◌++◌, append-nil, append_assoc, append_cancel_left}
use mathlib.Core.List.Memᴰ
use mathlib.Core.List.{Memᴰ}
use lib.ListN.{length, length-append}
use lib.Dec.{eqb}
use borrow.Author.Tests.{eqb-true, eqb-false}
use Rattle.route_graph.specs.declared.Object.{Object}
use Rattle.route_graph.specs.Objects.{links_of}
use Rattle.route_graph.specs.Links.{Joined}
use Rattle.route_graph.proofs.Ways.{left_link}
use Rattle.route_walks.specs.Walks.{has}
use Rattle.route_walks.proofs.Legal.{enters}
use Rattle.route_walks.proofs.Paths.{mem_has, has_mem, not_has, has_not}
use Rattle.ahead.specs.declared.Stop.{Stop}
use Rattle.ahead.specs.declared.Stop.TheVariants as stop
use Rattle.std.specs.Prelude.{Ok, Err}
use Rattle.ahead.specs.Lies.{are_lies}
use Rattle.ahead.specs.Ways.{Way, LeadsOn, StopsAt, way_of}
use Rattle.ahead.specs.Ahead.{objects_most, Ahead}
use Rattle.ahead.specs.Seen.{Seen, ends, ahead_from}
use Rattle.ahead.proofs.Looking.{from_none, from_again, from_full, from_more}
use Rattle.ahead_theorems.proofs.Leads.{leads_iff, stops_iff, leads_left}

-- ---- the list

module _ (v : ℕ → Object) (Good : ℕ → Type 0) (joined : Joined v Good) (lies : List ℕ) (right : are_lies lies ≡ true) (passed : ℕ) where
  -- from what a link of a good place names the way is what the words say, and they lead to one of its links again
  module _ (from to : ℕ) (g : Good from) (m : Memᴰ to (links_of (v from))) (n : ¬ (to ≡ 0)) where
    goes_iff : (x : ℕ) → (way_of (v to) from lies ≡ Ok x) ↔ LeadsOn (v to) from lies x
    goes_iff x = let h = enters v Good joined from to g m n in leads_iff lies right (v to) from x (joined.single to h.place) h.link (joined.placed from g)

    ends_iff : (s : Stop) → (way_of (v to) from lies ≡ Err s) ↔ StopsAt (v to) from lies s
    ends_iff s = let h = enters v Good joined from to g m n in stops_iff lies right (v to) from s (joined.single to h.place) h.link (joined.placed from g)

  next_link : (from to x : ℕ) → LeadsOn (v to) from lies x → Memᴰ x (links_of (v to))
  next_link from to x h = left_link (v to) from x (leads_left (v to) lies from x h)

  one_more : (listed : List ℕ) (x k : ℕ) → length listed + suc k ≡ objects_most → length (listed ++ (x ∷ [])) + k ≡ objects_most
  one_more listed x k c = omega (arith, length-append listed (x ∷ []))

  -- what lies ahead is computed
  computed : (objects listed : List ℕ) (k from to : ℕ) (s : Stop) → Good from → Memᴰ to (links_of (v from)) → length listed + k ≡ objects_most
      → Ahead v lies passed listed from to objects s → ahead_from v lies passed k listed from to ≡ ends (listed ++ objects) s
  unfolding Ahead
  computed [] listed k from to s g m c (inl (e, z)) = from_none v lies passed listed from to k e ∙ rw (z, append-nil listed) refl
  computed [] listed k from to s g m c (inr (inl (n, a, z))) = from_again v lies passed listed from to n k (mem_has (passed ∷ listed) to a) ∙ rw (z, append-nil listed) refl
  computed [] listed k from to s g m c (inr (inr (n, a, f, z))) =
      from_full v lies passed listed from to n k (omega arith) (not_has (passed ∷ listed) to a) ∙ rw (z, append-nil listed) refl
  computed (x ∷ xs) listed zero from to s g m c (e, n, a, l, h) = absurd (omega arith)
  computed (x ∷ xs) listed (suc k) from to s g m c (e, n, a, l, inl (p, z)) =
      let w = (ends_iff from x g (Memᴰ.cast e m) n s).1 p in
      rw (← e) (from_more v lies passed listed from x n k (not_has (passed ∷ listed) x a) ∙ rw (w, z) refl)
  computed (x ∷ xs) listed (suc k) from to s g m c (e, n, a, l, inr (y, p, r)) =
      let w = (goes_iff from x g (Memᴰ.cast e m) n y).1 p in
      let t = computed xs (listed ++ (x ∷ [])) k x y s (joined.target from x g (Memᴰ.cast e m) n) (next_link from x y p) (one_more listed x k c) r in
      rw (← e) (from_more v lies passed listed from x n k (not_has (passed ∷ listed) x a) ∙ rw w (t ∙ rw (append_assoc listed (x ∷ []) xs) refl))

  -- something lies ahead
  abbrev Some : List ℕ → ℕ → ℕ → Type 0
  Some listed from to = (objects : List ℕ) × (s : Stop) × Ahead v lies passed listed from to objects s

  -- unless the link is missing or names no new object: what then
  by_link : (listed : List ℕ) (from to : ℕ) → ((¬ (to ≡ 0)) → (¬ Memᴰ to (passed ∷ listed)) → Some listed from to) → Some listed from to
  unfolding Ahead
  by_link listed from to new = go (eqb to 0) refl (has (passed ∷ listed) to) refl
    where
      go : (a : Bool) → eqb to 0 ≡ a → (b : Bool) → has (passed ∷ listed) to ≡ b → Some listed from to
      go true e b f = ([], stop.NoLink, inl (eqb-true to 0 e, refl))
      go false e true f = ([], stop.Repeated, inr (inl (eqb-false to 0 e, has_mem (passed ∷ listed) to f, refl)))
      go false e false f = new (eqb-false to 0 e) (has_not (passed ∷ listed) to f)

  some_ahead : (k : ℕ) (listed : List ℕ) (from to : ℕ) → Good from → Memᴰ to (links_of (v from)) → length listed + k ≡ objects_most → Some listed from to
  unfolding Ahead
  some_ahead zero listed from to g m c = by_link listed from to (λ n a. ([], stop.Full, inr (inr (n, a, omega arith, refl))))
  some_ahead (suc k) listed from to g m c =
      by_link listed from to (λ n a. go n a (λ x h. some_ahead k (listed ++ (to ∷ [])) to x (joined.target from to g m n) h (one_more listed to k c)))
    where
      go : (n : ¬ (to ≡ 0)) → (¬ Memᴰ to (passed ∷ listed)) → ((x : ℕ) → Memᴰ x (links_of (v to)) → Some (listed ++ (to ∷ [])) to x) → Some listed from to
      go n a rec = on (way_of (v to) from lies) refl
        where
          on : (w : Way) → way_of (v to) from lies ≡ w → Some listed from to
          on (Ok x) w =
              let p = (goes_iff from to g m n x).0 w in
              let r = rec x (next_link from to x p) in
              (to ∷ r.0, r.1, (refl, n, a, omega arith, inr (x, p, r.2)))
          on (Err s) w = (to ∷ [], s, (refl, n, a, omega arith, inl ((ends_iff from to g m n s).0 w, refl)))

  -- THEOREM: by a link of a good place the objects follow, and the list stops for s, exactly where that is computed
  pub ahead_iff : (k : ℕ) (listed : List ℕ) (from to : ℕ) → Good from → Memᴰ to (links_of (v from)) → length listed + k ≡ objects_most
      → (objects : List ℕ) (s : Stop) → Ahead v lies passed listed from to objects s ↔ (ahead_from v lies passed k listed from to ≡ ends (listed ++ objects) s)
  ahead_iff k listed from to g m c objects s = (
    computed objects listed k from to s g m c,
    λ e.
        let r = some_ahead k listed from to g m c in
        let q = sym (computed r.0 listed k from to r.1 g m c r.2) ∙ e in
        subst₂ (λ (xs : List ℕ) (u : Stop). Ahead v lies passed listed from to xs u)
        (append_cancel_left listed r.0 objects (ap (λ (h : Seen). h.objects) q)) (ap (λ (h : Seen). h.stop) q) r.2,
  )

  module _ (first : ℕ) (good : Good passed) (link : Memᴰ first (links_of (v passed))) where
    -- THEOREM: ahead of the object last passed lies what is computed, and nothing else
    pub ahead_exactly : (objects : List ℕ) (s : Stop)
        → Ahead v lies passed [] passed first objects s ↔ (ahead_from v lies passed objects_most [] passed first ≡ ends objects s)
    ahead_exactly objects s = ahead_iff objects_most [] passed first good link refl objects s

    -- THEOREM: what is computed lies ahead
    pub ahead_there : Ahead v lies passed [] passed first
        (ahead_from v lies passed objects_most [] passed first).objects (ahead_from v lies passed objects_most [] passed first).stop
    ahead_there = (ahead_exactly (ahead_from v lies passed objects_most [] passed first).objects (ahead_from v lies passed objects_most [] passed first).stop).1 refl

    -- THEOREM: only one list with one stop lies ahead
    pub ahead_one : (objects objects' : List ℕ) (s s' : Stop)
        → Ahead v lies passed [] passed first objects s → Ahead v lies passed [] passed first objects' s' → (objects ≡ objects') × (s ≡ s')
    ahead_one objects objects' s s' a b =
        let q = sym ((ahead_exactly objects s).0 a) ∙ (ahead_exactly objects' s').0 b in
        (ap (λ (h : Seen). h.objects) q, ap (λ (h : Seen). h.stop) q)
