-- The way that is computed from an object is what the ticket's words say: of an object that has no doubled link and was entered by one of its
-- links, where the lies are lies. And the words lead on only by a link by which a route may leave the object (01).
use Prim.Native.Nat.{ℕ, zero, suc, ◌≤◌}
use native.Mathlib.Omega.{arith}
use mathlib.Core.Path.{◌≡◌, refl, sym, subst}
use mathlib.Core.Bool.{true}
use mathlib.Core.Logic.{◌⊎◌, inl, inr, ◌↔◌}
use mathlib.Core.List.Memᴰ
use mathlib.Core.List.{List, [], ◌∷◌, Memᴰ}
use lib.ListN.{length}
use lib.Dec.{eqb, leb}
use borrow.Author.Tests.{leb-true, eq-eqb, ne_eqb}
use Rattle.verdict.proofs.Orders.{and-true}
use Rattle.route_graph.specs.declared.TurnoutLinks.{TurnoutLinks}
use Rattle.route_graph.specs.declared.Object.{Object}
use Rattle.route_graph.specs.declared.Object.TheVariants.{Boundary, Plain, Turnout, Nothing}
use Rattle.route_graph.specs.Objects.{links_of}
use Rattle.route_graph.specs.Ways.{LeftBy, onward_of}
use Rattle.route_graph.specs.Links.{Single}
use Rattle.ahead.specs.declared.Stop.{Stop}
use Rattle.ahead.specs.declared.Stop.TheVariants as stop
use Rattle.std.specs.Prelude.{Ok, Err}
use Rattle.ahead.specs.Lies.{normal, reverse, unknown, lie_count, lie_of, all_lies, are_lies}
use Rattle.ahead.specs.Ways.{Way, LeadsOn, StopsAt, leg_of, way_of}
use Rattle.ahead.proofs.Legs.{leg_normal, leg_reverse, leg_unknown, normal_against, normal_through, reverse_against, reverse_through}

-- ---- the lies

lie_small : (lies : List ℕ) (n : ℕ) → all_lies lies ≡ true → lie_of lies n ≤ unknown
unfolding all_lies lie_of
lie_small [] n a = omega arith
lie_small (b ∷ bs) zero a = leb-true b unknown (and-true (leb b unknown) (all_lies bs) a).0
lie_small (b ∷ bs) (suc n) a = lie_small bs n (and-true (leb b unknown) (all_lies bs) a).1

pub three : (x : ℕ) → x ≤ unknown → (x ≡ normal) ⊎ ((x ≡ reverse) ⊎ (x ≡ unknown))
three zero h = inl refl
three (suc zero) h = inr (inl refl)
three (suc (suc n)) h = inr (inr (omega arith))

-- ---- the words, of a way

-- the object, entered from `from`, has the way w by the ticket's words
abbrev Says : Object → ℕ → List ℕ → Way → Type 0
Says o from lies (Ok x) = LeadsOn o from lies x
Says o from lies (Err s) = StopsAt o from lies s

module _ (lies : List ℕ) where
  module _ (t : TurnoutLinks) (from : ℕ) (d : Single (links_of (Turnout t))) (n : ¬ (from ≡ 0)) where
    abbrev lie : ℕ
    lie = lie_of lies t.number

    not_front : (t.normal ≡ from) ⊎ (t.reverse ≡ from) → ¬ (t.front ≡ from)
    not_front (inl e) = d.0 from (Memᴰ.head (sym e)) n
    not_front (inr e) = d.0 from (Memᴰ.tail (Memᴰ.head (sym e))) n

    not_normal : t.reverse ≡ from → ¬ (t.normal ≡ from)
    not_normal e = d.1.0 from (Memᴰ.head (sym e)) n

    leg_one : (w : Way) → Says (Turnout t) from lies w → leg_of t from lie ≡ w
    unfolding LeadsOn StopsAt
    leg_one (Ok x) (inl (f, inl (e, z))) = rw z (sym (leg_normal t from lie f e))
    leg_one (Ok x) (inl (f, inr (e, z))) = rw z (sym (leg_reverse t from lie f (omega arith) e))
    leg_one (Ok x) (inr (inl (f, e, z))) = rw z (sym (normal_through t from lie (not_front (inl f)) f e))
    leg_one (Ok x) (inr (inr (f, e, z))) = rw z (sym (reverse_through t from lie (not_front (inr f)) (not_normal f) e))
    leg_one (Err s) (inl (f, e, z)) = rw z (sym (leg_unknown t from lie f (omega arith) (omega arith)))
    leg_one (Err s) (inr (inl (f, e, z))) = rw z (sym (normal_against t from lie (not_front (inl f)) f e))
    leg_one (Err s) (inr (inr (f, e, z))) = rw z (sym (reverse_against t from lie (not_front (inr f)) (not_normal f) e))

  -- no other way than the computed one
  way_one : (o : Object) (from : ℕ) (w : Way) → Single (links_of o) → ¬ (from ≡ 0) → Says o from lies w → way_of o from lies ≡ w
  unfolding LeadsOn StopsAt way_of onward_of
  way_one (Boundary link) from (Ok x) d n h = absurd h
  way_one (Boundary link) from (Err s) d n h = rw h refl
  way_one (Plain p) from (Ok x) d n (inl (f, z)) = rw (way_of, onward_of, eq-eqb p.previous from f, z) refl
  way_one (Plain p) from (Ok x) d n (inr (f, z)) = rw (way_of, onward_of, ne_eqb p.previous from (d.0 from (Memᴰ.head (sym f)) n), z) refl
  way_one (Plain p) from (Err s) d n h = absurd h
  way_one (Turnout t) from w d n h = leg_one t from d n w h
  way_one Nothing from (Ok x) d n h = absurd h
  way_one Nothing from (Err s) d n h = absurd h

  module _ (right : are_lies lies ≡ true) where
    -- each lie is one of the three; past the end it is unknown
    pub lie_cases : (n : ℕ) → (lie_of lies n ≡ normal) ⊎ ((lie_of lies n ≡ reverse) ⊎ (lie_of lies n ≡ unknown))
    unfolding are_lies
    lie_cases n = three (lie_of lies n) (lie_small lies n (and-true (eqb (length lies) lie_count) (all_lies lies) right).1)

    -- some way is said of an object that was entered by one of its links
    way_some : (o : Object) (from : ℕ) → Memᴰ from (links_of o) → (w : Way) × Says o from lies w
    unfolding LeadsOn StopsAt
    way_some (Boundary link) from m = (Err stop.Boundary, refl)
    way_some (Plain p) from m = go (Memᴰ.cases_cons m)
      where
        go : (from ≡ p.previous) ⊎ Memᴰ from (p.next ∷ []) → (w : Way) × Says (Plain p) from lies w
        go (inl f) = (Ok p.next, inl (sym f, refl))
        go (inr f) = (Ok p.previous, inr (sym (Memᴰ.eq_of_singleton f), refl))
    way_some (Turnout t) from m = entered (Memᴰ.cases_cons m) (lie_cases t.number)
      where
        lie : ℕ
        lie = lie_of lies t.number

        leg : (from ≡ t.normal) ⊎ Memᴰ from (t.reverse ∷ []) → (lie ≡ normal) ⊎ ((lie ≡ reverse) ⊎ (lie ≡ unknown))
            → (w : Way) × Says (Turnout t) from lies w
        leg (inl f) (inl e) = (Ok t.front, inr (inl (sym f, (λ z. omega arith), refl)))
        leg (inl f) (inr (inl e)) = (Err stop.AgainstLie, inr (inl (sym f, e, refl)))
        leg (inl f) (inr (inr e)) = (Ok t.front, inr (inl (sym f, (λ z. omega arith), refl)))
        leg (inr f) (inl e) = (Err stop.AgainstLie, inr (inr (sym (Memᴰ.eq_of_singleton f), e, refl)))
        leg (inr f) (inr (inl e)) = (Ok t.front, inr (inr (sym (Memᴰ.eq_of_singleton f), (λ z. omega arith), refl)))
        leg (inr f) (inr (inr e)) = (Ok t.front, inr (inr (sym (Memᴰ.eq_of_singleton f), (λ z. omega arith), refl)))

        entered : (from ≡ t.front) ⊎ Memᴰ from (t.normal ∷ t.reverse ∷ []) → (lie ≡ normal) ⊎ ((lie ≡ reverse) ⊎ (lie ≡ unknown))
            → (w : Way) × Says (Turnout t) from lies w
        entered (inl f) (inl e) = (Ok t.normal, inl (sym f, inl (e, refl)))
        entered (inl f) (inr (inl e)) = (Ok t.reverse, inl (sym f, inr (e, refl)))
        entered (inl f) (inr (inr e)) = (Err stop.UnknownLie, inl (sym f, e, refl))
        entered (inr f) c = leg (Memᴰ.cases_cons f) c
    way_some Nothing from m = absurd (Memᴰ.not-nil m)

    module _ (o : Object) (from : ℕ) (d : Single (links_of o)) (m : Memᴰ from (links_of o)) (n : ¬ (from ≡ 0)) where
      way_said : Says o from lies (way_of o from lies)
      way_said = let r = way_some o from m in subst (λ (w : Way). Says o from lies w) (sym (way_one o from r.0 d n r.1)) r.1

      way_iff : (w : Way) → (way_of o from lies ≡ w) ↔ Says o from lies w
      way_iff w = (λ e. subst (λ (u : Way). Says o from lies u) e way_said, way_one o from w d n)

    -- THEOREM: the list is computed to go on by a link exactly where the words lead on by it
    pub leads_iff : (o : Object) (from x : ℕ) → Single (links_of o) → Memᴰ from (links_of o) → ¬ (from ≡ 0)
        → (way_of o from lies ≡ Ok x) ↔ LeadsOn o from lies x
    leads_iff o from x d m n = way_iff o from d m n (Ok x)

    -- THEOREM: the list is computed to stop for a reason exactly where the words stop for it
    pub stops_iff : (o : Object) (from : ℕ) (s : Stop) → Single (links_of o) → Memᴰ from (links_of o) → ¬ (from ≡ 0)
        → (way_of o from lies ≡ Err s) ↔ StopsAt o from lies s
    stops_iff o from s d m n = way_iff o from d m n (Err s)

-- THEOREM: what leads on is left so by the rules of routes
pub leads_left : (o : Object) (lies : List ℕ) (from x : ℕ) → LeadsOn o from lies x → LeftBy o from x
unfolding LeadsOn LeftBy
leads_left (Boundary link) lies from x h = absurd h
leads_left (Plain p) lies from x h = h
leads_left (Turnout t) lies from x (inl (f, inl (e, z))) = inl (f, inl z)
leads_left (Turnout t) lies from x (inl (f, inr (e, z))) = inl (f, inr z)
leads_left (Turnout t) lies from x (inr (inl (f, e, z))) = inr (inl f, z)
leads_left (Turnout t) lies from x (inr (inr (f, e, z))) = inr (inr f, z)
leads_left Nothing lies from x h = absurd h
