-- THEOREM: a fact of a link's return fails at a place exactly where that return is at fault. The link fields of a record stand in byte order, so
-- that the links before one are those at lower places.
use Prim.Native.Nat.{ℕ, ◌+◌, ◌≤◌, ◌<◌}
use mathlib.Core.Path.{◌≡◌, refl, sym, subst}
use mathlib.Core.Bool.{Bool, true, false, cond}
use mathlib.Core.Logic.{◌⊎◌, inl, inr, ⊎_elim, ◌↔◌}
use mathlib.Core.List.{List, [], ◌∷◌, ◌++◌, append_assoc, Memᴰ}
use native.Mathlib.Omega.{arith}
use native.Mathlib.Decide.{ℕ_discrete}
use Rattle.verdict.specs.Facts.{Holds, Fact}
use Rattle.refusals.proofs.Places.{Failing, failing_append, failing_each}
use Rattle.x2_records.specs.declared.Kind.{Kind}
use Rattle.x2_records.specs.declared.Kind.TheVariants as kind
use Rattle.x2_records.specs.Records.{link_places}
use Rattle.x2_layout.specs.declared.Layout.{Layout}
use Rattle.x2_layout.specs.Records.{kind_at, starts, record_before}
use Rattle.x2_layout.proofs.Before.{before_there, before_only}
use Rattle.x2_links.specs.Links.{link_at, links_to, distinct_from, returns, same_links, is_member, record_returns, return_facts}
use Rattle.x2_obeys.specs.Fields.{Member}
use Rattle.x2_obeys.specs.Links.{LinksTo}
use Rattle.x2_theorems.specs.LinkFaults.{NonzeroLink, ReturnAtFault, not_returned, doubled, other_previous, other_next}
use Rattle.x2_obeys.proofs.Fields.{not_first}
use Rattle.x2_obeys.proofs.Links.{links_iff, member_tested, none_tested}

-- ---- places that rise, from `low` on

abbrev Climbs : ℕ → List ℕ → Type 0
Climbs low [] = Unit {0}
Climbs low (x ∷ xs) = (low ≤ x) × Climbs (x + 1) xs

climbs_above : (low : ℕ) (xs : List ℕ) → Climbs low xs → (y : ℕ) → Memᴰ y xs → low ≤ y
climbs_above low [] c y m = absurd (mathlib.Core.List.Memᴰ.not-nil m)
climbs_above low (x ∷ xs) c y m =
    let ih = climbs_above (x + 1) xs c.1 y in
    ⊎_elim (λ (e : y ≡ x). omega (arith, c.0)) (λ (n : Memᴰ y xs). omega (arith, c.0, ih n)) (mathlib.Core.List.Memᴰ.cases_cons m)

climbs : (k : Kind) (at : ℕ) → Climbs at (link_places k at)
climbs kind.StartBoundary at = (omega arith, tt)
climbs kind.EndBoundary at = (omega arith, tt)
climbs kind.Turnout at = (omega arith, (omega arith, (omega arith, tt)))
climbs kind.Balise at = (omega arith, (omega arith, tt))
climbs kind.Signal at = (omega arith, (omega arith, tt))
climbs kind.Joint at = (omega arith, (omega arith, tt))
climbs kind.Siding at = tt

module _ (f : List ℕ) (l : Layout) (at : ℕ) where
  -- no link of the record that p's link names comes back
  abbrev Unreturned : ℕ → Type 0
  Unreturned p = LinksTo f (kind_at l (link_at f p)) (link_at f p) at → ⊥

  -- a lower one of the link fields has p's link
  abbrev Doubles : List ℕ → ℕ → Type 0
  Doubles all p = (q : ℕ) × Memᴰ q all × (q < p) × (link_at f q ≡ link_at f p)

  abbrev Adrift : List ℕ → ℕ → Type 0
  Adrift all p = (link_at f p ≡ 0 → ⊥) × (Unreturned p ⊎ Doubles all p)

  -- the link at x is one, and is that of one of the fields
  abbrev Again : ℕ → List ℕ → Type 0
  Again x qs = (link_at f x ≡ 0 → ⊥) × ((q : ℕ) × Memᴰ q qs × (link_at f q ≡ link_at f x))

  same_link : (x q : ℕ) → (((link_at f x ≡ 0) ⊎ (link_at f q ≡ link_at f x → ⊥)) → ⊥) → link_at f q ≡ link_at f x
  same_link x q n = by_case (ℕ_discrete (link_at f q) (link_at f x))
    where
      by_case : Dec (link_at f q ≡ link_at f x) → link_at f q ≡ link_at f x
      by_case (yes e) = e
      by_case (no d) = absurd (n (inr d))

  distinct_fails : (x : ℕ) (qs : List ℕ) (p : ℕ) → Failing (distinct_from f at x qs) p ↔ ((p ≡ x) × Again x qs)
  distinct_fails x [] p = (λ h. absurd h, λ w. absurd (mathlib.Core.List.Memᴰ.not-nil w.1.1.1))
  distinct_fails x (q ∷ qs) p =
      let ih = distinct_fails x qs p in (
        λ h. ⊎_elim (λ (y : (p ≡ x) × (((link_at f x ≡ 0) ⊎ (link_at f q ≡ link_at f x → ⊥)) → ⊥)). (y.0, (λ e. y.1 (inl e), (q, mathlib.Core.List.Memᴰ.head refl, same_link x q y.1))))
            (λ (y : Failing (distinct_from f at x qs) p). let w = ih.0 y in (w.0, (w.1.0, (w.1.1.0, mathlib.Core.List.Memᴰ.tail w.1.1.1, w.1.1.2)))) h,
        λ w. ⊎_elim (λ (e : w.1.1.0 ≡ q). inl (w.0, λ h. ⊎_elim w.1.0 (λ (d : link_at f q ≡ link_at f x → ⊥). d (subst (λ (z : ℕ). link_at f z ≡ link_at f x) e w.1.1.2)) h))
            (λ (m : Memᴰ w.1.1.0 qs). inr (ih.1 (w.0, (w.1.0, (w.1.1.0, m, w.1.1.2))))) (mathlib.Core.List.Memᴰ.cases_cons w.1.1.1),
      )

  -- one more before
  below_next : (low x : ℕ) (before : List ℕ) → low ≤ x → ((q : ℕ) → Memᴰ q before → q < low) → (q : ℕ) → Memᴰ q (before ++ (x ∷ [])) → q < x + 1
  below_next low x before c below q m =
      ⊎_elim (λ (n : Memᴰ q before). let z = below q n in omega arith) (λ (n : Memᴰ q (x ∷ [])). let z = mathlib.Core.List.Memᴰ.eq_of_singleton n in omega arith) (mathlib.Core.List.Memᴰ.append_cases before m)

  -- the link at x and those after it, where `later` is told of those
  module _ (before xs : List ℕ) (x p : ℕ) (below : (q : ℕ) → Memᴰ q before → q < x) (above : Climbs (x + 1) xs)
      (later : Failing (returns f l at (before ++ (x ∷ [])) xs) p ↔ (Memᴰ p xs × Adrift ((before ++ (x ∷ [])) ++ xs) p)) where
    abbrev all : List ℕ
    all = before ++ (x ∷ xs)

    same_all : (before ++ (x ∷ [])) ++ xs ≡ all
    same_all = append_assoc before (x ∷ []) xs

    -- a field below x is one of those before it
    lower : (q : ℕ) → Memᴰ q all → q < x → Memᴰ q before
    lower q m less =
        ⊎_elim (λ (n : Memᴰ q before). n) (λ (n : Memᴰ q (x ∷ xs)). ⊎_elim (λ (e : q ≡ x). absurd (omega arith))
        (λ (o : Memᴰ q xs). let z = climbs_above (x + 1) xs above q o in absurd (omega arith)) (mathlib.Core.List.Memᴰ.cases_cons n)) (mathlib.Core.List.Memᴰ.append_cases before m)

    next_fails : Failing (returns f l at before (x ∷ xs)) p ↔ (Memᴰ p (x ∷ xs) × Adrift all p)
    next_fails = (there, back)
      where
        rest : List Fact
        rest = returns f l at (before ++ (x ∷ [])) xs

        cut : Failing (distinct_from f at x before ++ rest) p ↔ (Failing (distinct_from f at x before) p ⊎ Failing rest p)
        cut = failing_append (distinct_from f at x before) rest p

        linked_back : Holds (links_to f (kind_at l (link_at f x)) (link_at f x) at) ↔ LinksTo f (kind_at l (link_at f x)) (link_at f x) at
        linked_back = links_iff f l (kind_at l (link_at f x)) (link_at f x) at

        after : Failing (distinct_from f at x before) p ⊎ Failing rest p → Memᴰ p (x ∷ xs) × Adrift all p
        after (inl y) =
            let w = (distinct_fails x before p).0 y in
            let d = w.1.1 in
            (mathlib.Core.List.Memᴰ.head w.0, subst (Adrift all) (sym w.0) (w.1.0, inr (d.0, mathlib.Core.List.Memᴰ.append_left (x ∷ xs) d.1, below d.0 d.1, d.2)))
        after (inr y) = let w = later.0 y in (mathlib.Core.List.Memᴰ.tail w.0, subst (λ (a : List ℕ). Adrift a p) same_all w.1)

        there : Failing (returns f l at before (x ∷ xs)) p → Memᴰ p (x ∷ xs) × Adrift all p
        there (inl y) = (mathlib.Core.List.Memᴰ.head y.0, subst (Adrift all) (sym y.0) (λ e. y.1 (inl e), inl (λ t. y.1 (inr (linked_back.1 t)))))
        there (inr y) = after (cut.0 y)

        here : p ≡ x → (link_at f x ≡ 0 → ⊥) → Unreturned x ⊎ Doubles all x → Failing (returns f l at before (x ∷ xs)) p
        here e some (inl n) = inl (e, λ h. ⊎_elim some (λ (t : Holds (links_to f (kind_at l (link_at f x)) (link_at f x) at)). n (linked_back.0 t)) h)
        here e some (inr d) = inr (cut.1 (inl ((distinct_fails x before p).1 (e, (some, (d.0, lower d.0 d.1 d.2, d.3))))))

        back : Memᴰ p (x ∷ xs) × Adrift all p → Failing (returns f l at before (x ∷ xs)) p
        back w =
            ⊎_elim (λ (e : p ≡ x). let v = subst (Adrift all) e w.1 in here e v.0 v.1)
            (λ (m : Memᴰ p xs). inr (cut.1 (inr (later.1 (m, subst (λ (a : List ℕ). Adrift a p) (sym same_all) w.1))))) (mathlib.Core.List.Memᴰ.cases_cons w.0)

  -- LAW: of link fields that rise, after those before them
  list_fails : (low : ℕ) (before xs : List ℕ) → ((q : ℕ) → Memᴰ q before → q < low) → Climbs low xs → (p : ℕ) → Failing (returns f l at before xs) p ↔ (Memᴰ p xs × Adrift (before ++ xs) p)
  list_fails low before [] below c p = (λ h. absurd h, λ w. absurd (mathlib.Core.List.Memᴰ.not-nil w.0))
  list_fails low before (x ∷ xs) below c p =
      next_fails before xs x p (λ q m. let z = below q m in omega (arith, c.0)) c.1
      (list_fails (x + 1) (before ++ (x ∷ [])) xs (below_next low x before c.0 below) c.1 p)

-- ---- a record, after the one at b

module _ (f : List ℕ) (l : Layout) (b at p : ℕ) where
  abbrev Due : Type 0
  Due = (Member f l at → ⊥) × (Memᴰ p (link_places (kind_at l at) at) × Adrift f l at (link_places (kind_at l at) at) p)

  -- a link of a balise of place above 1 is not that of the record at b
  abbrev Differs : Type 0
  Differs = ((p ≡ at + 1) × (link_at f (at + 1) ≡ link_at f (b + 1) → ⊥)) ⊎ ((p ≡ at + 3) × (link_at f (at + 3) ≡ link_at f (b + 3) → ⊥))

  same_fails : Failing (same_links f b at) p ↔ Differs
  same_fails = (there, back)
    where
      there : Failing (same_links f b at) p → Differs
      there (inl x) = inl x
      there (inr (inl x)) = inr x
      there (inr (inr x)) = absurd x

      back : Differs → Failing (same_links f b at) p
      back (inl x) = inl x
      back (inr x) = inr (inl x)

  record_fails : Failing (record_returns f l b (kind_at l at) at) p ↔ (Due ⊎ (Member f l at × Differs))
  record_fails = by_test (is_member f (kind_at l at) at) refl
    where
      list : Failing (returns f l at [] (link_places (kind_at l at) at)) p ↔ (Memᴰ p (link_places (kind_at l at) at) × Adrift f l at (link_places (kind_at l at) at) p)
      list = list_fails f l at at [] (link_places (kind_at l at) at) (λ q m. absurd (mathlib.Core.List.Memᴰ.not-nil m)) (climbs (kind_at l at) at) p

      by_test : (t : Bool) → is_member f (kind_at l at) at ≡ t → Failing (cond t (same_links f b at) (returns f l at [] (link_places (kind_at l at) at))) p ↔ (Due ⊎ (Member f l at × Differs))
      by_test true e =
          let m = member_tested f l at e in
          (λ h. inr (m, same_fails.0 h), λ o. ⊎_elim (λ (d : Due). absurd (d.0 m)) (λ (w : Member f l at × Differs). same_fails.1 w.1) o)
      by_test false e =
          let none = none_tested f l at e in
          (λ h. inl (none, list.0 h), λ o. ⊎_elim (λ (d : Due). list.1 d.1) (λ (w : Member f l at × Differs). absurd (none w.0)) o)

-- ---- a file

module _ (f : List ℕ) (l : Layout) (s : l.starts < l.ends) (p : ℕ) where
  pub returns_fail : Failing (return_facts f l) p ↔ ReturnAtFault f l p
  unfolding return_facts
  returns_fail = (λ h. there (each.0 h), λ o. each.1 (back o))
    where
      each : Failing (return_facts f l) p ↔ ((at : ℕ) × Memᴰ at (starts f l) × Failing (record_returns f l (record_before f l at) (kind_at l at) at) p)
      each = failing_each (λ at. record_returns f l (record_before f l at) (kind_at l at) at) (starts f l) p

      own : (at : ℕ) → Failing (record_returns f l (record_before f l at) (kind_at l at) at) p ↔ (Due f l (record_before f l at) at p ⊎ (Member f l at × Differs f l (record_before f l at) at p))
      own at = record_fails f l (record_before f l at) at p

      due : (at : ℕ) → Memᴰ at (starts f l) → Due f l (record_before f l at) at p → ReturnAtFault f l p
      due at m d =
          let link : NonzeroLink f l at p = record { record_there = m; its_field = d.1.0; some_link = d.1.1.0 } in
          ⊎_elim (λ (n : Unreturned f l at p). not_returned at link d.0 n)
          (λ (w : Doubles f l at (link_places (kind_at l at) at) p). doubled at link d.0 w.0 w.1 w.2 w.3) d.1.1.1

      differs : (at : ℕ) → Memᴰ at (starts f l) → Member f l at → Differs f l (record_before f l at) at p → ReturnAtFault f l p
      differs at m w (inl x) = other_previous at (record_before f l at) m w (before_there f l at m (not_first l at s w.balise)) x.0 x.1
      differs at m w (inr x) = other_next at (record_before f l at) m w (before_there f l at m (not_first l at s w.balise)) x.0 x.1

      there : (at : ℕ) × Memᴰ at (starts f l) × Failing (record_returns f l (record_before f l at) (kind_at l at) at) p → ReturnAtFault f l p
      there w =
          ⊎_elim (λ (d : Due f l (record_before f l w.0) w.0 p). due w.0 w.1 d)
          (λ (d : Member f l w.0 × Differs f l (record_before f l w.0) w.0 p). differs w.0 w.1 d.0 d.1) ((own w.0).0 w.2)

      back : ReturnAtFault f l p → (at : ℕ) × Memᴰ at (starts f l) × Failing (record_returns f l (record_before f l at) (kind_at l at) at) p
      back (not_returned at k none n) = (at, k.record_there, (own at).1 (inl (none, (k.its_field, (k.some_link, inl n)))))
      back (doubled at k none q m less e) = (at, k.record_there, (own at).1 (inl (none, (k.its_field, (k.some_link, inr (q, m, less, e))))))
      back (other_previous at b m w d e n) =
          (at, m, (own at).1 (inr (w, inl (e, subst (λ (x : ℕ). link_at f (at + 1) ≡ link_at f (x + 1) → ⊥) (before_only f l at m b d) n))))
      back (other_next at b m w d e n) =
          (at, m, (own at).1 (inr (w, inr (e, subst (λ (x : ℕ). link_at f (at + 3) ≡ link_at f (x + 3) → ⊥) (before_only f l at m b d) n))))
