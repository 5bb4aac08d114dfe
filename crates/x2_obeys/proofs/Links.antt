-- The facts of checks 8 and 9 hold exactly where the links obey: record by record, and link by link in field order.
use Prim.Native.Nat.{ℕ, ◌+◌, ◌<◌}
use mathlib.Core.Path.{◌≡◌, refl, sym, subst, subst⁻¹}
use mathlib.Core.Bool.{Bool, true, false, cond, not, true≢false}
use mathlib.Core.Logic.{◌⊎◌, ⊎_elim, ◌↔◌}
use mathlib.Core.List.Memᴰ
use mathlib.Core.List.{List, [], ◌∷◌, ◌++◌, Memᴰ}
use native.Mathlib.Omega.{arith}
use borrow.Author.Tests.{not-true, not-false, eqb-true, eqb-false}
use lib.Dec.{eqb}
use Rattle.octets.specs.Octets.{num_at}
use Rattle.verdict.specs.Facts.{Holds, AllHold}
use Rattle.verdict.proofs.Facts.{all_append, all_each}
use Rattle.verdict.proofs.Orders.{unless}
use Rattle.x2_records.specs.declared.Kind.{Kind}
use Rattle.x2_records.specs.declared.Kind.TheVariants as kind
use Rattle.x2_records.specs.Records.{link_places}
use Rattle.x2_layout.specs.declared.Layout.{Layout}
use Rattle.x2_layout.specs.Records.{kind_at, starts, record_before}
use Rattle.x2_layout.proofs.Before.{before_there, before_only}
use Rattle.x2_links.specs.Links.{link_at, linkable, is_target, targets, linked, record_targets, target_facts, links_to, distinct_from, returns, rank_bits, same_links, is_member, record_returns, return_facts}
use Rattle.x2_obeys.specs.Fields.{rank_at, Member}
use Rattle.x2_obeys.specs.Links.{Linkable, Target, LinksTo, HasLink, Distinct, TargetsObey, SameLinks, ReturnsObey}
use Rattle.x2_obeys.proofs.Values.{low_bits}
use Rattle.x2_obeys.proofs.Fields.{not_first}

linkable_iff : (f : List ℕ) (k : Kind) (at : ℕ) → Holds (linkable f k at) ↔ Linkable f k at
linkable_iff f kind.StartBoundary at = (λ h. h, λ h. h)
linkable_iff f kind.EndBoundary at = (λ h. h, λ h. h)
linkable_iff f kind.Turnout at = (λ h. h, λ h. h)
linkable_iff f kind.Balise at = (λ h. h, λ h. h)
linkable_iff f kind.Signal at = (λ h. h, λ h. h)
linkable_iff f kind.Joint at = (λ h. h, λ h. h)
linkable_iff f kind.Siding at = (λ h. h tt, λ h u. h)

linked_iff : (f : List ℕ) (k : Kind) (at : ℕ) → AllHold (linked f k at) ↔ HasLink f k at
unfolding AllHold
linked_iff f kind.StartBoundary at = (λ h. h.0, λ h. (h, tt))
linked_iff f kind.EndBoundary at = (λ h. h.0, λ h. (h, tt))
linked_iff f kind.Turnout at = (λ h. h, λ h. h)
linked_iff f kind.Balise at = (λ h. h, λ h. h)
linked_iff f kind.Signal at = (λ h. h, λ h. h)
linked_iff f kind.Joint at = (λ h. h, λ h. h)
linked_iff f kind.Siding at = (λ h. h, λ h. h)

module _ (f : List ℕ) (l : Layout) where
  -- x names a record that may be linked to
  pub target_iff : (x : ℕ) → Holds (is_target f l x) ↔ Target f l x
  unfolding is_target
  target_iff x = (
    λ h. record {
      record_there = subst (λ (s : ℕ). Memᴰ s (starts f l)) h.2.0 h.1;
      may = subst (λ (s : ℕ). Linkable f (kind_at l s) s) h.2.0 ((linkable_iff f (kind_at l h.0) h.0).0 h.2.1);
    },
    λ h. (x, h.record_there, (refl, (linkable_iff f (kind_at l x) x).1 h.may)),
  )

  -- ---- 8

  -- what is asked of the link at p, of the record at `at`
  abbrev Aimed : ℕ → ℕ → Type 0
  Aimed at p = (link_at f p ≡ 0 → ⊥) → (link_at f p ≡ at → ⊥) × Target f l (link_at f p)

  aimed_iff : (at p : ℕ) → ((link_at f p ≡ 0) ⊎ ((link_at f p ≡ at → ⊥) × Holds (is_target f l (link_at f p)))) ↔ Aimed at p
  aimed_iff at p =
      let u = unless (link_at f p) ((link_at f p ≡ at → ⊥) × Holds (is_target f l (link_at f p))) in
      let t = target_iff (link_at f p) in
      (λ h n. ((u.0 h n).0, t.0 (u.0 h n).1), λ h. u.1 (λ n. ((h n).0, t.1 (h n).1)))

  targets_list : (at : ℕ) (ps : List ℕ) → AllHold (targets f l at ps) ↔ ((p : ℕ) → Memᴰ p ps → Aimed at p)
  unfolding AllHold
  targets_list at [] = (λ h p m. absurd (Memᴰ.not-nil m), λ h. tt)
  targets_list at (p ∷ ps) =
      let ih = targets_list at ps in (
        λ h q m. ⊎_elim (λ (e : q ≡ p). subst (Aimed at) (sym e) ((aimed_iff at p).0 h.0)) (λ (m' : Memᴰ q ps). ih.0 h.1 q m') (Memᴰ.cases_cons m),
        λ h. ((aimed_iff at p).1 (h p (Memᴰ.head refl)), ih.1 (λ q m. h q (Memᴰ.tail m))),
      )

  record_targets_iff : (at : ℕ) → AllHold (record_targets f l (kind_at l at) at) ↔ (HasLink f (kind_at l at) at × ((p : ℕ) → Memᴰ p (link_places (kind_at l at) at) → Aimed at p))
  record_targets_iff at =
      let cut = all_append (linked f (kind_at l at) at) (targets f l at (link_places (kind_at l at) at)) in
      let a = linked_iff f (kind_at l at) at in
      let b = targets_list at (link_places (kind_at l at) at) in
      (λ h. (a.0 (cut.0 h).0, b.0 (cut.0 h).1), λ h. cut.1 (a.1 h.0, b.1 h.1))

  -- THEOREM: check 8
  pub targets_iff : AllHold (target_facts f l) ↔ TargetsObey f l
  unfolding target_facts
  targets_iff =
      let each = all_each (λ at. record_targets f l (kind_at l at) at) (starts f l) in (
        λ h. record {
          boundaries = λ at m. ((record_targets_iff at).0 (each.0 h at m)).0;
          others = λ at m p k n. (((record_targets_iff at).0 (each.0 h at m)).1 p k n).0;
          places = λ at m p k n. (((record_targets_iff at).0 (each.0 h at m)).1 p k n).1;
        },
        λ o. each.1 (λ at m. (record_targets_iff at).1 (o.boundaries at m, λ p k n. (o.others at m p k n, o.places at m p k n))),
      )

  -- ---- 9

  pub links_iff : (k : Kind) (x at : ℕ) → Holds (links_to f k x at) ↔ LinksTo f k x at
  unfolding links_to
  links_iff k x at = (λ h. record { place = h.0; its_link = h.1; names = h.2 }, λ h. (h.place, h.its_link, h.names))

  -- the link x is none of those at the places
  abbrev NoneOf : List ℕ → ℕ → Type 0
  NoneOf before x = (q : ℕ) → Memᴰ q before → link_at f q ≡ x → ⊥

  -- what is asked of the link at p, of the record at `at`, after the links at the places before
  abbrev Back : ℕ → List ℕ → ℕ → Type 0
  Back at before p = (link_at f p ≡ 0 → ⊥) → LinksTo f (kind_at l (link_at f p)) (link_at f p) at × NoneOf before (link_at f p)

  back_iff : (at p : ℕ) → ((link_at f p ≡ 0) ⊎ Holds (links_to f (kind_at l (link_at f p)) (link_at f p) at)) ↔ ((link_at f p ≡ 0 → ⊥) → LinksTo f (kind_at l (link_at f p)) (link_at f p) at)
  back_iff at p =
      let u = unless (link_at f p) (Holds (links_to f (kind_at l (link_at f p)) (link_at f p) at)) in
      let k = links_iff (kind_at l (link_at f p)) (link_at f p) at in
      (λ h n. k.0 (u.0 h n), λ h. u.1 (λ n. k.1 (h n)))

  distinct_from_iff : (at p : ℕ) (qs : List ℕ) → AllHold (distinct_from f at p qs) ↔ ((link_at f p ≡ 0 → ⊥) → NoneOf qs (link_at f p))
  unfolding AllHold
  distinct_from_iff at p [] = (λ h n q m. absurd (Memᴰ.not-nil m), λ h. tt)
  distinct_from_iff at p (r ∷ rs) =
      let ih = distinct_from_iff at p rs in
      let u = unless (link_at f p) (link_at f r ≡ link_at f p → ⊥) in (
        λ h n q m. ⊎_elim (λ (e : q ≡ r). λ (w : link_at f q ≡ link_at f p). u.0 h.0 n (subst (λ (z : ℕ). link_at f z ≡ link_at f p) e w)) (λ (m' : Memᴰ q rs). ih.0 h.1 n q m') (Memᴰ.cases_cons m),
        λ h. (u.1 (λ n. h n r (Memᴰ.head refl)), ih.1 (λ n q m. h n q (Memᴰ.tail m))),
      )

  returns_list : (at : ℕ) (before ps : List ℕ) → AllHold (returns f l at before ps) ↔ (((p : ℕ) → Memᴰ p ps → Back at before p) × Distinct f ps)
  unfolding AllHold
  returns_list at before [] = (λ h. (λ p m. absurd (Memᴰ.not-nil m), tt), λ h. tt)
  returns_list at before (p ∷ ps) =
      let ih = returns_list at (before ++ (p ∷ [])) ps in
      let cut = all_append (distinct_from f at p before) (returns f l at (before ++ (p ∷ [])) ps) in (
        λ h.
            let rest = cut.0 h.1 in
            let more = ih.0 rest.1 in (
              λ q m. ⊎_elim (λ (e : q ≡ p). subst (Back at before) (sym e) (λ n. ((back_iff at p).0 h.0 n, (distinct_from_iff at p before).0 rest.0 n)))
                  (λ (m' : Memᴰ q ps). fewer q (more.0 q m')) (Memᴰ.cases_cons m),
              (λ q m n. ((more.0 q m) n).1 p (Memᴰ.append_right before (Memᴰ.head refl)), more.1),
            ),
        λ h. (
          (back_iff at p).1 (λ n. (h.0 p (Memᴰ.head refl) n).0),
          cut.1 (
            (distinct_from_iff at p before).1 (λ n. (h.0 p (Memᴰ.head refl) n).1),
            ih.1 (λ q m. further q (h.0 q (Memᴰ.tail m)) (h.1.0 q m), h.1.1),
          ),
        ),
      )
    where
      fewer : (q : ℕ) → Back at (before ++ (p ∷ [])) q → Back at before q
      fewer q b n = ((b n).0, λ r m. (b n).1 r (Memᴰ.append_left (p ∷ []) m))

      further : (q : ℕ) → Back at before q → ((link_at f q ≡ 0 → ⊥) → link_at f p ≡ link_at f q → ⊥) → Back at (before ++ (p ∷ [])) q
      further q b d n = (
        (b n).0,
        λ r m. ⊎_elim (λ (m' : Memᴰ r before). (b n).1 r m')
            (λ (m' : Memᴰ r (p ∷ [])). λ (w : link_at f r ≡ link_at f q). d n (subst (λ (z : ℕ). link_at f z ≡ link_at f q) (Memᴰ.eq_of_singleton m') w))
            (Memᴰ.append_cases before m),
      )

  -- ---- a balise of place above 1

  abbrev MemberOf : Kind → ℕ → Type 0
  MemberOf k at = (k ≡ kind.Balise) × (1 < rank_at f at)

  -- of a kind, by the test
  is_member_lem : (k : Kind) (at : ℕ) → is_member f k at ≡ true → MemberOf k at
  is_member_lem kind.StartBoundary at e = absurd (true≢false (sym e))
  is_member_lem kind.EndBoundary at e = absurd (true≢false (sym e))
  is_member_lem kind.Turnout at e = absurd (true≢false (sym e))
  is_member_lem kind.Balise at e = (refl, let n = eqb-false (rank_bits f at) 0 (not-true (eqb (rank_bits f at) 0) e) in omega (arith, low_bits (num_at 1 f (at + 15)) 8))
  is_member_lem kind.Signal at e = absurd (true≢false (sym e))
  is_member_lem kind.Joint at e = absurd (true≢false (sym e))
  is_member_lem kind.Siding at e = absurd (true≢false (sym e))

  no_member : (k : Kind) (at : ℕ) → is_member f k at ≡ false → MemberOf k at → ⊥
  no_member kind.StartBoundary at e m = let q = m.0 in let z : ◌≡◌ {A = ℕ} 0 1 = cc in omega arith
  no_member kind.EndBoundary at e m = let q = m.0 in let z : ◌≡◌ {A = ℕ} 0 1 = cc in omega arith
  no_member kind.Turnout at e m = let q = m.0 in let z : ◌≡◌ {A = ℕ} 0 1 = cc in omega arith
  no_member kind.Balise at e m = let n = eqb-true (rank_bits f at) 0 (not-false (eqb (rank_bits f at) 0) e) in omega (arith, low_bits (num_at 1 f (at + 15)) 8, m.1)
  no_member kind.Signal at e m = let q = m.0 in let z : ◌≡◌ {A = ℕ} 0 1 = cc in omega arith
  no_member kind.Joint at e m = let q = m.0 in let z : ◌≡◌ {A = ℕ} 0 1 = cc in omega arith
  no_member kind.Siding at e m = let q = m.0 in let z : ◌≡◌ {A = ℕ} 0 1 = cc in omega arith

  pub member_tested : (at : ℕ) → is_member f (kind_at l at) at ≡ true → Member f l at
  member_tested at e = let m = is_member_lem (kind_at l at) at e in record { balise = m.0; later = m.1 }

  pub none_tested : (at : ℕ) → is_member f (kind_at l at) at ≡ false → Member f l at → ⊥
  none_tested at e m = no_member (kind_at l at) at e (m.balise, m.later)

  -- ---- a record, after the one at b

  abbrev Listed : ℕ → Type 0
  Listed at = ((p : ℕ) → Memᴰ p (link_places (kind_at l at) at) → Back at [] p) × Distinct f (link_places (kind_at l at) at)

  record_iff : (b at : ℕ) → AllHold (record_returns f l b (kind_at l at) at) ↔ (((Member f l at → ⊥) → Listed at) × (Member f l at → SameLinks f b at))
  unfolding AllHold
  record_iff b at = by_test (is_member f (kind_at l at) at) refl
    where
      by_test :
          (t : Bool) → is_member f (kind_at l at) at ≡ t
          → AllHold (cond t (same_links f b at) (returns f l at [] (link_places (kind_at l at) at))) ↔ (((Member f l at → ⊥) → Listed at) × (Member f l at → SameLinks f b at))
      by_test true e =
          let m = member_tested at e in
          (λ h. (λ n. absurd (n m), λ _. record { previous = h.0; next = h.1.0 }), λ o. let w = o.1 m in (w.previous, (w.next, tt)))
      by_test false e =
          let list = returns_list at [] (link_places (kind_at l at) at) in
          (λ h. (λ _. list.0 h, λ m. absurd (none_tested at e m)), λ o. list.1 (o.0 (none_tested at e)))

  -- THEOREM: check 9. There is a start boundary, so that a balise has a record before it.
  pub returns_iff : l.starts < l.ends → AllHold (return_facts f l) ↔ ReturnsObey f l
  unfolding return_facts
  returns_iff s =
      let each = all_each (λ at. record_returns f l (record_before f l at) (kind_at l at) at) (starts f l) in
      let of : (at : ℕ) → AllHold (record_returns f l (record_before f l at) (kind_at l at) at) ↔ (((Member f l at → ⊥) → Listed at) × (Member f l at → SameLinks f (record_before f l at) at)) =
      λ at. record_iff (record_before f l at) at
      in (
        λ h. record {
          returned = λ at m none p k n. ((((of at).0 (each.0 h at m)).0 none).0 p k n).0;
          single = λ at m none. (((of at).0 (each.0 h at m)).0 none).1;
          members = λ at m w b d. subst⁻¹ (λ (x : ℕ). SameLinks f x at) (before_only f l at m b d) (((of at).0 (each.0 h at m)).1 w);
        },
        λ o. each.1 (λ at m. (of at).1 (
          λ none. (λ p k n. (o.returned at m none p k n, λ q z. absurd (Memᴰ.not-nil z)), o.single at m none),
          λ w. o.members at m w (record_before f l at) (before_there f l at m (not_first l at s w.balise)),
        )),
      )
