-- THEOREM: a fact of a link's target fails at a place exactly where that target is at fault.
use Prim.Native.Nat.{ℕ, ◌+◌}
use mathlib.Core.Path.{◌≡◌, sym, subst}
use mathlib.Core.Logic.{◌⊎◌, inl, inr, ⊎_elim, ◌↔◌}
use mathlib.Core.List.Memᴰ
use mathlib.Core.List.{List, [], ◌∷◌, Memᴰ}
use native.Mathlib.Decide.{ℕ_discrete}
use Rattle.verdict.specs.Facts.{Holds}
use Rattle.refusals.proofs.Places.{Failing, failing_append, failing_each}
use Rattle.x2_records.specs.declared.Kind.{Kind}
use Rattle.x2_records.specs.declared.Kind.TheVariants as kind
use Rattle.x2_records.specs.Records.{link_places}
use Rattle.x2_layout.specs.declared.Layout.{Layout}
use Rattle.x2_layout.specs.Records.{kind_at, starts}
use Rattle.x2_links.specs.Links.{link_at, is_target, targets, linked, record_targets, target_facts}
use Rattle.x2_obeys.specs.Links.{Target, HasLink}
use Rattle.x2_theorems.specs.LinkFaults.{NonzeroLink, TargetAtFault, no_link, itself, no_target}
use Rattle.x2_obeys.proofs.Links.{target_iff}

module _ (f : List ℕ) (l : Layout) (at : ℕ) where
  -- the link at p is one, and names its own record or none that may be linked to
  abbrev Astray : ℕ → Type 0
  Astray p = (link_at f p ≡ 0 → ⊥) × ((link_at f p ≡ at) ⊎ (Target f l (link_at f p) → ⊥))

  astray_iff : (p : ℕ) → (((link_at f p ≡ 0) ⊎ ((link_at f p ≡ at → ⊥) × Holds (is_target f l (link_at f p)))) → ⊥) ↔ Astray p
  astray_iff p = (λ n. (λ e. n (inl e), by_case n (ℕ_discrete (link_at f p) at)), λ w h. ⊎_elim w.0 (λ (x : (link_at f p ≡ at → ⊥) × Holds (is_target f l (link_at f p))). right w x) h)
    where
      by_case : (((link_at f p ≡ 0) ⊎ ((link_at f p ≡ at → ⊥) × Holds (is_target f l (link_at f p)))) → ⊥) → Dec (link_at f p ≡ at) → (link_at f p ≡ at) ⊎ (Target f l (link_at f p) → ⊥)
      by_case n (yes e) = inl e
      by_case n (no d) = inr (λ t. n (inr (d, (target_iff f l (link_at f p)).1 t)))

      right : Astray p → (link_at f p ≡ at → ⊥) × Holds (is_target f l (link_at f p)) → ⊥
      right w x = ⊎_elim (λ (e : link_at f p ≡ at). x.0 e) (λ (n : Target f l (link_at f p) → ⊥). n ((target_iff f l (link_at f p)).0 x.1)) w.1

  list_fails : (ps : List ℕ) (p : ℕ) → Failing (targets f l at ps) p ↔ (Memᴰ p ps × Astray p)
  list_fails [] p = (λ h. absurd h, λ w. absurd (Memᴰ.not-nil w.0))
  list_fails (q ∷ ps) p =
      let ih = list_fails ps p in
      let own = astray_iff q in (
        λ h. ⊎_elim (λ (x : (p ≡ q) × (((link_at f q ≡ 0) ⊎ ((link_at f q ≡ at → ⊥) × Holds (is_target f l (link_at f q)))) → ⊥)). (Memᴰ.head x.0, subst Astray (sym x.0) (own.0 x.1)))
            (λ (x : Failing (targets f l at ps) p). (Memᴰ.tail (ih.0 x).0, (ih.0 x).1)) h,
        λ w. ⊎_elim (λ (e : p ≡ q). inl (e, own.1 (subst Astray e w.1))) (λ (m : Memᴰ p ps). inr (ih.1 (m, w.1))) (Memᴰ.cases_cons w.0),
      )

  -- a boundary's link
  linked_fails : (k : Kind) (p : ℕ) → Failing (linked f k at) p ↔ ((p ≡ at + 1) × (HasLink f k at → ⊥))
  linked_fails kind.StartBoundary p = (λ h. ⊎_elim (λ (x : (p ≡ at + 1) × (HasLink f kind.StartBoundary at → ⊥)). x) (λ (x : ⊥). absurd x) h, λ w. inl w)
  linked_fails kind.EndBoundary p = (λ h. ⊎_elim (λ (x : (p ≡ at + 1) × (HasLink f kind.EndBoundary at → ⊥)). x) (λ (x : ⊥). absurd x) h, λ w. inl w)
  linked_fails kind.Turnout p = (λ h. absurd h, λ w. w.1 tt)
  linked_fails kind.Balise p = (λ h. absurd h, λ w. w.1 tt)
  linked_fails kind.Signal p = (λ h. absurd h, λ w. w.1 tt)
  linked_fails kind.Joint p = (λ h. absurd h, λ w. w.1 tt)
  linked_fails kind.Siding p = (λ h. absurd h, λ w. w.1 tt)

module _ (f : List ℕ) (l : Layout) (p : ℕ) where
  pub targets_fail : Failing (target_facts f l) p ↔ TargetAtFault f l p
  unfolding target_facts
  targets_fail = (λ h. there (each.0 h), λ o. each.1 (back o))
    where
      each : Failing (target_facts f l) p ↔ ((at : ℕ) × Memᴰ at (starts f l) × Failing (record_targets f l (kind_at l at) at) p)
      each = failing_each (λ at. record_targets f l (kind_at l at) at) (starts f l) p

      cut : (at : ℕ) → Failing (record_targets f l (kind_at l at) at) p ↔ (Failing (linked f (kind_at l at) at) p ⊎ Failing (targets f l at (link_places (kind_at l at) at)) p)
      cut at = failing_append (linked f (kind_at l at) at) (targets f l at (link_places (kind_at l at) at)) p

      astray : (at : ℕ) → Memᴰ at (starts f l) → Memᴰ p (link_places (kind_at l at) at) × Astray f l at p → TargetAtFault f l p
      astray at m w =
          let link : NonzeroLink f l at p = record { record_there = m; its_field = w.0; some_link = w.1.0 } in
          ⊎_elim (λ (e : link_at f p ≡ at). itself at link e) (λ (n : Target f l (link_at f p) → ⊥). no_target at link n) w.1.1

      there : (at : ℕ) × Memᴰ at (starts f l) × Failing (record_targets f l (kind_at l at) at) p → TargetAtFault f l p
      there w =
          ⊎_elim (λ (x : Failing (linked f (kind_at l w.0) w.0) p). let v = (linked_fails f l w.0 (kind_at l w.0) p).0 x in no_link w.0 w.1 v.0 v.1)
          (λ (x : Failing (targets f l w.0 (link_places (kind_at l w.0) w.0)) p). astray w.0 w.1 ((list_fails f l w.0 (link_places (kind_at l w.0) w.0) p).0 x))
          ((cut w.0).0 w.2)

      back : TargetAtFault f l p → (at : ℕ) × Memᴰ at (starts f l) × Failing (record_targets f l (kind_at l at) at) p
      back (no_link at m e n) = (at, m, (cut at).1 (inl ((linked_fails f l at (kind_at l at) p).1 (e, n))))
      back (itself at k e) = (at, k.record_there, (cut at).1 (inr ((list_fails f l at (link_places (kind_at l at) at) p).1 (k.its_field, (k.some_link, inl e)))))
      back (no_target at k n) = (at, k.record_there, (cut at).1 (inr ((list_fails f l at (link_places (kind_at l at) at) p).1 (k.its_field, (k.some_link, inr n)))))
