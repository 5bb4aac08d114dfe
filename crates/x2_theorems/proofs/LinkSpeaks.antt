-- Each fact of the links carries its check's reason, its claim is what its mark says, and its mark tells the start of its record.
use Prim.Native.Nat.{ℕ}
use mathlib.Core.Path.{◌≡◌, refl}
use mathlib.Core.List.{List, [], ◌∷◌, ◌++◌}
use native.Mathlib.Omega.{arith}
use Rattle.octets.specs.declared.Width.TheVariants.{Two}
use Rattle.verdict.specs.declared.Mark.{Mark}
use Rattle.verdict.specs.declared.Reason.TheVariants as reason
use Rattle.verdict.specs.Facts.{Claim}
use Rattle.refusals.proofs.Sections.{Each, Speaks, each_append, each_flat, each_if}
use Rattle.rules.specs.Rules.{between}
use Rattle.tables.specs.Table.{field_place}
use Rattle.envelope.specs.Seal.{number_most}
use Rattle.x2_records.specs.declared.Kind.{Kind}
use Rattle.x2_records.specs.declared.Kind.TheVariants as kind
use Rattle.x2_records.specs.Rows as row
use Rattle.x2_records.specs.Records.{link_places}
use Rattle.x2_layout.specs.declared.Layout.{Layout}
use Rattle.x2_layout.specs.Records.{kind_at, starts, record_before}
use Rattle.x2_links.specs.Links.{target, targets, linked, record_targets, target_facts, back, distinct, distinct_from, returns, same_links, is_member, record_returns, return_facts}
use Rattle.x2_theorems.specs.LinkSays.{target_says, return_says}
use Rattle.x2_theorems.specs.Says.{NamesBefore}

-- ---- what is so of a fact of each sort is so of each fact of a record

module _ (f : List ℕ) (l : Layout) (P : Claim → Mark → Type 0) (at : ℕ) where
  targets_each : ((p : ℕ) → Each P (target f l at p ∷ [])) → (ps : List ℕ) → Each P (targets f l at ps)
  targets_each so [] = tt
  targets_each so (p ∷ ps) = ((so p).0, targets_each so ps)

  linked_each : Each P (between reason.Target f at (field_place at row.boundary_link) Two 1 number_most ∷ []) → (k : Kind) → Each P (linked f k at)
  linked_each so kind.StartBoundary = so
  linked_each so kind.EndBoundary = so
  linked_each so kind.Turnout = tt
  linked_each so kind.Balise = tt
  linked_each so kind.Signal = tt
  linked_each so kind.Joint = tt
  linked_each so kind.Siding = tt

  record_targets_each : Each P (between reason.Target f at (field_place at row.boundary_link) Two 1 number_most ∷ []) → ((p : ℕ) → Each P (target f l at p ∷ [])) → (k : Kind) → Each P (record_targets f l k at)
  record_targets_each some so k = each_append P (linked f k at) (targets f l at (link_places k at)) (linked_each some k) (targets_each so (link_places k at))

  distinct_each : ((p q : ℕ) → Each P (distinct f at p q ∷ [])) → (p : ℕ) (qs : List ℕ) → Each P (distinct_from f at p qs)
  distinct_each so p [] = tt
  distinct_each so p (q ∷ qs) = ((so p q).0, distinct_each so p qs)

  returns_each : ((p : ℕ) → Each P (back f l at p ∷ [])) → ((p q : ℕ) → Each P (distinct f at p q ∷ [])) → (before ps : List ℕ) → Each P (returns f l at before ps)
  returns_each so apart before [] = tt
  returns_each so apart before (p ∷ ps) =
      ((so p).0, each_append P (distinct_from f at p before) (returns f l at (before ++ (p ∷ [])) ps) (distinct_each apart p before) (returns_each so apart (before ++ (p ∷ [])) ps))

  record_returns_each :
      (b : ℕ) → ((p : ℕ) → Each P (back f l at p ∷ [])) → ((p q : ℕ) → Each P (distinct f at p q ∷ [])) → Each P (same_links f b at) → (k : Kind)
      → Each P (record_returns f l b k at)
  record_returns_each b so apart same k = each_if P (is_member f k at) (same_links f b at) _ same (returns_each so apart [] (link_places k at))

module _ (f : List ℕ) (l : Layout) where
  -- THEOREM: each fact of a record tells that record's start
  pub target_starts : (k : Kind) (at : ℕ) → Each (λ c m. m.start ≡ at) (record_targets f l k at)
  target_starts k at = record_targets_each f l (λ c m. m.start ≡ at) at (refl, tt) (λ p. (refl, tt)) k

  pub return_starts : (b : ℕ) (k : Kind) (at : ℕ) → Each (λ c m. m.start ≡ at) (record_returns f l b k at)
  return_starts b k at = record_returns_each f l (λ c m. m.start ≡ at) at b (λ p. (refl, tt)) (λ p q. (refl, tt)) (refl, (refl, tt)) k

  -- THEOREM: what a fact of a record names is of the record before
  pub return_names : (k : Kind) (at : ℕ) → Each (λ c m. NamesBefore f l m) (record_returns f l (record_before f l at) k at)
  return_names k at =
      record_returns_each f l (λ c m. NamesBefore f l m) at (record_before f l at) (λ p. (refl, tt)) (λ p q. (refl, tt)) (omega arith, (omega arith, tt)) k

  -- THEOREM: of check 8
  pub targets_speak : Each (Speaks (target_says f l) reason.Target) (target_facts f l)
  unfolding target_facts
  targets_speak =
      each_flat (Speaks (target_says f l) reason.Target) (λ at. record_targets f l (kind_at l at) at) (starts f l)
      (λ at. record_targets_each f l (Speaks (target_says f l) reason.Target) at ((refl, refl), tt) (λ p. ((refl, refl), tt)) (kind_at l at))

  -- THEOREM: of check 9
  pub returns_speak : Each (Speaks (return_says f l) reason.Return) (return_facts f l)
  unfolding return_facts
  returns_speak =
      each_flat (Speaks (return_says f l) reason.Return) (λ at. record_returns f l (record_before f l at) (kind_at l at) at) (starts f l)
      (λ at. record_returns_each f l (Speaks (return_says f l) reason.Return) at (record_before f l at) (λ p. ((refl, refl), tt)) (λ p q. ((refl, refl), tt)) ((refl, refl), ((refl, refl), tt)) (kind_at l at))
