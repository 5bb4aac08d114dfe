-- THEOREM: the mark of an X.2 refusal is of the record that it says, and what it names is so.
use Prim.Native.Nat.{ℕ}
use mathlib.Core.Path.{◌≡◌, refl, sym, subst}
use mathlib.Core.Bool.{Bool, true, false, cond}
use mathlib.Core.Logic.{inl, inr, ◌⊎◌}
use mathlib.Core.List.{List, [], ◌∷◌, ◌++◌, flat_map, Memᴰ}
use Rattle.verdict.specs.declared.Mark.{Mark}
use Rattle.verdict.specs.declared.Reason.{Reason}
use Rattle.verdict.specs.declared.Reason.TheVariants.{Layout, Field, Agreement, Target, Return}
use Rattle.std.specs.Prelude.{Ok, Err}
use Rattle.verdict.specs.Facts.{Claim, test, Fact, fact, first_fault}
use Rattle.verdict.proofs.Facts.{never}
use Rattle.refusals.proofs.Sections.{Each, Speaks, each_append, each_flat}
use Rattle.x2_layout.specs.declared.Layout as shape
use Rattle.x2_layout.specs.Layout.{layout_of}
use Rattle.x2_layout.specs.Places.{start_entries_at, end_entries_at}
use Rattle.x2_layout.specs.Facts.{layout_facts}
use Rattle.x2_layout.specs.Records.{kind_at, starts, record_before}
use Rattle.x2_theorems.proofs.LayoutSpeaks.{layout_speak, layout_starts, layout_names}
use Rattle.x2_fields.specs.Fields.{header_fields, entries_fields, record_fields, field_facts}
use Rattle.x2_fields.specs.Agreement.{entries_agree, record_agrees, agreement_facts}
use Rattle.x2_theorems.proofs.FieldSpeaks.{record_starts, header_starts, entries_start, fields_speak, rank_starts, rank_names, tracks-start, agreement_speak}
use Rattle.x2_links.specs.Links.{record_targets, target_facts, record_returns, return_facts}
use Rattle.x2_theorems.proofs.LinkSpeaks.{target_starts, return_starts, return_names, targets_speak, returns_speak}
use Rattle.x2_verdict.specs.Facts.{record_facts, check_facts, facts, judged_of}
use Rattle.x2_theorems.specs.Says.{NamesBefore, HeldFor, HeldOf}

-- ---- a property of each fact

-- what holds of each, holds of the one that is refused
refused_each : (P : Mark → Type 0) (fs : List Fact) (m : Mark) → Each (λ c n. P n) fs → first_fault fs ≡ Err m → P m
unfolding first_fault
refused_each P [] m h e = absurd (never m (sym e))
refused_each P (fact c n ∷ fs) m h e = go (test c) e (refused_each P fs m h.1)
  where
    go : (t : Bool) → cond t (first_fault fs) (Err n) ≡ Err m → (first_fault fs ≡ Err m → P m) → P m
    go true e ih = ih e
    go false e ih = let x : n ≡ m = cc in subst P x h.0

-- what holds by a section's reason, holds by each mark's own
by_reason : (Q : Reason → Mark → Type 0) (says : Mark → Claim) (r : Reason) (fs : List Fact) → Each (Speaks says r) fs → Each (λ c m. Q r m) fs → Each (λ c m. Q m.reason m) fs
by_reason Q says r [] k h = tt
by_reason Q says r (fact c m ∷ fs) k h = (subst (λ (x : Reason). Q x m) (sym k.0.0) h.0, by_reason Q says r fs k.1 h.1)

weaken : (P R : Mark → Type 0) → ((m : Mark) → P m → R m) → (fs : List Fact) → Each (λ c m. P m) fs → Each (λ c m. R m) fs
weaken P R so [] h = tt
weaken P R so (fact c m ∷ fs) h = (so m h.0, weaken P R so fs h.1)

two : (P R : Mark → Type 0) (fs : List Fact) → Each (λ c m. P m) fs → Each (λ c m. R m) fs → Each (λ c m. P m × R m) fs
two P R [] h g = tt
two P R (fact c m ∷ fs) h g = ((h.0, g.0), two P R fs h.1 g.1)

-- records, each of whose facts carries its start: each fact carries the start of one of them
of_some : (g : ℕ → List Fact) (xs : List ℕ) → ((x : ℕ) → Each (λ c m. m.start ≡ x) (g x)) → Each (λ c m. Memᴰ m.start xs) (flat_map g xs)
unfolding flat_map
of_some g [] own = tt
of_some g (x ∷ xs) own =
    each_append (λ c m. Memᴰ m.start (x ∷ xs)) (g x) (flat_map g xs)
    (weaken (λ m. m.start ≡ x) (λ m. Memᴰ m.start (x ∷ xs)) (λ m e. Memᴰ.head e) (g x) (own x))
    (weaken (λ m. Memᴰ m.start xs) (λ m. Memᴰ m.start (x ∷ xs)) (λ m i. Memᴰ.tail i) (flat_map g xs) (of_some g xs own))

-- the same, where each fact names fields of the record before
of_named : (g : ℕ → List Fact) (N : Mark → Type 0) (xs : List ℕ) → ((x : ℕ) → Each (λ c m. m.start ≡ x) (g x)) → ((x : ℕ) → Each (λ c m. N m) (g x)) → Each (λ c m. Memᴰ m.start xs × N m) (flat_map g xs)
of_named g N xs own names = two (λ m. Memᴰ m.start xs) N (flat_map g xs) (of_some g xs own) (each_flat (λ c m. N m) g xs names)

-- ---- fields and agreement: the header, or a record

module _ (f : List ℕ) (l : shape.Layout) where
  abbrev Of : Mark → Type 0
  Of m = (m.start ≡ 0) ⊎ Memᴰ m.start (starts f l)

  header : (fs : List Fact) → Each (λ c m. m.start ≡ 0) fs → Each (λ c m. Of m) fs
  header fs h = weaken (λ m. m.start ≡ 0) Of (λ m e. inl e) fs h

  records : (g : ℕ → List Fact) → ((x : ℕ) → Each (λ c m. m.start ≡ x) (g x)) → Each (λ c m. Of m) (flat_map g (starts f l))
  records g own = weaken (λ m. Memᴰ m.start (starts f l)) Of (λ m i. inr i) (flat_map g (starts f l)) (of_some g (starts f l) own)

  fields-of : Each (λ c m. Of m) (field_facts f l)
  unfolding field_facts
  fields-of =
      let first = entries_fields f start_entries_at l.n in
      let second = entries_fields f (end_entries_at l.n) l.k in
      let rest = flat_map (record_fields f l) (starts f l) in
      each_append (λ c m. Of m) (header_fields f) (first ++ (second ++ rest)) (header (header_fields f) (header_starts f l))
      (each_append (λ c m. Of m) first (second ++ rest) (header first (entries_start f l start_entries_at l.n))
      (each_append (λ c m. Of m) second rest (header second (entries_start f l (end_entries_at l.n) l.k))
      (records (record_fields f l) (λ at. record_starts f l (kind_at l at) at))))

  abbrev OfNamed : Mark → Type 0
  OfNamed m = (m.start ≡ 0) ⊎ (Memᴰ m.start (starts f l) × NamesBefore f l m)

  in_header : (fs : List Fact) → Each (λ c m. m.start ≡ 0) fs → Each (λ c m. OfNamed m) fs
  in_header fs h = weaken (λ m. m.start ≡ 0) OfNamed (λ m e. inl e) fs h

  agreement_of : Each (λ c m. OfNamed m) (agreement_facts f l)
  unfolding agreement_facts
  agreement_of =
      let first = entries_agree f start_entries_at l.starts l.n in
      let second = entries_agree f (end_entries_at l.n) l.ends l.k in
      let rest = flat_map (record_agrees f l) (starts f l) in
      each_append (λ c m. OfNamed m) first (second ++ rest) (in_header first (tracks-start f l start_entries_at l.starts l.n))
      (each_append (λ c m. OfNamed m) second rest (in_header second (tracks-start f l (end_entries_at l.n) l.ends l.k))
      (weaken (λ m. Memᴰ m.start (starts f l) × NamesBefore f l m) OfNamed (λ m i. inr i) rest
      (of_named (record_agrees f l) (NamesBefore f l) (starts f l) (λ at. rank_starts f l (record_before f l at) (kind_at l at) at) (λ at. rank_names f l (kind_at l at) at))))

  targets_of : Each (λ c m. Memᴰ m.start (starts f l)) (target_facts f l)
  unfolding target_facts
  targets_of = of_some (λ at. record_targets f l (kind_at l at) at) (starts f l) (λ at. target_starts f l (kind_at l at) at)

  returns_of : Each (λ c m. Memᴰ m.start (starts f l) × NamesBefore f l m) (return_facts f l)
  unfolding return_facts
  returns_of =
      of_named (λ at. record_returns f l (record_before f l at) (kind_at l at) at) (NamesBefore f l) (starts f l)
      (λ at. return_starts f l (record_before f l at) (kind_at l at) at) (λ at. return_names f l (kind_at l at) at)

-- ---- all of them

facts_held : (f : List ℕ) → Each (λ c m. HeldOf f m) (facts f)
unfolding facts check_facts record_facts
facts_held f =
    let l = layout_of f in
    let P : Claim → Mark → Type 0 = λ c m. HeldOf f m in
    let linked = target_facts f l ++ return_facts f l in
    let agreed = agreement_facts f l ++ linked in
    let filled = field_facts f l ++ agreed in (
      refl,
      (
        refl,
        (
          refl,
          (
            refl,
            each_append P (layout_facts f l) filled (by_reason (HeldFor f) _ Layout (layout_facts f l) (layout_speak f l) (two _ _ (layout_facts f l) (layout_starts f l) (layout_names f l)))
                (each_append P (field_facts f l) agreed (by_reason (HeldFor f) _ Field (field_facts f l) (fields_speak f l) (fields-of f l))
                (each_append P (agreement_facts f l) linked (by_reason (HeldFor f) _ Agreement (agreement_facts f l) (agreement_speak f l) (agreement_of f l))
                (each_append P (target_facts f l) (return_facts f l) (by_reason (HeldFor f) _ Target (target_facts f l) (targets_speak f l) (targets_of f l)) (by_reason (HeldFor f) _ Return (return_facts f l) (returns_speak f l) (returns_of f l))))),
          ),
        ),
      ),
    )

-- THEOREM
pub refused_held : (f : List ℕ) (m : Mark) → judged_of f ≡ Err m → HeldOf f m
refused_held f m e = refused_each (HeldOf f) (facts f) m (facts_held f) e
