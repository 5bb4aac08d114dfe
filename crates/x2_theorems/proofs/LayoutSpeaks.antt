-- Each layout fact has the reason Layout, its claim is what its mark says, it carries the start of its record, and what its mark names is so.
use Prim.Native.Nat.{ℕ, ◌-◌}
use mathlib.Core.Path.{◌≡◌, refl}
use mathlib.Core.Bool.{Bool, true, false, cond}
use mathlib.Core.Logic.{inl, inr}
use mathlib.Core.List.{List, [], ◌∷◌, ◌++◌}
use lib.Dec.{eqb}
use Rattle.octets.specs.Octets.{num_at}
use Rattle.verdict.specs.declared.Mark.{Mark}
use Rattle.verdict.specs.declared.Reason.TheVariants as reason
use Rattle.verdict.specs.Facts.{Claim}
use Rattle.verdict.specs.Walk.{starts_from}
use Rattle.refusals.proofs.Sections.{Each, Speaks, each_append, each_flat}
use Rattle.rules.specs.Rules.{ends_at, ToldAt, Names}
use Rattle.x2_records.specs.Places.{boundary_size}
use Rattle.x2_layout.specs.declared.Layout.{Layout}
use Rattle.x2_layout.specs.declared.Made.{Made}
use Rattle.x2_layout.specs.declared.Made.TheVariants.{Fixed, Balises}
use Rattle.x2_layout.specs.Places.{start_entries_at, end_entries_at}
use Rattle.x2_layout.specs.Groups.{Group, group_start, next_start, next_field, group_layout, balise_bytes, balise_layout, walk_layout, made_facts, group_facts}
use Rattle.x2_layout.specs.Facts.{count_layout, indexes, offset_layout, offsets_layout, groups_in, layout_facts}
use Rattle.x2_theorems.specs.LayoutSays.{layout_says, layout_start}
use Rattle.x2_theorems.proofs.GroupTurns.{own_facts, each_turn}

-- ---- what holds of each sort of fact, holds of each layout fact

module _ (f : List ℕ) (l : Layout) (P : Claim → Mark → Type 0)
    (counts : Each P (count_layout f l))
    (offset : (entries due i : ℕ) → Each P (offset_layout f entries due i))
    (own : (due : ℕ) (g : Group) (gs : List Group) → Each P (own_facts f l.end due g gs))
    (done : (due : ℕ) → Each P (ends_at (l.turnouts - boundary_size) due l.end ∷ [])) where
  offsets : (entries due count : ℕ) → Each P (offsets_layout f entries due count)
  unfolding offsets_layout
  offsets entries due count = each_flat P (offset_layout f entries due) (indexes count) (offset entries due)

  each_fact : Each P (layout_facts f l)
  unfolding layout_facts
  each_fact =
      let starts = offsets_layout f start_entries_at l.starts l.n in
      let ends = offsets_layout f (end_entries_at l.n) l.ends l.k in
      let groups = group_facts f (l.turnouts - boundary_size) l.end l.turnouts (groups_in l) in
      each_append P (count_layout f l) (starts ++ (ends ++ groups)) counts
      (each_append P starts (ends ++ groups) (offsets start_entries_at l.starts l.n)
      (each_append P ends groups (offsets (end_entries_at l.n) l.ends l.k)
      (each_turn f (l.turnouts - boundary_size) l.end P own done (groups_in l) l.turnouts)))

-- what holds of a group's whole records, and of each of its balises
module _ (f : List ℕ) (field until next : ℕ) (P : Claim → Mark → Type 0) (balise : (at : ℕ) → Each P (balise_layout f until next at)) where
  each_made : (m : Made) → ((size : ℕ) → Each P (made_facts f field until next (Fixed size))) → Each P (made_facts f field until next m)
  unfolding made_facts walk_layout
  each_made (Fixed size) fixed = fixed size
  each_made Balises fixed = each_flat P (balise_layout f until next) (starts_from (balise_bytes f) until (num_at 2 f field)) balise

-- ---- the reason, and what the mark says

module _ (f : List ℕ) where
  abbrev Y : Claim → Mark → Type 0
  Y = Speaks (layout_says f) reason.Layout

  fixed_speak : (field until next size : ℕ) → Each Y (made_facts f field until next (Fixed size))
  unfolding made_facts
  fixed_speak field until next size = ((refl, refl), tt)

  own_speak : (end due : ℕ) (g : Group) (gs : List Group) → Each Y (own_facts f end due g gs)
  own_speak end due g gs =
      let until = next_start f end gs in
      let next = next_field f end gs in
      each_append Y (group_layout f g.field due until next end) (made_facts f g.field until next g.made) ((refl, refl), ((refl, refl), ((refl, refl), tt)))
      (each_made f g.field until next Y (λ at. ((refl, refl), ((refl, refl), ((refl, refl), tt)))) g.made (fixed_speak g.field until next))

  -- THEOREM
  pub layout_speak : (l : Layout) → Each (Speaks (layout_says f) reason.Layout) (layout_facts f l)
  layout_speak l =
      each_fact f l Y ((refl, refl), ((refl, refl), ((refl, refl), ((refl, refl), tt)))) (λ entries due i. ((refl, refl), tt)) (own_speak l.end) (λ due. ((refl, refl), tt))

-- ---- the start of the record

module _ (f : List ℕ) (l : Layout) where
  abbrev S : Claim → Mark → Type 0
  S c m = m.start ≡ layout_start l m

  fixed_start : (field until next size : ℕ) → Each S (made_facts f field until next (Fixed size))
  unfolding made_facts
  fixed_start field until next size = (refl, tt)

  own_start : (due : ℕ) (g : Group) (gs : List Group) → Each S (own_facts f l.end due g gs)
  own_start due g gs =
      let until = next_start f l.end gs in
      let next = next_field f l.end gs in
      each_append S (group_layout f g.field due until next l.end) (made_facts f g.field until next g.made) (refl, (refl, (refl, tt)))
      (each_made f g.field until next S (λ at. (refl, (refl, (refl, tt)))) g.made (fixed_start g.field until next))

  -- THEOREM: a header's field carries 0, a balise its own start, and the last fact the start of the last boundary.
  pub layout_starts : Each (λ c m. m.start ≡ layout_start l m) (layout_facts f l)
  layout_starts = each_fact f l S (refl, (refl, (refl, (refl, tt)))) (λ entries due i. (refl, tt)) own_start (λ due. (refl, tt))

-- ---- what the mark names

-- where a group's end is told
next_told : (f : List ℕ) (end : ℕ) (gs : List Group) → ToldAt f (next_field f end gs) (next_start f end gs)
unfolding next_start next_field
next_told f end [] = inl refl
next_told f end (g ∷ gs) = go (eqb (group_start f g) 0) (next_told f end gs)
  where
    go : (t : Bool) → ToldAt f (next_field f end gs) (next_start f end gs) → ToldAt f (cond t (next_field f end gs) g.field) (cond t (next_start f end gs) (group_start f g))
    go true h = h
    go false h = inr refl

module _ (f : List ℕ) where
  abbrev N : Claim → Mark → Type 0
  N c m = Names f m.place m.rule

  fixed_names : (field until next size : ℕ) → ToldAt f next until → Each N (made_facts f field until next (Fixed size))
  unfolding made_facts
  fixed_names field until next size h = ((until, h, inl refl), tt)

  own_names : (end due : ℕ) (g : Group) (gs : List Group) → Each N (own_facts f end due g gs)
  own_names end due g gs =
      let until = next_start f end gs in
      let next = next_field f end gs in
      let h = next_told f end gs in
      each_append N (group_layout f g.field due until next end) (made_facts f g.field until next g.made) (tt, (h, (inl refl, tt)))
      (each_made f g.field until next N (λ at. (h, (tt, (h, tt)))) g.made (λ size. fixed_names g.field until next size h))

  -- THEOREM
  pub layout_names : (l : Layout) → Each (λ c m. Names f m.place m.rule) (layout_facts f l)
  layout_names l = each_fact f l N (tt, (inl refl, (tt, (inl refl, tt)))) (λ entries due i. (tt, tt)) (own_names l.end) (λ due. (tt, tt))
