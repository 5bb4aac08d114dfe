-- A file whose layout obeys has regions of whole records.
use Prim.Native.Nat.{ℕ, ◌≤◌, ◌<◌}
use mathlib.Core.Path.{◌≡◌, ◌∙◌, refl, sym, subst, subst⁻¹}
use mathlib.Core.List.{List, [], ◌∷◌, Memᴰ}
use native.Mathlib.Nat.{sub_self, zero-mod}
use native.Mathlib.Omega.{arith}
use Rattle.verdict.specs.Walk.{starts_from}
use Rattle.verdict.proofs.Walk.{reach_le}
use Rattle.x2_records.specs.Places.{siding_size}
use Rattle.x2_layout.specs.declared.Layout.{Layout}
use Rattle.x2_layout.specs.declared.Made.{Made}
use Rattle.x2_layout.specs.declared.Made.TheVariants.{Fixed, Balises}
use Rattle.x2_layout.specs.Layout.{end_of, layout_of}
use Rattle.x2_layout.specs.Groups.{made_of, Group, groups_from, group_start, next_start, group_end, group_ends, balise_bytes}
use Rattle.x2_layout.specs.Obeys.{BaliseFits, MadeOf, Grouped, none, empty, there, LayoutObeys}
use Rattle.x2_layout.specs.inner.Regions.{Whole, Regions}
use Rattle.x2_layout.proofs.Walks.{starts_between}
use Rattle.x2_layout.proofs.Grouped.{end_empty, end_there, grouped-next}

-- ---- the first of some groups

module _ (f : List ℕ) where
  -- no record is whole records
  made_none : (a : ℕ) (made : Made) → MadeOf f a a made
  unfolding MadeOf
  made_none a (Fixed size) = rw (sub_self a) (zero-mod size)
  made_none a Balises = λ x m.
      let b = starts_between (balise_bytes f) a x a m in
      let g = reach_le b.reached in
      let h = b.below in
      absurd (omega arith)

  module _ (end : ℕ) where
    -- it stands from `due` to its end, which is where the others are due
    record Head (due until : ℕ) (g : Group) (gs : List Group) : Type 0 where
      order : due ≤ until
      made : MadeOf f due until g.made
      rest : Grouped f end until gs

    head : {due : ℕ} {g : Group} {gs : List Group} → Grouped f end due (g ∷ gs) → Head due (group_end (group_start f g) due (next_start f end gs)) g gs
    head (empty {due = due} {g = g} {gs = gs} e r) =
        subst⁻¹ (λ (u : ℕ). Head due u g gs) (end_empty (group_start f g) due (next_start f end gs) e) (record { order = omega arith; made = made_none due g.made; rest = r })
    head (there {due = due} {g = g} {gs = gs} until n e b m r) =
        subst⁻¹ (λ (u : ℕ). Head due u g gs) (end_there (group_start f g) due (next_start f end gs) (λ z. n (sym e ∙ z)) ∙ sym (grouped-next f end r)) (record { order = omega arith; made = m; rest = r })

    grouped_none : {due : ℕ} → Grouped f end due [] → due ≡ end
    grouped_none none = refl

-- ---- all of them

module _ (f : List ℕ) (o : LayoutObeys f (layout_of f)) where
  -- each balise of the walk is a right one
  pub balise_obeys : (x : ℕ) → Memᴰ x (starts_from (balise_bytes f) (layout_of f).signals (layout_of f).balises) → BaliseFits f (layout_of f).signals x
  unfolding layout_of group_ends groups_from next_start made_of MadeOf
  balise_obeys = (head f (end_of f) (head f (end_of f) o.groups).rest).made

  pub regions : Regions f (layout_of f)
  unfolding layout_of group_ends groups_from next_start made_of MadeOf balise_bytes
  regions =
      let t = head f (end_of f) o.groups in
      let b = head f (end_of f) t.rest in
      let s = head f (end_of f) b.rest in
      let j = head f (end_of f) s.rest in
      let d = head f (end_of f) j.rest in
      record {
        some_start = o.start_count.0;
        few_starts = o.start_count.1;
        some_end = o.end_count.0;
        few_ends = o.end_count.1;
        header = refl;
        start_boundaries = refl;
        end_boundaries = refl;
        turnouts = record { order = t.order; whole = t.made };
        balises = record {
          order = b.order;
          ends = λ at m.
              let h = b.made at m in
              let left = h.left in
              let rest = h.rest in
              omega arith;
        };
        signals = record { order = s.order; whole = s.made };
        joints = record { order = j.order; whole = j.made };
        sidings = subst (Whole siding_size (layout_of f).sidings) (grouped_none f (end_of f) d.rest) (record { order = d.order; whole = d.made });
        inside = omega arith;
      }

-- the first record is a start boundary
pub some_boundary : {f : List ℕ} {l : Layout} → Regions f l → l.starts < l.ends
some_boundary r =
    let some = r.some_start in
    let end = r.start_boundaries in
    omega arith
