-- X.1's facts, check by check: each carries the check's reason, and its claim is what its mark says. The start in a mark is that of the record
-- that it speaks of, the width that of the field, and what a mark of the layout names is so.
use Prim.Native.Nat.{ℕ, ◌+◌, ◌-◌}
use mathlib.Core.Path.{◌≡◌, refl}
use mathlib.Core.Bool.{cond}
use mathlib.Core.Logic.{inl, inr}
use mathlib.Core.List.{List, [], ◌∷◌, ◌++◌, flat_map}
use lib.Dec.{ltb, eqb}
use Rattle.verdict.specs.Facts.{Claim, Fact, Marked}
use Rattle.verdict.specs.declared.Mark.{Mark}
use Rattle.verdict.specs.declared.Reason.{Reason}
use Rattle.verdict.specs.declared.Reason.TheVariants.{Layout, Field, Agreement}
use Rattle.verdict.proofs.Facts.{marked_append}
use Rattle.refusals.proofs.Sections.{Each, Speaks, each_append, each_flat, each_if, marked}
use Rattle.rules.specs.Rules.{length_between, Names}
use Rattle.envelope.specs.Seal.{most_length, seal_facts}
use Rattle.x1_records.specs.Places.{entry_size, least_length, least_length_in}
use Rattle.x1_layout.specs.Layout.{structure_of, size_of, points_at, first_of, last_of, is_first, entries, entry_layout, count_layout, stop_layout, layout_facts}
use Rattle.x1_fields.specs.Fields.{header_fields, entry_fields, point_fields}
use Rattle.x1_verdict.specs.Fields.{all_points, field_facts}
use Rattle.x1_verdict.specs.Agreement.{number_agrees, opens, rises, stays, closes, point_agrees, points_of, track_agrees, agreement_facts}
use Rattle.x1_verdict.specs.Facts.{file_type, sized_facts, facts_by}
use Rattle.x1_theorems.specs.Says.{says_of}

-- each fact has this reason and is the claim that its mark names
abbrev pub Section : List ℕ → Reason → List Fact → Type 0
Section f r = Each (Speaks (says_of f) r)

module _ (f : List ℕ) (size : ℕ) where
  -- a property of a point's facts, part by part: as the first point or a later one, as any point, and as the last one
  pub each_point :
      (P : Claim → Mark → Type 0) (e p : ℕ) → Each P (opens f size p) → Each P (rises f size p) → Each P (stays f e p) → Each P (closes f e p)
      → Each P (point_agrees f size e p)
  each_point P e p a b c d =
      let first = ltb p (first_of f e + size) in
      let last = eqb p (last_of f e) in
      let end = cond last (closes f e p) [] in
      each_append P (cond first (opens f size p) (rises f size p)) (stays f e p ++ end) (each_if P first (opens f size p) (rises f size p) a b)
      (each_append P (stays f e p) end c (each_if P last (closes f e p) [] d tt))

  -- a property of the layout's facts: of the count, of each entry, and of where the points stop
  each_layout :
      (P : Claim → Mark → Type 0) → Each P (count_layout f) → ((e : ℕ) → Each P (entry_layout f size e)) → Each P (stop_layout f size)
      → Each P (layout_facts f size)
  unfolding layout_facts
  each_layout P a b c =
      let tracks = flat_map (entry_layout f size) (entries f) in
      each_append P (count_layout f) (tracks ++ stop_layout f size) a (each_append P tracks (stop_layout f size) (each_flat P (entry_layout f size) (entries f) b) c)

  -- a property of the agreement's facts: of each track's number and of each point
  each_agreement :
      (P : Claim → Mark → Type 0) → ((e : ℕ) → Each P (number_agrees f e)) → ((e p : ℕ) → Each P (point_agrees f size e p))
      → Each P (agreement_facts f size)
  unfolding agreement_facts track_agrees
  each_agreement P a b =
      each_flat P (track_agrees f size) (entries f) (λ e.
      each_append P (number_agrees f e) (flat_map (point_agrees f size e) (points_of f size e)) (a e) (each_flat P (point_agrees f size e) (points_of f size e) (b e)))

  -- ---- what they say

  pub layout_speaks : Section f Layout (layout_facts f size)
  layout_speaks =
      each_layout (Speaks (says_of f) Layout) ((refl, refl), ((refl, refl), tt)) (λ e. ((refl, refl), ((refl, refl), ((refl, refl), ((refl, refl), tt)))))
      ((refl, refl), tt)

  pub fields_speak : Section f Field (field_facts f size)
  unfolding field_facts
  fields_speak =
      let P = Speaks (says_of f) Field in
      let tracks = flat_map (entry_fields f) (entries f) in
      let points = flat_map (point_fields f) (all_points f size) in
      each_append P (header_fields f) (tracks ++ points) ((refl, refl), ((refl, refl), tt))
      (each_append P tracks points
      (each_flat P (entry_fields f) (entries f) (λ e. ((refl, refl), ((refl, refl), ((refl, refl), ((refl, refl), ((refl, refl), ((refl, refl), ((refl, refl), ((refl, refl), tt))))))))))
      (each_flat P (point_fields f) (all_points f size) (λ p. ((refl, refl), ((refl, refl), ((refl, refl), tt))))))

  pub agreement_speaks : Section f Agreement (agreement_facts f size)
  agreement_speaks =
      let P = Speaks (says_of f) Agreement in
      each_agreement P (λ e. each_if P (is_first e) [] _ tt ((refl, refl), tt)) (λ e p.
      each_point P e p ((refl, refl), ((refl, refl), ((refl, refl), ((refl, refl), tt)))) ((refl, refl), tt) ((refl, refl), ((refl, refl), tt))
      ((refl, refl), ((refl, refl), ((refl, refl), tt))))

  -- ---- what they name

  -- LAW: what a mark of the layout names is so: a room is told where its rule says, and bytes lie between what is told there and what is told
  -- at the mark's place.
  pub layout_names : Each (λ c m. Names f m.place m.rule) (layout_facts f size)
  layout_names =
      each_layout (λ c m. Names f m.place m.rule) (tt, (inl refl, tt)) (λ e. (tt, (inr refl, ((first_of f e, inr refl, inr refl), (inl refl, tt))))) (tt, tt)

  -- LAW: the width in a mark of the layout is that of the field at its place, the count or an offset; where the points stop there is no field.
  pub layout_widths :
      Each (λ c m. m.width ≡ 1) (count_layout f)
      × (((e : ℕ) → Each (λ c m. m.width ≡ 2) (entry_layout f size e))
      × Each (λ c m. m.width ≡ 0) (stop_layout f size))
  layout_widths = ((refl, (refl, tt)), (λ e. (refl, (refl, (refl, (refl, tt)))), (refl, tt)))

  -- LAW: in a mark of the agreement it is 0, since the rule has the fields.
  pub agreement_widths : Each (λ c m. m.width ≡ 0) (agreement_facts f size)
  agreement_widths =
      let P : Claim → Mark → Type 0 = λ c m. m.width ≡ 0 in
      each_agreement P (λ e. each_if P (is_first e) [] _ tt (refl, tt)) (λ e p.
      each_point P e p (refl, (refl, (refl, (refl, tt)))) (refl, tt) (refl, (refl, tt)) (refl, (refl, (refl, tt))))

-- each fact of a file is the claim that its mark names
pub facts_marked : (newest : ℕ) (f : List ℕ) → Marked (says_of f) (facts_by newest f)
unfolding facts_by sized_facts
facts_marked newest f =
    let s = says_of f in
    let laid = layout_facts f (size_of f) in
    let filled = field_facts f (size_of f) in
    let agreed = agreement_facts f (size_of f) in
    let rest =
    marked_append s laid (filled ++ agreed) (marked s Layout laid (layout_speaks f (size_of f)))
    (marked_append s filled agreed (marked s Field filled (fields_speak f (size_of f))) (marked s Agreement agreed (agreement_speaks f (size_of f))))
    in
    (refl, (refl, (refl, (refl, (refl, rest)))))

-- ---- where their records start

-- each fact's mark has this start
abbrev pub Started : ℕ → List Fact → Type 0
Started at = Each (λ c m. m.start ≡ at)

module _ (newest : ℕ) (f : List ℕ) where
  -- LAW: the header starts at 0. So do the marks of the file as a whole: of its length and its checksum.
  pub header_starts : Started 0 (length_between f least_length most_length ∷ seal_facts f file_type newest)
      × (Started 0 (length_between f (least_length_in (structure_of f)) most_length ∷ []) × (Started 0 (count_layout f) × Started 0 (header_fields f)))
  header_starts = ((refl, (refl, (refl, (refl, tt)))), ((refl, tt), ((refl, (refl, tt)), (refl, (refl, tt)))))

module _ (f : List ℕ) (size : ℕ) where
  -- LAW: the marks of an entry have the entry's start.
  pub entry_starts : (e : ℕ) → Started e (entry_layout f size e) × (Started e (entry_fields f e) × Started e (number_agrees f e))
  entry_starts e = (
    (refl, (refl, (refl, (refl, tt)))),
    ((refl, (refl, (refl, (refl, (refl, (refl, (refl, (refl, tt)))))))), each_if (λ c m. m.start ≡ e) (is_first e) [] _ tt (refl, tt)),
  )

  -- LAW: the marks of a point have the point's start.
  pub point_starts : (e p : ℕ) → Started p (point_fields f p) × Started p (point_agrees f size e p)
  point_starts e p =
      let P : Claim → Mark → Type 0 = λ c m. m.start ≡ p in
      ((refl, (refl, (refl, tt))), each_point f size P e p (refl, (refl, (refl, (refl, tt)))) (refl, tt) (refl, (refl, tt)) (refl, (refl, (refl, tt))))

  -- LAW: where the points stop, the mark has the start of the last point.
  pub stop_starts : Started (last_of f (points_at f - entry_size)) (stop_layout f size)
  stop_starts = (refl, tt)
