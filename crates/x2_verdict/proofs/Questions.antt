-- The ways out of the questions 'header' and 'record at an offset'.
use Prim.Native.Nat.{ℕ, ◌≤◌, ◌<◌}
use mathlib.Core.Path.{◌≡◌, ◌∙◌, sym, ap, subst⁻¹}
use mathlib.Core.Bool.{Bool, true, false}
use mathlib.Core.List.{List}
use mathlib.Core.Logic.{◌↔◌}
use native.Mathlib.Omega.{arith}
use Rattle.verdict.specs.declared.Fault.{Fault}
use Rattle.verdict.specs.Verdicts.{Verdict}
use Rattle.std.specs.Prelude.{Ok, Err}
use Rattle.verdict.specs.declared.Reason.TheVariants.{Question}
use Rattle.verdict.specs.Answers.{refusal, after_verdict}
use Rattle.verdict.proofs.Questions.{fault_is, no_fault, accepted_by, shown_accepted}
use Rattle.verdict.specs.Facts.{test}
use Rattle.names.specs.Names.{byte_after, station_name_length}
use Rattle.names.proofs.Names.{station_name_count, station_name_ends}
use Rattle.envelope.specs.declared.Header.{Header}
use Rattle.envelope.specs.Header.{header_in}
use Rattle.x2_records.specs.declared.Kind.{Kind}
use Rattle.x2_records.specs.declared.Record.{Record}
use Rattle.x2_records.specs.Records.{record_at}
use Rattle.x2_layout.specs.declared.Layout.{Layout}
use Rattle.x2_layout.specs.Places.{name_at}
use Rattle.x2_layout.specs.Layout.{layout_of}
use Rattle.x2_layout.specs.Records.{kind_at, is_start}
use Rattle.x2_layout.specs.inner.Bounds.{place_most, Bounded}
use Rattle.x2_layout.specs.inner.Regions.{Regions}
use Rattle.x2_layout.proofs.Regions.{regions}
use Rattle.x2_layout.proofs.Bounds.{regions_bounded}
use Rattle.x2_layout.proofs.Starts.{start_tested, start_below}
use Rattle.x2_verdict.specs.declared.NamedHeader.{NamedHeader}
use Rattle.x2_verdict.specs.Facts.{judged_of, verdict_of}
use Rattle.x2_verdict.specs.Obeys.{Obeys}
use Rattle.x2_verdict.specs.Questions.{named_header_in, named_header_of, record_if, record_of}
use Rattle.x2_verdict.proofs.Obeys.{accepted_obeys}

-- an accepted file obeys
pub verdict_obeys : (f : List ℕ) → verdict_of f ≡ Ok tt → Obeys f
verdict_obeys f e = (accepted_obeys f).0 ((shown_accepted (judged_of f)).0 e)

-- THEOREM: each question first gives its file's own fault.
pub file_fault : (f : List ℕ) (t : Fault) → verdict_of f ≡ Err t → (named_header_of f ≡ Err t) × ((x : ℕ) → record_of f x ≡ Err t)
unfolding named_header_of record_of
file_fault f t g = (fault_is Err (verdict_of f) t _ g, λ x. fault_is Err (verdict_of f) t _ g)

-- ---- the header: v is the verdict as it was found, h and n what was read

pub header_there :
    (f : List ℕ) {v : Verdict} → v ≡ verdict_of f → v ≡ Ok tt → {h : Header} → h ≡ header_in f → {n : ℕ} → n ≡ station_name_length f name_at
    → Ok (record { header = h; name = name_at; name_bytes = n }) ≡ named_header_of f
unfolding named_header_of named_header_in
header_there f e g q w = simp (q, w) (sym (no_fault Err (verdict_of f) (Ok (named_header_in f)) (sym e ∙ g)))

-- THEOREM: the header that is answered has a name of at least one code, in the sixteen bytes of its field, and all zeros of these stand after
-- it.
pub header_name :
    (f : List ℕ) (h : NamedHeader) → named_header_of f ≡ Ok h
    → (2 ≤ h.name_bytes) × (h.name_bytes ≤ 16) × ((k : ℕ) → k < 16 → (byte_after f h.name k ≡ 0) ↔ (h.name_bytes ≤ k))
unfolding named_header_of named_header_in
header_name f h e =
    let a = accepted_by Err (verdict_of f) (Ok (named_header_in f)) (Ok h) (λ t q. let z : ◌≡◌ {A = ℕ} 0 1 = cc in omega arith) e in
    let i : named_header_in f ≡ h = cc in
    let name = (verdict_obeys f a.0).fields.station_name in
    let n = station_name_count name in
    let c = name.enough in
    let d = name.room in
    rw (← i) (omega arith, omega arith, station_name_ends name)

-- ---- the record at x

module _ (f : List ℕ) (x : ℕ) (v : Verdict) (p : v ≡ verdict_of f) where
  module _ (e : v ≡ Ok tt) where
    -- its layout is whole records, with the numbers of a file
    pub accepted_regions : (l : Layout) → l ≡ layout_of f → Regions f l
    accepted_regions l i = subst⁻¹ (Regions f) i (regions f (verdict_obeys f (sym p ∙ e)).layout)

    pub accepted_bounded : (l : Layout) → l ≡ layout_of f → Bounded l
    accepted_bounded l i = regions_bounded f l (accepted_regions l i) (verdict_obeys f (sym p ∙ e)).most

    module _ (l : Layout) (i : l ≡ layout_of f) (b : Bool) (q : b ≡ test (is_start f l x)) where
      started : test (is_start f (layout_of f) x) ≡ b
      started = sym (q ∙ ap (λ (k : Layout). test (is_start f k x)) i)

      there : after_verdict Err (verdict_of f) (record_if (test (is_start f (layout_of f) x)) f x) ≡ record_if b f x
      there = no_fault Err (verdict_of f) _ (sym p ∙ e) ∙ ap (λ (c : Bool). record_if c f x) started

      pub no_record : b ≡ false → {t : Fault} → t ≡ refusal Question → Err t ≡ record_of f x
      unfolding record_of
      no_record h n = ap Err n ∙ sym (there ∙ ap (λ (c : Bool). record_if c f x) h)

      pub start_small : b ≡ true → Regions f l → l.end ≤ place_most → x ≤ place_most
      start_small h g s =
          let z = start_below f l g x ((start_tested f l x).0 (sym q ∙ h)) in
          omega arith

      pub record_there : b ≡ true → (k : Kind) → k ≡ kind_at l x → (r : Record) → r ≡ record_at f k x → Ok r ≡ record_of f x
      unfolding record_of
      record_there h k j r n =
          ap Ok (n ∙ ap (λ (y : Kind). record_at f y x) (j ∙ ap (λ (m : Layout). kind_at m x) i))
          ∙ sym (there ∙ ap (λ (c : Bool). record_if c f x) h)
