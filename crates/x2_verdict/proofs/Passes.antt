-- One turn of each pass over the records, and where a pass starts and ends.
use Prim.Native.Nat.{ℕ, ◌+◌, ◌/◌, ◌≤◌, ◌<◌}
use mathlib.Core.Path.{◌≡◌, ◌∙◌, refl, sym, ap}
use mathlib.Core.Bool.{Bool, true, true≢false}
use mathlib.Core.List.{List, [], ◌∷◌, flat_map, ◌++◌, Memᴰ}
use native.Mathlib.Omega.{arith}
use lib.ListN.{length, set}
use Rattle.verdict.specs.Verdicts.{Judged}
use Rattle.std.specs.Prelude.{Ok, Err, is_ok}
use Rattle.verdict.specs.Facts.{Fact, test, all_tests, first_fault}
use Rattle.verdict.proofs.Facts.{accepted_iff, all_append}
use Rattle.verdict.specs.Walk.{starts_from}
use Rattle.verdict.proofs.Walk.{reach_le}
use Rattle.x2_records.specs.declared.Kind.{Kind}
use Rattle.x2_records.specs.declared.Kind.TheVariants.{StartBoundary, EndBoundary, Turnout, Balise, Signal, Joint, Siding}
use Rattle.x2_records.specs.Places.{boundary_size}
use Rattle.x2_layout.specs.declared.Layout.{Layout}
use Rattle.x2_layout.specs.inner.Bounds.{place_most, Bounded, if_bounded}
use Rattle.x2_layout.proofs.Bounds.{all_asked}
use Rattle.x2_layout.specs.Places.{start_entries_at, end_entries_at}
use Rattle.x2_layout.specs.inner.Regions.{Whole, Regions}
use Rattle.x2_layout.specs.Records.{kind_at, IsSize, size_of, size_at, record_before, each_record, each_after}
use Rattle.x2_layout.proofs.Starts.{kind_start, kind_end, kind_turnout, kind_balise, kind_signal, kind_joint, kind_siding}
use Rattle.x2_layout.proofs.Walks.{starts_between}
use Rattle.x2_layout.proofs.Walking.{walking_over, walking_stop}
use Rattle.x2_layout.proofs.Before.{following_start, following_over, following_stop}
use Rattle.x2_kinds.specs.KindFields.{kind_fields}
use Rattle.x2_fields.specs.Fields.{header_fields, entries_fields, field_facts}
use Rattle.x2_fields.specs.Agreement.{entries_agree, kind_agrees, agreement_facts}
use Rattle.x2_fields.specs.inner.Header.{header_facts}
use Rattle.x2_links.specs.Links.{linkable, record_targets, record_returns, target_facts, return_facts}
use Rattle.x2_links.specs.inner.Marks.{cell, cells, mark_if, Blank}
use Rattle.x2_links.proofs.Marking.{marking_none, marking_step, marking_all}
use Rattle.x2_verdict.specs.Facts.{record_facts}
use Rattle.x2_verdict.specs.inner.Passes.{Sort, Passing, AllPassed, RecordLinked, Linking, AllLinked}
use Rattle.x2_verdict.proofs.Linked.{all_tests_lem}

-- the first pass: a record whose fields obey and that agrees is passed over, and is marked where a link may name it
pub passing_over :
    {f : List ℕ} {l : Layout} {marks : List ℕ} {before at n m : ℕ} {k : Kind} {t u b : Bool}
    → Passing f l marks before at → at < l.end → at ≤ place_most → k ≡ kind_at l at
    → t ≡ all_tests (kind_fields f k at) → t ≡ true
    → u ≡ all_tests (kind_agrees f l before k at) → u ≡ true
    → b ≡ test (linkable f k at) → m ≡ mark_if b at → IsSize f k at n
    → Passing f l (set marks (at / cell) m) at (at + n)
passing_over {f} {l} {marks} {before} {at} {n} {m} {k} {t} {u} {b} p below fits kind e holds d agrees may mark size = record {
  fields = walking_over p.fields below kind e holds size;
  agrees = following_over p.agrees below kind d agrees size;
  marked =
      marking_step f l marks at (at + n) m below fits
      (mark ∙ ap (λ (c : Bool). mark_if c at) may ∙ ap (λ (c : Kind). mark_if (test (linkable f c at)) at) kind)
      (ap (λ (y : ℕ). at + y) (size.is ∙ ap (λ (c : Kind). size_of f c at) kind)) p.marked;
}

-- the second pass: a record whose links obey is passed over
pub linking_over :
    {f : List ℕ} {l : Layout} {before at n : ℕ} {k : Kind}
    → Linking f l before at → at < l.end → k ≡ kind_at l at → RecordLinked f l before k at → IsSize f k at n → Linking f l at (at + n)
linking_over {f} {l} {before} {at} {n} {k} i below kind h size = record {
  targets = walking_over i.targets below kind (all_tests_lem (record_targets f l k at) h.targets) refl size;
  returns = following_over i.returns below kind (all_tests_lem (record_returns f l before k at) h.returns) refl size;
}

-- ---- the sorts of records, in stored order

module _ (f : List ℕ) (l : Layout) (r : Regions f l) where
  pub start_sort : Sort l StartBoundary l.starts l.ends
  start_sort = record { order = omega arith; inside = omega arith; kind = λ x g h. sym (kind_start f l r x h) }

  pub end_sort : Sort l EndBoundary l.ends l.turnouts
  end_sort = record { order = omega arith; inside = omega arith; kind = λ x g h. sym (kind_end f l r x g h) }

  -- the boundaries of each kind are whole: the header counts them
  pub starts_whole : Whole boundary_size l.starts l.ends
  starts_whole = record { order = omega arith; whole = omega arith }

  pub ends_whole : Whole boundary_size l.ends l.turnouts
  ends_whole = record { order = omega arith; whole = omega arith }

  pub turnout_sort : Sort l Turnout l.turnouts l.balises
  turnout_sort = record { order = omega arith; inside = omega arith; kind = λ x g h. sym (kind_turnout f l r x g h) }

  pub balise_sort : Sort l Balise l.balises l.signals
  balise_sort = record { order = omega arith; inside = omega arith; kind = λ x g h. sym (kind_balise f l r x g h) }

  pub signal_sort : Sort l Signal l.signals l.joints
  signal_sort = record { order = omega arith; inside = omega arith; kind = λ x g h. sym (kind_signal f l r x g h) }

  pub joint_sort : Sort l Joint l.joints l.sidings
  joint_sort = record { order = omega arith; inside = omega arith; kind = λ x g h. sym (kind_joint f l r x g h) }

  pub siding_sort : Sort l Siding l.sidings l.end
  siding_sort = record { order = omega arith; inside = omega arith; kind = λ x g h. sym (kind_siding f l r x g) }

-- ---- where each pass starts and ends

pub passing_start : (f : List ℕ) (l : Layout) (marks : List ℕ) → length marks ≡ cells → Blank marks → Passing f l marks 0 l.starts
passing_start f l marks room blank = record {
  fields = record { so = refl };
  agrees = following_start f l (kind_agrees f l);
  marked = marking_none f l marks room blank;
}

pub passing_all : (f : List ℕ) (l : Layout) (marks : List ℕ) (before : ℕ) → Passing f l marks before l.end → AllPassed f l marks
passing_all f l marks before p =
    let here : l.end ≤ l.end = omega arith in
    record { fields = walking_stop p.fields here; agrees = following_stop p.agrees here; marked = marking_all f l marks l.end here p.marked }

pub linking_start : (f : List ℕ) (l : Layout) → Linking f l 0 l.starts
linking_start f l = record { targets = record { so = refl }; returns = following_start f l (record_returns f l) }

-- the facts of records that have none
no_facts : (facts : ℕ → List Fact) (xs : List ℕ) → ((x : ℕ) → Memᴰ x xs → facts x ≡ []) → flat_map facts xs ≡ []
unfolding flat_map
no_facts facts [] h = refl
no_facts facts (x ∷ xs) h = rw (h x (Memᴰ.head refl)) (no_facts facts xs (λ y m. h y (Memᴰ.tail m)))

module _ (f : List ℕ) (l : Layout) (r : Regions f l) where
  -- from the sidings on all records are sidings
  of_sidings : (facts : ℕ → Kind → ℕ → List Fact) (before : ℕ → ℕ) → ((b x : ℕ) → facts b Siding x ≡ []) → flat_map (λ x. facts (before x) (kind_at l x) x) (starts_from (size_at f l) l.end l.sidings) ≡ []
  of_sidings facts before none =
      no_facts (λ x. facts (before x) (kind_at l x) x) (starts_from (size_at f l) l.end l.sidings)
      (λ x m. ap (λ (k : Kind). facts (before x) k x) (kind_siding f l r x (reach_le (starts_between (size_at f l) l.end x l.sidings m).reached)) ∙ none (before x) x)

  pub linking_all : (before : ℕ) → Linking f l before l.sidings → AllLinked f l
  unfolding target_facts return_facts first_fault
  linking_all before i = record {
    targets = ap (λ (fs : List Fact). first_fault fs) (sym (of_sidings (λ b k x. record_targets f l k x) (λ x. x) (λ b x. refl))) ∙ i.targets.so;
    returns = ap (λ (fs : List Fact). first_fault fs) (sym (of_sidings (record_returns f l) (record_before f l) (λ b x. refl))) ∙ i.returns.walking.so;
  }

-- ---- both passes

-- a check that gives no mark
pub no_mark : (v : Judged) → true ≡ is_ok v → v ≡ Ok tt
no_mark (Ok tt) e = refl
no_mark (Err m) e = absurd (true≢false e)

-- what the header is asked by itself is right, and so is every record
pub all_accepted :
    (f : List ℕ) (l : Layout) → Bounded l → (v : Judged) → v ≡ first_fault (if_bounded l (header_facts f l)) → v ≡ Ok tt → (marks : List ℕ) → AllPassed f l marks → AllLinked f l
    → (Ok tt) ≡ first_fault (record_facts f l)
unfolding record_facts field_facts agreement_facts header_facts
all_accepted f l b v p e marks first second =
    let tracks = entries_agree f start_entries_at l.starts l.n in
    let more = entries_agree f (end_entries_at l.n) l.ends l.k in
    let starts_right = entries_fields f start_entries_at l.n in
    let ends_right = entries_fields f (end_entries_at l.n) l.k in
    let head = (accepted_iff (header_facts f l)).0 (sym (all_asked l (header_facts f l) b) ∙ sym p ∙ e) in
    let opened = (all_append (header_fields f) (starts_right ++ (ends_right ++ (tracks ++ more)))).0 head in
    let named = (all_append starts_right (ends_right ++ (tracks ++ more))).0 opened.1 in
    let closed = (all_append ends_right (tracks ++ more)).0 named.1 in
    let agreed = (all_append tracks more).0 closed.1 in
    let records = each_record f l (kind_fields f) in
    let rest = each_after f l (kind_agrees f l) in
    let filled = (all_append (header_fields f) (starts_right ++ (ends_right ++ records))).1
    (opened.0, (all_append starts_right (ends_right ++ records)).1 (named.0, (all_append ends_right records).1 (closed.0, (accepted_iff records).0 (sym first.fields))))
    in
    let agrees = (all_append tracks (more ++ rest)).1 (agreed.0, (all_append more rest).1 (agreed.1, (accepted_iff rest).0 (sym first.agrees))) in
    let linked = (all_append (target_facts f l) (return_facts f l)).1 ((accepted_iff (target_facts f l)).0 (sym second.targets), (accepted_iff (return_facts f l)).0 (sym second.returns)) in
    sym ((accepted_iff (record_facts f l)).1
    ((all_append (field_facts f l) (agreement_facts f l ++ (target_facts f l ++ return_facts f l))).1
    (filled, (all_append (agreement_facts f l) (target_facts f l ++ return_facts f l)).1 (agrees, linked))))
