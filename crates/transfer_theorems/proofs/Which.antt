-- THEOREMS: which number is answered and at which place, for every call: the checks of the ticket, in its order.
use Prim.Native.Nat.{ℕ, ◌+◌, ◌≤◌, ◌<◌}
use mathlib.Core.Path.{◌≡◌, refl, sym, ap, subst, ◌∙◌}
use mathlib.Core.Bool.{Bool, true, false, ◌&&◌, ◌||◌, true≢false}
use mathlib.Core.Logic.{◌⊎◌, inl, inr, ⊎_elim, ◌↔◌}
use mathlib.Core.List.{List, [], ◌∷◌}
use lib.ListN.{length, take, drop, get_or}
use lib.Dec.{eqb, leb, ltb}
use native.Mathlib.Omega.{arith}
use borrow.Author.Tests.{eqb-true, leb-true, ltb-true, eq-eqb, ne_eqb, le-leb, lt-ltb}
use Rattle.verdict.specs.declared.Reason.{Reason}
use Rattle.verdict.specs.declared.Reason.TheVariants as reason
use Rattle.verdict.specs.declared.Fault.{Fault}
use Rattle.verdict.specs.Verdicts.{Verdict}
use Rattle.std.specs.Prelude.{Ok, Err}
use Rattle.verdict.specs.Reasons.{number_of, number_in, place_in}
use Rattle.verdict.specs.Order.{Check, check, Reported}
use Rattle.verdict.proofs.Orders.{and-true}
use Rattle.verdict.proofs.Questions.{some_number}
use Rattle.envelope.specs.Seal.{most_length}
use Rattle.seven_bits.specs.Numbers.{number_limit}
use Rattle.x1_verdict.specs.Facts as geography
use Rattle.x2_verdict.specs.Facts as application
use Rattle.transfer.specs.declared.Identity.{Identity}
use Rattle.transfer.specs.declared.State.{State}
use Rattle.transfer.specs.declared.pieces.Stated.{Stated}
use Rattle.transfer.specs.Calls.{ensure, and_then, same, identity_of, least_of, is_askable, open_verdict, stated_in, bytes_in, piece_judged, piece_verdict}
use Rattle.transfer.specs.Calls.{ready_verdict, reader_of, finish_verdict}
use Rattle.transfer.specs.Pieces.{IsPiece}
use Rattle.transfer.proofs.Answers.{never, same_is}
use Rattle.transfer_theorems.specs.Checks as checks
use Rattle.transfer_theorems.specs.Checks.{Askable, Lengthy, open_checks, AnyPiece, PieceOfIt, PieceDue, PieceInside, piece_checks, ready_checks}
use Rattle.transfer_theorems.specs.Checks.{file_in, FinishAnswered}
use Rattle.transfer_theorems.proofs.Forms.{Told, piece_told, is_piece}

-- ---- checks one after the other

-- the number n at the place p is what v answers
abbrev pub Says : Verdict → ℕ → ℕ → Type 0
Says v n p = (number_in v ≡ n) × (place_in v ≡ p)

-- v answers what the checks say
record Answers (v : Verdict) (cs : List Check) : Type 0 where
  pub exactly : (n p : ℕ) → Says v n p ↔ Reported cs n p

all_passed : Answers (Ok tt) []
all_passed = record { exactly = λ n p. (λ h. (sym h.0, sym h.1), λ h. (sym h.0, sym h.1)) }

-- a test that says whether A holds, and then the checks after it
one_check : (b : Bool) (A : Type 0) (r : Reason) (v : Verdict) (cs : List Check) → (b ≡ true → A) → (A → b ≡ true) → (A → Answers v cs)
    → Answers (ensure b r v) (check (number_of r) A (λ p. p ≡ 0) ∷ cs)
unfolding ensure
one_check b A r v cs there back rest = record { exactly = by_test b there back }
  where
    by_test : (b : Bool) → (b ≡ true → A) → (A → b ≡ true) → (n p : ℕ)
        → Says (ensure b r v) n p ↔ ((A × Reported cs n p) ⊎ ((A → ⊥) × ((n ≡ number_of r) × (p ≡ 0))))
    by_test true there back n p =
        let a = there refl in (
          λ h. inl (a, ((rest a).exactly n p).0 h),
          ⊎_elim (λ (h : A × Reported cs n p). ((rest a).exactly n p).1 h.1) (λ (h : (A → ⊥) × ((n ≡ number_of r) × (p ≡ 0))). absurd (h.0 a)),
        )
    by_test false there back n p =
        let none : A → ⊥ = λ a. true≢false (sym (back a)) in (
          λ h. inr (none, (sym h.0, sym h.1)),
          ⊎_elim (λ (h : A × Reported cs n p). absurd (none h.0)) (λ (h : (A → ⊥) × ((n ≡ number_of r) × (p ≡ 0))). (sym h.1.0, sym h.1.1)),
        )

both_true : (a b : Bool) → a ≡ true → b ≡ true → (a && b) ≡ true
both_true a b p q = rw (p, q)

pub same_self : (k : Identity) → same k k ≡ true
unfolding same
same_self k =
    rw (
      eq-eqb k.station k.station refl,
      eq-eqb k.kind k.kind refl,
      eq-eqb k.version k.version refl,
      eq-eqb k.total k.total refl,
      eq-eqb k.trailer k.trailer refl,
    )

pub same_so : (i j : Identity) → i ≡ j → same i j ≡ true
same_so i j e = subst (λ (k : Identity). same i k ≡ true) e (same_self i)

-- ---- a piece

module _ (t : State) (s : List ℕ) (room : ℕ) (bytes : (i : ℕ) → get_or s i 0 < 256) where
  -- a piece of an identity states it
  told_identity : (i : Identity) (start : ℕ) (b : List ℕ) → IsPiece i start b s → (stated_in s).identity ≡ i
  told_identity i start b p = ap (λ (q : Stated). q.identity) (piece_told i start b s p).is

  told_start : (i : Identity) (start : ℕ) (b : List ℕ) → IsPiece i start b s → (stated_in s).start ≡ start
  told_start i start b p = ap (λ (q : Stated). q.start) (piece_told i start b s p).is

  told_count : (i : Identity) (start : ℕ) (b : List ℕ) → IsPiece i start b s → (stated_in s).count ≡ length b
  told_count i start b p = ap (λ (q : Stated). q.count) (piece_told i start b s p).is

  good_there : (stated_in s).good ≡ true → AnyPiece s
  good_there e = ((stated_in s).identity, (stated_in s).start, bytes_in s, is_piece s bytes e)

  good_back : AnyPiece s → (stated_in s).good ≡ true
  good_back (i, start, b, p) = ap (λ (q : Stated). q.good) (piece_told i start b s p).is

  -- given that a piece is read, each test is the ticket's
  module _ (e : (stated_in s).good ≡ true) where
    read : IsPiece (stated_in s).identity (stated_in s).start (bytes_in s) s
    read = is_piece s bytes e

    ours_there : (t.opened && same (stated_in s).identity t.identity) ≡ true → PieceOfIt t s
    ours_there h =
        let a = and-true t.opened _ h in
        (a.0, ((stated_in s).start, bytes_in s, subst (λ (i : Identity). IsPiece i (stated_in s).start (bytes_in s) s) (same_is _ _ a.1) read))

    ours_back : PieceOfIt t s → (t.opened && same (stated_in s).identity t.identity) ≡ true
    ours_back (o, (start, b, p)) = both_true t.opened _ o (same_so _ _ (told_identity t.identity start b p))

  module _ (q : PieceOfIt t s) where
    ours : (stated_in s).identity ≡ t.identity
    ours = told_identity t.identity q.1.0 q.1.1 q.1.2

    e : (stated_in s).good ≡ true
    e = good_back (t.identity, q.1.0, q.1.1, q.1.2)

    due_there : eqb (stated_in s).start t.due ≡ true → PieceDue t s
    due_there h = (
      bytes_in s,
      subst (λ (k : ℕ). IsPiece t.identity k (bytes_in s) s) (eqb-true _ _ h)
          (subst (λ (i : Identity). IsPiece i (stated_in s).start (bytes_in s) s) ours (read e)),
    )

    due_back : PieceDue t s → eqb (stated_in s).start t.due ≡ true
    due_back (b, p) = eq-eqb _ _ (told_start t.identity t.due b p)

  inside_there : PieceDue t s → leb ((stated_in s).start + (stated_in s).count) t.identity.total ≡ true → PieceInside t s
  inside_there (b, p) h =
      let within : (stated_in s).start + (stated_in s).count ≤ t.identity.total = leb-true _ _ h in
      (b, p, omega (arith, told_start t.identity t.due b p, told_count t.identity t.due b p))

  inside_back : PieceInside t s → leb ((stated_in s).start + (stated_in s).count) t.identity.total ≡ true
  inside_back (b, p, h) = le-leb ((stated_in s).start + (stated_in s).count) t.identity.total (omega (arith, told_start t.identity t.due b p, told_count t.identity t.due b p))

  -- Of a piece: 19, 17, 18, 19 and 15, each exactly when the ticket says, at place 0.
  pub which_piece : (n p : ℕ) → Says (piece_verdict t s room) n p ↔ Reported (piece_checks t s room) n p
  unfolding piece_judged
  which_piece =
      (one_check (stated_in s).good (AnyPiece s) reason.Piece _ _ good_there good_back
      λ a. one_check (t.opened && same (stated_in s).identity t.identity) (PieceOfIt t s) reason.Identity _ _ (ours_there (good_back a)) (ours_back (good_back a))
      λ q. one_check (eqb (stated_in s).start t.due) (PieceDue t s) reason.Order _ _ (due_there q) (due_back q)
      λ d. one_check (leb ((stated_in s).start + (stated_in s).count) t.identity.total) (PieceInside t s) reason.Piece _ _ (inside_there d) inside_back
      λ w. one_check (leb t.identity.total room) (t.identity.total ≤ room) reason.Room (Ok tt) [] (leb-true _ _) (le-leb _ _)
      λ r. all_passed).exactly

-- ---- opening

either_true : (a b : Bool) → (a ≡ true) ⊎ (b ≡ true) → (a || b) ≡ true
either_true true b h = refl
either_true false b h = ⊎_elim (λ (e : false ≡ true). absurd (true≢false (sym e))) (λ (e : b ≡ true). e) h

or-true : (a b : Bool) → (a || b) ≡ true → (a ≡ true) ⊎ (b ≡ true)
or-true true b e = inl refl
or-true false b e = inr e

module _ (i : Identity) (room : ℕ) where
  askable_there : is_askable i ≡ true → Askable i
  unfolding is_askable
  askable_there e =
      let a = and-true _ _ e in
      let b = and-true (ltb i.station number_limit) _ a.1 in
      let c = and-true (ltb i.version number_limit) _ b.1 in
      record {
        kind = ⊎_elim (λ h. inl (eqb-true i.kind 1 h)) (λ h. inr (eqb-true i.kind 2 h)) (or-true (eqb i.kind 1) (eqb i.kind 2) a.0);
        station = ltb-true _ _ b.0;
        version = ltb-true _ _ c.0;
        trailer = ltb-true _ _ c.1;
      }

  pub askable_back : Askable i → is_askable i ≡ true
  unfolding is_askable
  askable_back a =
      both_true (eqb i.kind 1 || eqb i.kind 2) _
      (either_true (eqb i.kind 1) (eqb i.kind 2) (⊎_elim (λ (e : i.kind ≡ 1). inl (eq-eqb i.kind 1 e)) (λ (e : i.kind ≡ 2). inr (eq-eqb i.kind 2 e)) a.kind))
      (both_true (ltb i.station number_limit) _ (lt-ltb _ _ a.station)
      (both_true (ltb i.version number_limit) _ (lt-ltb _ _ a.version) (lt-ltb _ _ a.trailer)))

  least_first : i.kind ≡ 1 → least_of i.kind ≡ 68
  least_first e = rw (eq-eqb i.kind 1 e)

  least-second : i.kind ≡ 2 → least_of i.kind ≡ 69
  least-second e = rw (ne_eqb i.kind 1 (λ z. omega arith))

  abbrev pub lengths : Bool
  lengths = leb (least_of i.kind) i.total && (leb i.total most_length && leb i.total room)

  lengthy_there : lengths ≡ true → Lengthy i room
  lengthy_there e =
      let a = and-true (leb (least_of i.kind) i.total) _ e in
      let b = and-true (leb i.total most_length) _ a.1 in
      let least : least_of i.kind ≤ i.total = leb-true _ _ a.0 in
      record {
        first = λ k. omega (arith, least_first k);
        second = λ k. omega (arith, least-second k);
        most = leb-true _ _ b.0;
        roomy = leb-true _ _ b.1;
      }

  pub lengthy_back : Askable i → Lengthy i room → lengths ≡ true
  lengthy_back a h =
      both_true (leb (least_of i.kind) i.total) _
      (le-leb (least_of i.kind) i.total
      (⊎_elim (λ (k : i.kind ≡ 1). omega (arith, least_first k, h.first k)) (λ (k : i.kind ≡ 2). omega (arith, least-second k, h.second k)) a.kind))
      (both_true (leb i.total most_length) _ (le-leb _ _ h.most) (le-leb _ _ h.roomy))

  -- Of an opening: 13 and 15, each exactly when the ticket says, at place 0.
  pub which_opening : (n p : ℕ) → Says (open_verdict i room) n p ↔ Reported (open_checks i room) n p
  unfolding open_verdict
  which_opening =
      (one_check (is_askable i) (Askable i) reason.Question _ _ askable_there askable_back
      λ a. one_check lengths (Lengthy i room) reason.Room (Ok tt) [] lengthy_there (lengthy_back a)
      λ h. all_passed).exactly

-- ---- finishing

module _ (t : State) (room : ℕ) where
  ready_answers : Answers (ready_verdict t room) (ready_checks t room)
  unfolding ready_verdict
  ready_answers =
      one_check (t.opened && eqb t.due t.identity.total) _ reason.Order _ _
      (λ h. let a = and-true t.opened _ h in (a.0, eqb-true _ _ a.1))
      (λ h. both_true t.opened _ h.0 (eq-eqb _ _ h.1))
      λ w. one_check (leb t.identity.total room) (t.identity.total ≤ room) reason.Room (Ok tt) [] (leb-true _ _) (le-leb _ _)
      λ r. all_passed

module _ (t : State) (room : List ℕ) where
  abbrev f : List ℕ
  f = file_in t room

  abbrev compare : Verdict
  compare = ensure (same (identity_of f) t.identity) reason.Identity (Ok tt)

  compare_answers : Answers compare (check 17 (identity_of f ≡ t.identity) (λ p. p ≡ 0) ∷ [])
  compare_answers =
      one_check (same (identity_of f) t.identity) (identity_of f ≡ t.identity) reason.Identity (Ok tt) [] (same_is _ _) (same_so _ _)
      λ e. all_passed

  by_reader : (w : Verdict) → reader_of t.identity.kind f ≡ w → Reported (ready_checks t (length room)) 0 0
      → ((n p : ℕ) → (n ≡ 0 → ⊥) → Reported (ready_checks t (length room)) n p → ⊥)
      → (n p : ℕ) → Says (and_then w compare) n p ↔ FinishAnswered t room n p
  unfolding and_then
  by_reader (Ok tt) e ready only n p = (λ h. checks.compared ready e ((compare_answers.exactly n p).0 h), back)
    where
      back : FinishAnswered t room n p → Says compare n p
      back (checks.not_ready z r) = absurd (only n p z r)
      back (checks.refused r z a b) = absurd (z (a ∙ ap number_in e))
      back (checks.compared r v c) = (compare_answers.exactly n p).1 c
  by_reader (Err g) e ready only n p =
      (λ h. checks.refused ready (λ z. some_number g.reason (h.0 ∙ z)) (sym h.0 ∙ sym (ap number_in e)) (sym h.1 ∙ sym (ap place_in e)), back)
    where
      back : FinishAnswered t room n p → Says (Err g) n p
      back (checks.not_ready z r) = absurd (only n p z r)
      back (checks.refused r z a b) = (sym (a ∙ ap number_in e), sym (b ∙ ap place_in e))
      back (checks.compared r v c) = absurd (never g (sym e ∙ v))

  by_ready : (v : Verdict) → ready_verdict t (length room) ≡ v
      → (n p : ℕ) → Says (and_then v (and_then (reader_of t.identity.kind f) compare)) n p ↔ FinishAnswered t room n p
  unfolding and_then
  by_ready (Ok tt) e n p =
      let is = (ready_answers t (length room)).exactly in
      by_reader (reader_of t.identity.kind f) refl ((is 0 0).0 (ap number_in e, ap place_in e))
      (λ m q z r. z (sym ((is m q).1 r).0 ∙ ap number_in e)) n p
  by_ready (Err g) e n p =
      (λ h. checks.not_ready (λ z. some_number g.reason (h.0 ∙ z)) (((ready_answers t (length room)).exactly n p).0 (ap number_in e ∙ h.0, ap place_in e ∙ h.1)), back)
    where
      none : Reported (ready_checks t (length room)) 0 0 → ⊥
      none r = some_number g.reason (sym (ap number_in e) ∙ (((ready_answers t (length room)).exactly 0 0).1 r).0)

      back : FinishAnswered t room n p → Says (Err g) n p
      back (checks.not_ready z r) = let h = ((ready_answers t (length room)).exactly n p).1 r in (sym (ap number_in e) ∙ h.0, sym (ap place_in e) ∙ h.1)
      back (checks.refused r z a b) = absurd (none r)
      back (checks.compared r v c) = absurd (none r)

  -- Of a finishing: 18, 15, the reader's own number and place, and 17, each exactly when the ticket says.
  pub which_finishing : (n p : ℕ) → Says (finish_verdict t room) n p ↔ FinishAnswered t room n p
  unfolding finish_verdict
  which_finishing = by_ready (ready_verdict t (length room)) refl
