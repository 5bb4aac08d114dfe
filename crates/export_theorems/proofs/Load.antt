-- THEOREMS on one call of a C host of the loader (02, ticket 6): what it keeps is the loader's state, and comes back from its bytes; a refused call
-- leaves every byte of state and room; the bytes behind a state, and how many there are, are left; and number, file and place come back from what is
-- returned.
use Prim.Native.Nat.{ℕ, ◌+◌, ◌≤◌, ◌<◌}
use native.Mathlib.Omega.{arith}
use mathlib.Core.Path.{◌≡◌, refl, sym, ap, subst, ◌∙◌}
use mathlib.Core.Bool.{Bool, true, false, cond}
use mathlib.Core.Logic.{⊎_elim}
use mathlib.Core.List.{List, [], ◌∷◌, ◌++◌}
use lib.IntN.{pos}
use lib.ListN.{length, get_or, replicate, drop, length-replicate, get_or-replicate, length-append, length-drop, take-append-drop}
use lib.Dec.{eqb, leb}
use lib.Seq.{drop_at}
use borrow.Author.Tests.{leb-true, leb-false, lt-ltb, le-ltb}
use Rattle.verdict.specs.declared.Reason.{Reason}
use Rattle.verdict.specs.declared.Reason.TheVariants.{Room}
use Rattle.verdict.specs.Verdicts.{Verdict}
use Rattle.std.specs.Prelude.{Ok, Err}
use Rattle.verdict.specs.Reasons.{number_in, place_in}
use Rattle.octets.specs.Octets.{num_at}
use Rattle.seven_bits.specs.Numbers.{number_limit}
use Rattle.x1_verdict.specs.Facts as geography
use Rattle.x2_verdict.specs.Facts as application
use Rattle.transfer.specs.declared.Identity.{Identity}
use Rattle.transfer.specs.declared.State.{State}
use Rattle.transfer.specs.Calls.{ensure, and_then, changed, open_verdict, opened, piece_judged, piece_verdict, moved, piece_room}
use Rattle.transfer.specs.Calls.{ready_verdict, reader_of, finish_verdict}
use Rattle.transfer.specs.Pieces.{Fits}
use Rattle.transfer.proofs.Answers.{opens, passed}
use Rattle.places.specs.Places.{place_over}
use Rattle.places.proofs.X1.{x1_place}
use Rattle.places.proofs.X2.{x2_place}
use Rattle.transfer_theorems.specs.Runs.{Call, opening, piece, finishing}
use Rattle.c_values.specs.Words.{value_size, word_of, word_bytes, laid_bytes, number_part}
use Rattle.c_values.specs.Shown.{words_shown, words_leave, verdict_shown, shown, leaves}
use Rattle.c_values.specs.Load.{state_count, state_size, open_mark, value_in, state_in, state_values, state_words, state_answer, open_leaves, piece_leaves}
use Rattle.c_values.proofs.Laid.{bytes_length}
use Rattle.c_values.proofs.Stored.{open_iff}
use Rattle.export_theorems.specs.TakenApart.{TakenApart}
use Rattle.export_theorems.specs.Load.{Host, room_lent, returned, host_after, called}
use Rattle.export_theorems.proofs.Back.{value_at, number_word}
use Rattle.export_theorems.proofs.TakenApart.{verdict_parts}

-- ---- a state in bytes

-- each number of a state fits its four bytes
pub record Small (t : State) : Type 0 where
  pub identity : Fits t.identity
  pub due : t.due < number_limit

module _ (t : State) (b : List ℕ) (long : state_size ≤ length b) where
  -- its seven values stand in front, and after them what stood there
  in_front : words_leave (state_words t) b ≡ laid_bytes (state_words t) ++ drop state_size b
  unfolding words_leave
  in_front = rw (le-ltb (length b) state_size long) (ap (λ (k : ℕ). laid_bytes (state_words t) ++ drop k b) (bytes_length (state_words t)))

  value_back : (k : ℕ) → k < state_count → value_in (words_leave (state_words t) b) k ≡ word_of (get_or (state_values t) k (pos 0))
  value_back k h = ap (λ (x : List ℕ). value_in x k) in_front ∙ value_at (state_values t) (drop state_size b) k h

  stored_length : length (words_leave (state_words t) b) ≡ length b
  stored_length =
      ap length in_front
      ∙ omega (arith, length-append (laid_bytes (state_words t)) (drop state_size b), bytes_length (state_words t), length-drop state_size b)

  stored_behind : drop state_size (words_leave (state_words t) b) ≡ drop state_size b
  stored_behind = ap (drop state_size) in_front ∙ drop_at (laid_bytes (state_words t)) (drop state_size b) state_size (bytes_length (state_words t))

  -- the state comes back
  state_back : t.opened ≡ true → Small t → state_in (words_leave (state_words t) b) ≡ t
  unfolding state_in
  state_back o m =
      let fits = m.identity in
      let out = words_leave (state_words t) b in
      let mark : value_in out 0 ≡ open_mark = value_back 0 (omega arith) ∙ number_word open_mark (omega arith) in
      let station : value_in out 1 ≡ t.identity.station = value_back 1 (omega arith) ∙ number_word _ fits.station in
      let kind : value_in out 2 ≡ t.identity.kind = value_back 2 (omega arith) ∙ number_word _ fits.kind in
      let version : value_in out 3 ≡ t.identity.version = value_back 3 (omega arith) ∙ number_word _ fits.version in
      let total : value_in out 4 ≡ t.identity.total = value_back 4 (omega arith) ∙ number_word _ fits.total in
      let trailer : value_in out 5 ≡ t.identity.trailer = value_back 5 (omega arith) ∙ number_word _ fits.trailer in
      let due : value_in out 6 ≡ t.due = value_back 6 (omega arith) ∙ number_word _ m.due in
      let size : state_size ≤ length out = omega (arith, stored_length) in
      let open_is = (open_iff out).1 (size, mark) ∙ sym o in
      λ k. record {
        opened = open_is k;
        identity = record { station = station k; kind = kind k; version = version k; total = total k; trailer = trailer k };
        due = due k;
      }

-- bytes that are all zero, for instance, have nothing opened
pub zeros_closed : (n : ℕ) → (state_in (replicate n 0)).opened ≡ true → ⊥
unfolding num_at
zeros_closed n e =
    let h = (open_iff (replicate n 0)).0 e in
    let mark = h.1 in
    let long : state_size ≤ n = omega (arith, h.0, length-replicate {A = ℕ} n 0) in
    let none : (i : ℕ) → i < n → ◌≡◌ {A = ℕ} (get_or (replicate n 0) i 0) 0 = λ i l. get_or-replicate n i 0 0 l in
    omega (arith, none 0 (omega arith), none 1 (omega arith), none 2 (omega arith), none 3 (omega arith))

-- an example: of a file of type 2 with 300 bytes, of which 5 have come, station 7, data version 3 and trailer 0x04030201
pub laid_example :
    laid_bytes (state_words (record {
      opened = true;
      identity = record { station = 7; kind = 2; version = 3; total = 300; trailer = 67305985 };
      due = 5;
    }))
    ≡ 1 ∷ 0 ∷ 0 ∷ 0 ∷ 7 ∷ 0 ∷ 0 ∷ 0 ∷ 2 ∷ 0 ∷ 0 ∷ 0 ∷ 3 ∷ 0 ∷ 0 ∷ 0 ∷ 44 ∷ 1 ∷ 0 ∷ 0 ∷ 1 ∷ 2 ∷ 3 ∷ 4 ∷ 5 ∷ 0 ∷ 0 ∷ 0 ∷ []
unfolding laid_bytes word_bytes word_of
laid_example = refl

-- bytes that are too few are left
short_left : (t : State) (b : List ℕ) → length b < state_size → words_leave (state_words t) b ≡ b
unfolding words_leave
short_left t b h = rw (lt-ltb (length b) state_size h)

-- ---- what is kept is the loader's state

pub granted_small : (i : Identity) (n : ℕ) → open_verdict i n ≡ Ok tt → Small (opened i)
granted_small i n e =
    let o = opens i n e in
    record {
      identity = record {
        station = o.station;
        kind = ⊎_elim (λ (k : i.kind ≡ geography.file_type). omega arith) (λ (k : i.kind ≡ application.file_type). omega arith) o.kind;
        version = o.version;
        total = omega (arith, o.most);
        trailer = o.trailer;
      };
      due = omega arith;
    }

pub moved_small : (t : State) (s : List ℕ) (n : ℕ) → piece_verdict t s n ≡ Ok tt → Small t → Small (moved t s)
moved_small t s n e m =
    let p = passed t s n e in
    record { identity = m.identity; due = omega (arith, p.start, p.within, m.identity.total) }

pub opened_back : (b : List ℕ) (i : Identity) (n : ℕ) → state_size ≤ length b → open_verdict i n ≡ Ok tt
    → state_in (words_leave (state_words (opened i)) b) ≡ opened i
opened_back b i n long e = state_back (opened i) b long refl (granted_small i n e)

pub moved_back : (b s : List ℕ) (n : ℕ) → Small (state_in b) → piece_verdict (state_in b) s n ≡ Ok tt
    → state_in (words_leave (state_words (moved (state_in b) s)) b) ≡ moved (state_in b) s
moved_back b s n m e =
    let o = (passed (state_in b) s n e).opened in
    state_back (moved (state_in b) s) b ((open_iff b).0 o).0 o (moved_small (state_in b) s n e m)

-- THEOREM: after a granted opening the bytes hold the state that was opened
pub opening_kept : (b : List ℕ) (i : Identity) (n : ℕ) → state_size ≤ length b → open_verdict i n ≡ Ok tt → state_in (open_leaves b i n) ≡ opened i
opening_kept b i n long e = ap (λ (v : Verdict). state_in (leaves (state_answer v (opened i)) b)) e ∙ opened_back b i n long e

module _ (b : List ℕ) (bytes : (k : ℕ) → get_or b k 0 < 256) where
  four : (p : ℕ) → num_at value_size b p < number_limit
  unfolding num_at
  four p = omega (arith, bytes p, bytes (p + 1), bytes (p + 1 + 1), bytes (p + 1 + 1 + 1))

  -- the numbers of a state that is read from bytes fit theirs
  pub read_small : Small (state_in b)
  unfolding state_in
  read_small = record {
    identity = record { station = four 4; kind = four 8; version = four 12; total = four 16; trailer = four 20 };
    due = four 24;
  }

-- THEOREM: after an accepted piece they hold the state that the loader goes on with
pub piece_kept : (b s : List ℕ) (n : ℕ) → ((k : ℕ) → get_or b k 0 < 256) → piece_verdict (state_in b) s n ≡ Ok tt
    → state_in (piece_leaves b s n) ≡ moved (state_in b) s
piece_kept b s n bytes e =
    ap (λ (v : Verdict). state_in (leaves (state_answer v (moved (state_in b) s)) b)) e ∙ moved_back b s n (read_small b bytes) e

-- ---- what is left

-- of the state, whatever is answered: how many bytes there are, and those behind
left_as : (v : Verdict) (t : State) (b : List ℕ)
    → (length (leaves (state_answer v t) b) ≡ length b) × (drop state_size (leaves (state_answer v t) b) ≡ drop state_size b)
left_as (Err f) t b = (refl, refl)
left_as (Ok tt) t b = by_test (leb state_size (length b)) refl
  where
    by_test : (x : Bool) → leb state_size (length b) ≡ x
        → (length (words_leave (state_words t) b) ≡ length b) × (drop state_size (words_leave (state_words t) b) ≡ drop state_size b)
    by_test true e = let long = leb-true _ _ e in (stored_length t b long, stored_behind t b long)
    by_test false e = let same = short_left t b (leb-false _ _ e) in (ap length same, ap (drop state_size) same)

state_left : (h : Host) (c : Call)
    → (length (host_after h c).state ≡ length h.state) × (drop state_size (host_after h c).state ≡ drop state_size h.state)
unfolding host_after
state_left h (opening n i) = left_as (open_verdict i (length (room_lent n h))) (opened i) h.state
state_left h (piece n s) = left_as (piece_verdict (state_in h.state) s (length (room_lent n h))) (moved (state_in h.state) s) h.state
state_left h (finishing n) = (refl, refl)

-- THEOREM: no call changes how many bytes the state has
pub state_length : (h : Host) (c : Call) → length (host_after h c).state ≡ length h.state
state_length h c = (state_left h c).0

-- THEOREM: nor any of its bytes behind the first 28
pub state_behind : (h : Host) (c : Call) → drop state_size (host_after h c).state ≡ drop state_size h.state
state_behind h c = (state_left h c).1

-- ---- what is returned

-- a refusal of a call of its own is at place 0, and the reader's place is small
ensure_place : (x : Bool) (r : Reason) (v : Verdict) → place_in v < place_over → place_in (ensure x r v) < place_over
unfolding ensure
ensure_place true r v h = h
ensure_place false r v h = omega arith

then_place : (a v : Verdict) → place_in a < place_over → place_in v < place_over → place_in (and_then a v) < place_over
unfolding and_then
then_place (Ok tt) v h k = k
then_place (Err t) v h k = h

reader_place : (kind : ℕ) (f : List ℕ) → place_in (reader_of kind f) < place_over
unfolding reader_of
reader_place kind f = by_test (eqb kind geography.file_type)
  where
    by_test : (x : Bool) → place_in (cond x (geography.verdict_of f) (application.verdict_of f)) < place_over
    by_test true = x1_place f
    by_test false = x2_place f

none : place_in (Ok tt) < place_over
none = omega arith

called_place : (h : Host) (c : Call) → place_in (called h c) < place_over
unfolding called open_verdict piece_judged finish_verdict ready_verdict
called_place h (opening n i) =
    then_place _ _ (ensure_place _ _ _ (ensure_place _ _ _ none)) (ensure_place (leb state_size (length h.state)) Room (Ok tt) none)
called_place h (piece n s) = ensure_place _ _ _ (ensure_place _ _ _ (ensure_place _ _ _ (ensure_place _ _ _ (ensure_place _ _ _ none))))
called_place h (finishing n) =
    then_place _ _ (ensure_place _ _ _ (ensure_place _ _ _ none)) (then_place _ _ (reader_place _ _) (ensure_place _ _ _ none))

-- the number that an opening returns is that of its own refusal, and then 15
open_shown : (v : Verdict) (t : State) (b : List ℕ)
    → shown (state_answer v t) b ≡ verdict_shown (and_then v (ensure (leb state_size (length b)) Room (Ok tt)))
unfolding and_then ensure words_shown
open_shown (Err f) t b = refl
open_shown (Ok tt) t b = by_test (leb state_size (length b)) refl
  where
    by_test : (x : Bool) → leb state_size (length b) ≡ x → words_shown (state_words t) b ≡ verdict_shown (ensure x Room (Ok tt))
    by_test true e = rw (le-ltb (length b) state_size (leb-true _ _ e))
    by_test false e = rw (lt-ltb (length b) state_size (leb-false _ _ e))

called_shown : (h : Host) (c : Call) → returned h c ≡ verdict_shown (called h c)
unfolding returned called
called_shown h (opening n i) = open_shown (open_verdict i (length (room_lent n h))) (opened i) h.state
called_shown h (piece n s) = refl
called_shown h (finishing n) = refl

-- THEOREM: number, file and place come back from what a call returns
pub call_parts : (h : Host) (c : Call) → TakenApart (returned h c) (number_in (called h c)) 0 (place_in (called h c))
call_parts h c =
    subst (λ (r : ℕ). TakenApart r (number_in (called h c)) 0 (place_in (called h c))) (sym (called_shown h c))
    (verdict_parts (called h c) (called_place h c))

-- ---- a refused call

open_refused : (v : Verdict) (t : State) (b : List ℕ) → (number_in (and_then v (ensure (leb state_size (length b)) Room (Ok tt))) ≡ 0 → ⊥)
    → leaves (state_answer v t) b ≡ b
unfolding and_then ensure
open_refused (Err f) t b some = refl
open_refused (Ok tt) t b some = by_test (leb state_size (length b)) refl some
  where
    by_test : (x : Bool) → leb state_size (length b) ≡ x → (number_in (ensure x Room (Ok tt)) ≡ 0 → ⊥) → words_leave (state_words t) b ≡ b
    by_test true e some = absurd (some refl)
    by_test false e some = short_left t b (leb-false _ _ e)

piece_refused : (h : Host) (n : ℕ) (s : List ℕ) (v : Verdict) → piece_verdict (state_in h.state) s (length (room_lent n h)) ≡ v
    → (number_in v ≡ 0 → ⊥) → host_after h (piece n s) ≡ h
unfolding host_after piece_room changed
piece_refused h n s (Ok tt) e some = absurd (some refl)
piece_refused h n s (Err f) e some = rw e (ap (λ (r : List ℕ). record { state = h.state; room = r }) (take-append-drop n h.room))

left_alone : (h : Host) (c : Call) → (number_in (called h c) ≡ 0 → ⊥) → host_after h c ≡ h
unfolding called host_after
left_alone h (opening n i) some =
    ap (λ (b : List ℕ). record { state = b; room = h.room }) (open_refused (open_verdict i (length (room_lent n h))) (opened i) h.state some)
left_alone h (piece n s) some = piece_refused h n s (piece_verdict (state_in h.state) s (length (room_lent n h))) refl some
left_alone h (finishing n) some = refl

-- THEOREM: a call that returns a number other than 0 leaves every byte of the state and of the room
pub refused_leaves : (h : Host) (c : Call) → (number_part (returned h c) ≡ 0 → ⊥) → host_after h c ≡ h
refused_leaves h c some = left_alone h c (λ e. some ((call_parts h c).number_is ∙ e))
