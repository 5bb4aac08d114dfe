-- Which number is answered (02, ticket 6): the checks of each call, in the ticket's order, by what a piece is and with no word on how it is read.
-- Every refusal but the reader's own is at place 0.
use Rattle.std.specs.Prelude.{ℕ, ◌+◌, ◌≤◌, ◌<◌, ◌≡◌, true, ◌⊎◌, List, [], ◌∷◌, length, take}
use Rattle.verdict.specs.Verdicts.{Verdict}
use Rattle.std.specs.Prelude.{Ok, Err}
use Rattle.verdict.specs.Reasons.{number_in, place_in}
use Rattle.verdict.specs.Order.{Check, check, Reported}
use Rattle.seven_bits.specs.Numbers.{number_limit}
use Rattle.transfer.specs.declared.Identity.{Identity}
use Rattle.transfer.specs.declared.State.{State}
use Rattle.transfer.specs.Calls.{identity_of, reader_of}
use Rattle.transfer.specs.Pieces.{IsPiece}

-- a refusal of a call of its own is at place 0
-- 02: Ticket6.11
abbrev at_0 : ℕ → Type 0
at_0 p = p ≡ 0

-- ---- opening

-- 13: the file type is 1 or 2, and station, version and trailer fit 32 bits
-- 02: Ticket6.8
pub record Askable (i : Identity) : Type 0 where
  pub kind : (i.kind ≡ 1) ⊎ (i.kind ≡ 2)
  pub station : i.station < number_limit
  pub version : i.version < number_limit
  pub trailer : i.trailer < number_limit

-- 15: the total is one of the reader's lengths, and not over the room
-- 02: Ticket6.8
pub record Lengthy (i : Identity) (room : ℕ) : Type 0 where
  pub first : i.kind ≡ 1 → 68 ≤ i.total
  pub second : i.kind ≡ 2 → 69 ≤ i.total
  pub most : i.total ≤ 65535
  pub roomy : i.total ≤ room

-- 02: Ticket6.8
abbrev pub open_checks : Identity → ℕ → List Check
open_checks i room = check 13 (Askable i) at_0 ∷ check 15 (Lengthy i room) at_0 ∷ []

-- ---- a piece

-- 19: s is a piece at all: seven good numbers, and then bytes, as many as the last says
-- 02: Ticket6.9
abbrev pub AnyPiece : List ℕ → Type 0
AnyPiece s = (i : Identity) × (start : ℕ) × (bytes : List ℕ) × IsPiece i start bytes s

-- 17: a transfer is open, and s is a piece of its identity
-- 02: Ticket6.9
abbrev pub PieceOfIt : State → List ℕ → Type 0
PieceOfIt t s = (t.opened ≡ true) × ((start : ℕ) × (bytes : List ℕ) × IsPiece t.identity start bytes s)

-- 18: s is a piece of its identity that starts at the next byte due
-- 02: Ticket6.9
abbrev pub PieceDue : State → List ℕ → Type 0
PieceDue t s = (bytes : List ℕ) × IsPiece t.identity t.due bytes s

-- 19: and none of its bytes is beyond the total
-- 02: Ticket6.9
abbrev pub PieceInside : State → List ℕ → Type 0
PieceInside t s = (bytes : List ℕ) × IsPiece t.identity t.due bytes s × (t.due + length bytes ≤ t.identity.total)

-- 15: the room is not under the total
-- 02: Ticket6.9
abbrev pub piece_checks : State → List ℕ → ℕ → List Check
piece_checks t s room =
    check 19 (AnyPiece s) at_0
    ∷ check 17 (PieceOfIt t s) at_0
    ∷ check 18 (PieceDue t s) at_0
    ∷ check 19 (PieceInside t s) at_0
    ∷ check 15 (t.identity.total ≤ room) at_0
    ∷ []

-- ---- finishing

-- 18: a transfer is open and all bytes have come; 15: the room is not under the total; then the reader's own number and place; then 17: header,
-- length and trailer are the identity's
-- 02: Ticket6.10
abbrev pub ready_checks : State → ℕ → List Check
ready_checks t room =
    check 18 ((t.opened ≡ true) × (t.due ≡ t.identity.total)) at_0 ∷ check 15 (t.identity.total ≤ room) at_0 ∷ []

-- the file in the room
abbrev pub file_in : State → List ℕ → List ℕ
file_in t room = take t.identity.total room

-- n is answered at the place p
-- 02: Ticket6.10
pub data FinishAnswered (t : State) (room : List ℕ) (n p : ℕ) : Type 0 where
  not_ready : (n ≡ 0 → ⊥) → Reported (ready_checks t (length room)) n p → FinishAnswered t room n p
  refused : Reported (ready_checks t (length room)) 0 0 → (n ≡ 0 → ⊥) → n ≡ number_in (reader_of t.identity.kind (file_in t room))
      → p ≡ place_in (reader_of t.identity.kind (file_in t room)) → FinishAnswered t room n p
  compared : Reported (ready_checks t (length room)) 0 0 → reader_of t.identity.kind (file_in t room) ≡ Ok tt
      → Reported (check 17 (identity_of (file_in t room) ≡ t.identity) at_0 ∷ []) n p → FinishAnswered t room n p
