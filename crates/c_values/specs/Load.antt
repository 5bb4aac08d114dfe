-- The loader's state as it crosses the boundary (02, ticket 6): bytes that the caller keeps and lends to each call. What they hold, what a call
-- returns, and what it leaves in them. What it leaves in the room is said in crate transfer (piece_room).
use Rattle.std.specs.Prelude.{ℕ, ◌*◌, ◌&&◌, List, [], ◌∷◌, ℤ, pos, length, eqb, leb}
use Rattle.verdict.specs.Verdicts.{Verdict}
use Rattle.std.specs.Prelude.{Ok, Err}
use Rattle.verdict.specs.Answers.{Answer, answered, refused}
use Rattle.octets.specs.Octets.{num_at}
use Rattle.transfer.specs.declared.Identity.{Identity}
use Rattle.transfer.specs.declared.State.{State}
use Rattle.transfer.specs.Calls.{open_verdict, opened, piece_verdict, moved, finish_verdict}
use Rattle.c_values.specs.Words.{value_size, value_words}
use Rattle.c_values.specs.Shown.{verdict_shown, shown, leaves}

-- ---- the state in bytes: seven values

-- how many values a state has, and how many bytes
abbrev pub state_count : ℕ
state_count = 7

abbrev pub state_size : ℕ
state_size = 28

-- the first value of an open state
abbrev pub open_mark : ℕ
open_mark = 1

-- the value of an index in some bytes
abbrev pub value_in : List ℕ → ℕ → ℕ
value_in b k = num_at value_size b (value_size * k)

-- the state that some bytes hold: bytes that are too few, or of which the first value is not the mark, have nothing opened
unfoldable pub state_in : List ℕ → State
state_in b = record {
  opened = leb state_size (length b) && eqb (value_in b 0) open_mark;
  identity = record { station = value_in b 1; kind = value_in b 2; version = value_in b 3; total = value_in b 4; trailer = value_in b 5 };
  due = value_in b 6;
}

-- the values of a state that is open: the mark, the identity and the next byte due
abbrev pub state_values : State → List ℤ
state_values t =
    pos open_mark
    ∷ pos t.identity.station
    ∷ pos t.identity.kind
    ∷ pos t.identity.version
    ∷ pos t.identity.total
    ∷ pos t.identity.trailer
    ∷ pos t.due
    ∷ []

abbrev pub state_words : State → List ℕ
state_words t = value_words (state_values t)

-- ---- what a call returns, and the bytes of the state after it

-- the state after an accepted call is put at the start of the bytes like the values of every answer, and so refused with 15 where they are too few,
-- after every other refusal; a refusal leaves every byte
abbrev pub state_answer : Verdict → State → Answer
state_answer (Ok tt) t = answered (state_values t)
state_answer (Err f) t = refused state_count f

-- opening, with the identity that five numbers are
abbrev pub identity_from : ℕ → ℕ → ℕ → ℕ → ℕ → Identity
identity_from station kind version total trailer =
    record { station = station; kind = kind; version = version; total = total; trailer = trailer }

abbrev pub open_shown : List ℕ → Identity → ℕ → ℕ
open_shown b i room = shown (state_answer (open_verdict i room) (opened i)) b

abbrev pub open_leaves : List ℕ → Identity → ℕ → List ℕ
open_leaves b i room = leaves (state_answer (open_verdict i room) (opened i)) b

-- a piece: bytes that are too few have nothing opened, and so none is accepted with them
abbrev pub piece_shown : List ℕ → List ℕ → ℕ → ℕ
piece_shown b s room = verdict_shown (piece_verdict (state_in b) s room)

abbrev pub piece_leaves : List ℕ → List ℕ → ℕ → List ℕ
piece_leaves b s room = leaves (state_answer (piece_verdict (state_in b) s room) (moved (state_in b) s)) b

-- finishing, which leaves all as it was
abbrev pub finish_shown : List ℕ → List ℕ → ℕ
finish_shown b room = verdict_shown (finish_verdict (state_in b) room)
