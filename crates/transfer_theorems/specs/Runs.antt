-- Any sequence of calls (02, ticket 6). A call is an opening, a piece or a finishing, and is lent so many of the room's first bytes: the room is the
-- same throughout, and how much of it is lent may differ from call to call.
use Rattle.std.specs.Prelude.{ℕ, ◌+◌, ◌≡◌, true, length, take, drop}
use mathlib.Core.List.{List, [], ◌∷◌, ◌++◌, Memᴰ}
use Rattle.verdict.specs.Verdicts.{Verdict}
use Rattle.std.specs.Prelude.{Ok, Err}
use Rattle.octets.specs.Octets.{num_at}
use Rattle.envelope.specs.Seal.{end_of, type_at, data_at, station_at}
use Rattle.transfer.specs.declared.Identity.{Identity}
use Rattle.transfer.specs.declared.State.{State}
use Rattle.transfer.specs.Calls.{changed, open_verdict, open_step, stated_in, bytes_in, piece_verdict, piece_step, piece_room, reader_of, finish_verdict}

-- ---- calls

-- 02: Ticket6.4
pub data Call : Type 0 where
  opening : ℕ → Identity → Call
  piece : ℕ → List ℕ → Call
  finishing : ℕ → Call

-- the state that the caller keeps, and the room
pub record World : Type 0 where
  pub state : State
  pub room : List ℕ

-- the bytes of the room that are lent
abbrev pub lent : ℕ → World → List ℕ
lent n w = take n w.room

-- what a call answers
unfoldable pub answer : World → Call → Verdict
answer w (opening n i) = open_verdict i (length (lent n w))
answer w (piece n s) = piece_verdict w.state s (length (lent n w))
answer w (finishing n) = finish_verdict w.state (lent n w)

-- the state and the room after a call: what lies behind the bytes that are lent stays
-- 02: Ticket6.6
unfoldable pub after : World → Call → World
after w (opening n i) = record { state = (open_step w.state i (length (lent n w))).state; room = w.room }
after w (piece n s) = record {
  state = (piece_step w.state s (length (lent n w))).state;
  room = piece_room w.state s (lent n w) ++ drop n w.room;
}
after w (finishing n) = w

-- and after a run of calls
-- 02: Ticket6.4
unfoldable pub run : World → List Call → World
run w [] = w
run w (c ∷ cs) = run (after w c) cs

-- the calls of a run that are accepted, in order
-- 02: Ticket6.6
unfoldable pub accepted_in : World → List Call → List Call
accepted_in w [] = []
accepted_in w (c ∷ cs) = changed (answer w c) (c ∷ accepted_in (after w c) cs) (accepted_in (after w c) cs)

-- ---- what has been taken

-- since the last granted opening: its identity, the room as it was then, and the pieces accepted since, in order
pub record Taken : Type 0 where
  pub identity : Identity
  pub base : List ℕ
  pub pieces : List (List ℕ)

-- nothing yet
abbrev pub fresh : Identity → List ℕ → Taken
fresh i room = record { identity = i; base = room; pieces = [] }

-- a piece more
abbrev pub more : Taken → List ℕ → Taken
more l s = record { identity = l.identity; base = l.base; pieces = l.pieces ++ (s ∷ []) }

-- with one call more
unfoldable pub note : World → Call → Taken → Taken
note w (opening n i) l = changed (open_verdict i (length (lent n w))) (fresh i w.room) l
note w (piece n s) l = changed (piece_verdict w.state s (length (lent n w))) (more l s) l
note w (finishing n) l = l

-- and with a run of calls more
unfoldable pub taken : World → List Call → Taken → Taken
taken w [] l = l
taken w (c ∷ cs) l = taken (after w c) cs (note w c l)

-- what is taken in a run of calls since an opening
-- 02: Ticket6.4
unfoldable pub taken_since : World → ℕ → Identity → List Call → Taken
taken_since w n i cs = taken (after w (opening n i)) cs (fresh i w.room)

-- the state and the room then
unfoldable pub run_since : World → ℕ → Identity → List Call → World
run_since w n i cs = run (after w (opening n i)) cs

-- ---- what the room holds

-- the bytes of some pieces, joined in order
unfoldable pub joined : List (List ℕ) → List ℕ
joined [] = []
joined (s ∷ ss) = bytes_in s ++ joined ss

-- the byte counts of some pieces, in all
unfoldable pub counts : List (List ℕ) → ℕ
counts [] = 0
counts (s ∷ ss) = (stated_in s).count + counts ss

-- each piece stated as its start where the one before it ends: there is no gap and no overlap
pub data Placed : ℕ → List (List ℕ) → Type 0 where
  none : {n : ℕ} → Placed n []
  next : {n : ℕ} {s : List ℕ} {ss : List (List ℕ)} → (stated_in s).start ≡ n → Placed (n + length (bytes_in s)) ss → Placed n (s ∷ ss)

-- The room's first bytes up to the next byte due are those of the pieces taken, joined in order without gap; every one of them stated the identity
-- that was opened; and what lies behind is as it was at the opening.
-- 02: Ticket6.4
pub record Gathered (l : Taken) (w : World) : Type 0 where
  pub opened : w.state.opened ≡ true
  pub identity : w.state.identity ≡ l.identity
  pub held : take w.state.due w.room ≡ joined l.pieces
  pub due : w.state.due ≡ length (joined l.pieces)
  pub sum : w.state.due ≡ counts l.pieces
  pub stated : (s : List ℕ) → Memᴰ s l.pieces → ((stated_in s).good ≡ true) × ((stated_in s).identity ≡ l.identity)
  pub placed : Placed 0 l.pieces
  pub behind : drop w.state.due w.room ≡ drop w.state.due l.base
  pub whole : length w.room ≡ length l.base

-- ---- a file that is accepted

-- the reader accepts these bytes, and header, length and trailer are the identity's
-- 02: Ticket6.5
pub record Finished (f : List ℕ) (i : Identity) : Type 0 where
  pub accepted : reader_of i.kind f ≡ Ok tt
  pub station : num_at 2 f station_at ≡ i.station
  pub kind : num_at 1 f type_at ≡ i.kind
  pub version : num_at 2 f data_at ≡ i.version
  pub total : length f ≡ i.total
  pub trailer : num_at 4 f (end_of f) ≡ i.trailer

-- One version: the file in the room is the bytes of the pieces taken and nothing else; every piece stated the identity that was opened; and that is
-- the file's own.
-- 02: Ticket6.5
pub record OneVersion (l : Taken) (room : List ℕ) : Type 0 where
  pub stands : take l.identity.total room ≡ joined l.pieces
  pub stated : (s : List ℕ) → Memᴰ s l.pieces → (stated_in s).identity ≡ l.identity
  pub file : Finished (joined l.pieces) l.identity
