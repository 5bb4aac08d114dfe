-- A C host of the loader (02, ticket 6). What it keeps from call to call are bytes, those of the state and the room. Its calls are the calls of crate
-- transfer_theorems, an opening, a piece or a finishing, each with the state lent whole and so many of the room's first bytes.
use Rattle.std.specs.Prelude.{ℕ, ◌≤◌, ◌<◌, List, [], ◌∷◌, ◌++◌, length, get_or, take, drop, leb}
use Rattle.verdict.specs.declared.Reason.TheVariants.{Room}
use Rattle.verdict.specs.Verdicts.{Verdict}
use Rattle.std.specs.Prelude.{Ok, Err}
use Rattle.transfer.specs.Calls.{ensure, and_then, open_verdict, piece_verdict, piece_room, finish_verdict}
use Rattle.transfer_theorems.specs.Runs.{Call, opening, piece, finishing, World}
use Rattle.c_values.specs.Load.{state_size, state_in, open_shown, open_leaves, piece_shown, piece_leaves, finish_shown}

-- ---- what a host keeps, and what the loader makes of it

pub record Host : Type 0 where
  pub state : List ℕ
  pub room : List ℕ

-- the loader's state and room that it holds
abbrev pub world_in : Host → World
world_in h = record { state = state_in h.state; room = h.room }

-- the bytes of the room that are lent
abbrev pub room_lent : ℕ → Host → List ℕ
room_lent n h = take n h.room

-- the state is as long as one is, and its bytes are below 256, as those of every slice are
pub record Lent (b : List ℕ) : Type 0 where
  pub long : state_size ≤ length b
  pub bytes : (k : ℕ) → get_or b k 0 < 256

-- ---- calls, as the contracts of yard_load_open, yard_load_piece and yard_load_finish have them

-- the number that is returned
unfoldable pub returned : Host → Call → ℕ
returned h (opening n i) = open_shown h.state i (length (room_lent n h))
returned h (piece n s) = piece_shown h.state s (length (room_lent n h))
returned h (finishing n) = finish_shown h.state (room_lent n h)

-- what is kept after a call: what lies behind the bytes of the room that are lent stays
unfoldable pub host_after : Host → Call → Host
host_after h (opening n i) = record { state = open_leaves h.state i (length (room_lent n h)); room = h.room }
host_after h (piece n s) = record {
  state = piece_leaves h.state s (length (room_lent n h));
  room = piece_room (state_in h.state) s (room_lent n h) ++ drop n h.room;
}
host_after h (finishing n) = h

-- and after a run of calls
unfoldable pub host_run : Host → List Call → Host
host_run h [] = h
host_run h (c ∷ cs) = host_run (host_after h c) cs

-- ---- what is answered, for a state of any length

-- the loader's own answer; an opening that is granted is refused with 15 where the state is too short
unfoldable pub called : Host → Call → Verdict
called h (opening n i) = and_then (open_verdict i (length (room_lent n h))) (ensure (leb state_size (length h.state)) Room (Ok tt))
called h (piece n s) = piece_verdict (state_in h.state) s (length (room_lent n h))
called h (finishing n) = finish_verdict (state_in h.state) (room_lent n h)
