-- The loader, by computation (02, ticket 6): a transfer of a small file of four bytes, two of which have come. No calls lead to it, for a file has 68
-- bytes at least; so what each call answers is seen on few bytes.
use Prim.Native.Nat.{ℕ}
use mathlib.Core.Path.{◌≡◌, refl}
use mathlib.Core.Bool.{true, false}
use mathlib.Core.List.{List, [], ◌∷◌}
use Rattle.verdict.specs.Reasons.{number_in, place_in}
use Rattle.seven_bits.specs.Numbers.{joined, groups_at, number_at}
use Rattle.transfer.specs.declared.Identity.{Identity}
use Rattle.transfer.specs.declared.State.{State}
use Rattle.transfer.specs.Calls.{ensure, and_then, changed, same, is_askable, open_verdict, nth, stated_in, bytes_in, piece_judged, piece_verdict, piece_step, piece_room, ready_verdict, finish_verdict}

-- station 7, file type 2, data version 1, four bytes, trailer 9
abbrev first : Identity
first = record { station = 7; kind = 2; version = 1; total = 4; trailer = 9 }

abbrev part : State
part = record { opened = true; identity = first; due = 2 }

abbrev room : List ℕ
room = 0x11 ∷ 0x22 ∷ 0xA5 ∷ 0xA5 ∷ 0xA5 ∷ []

-- a transfer of 69 bytes
abbrev longer : ℕ → ℕ → Identity
longer kind total = record { station = 70000; kind = kind; version = 1; total = total; trailer = 0 }

-- what a piece answers
abbrev told : State → List ℕ → ℕ → ℕ
told t s n = number_in (piece_verdict t s n)

pub record Cases : Type 0 where
  -- a piece of two bytes: they stand in the room from its start on, and nothing else is written
  pub fits : piece_room part (7 ∷ 2 ∷ 1 ∷ 4 ∷ 9 ∷ 2 ∷ 2 ∷ 0x33 ∷ 0x44 ∷ []) room ≡ 0x11 ∷ 0x22 ∷ 0x33 ∷ 0x44 ∷ 0xA5 ∷ []
  pub moves : (piece_step part (7 ∷ 2 ∷ 1 ∷ 4 ∷ 9 ∷ 2 ∷ 2 ∷ 0x33 ∷ 0x44 ∷ []) 5).state.due ≡ 4
  -- the incident: the next data version's piece is 17, and writes nothing
  pub next_version : told part (7 ∷ 2 ∷ 2 ∷ 4 ∷ 9 ∷ 2 ∷ 2 ∷ 0x33 ∷ 0x44 ∷ []) 5 ≡ 17
  pub next_version_kept : piece_room part (7 ∷ 2 ∷ 2 ∷ 4 ∷ 9 ∷ 2 ∷ 2 ∷ 0x33 ∷ 0x44 ∷ []) room ≡ room
  -- 17 comes before 18, 18 before the second 19, and that before 15
  pub foreign_elsewhere : told part (7 ∷ 2 ∷ 2 ∷ 4 ∷ 9 ∷ 0 ∷ 2 ∷ 0x33 ∷ 0x44 ∷ []) 5 ≡ 17
  pub elsewhere : told part (7 ∷ 2 ∷ 1 ∷ 4 ∷ 9 ∷ 0 ∷ 3 ∷ 0x33 ∷ 0x44 ∷ 0x55 ∷ []) 3 ≡ 18
  pub beyond : told part (7 ∷ 2 ∷ 1 ∷ 4 ∷ 9 ∷ 2 ∷ 3 ∷ 0x33 ∷ 0x44 ∷ 0x55 ∷ []) 3 ≡ 19
  pub short_room : told part (7 ∷ 2 ∷ 1 ∷ 4 ∷ 9 ∷ 2 ∷ 2 ∷ 0x33 ∷ 0x44 ∷ []) 3 ≡ 15
  -- the first 19 before all: a wrong count, no bytes, a number cut off, and one in a longer form
  pub miscounted : told part (7 ∷ 2 ∷ 2 ∷ 4 ∷ 9 ∷ 2 ∷ 3 ∷ 0x33 ∷ 0x44 ∷ []) 5 ≡ 19
  pub no_bytes : told part (7 ∷ 2 ∷ 1 ∷ 4 ∷ 9 ∷ 2 ∷ 0 ∷ []) 5 ≡ 19
  pub cut : told part (7 ∷ 2 ∷ 1 ∷ 4 ∷ 9 ∷ 2 ∷ 0x82 ∷ []) 5 ≡ 19
  pub longer_form : told part (0x87 ∷ 0 ∷ 2 ∷ 1 ∷ 4 ∷ 9 ∷ 2 ∷ 2 ∷ 0x33 ∷ 0x44 ∷ []) 5 ≡ 19
  -- finishing early is 18
  pub early : number_in (finish_verdict part room) ≡ 18
  -- openings: any 32-bit numbers open; another file type is 13; a total outside the reader's lengths or over the room is 15
  pub opens : number_in (open_verdict (longer 2 69) 69) ≡ 0
  pub no_type : number_in (open_verdict (longer 3 69) 69) ≡ 13
  pub under_the_least : number_in (open_verdict (longer 2 68) 69) ≡ 15
  pub least_of_the_first : number_in (open_verdict (longer 1 68) 69) ≡ 0
  pub over_the_room : number_in (open_verdict (longer 2 70) 69) ≡ 15

pub cases : Cases
unfolding joined groups_at number_at ensure and_then changed same is_askable open_verdict nth stated_in bytes_in piece_judged piece_step piece_room ready_verdict finish_verdict
cases = record {
  fits = refl;
  moves = refl;
  next_version = refl;
  next_version_kept = refl;
  foreign_elsewhere = refl;
  elsewhere = refl;
  beyond = refl;
  short_room = refl;
  miscounted = refl;
  no_bytes = refl;
  cut = refl;
  longer_form = refl;
  early = refl;
  opens = refl;
  no_type = refl;
  under_the_least = refl;
  least_of_the_first = refl;
  over_the_room = refl;
}
