-- What each call of the loader answers, the state after it and the room after it (02, ticket 6): for every state, also one that no calls lead to,
-- every piece and every room.
use Rattle.std.specs.Prelude.{ℕ, zero, suc, ◌+◌, ◌-◌, Bool, true, false, cond, ◌&&◌, ◌||◌, List, length, take, drop, eqb, leb, ltb}
use Rattle.std.proofs.Math.Seq.{paste}
use Rattle.verdict.specs.declared.Reason.{Reason}
use Rattle.verdict.specs.declared.Reason.TheVariants as reason
use Rattle.verdict.specs.Verdicts.{Verdict}
use Rattle.std.specs.Prelude.{Ok, Err}
use Rattle.verdict.specs.Answers.{refusal}
use Rattle.octets.specs.Octets.{num_at}
use Rattle.envelope.specs.Seal.{most_length, end_of, type_at, data_at, station_at}
use Rattle.x1_records.specs.Places as places
use Rattle.x1_verdict.specs.Facts as geography
use Rattle.x2_verdict.specs.Facts as application
use Rattle.seven_bits.specs.declared.Number.{Number}
use Rattle.seven_bits.specs.Numbers.{number_limit, number_at}
use Rattle.transfer.specs.declared.Identity.{Identity}
use Rattle.transfer.specs.declared.State.{State}
use Rattle.transfer.specs.declared.Step.{Step}
use Rattle.transfer.specs.declared.pieces.Stated.{Stated}

-- ---- answers

-- a refusal at place 0
-- 02: Ticket6.11
abbrev pub refused_for : Reason → Verdict
refused_for r = Err (refusal r)

-- a test, the reason that it refuses for, and what is answered where it is passed
unfoldable pub ensure : Bool → Reason → Verdict → Verdict
ensure true r v = v
ensure false r v = refused_for r

-- a verdict, and what is answered where it accepts
unfoldable pub and_then : Verdict → Verdict → Verdict
and_then (Ok tt) v = v
and_then (Err t) v = Err t

-- what an accepted call makes of something; a refused one changes nothing
-- 02: Ticket6.6
unfoldable pub changed : {A : Type 0} → Verdict → A → A → A
changed (Ok tt) new old = new
changed (Err t) new old = old

-- ---- the identity

unfoldable pub same : Identity → Identity → Bool
same i j =
    eqb i.station j.station
    && (eqb i.kind j.kind && (eqb i.version j.version && (eqb i.total j.total && eqb i.trailer j.trailer)))

-- that of a file: its header, its length and its trailer
-- 02: Ticket6.1
unfoldable pub identity_of : List ℕ → Identity
identity_of f = record {
  station = num_at 2 f station_at;
  kind = num_at 1 f type_at;
  version = num_at 2 f data_at;
  total = length f;
  trailer = num_at 4 f (end_of f);
}

-- ---- opening

-- nothing is opened; the numbers of such a state mean nothing
abbrev pub nothing_opened : State
nothing_opened = record { opened = false; identity = record { station = 0; kind = 0; version = 0; total = 0; trailer = 0 }; due = 0 }

-- how long a file of a type is at least
abbrev pub least_of : ℕ → ℕ
least_of kind = cond (eqb kind geography.file_type) places.least_length application.least_length

-- the file type is 1 or 2; and station, version and trailer fit 32 bits
-- 02: Ticket6.7
unfoldable pub is_askable : Identity → Bool
is_askable i =
    (eqb i.kind geography.file_type || eqb i.kind application.file_type)
    && (ltb i.station number_limit && (ltb i.version number_limit && ltb i.trailer number_limit))

-- 13, then 15 for a total outside the reader's lengths or over the room
-- 02: Ticket6.8
unfoldable pub open_verdict : Identity → ℕ → Verdict
open_verdict i room =
    ensure (is_askable i) reason.Question
    (ensure (leb (least_of i.kind) i.total && (leb i.total most_length && leb i.total room)) reason.Room (Ok tt))

-- a transfer that has no byte yet
-- 02: Ticket6.1
abbrev pub opened : Identity → State
opened i = record { opened = true; identity = i; due = 0 }

-- a granted opening forgets all
-- 02: Ticket6.1, Ticket6.6
unfoldable pub open_step : State → Identity → ℕ → Step
open_step t i room = record { verdict = open_verdict i room; state = changed (open_verdict i room) (opened i) t }

-- ---- a piece

-- its numbers stand one after the other
unfoldable pub nth : List ℕ → ℕ → Number
nth s zero = number_at s 0
nth s (suc k) = number_at s (nth s k).next

-- there are bytes from a place on, and as many as a count says
abbrev pub follows : List ℕ → ℕ → ℕ → Bool
follows s from count = ltb from (length s) && eqb count (length s - from)

-- seven numbers, and then the bytes
-- 02: Ticket6.2
unfoldable pub stated_in : List ℕ → Stated
stated_in s = record {
  good =
      (nth s 0).good && ((nth s 1).good && ((nth s 2).good && ((nth s 3).good && ((nth s 4).good && ((nth s 5).good && ((nth s 6).good
      && follows s (nth s 6).next (nth s 6).value))))));
  identity = record { station = (nth s 0).value; kind = (nth s 1).value; version = (nth s 2).value; total = (nth s 3).value; trailer = (nth s 4).value };
  start = (nth s 5).value;
  count = (nth s 6).value;
  from = (nth s 6).next;
}

-- the bytes of a piece
-- 02: Ticket6.2
unfoldable pub bytes_in : List ℕ → List ℕ
bytes_in s = drop (stated_in s).from s

-- 19 for a bad number, no bytes or another count of bytes; 17 with nothing opened or another identity; 18 if the start is not the next byte due; 19
-- for bytes beyond the total; 15 for room under the total
-- 02: Ticket6.9
unfoldable pub piece_judged : State → Stated → ℕ → Verdict
piece_judged t p room =
    ensure p.good reason.Piece
    (ensure (t.opened && same p.identity t.identity) reason.Identity
    (ensure (eqb p.start t.due) reason.Order
    (ensure (leb (p.start + p.count) t.identity.total) reason.Piece
    (ensure (leb t.identity.total room) reason.Room (Ok tt)))))

abbrev pub piece_verdict : State → List ℕ → ℕ → Verdict
piece_verdict t s room = piece_judged t (stated_in s) room

-- the next byte due is the one behind the piece
abbrev pub moved : State → List ℕ → State
moved t s = record { opened = t.opened; identity = t.identity; due = (stated_in s).start + length (bytes_in s) }

-- 02: Ticket6.12
unfoldable pub piece_step : State → List ℕ → ℕ → Step
piece_step t s room = record { verdict = piece_verdict t s room; state = changed (piece_verdict t s room) (moved t s) t }

-- its bytes stand in the room from its start on, and nothing else is written
-- 02: Ticket6.12
unfoldable pub piece_room : State → List ℕ → List ℕ → List ℕ
piece_room t s room =
    changed (piece_verdict t s (length room)) (paste room (stated_in s).start (bytes_in s) (length (bytes_in s))) room

-- ---- finishing

-- 18 with nothing opened or early; 15 for room under the total
-- 02: Ticket6.10
unfoldable pub ready_verdict : State → ℕ → Verdict
ready_verdict t room = ensure (t.opened && eqb t.due t.identity.total) reason.Order (ensure (leb t.identity.total room) reason.Room (Ok tt))

-- the reader for a file type
-- 02: Ticket6.5
unfoldable pub reader_of : ℕ → List ℕ → Verdict
reader_of kind f = cond (eqb kind geography.file_type) (geography.verdict_of f) (application.verdict_of f)

-- then the reader's own number and place, on the first bytes of the room, and then 17 where these are another file's
-- 02: Ticket6.5
unfoldable pub finish_verdict : State → List ℕ → Verdict
finish_verdict t room =
    and_then (ready_verdict t (length room))
    (and_then (reader_of t.identity.kind (take t.identity.total room))
    (ensure (same (identity_of (take t.identity.total room)) t.identity) reason.Identity (Ok tt)))
