-- The three promises, each in its own words and then as what it needs; and what is promised above the reader. f is the bytes of an X.1 or X.2,
-- and g those of the X.2 of a pair: any bytes, since no caller vets input. `Answered checks n p` reads: in the order of 01's table the first check
-- that is not passed has the number n, and p is the place where 01 has it reported; 0 and 0 where all are passed. `Reported` says the same where a
-- number stands twice in the table, as 1 does in X.1's. `Asked` puts a file's own fault before the question's own checks.
use Rattle.std.specs.Prelude.{ℕ, ◌≤◌, ◌<◌, ◌≡◌, ◌⊎◌, ◌↔◌, T, ℤ, pos, nat_abs, ◌*ℤ◌, ◌<ℤ◌, length, get_or, take, Float}
use mathlib.Core.List.{List, [], ◌∷◌, ◌++◌, reverse, Memᴰ}
use Rattle.std.specs.Float.{binary64}
use Rattle.std.specs.Float.Ieee.{to_bits, lt}
use Rattle.verdict.specs.declared.Fault.{Fault}
use Rattle.std.specs.Prelude.{Ok, Err}
use Rattle.verdict.specs.Reasons.{number_in, place_in, pair_number_in, pair_place_in, pair_file_in}
use Rattle.verdict.specs.Answers.{Answer, answer_number, answer_place, answer_values}
use Rattle.verdict.specs.Order.{Answered, Reported, Asked}
use Rattle.promises.specs.Determined.{Determined}
use Rattle.promises.specs.Agree.{Agree}
use Rattle.x1_questions.specs.declared.answers.Coordinate.{Coordinate}
use Rattle.x1_records.specs.declared.Point.{Point}
use Rattle.x1_layout.specs.Layout.{count_of}
use Rattle.x1_verdict.specs.Facts.{verdict_by as x1VerdictBy, verdict_of as x1Verdict}
use Rattle.x1_obeys.specs.Obeys.{structure_of, size_of, entry_place, point_place, Obeys as X1Obeys}
use Rattle.x1_theorems.specs.Faults.{checks as x1Checks}
use Rattle.x1_theorems.specs.Heights.{HeightRead}
use Rattle.x1_theorems.specs.Base.{AsEver, NewFile}
use Rattle.x1_lookup.specs.Lookup.{number_at}
use Rattle.x1_questions.specs.Answers.{header_answer, track_answer, point_answer, coordinate_answer}
use Rattle.x1_theorems.specs.Asked as survey
use Rattle.x1_questions.specs.Questions.{header_of, track_of, point_of, coordinate_asked}
use Rattle.x1_questions.specs.Stretch.{end_position_of}
use Rattle.x1_questions.specs.Coordinate.{CoordinateAt}
use Rattle.degrees.specs.Degrees.{degree}
use Rattle.degrees_theorems.specs.Wholes.{IsWhole, told_apart}
use Rattle.x1_degrees.specs.declared.Surveyed.{Surveyed}
use Rattle.x1_degrees.specs.Results.{DegreesAnswer}
use Rattle.x1_degrees.specs.Answers.{coordinate_in, degrees_in, degrees_answer}
use Rattle.x1_degrees.specs.Questions.{degrees_asked, point_degrees_of}
use Rattle.x1_theorems.specs.Degrees.{DegreesOf, InDegrees, StandsAt}
use Rattle.x2_records.specs.Records.{record_at}
use Rattle.x2_layout.specs.Layout.{layout_of}
use Rattle.x2_layout.specs.Records.{kind_at, starts}
use Rattle.x2_obeys.specs.Fields.{Member}
use Rattle.x2_verdict.specs.Facts.{verdict_of as x2Verdict}
use Rattle.x2_verdict.specs.Obeys.{Obeys as X2Obeys}
use Rattle.x2_theorems.specs.Checks.{checks as x2Checks}
use Rattle.x2_verdict.specs.Questions.{named_header_of, record_of}
use Rattle.x2_verdict.specs.Answers.{named_header_answer, record_answer}
use Rattle.x2_theorems.specs.Asked as application
use Rattle.x2_theorems.specs.Values.{EnumsKept, NamesRead}
use Rattle.pair.specs.Pair.{pair_of}
use Rattle.pair_theorems.specs.Obeys.{PairObeys}
use Rattle.pair_theorems.specs.Faults.{PairAnswered}
use Rattle.pair_theorems.specs.Base.{pair_was}
use Rattle.route_graph.specs.Objects.{object_at}
use Rattle.route_graph.specs.Read.{object_of}
use Rattle.route_walks.specs.declared.Tally.{Tally}
use Rattle.route_walks.specs.Lent.{room_of}
use Rattle.route_walks.specs.Legal.{Follows, NoneTwice, last_object, Walk, Route}
use Rattle.route_walks.specs.All.{AllRoutes}
use Rattle.std.specs.Prelude.{Ok, Err}
use Rattle.route_lister.specs.Answered.{limit_of, routes_answer}
use Rattle.route_lister.specs.Listing.{Listing}
use Rattle.route_question.specs.Routes.{routes_asked, left_asked}
use Rattle.route_theorems.specs.Asked.{BoundaryHere, routes_checks}
use Rattle.route_theorems.specs.Base.{routes_was, left_was}
use Rattle.route_question.specs.declared.Engine.{Engine}
use Rattle.route_backwards.specs.Backwards.{RouteTo, Holds, ListedIn, Backwards, NotRefused, seen_of}
use Rattle.route_backwards.specs.Calls.{CalledBy, seen_calling}
use Rattle.ahead.specs.declared.Stop.{Stop}
use Rattle.ahead.specs.declared.Stop.TheVariants as stop
use Rattle.ahead.specs.declared.Sight.{Sight}
use Rattle.ahead.specs.declared.AheadFault.TheVariants.{OfPair, OfQuestion}
use Rattle.ahead.specs.Asked.{ahead_answer, ahead_file, ahead_asked, left_asked as leftAhead}
use Rattle.ahead_theorems.specs.Stops.{EndsFor}
use Rattle.ahead_theorems.specs.Asked.{InRange, AheadAnswered, objects_of, link_of, LiesAhead, Listed}
use Rattle.octets.specs.Octets.{num_at}
use Rattle.envelope.specs.Seal.{data_at}
use Rattle.seven_bits.specs.Numbers.{found, number_at as numberRead, Form}
use Rattle.transfer.specs.declared.Identity.{Identity}
use Rattle.transfer.specs.declared.State.{State}
use Rattle.transfer.specs.Calls.{identity_of, open_verdict, stated_in, piece_verdict, reader_of, finish_verdict}
use Rattle.transfer.specs.Pieces.{piece_of}
use Rattle.transfer.specs.Heads.{head_in}
use Rattle.transfer_theorems.specs.Checks.{open_checks, piece_checks, FinishAnswered}
use Rattle.transfer_theorems.specs.Runs.{Call, opening, finishing, World, lent, answer, after, run, accepted_in, taken_since, run_since, Gathered, OneVersion}
use Rattle.transfer_theorems.specs.Sent.{together, EachSome, sending, Arrives}
use Rattle.c_values.specs.Words.{number_part}
use Rattle.c_values.specs.Shown.{leaves}
use Rattle.c_values.specs.Degrees.{degrees_laid}
use Rattle.c_values.specs.Ahead.{ahead_shown}
use Rattle.export_theorems.specs.Ahead.{AheadBack}
use Rattle.export_theorems.specs.TakenApart.{TakenApart}
use Rattle.export_theorems.specs.Load.{Host, world_in, Lent, returned, host_after, host_run}
use Rattle.export_theorems.specs.Fit.{track_signed, point_signed, coordinate_signed, degrees_signed, record_signed, AnswerBack, DegreesBack}
use Rattle.exports.proofs.yard_checksum.Kinds as checksum-kinds
use Rattle.exports.proofs.yard_checksum.Reads as checksum-reads
use Rattle.exports.proofs.yard_x1.Kinds as x1-kinds
use Rattle.exports.proofs.yard_x1.Reads as x1-reads
use Rattle.exports.proofs.yard_x1_version_1.Kinds as x1-version-1-kinds
use Rattle.exports.proofs.yard_x1_version_1.Reads as x1-version-1-reads
use Rattle.exports.proofs.yard_x2.Kinds as x2-kinds
use Rattle.exports.proofs.yard_x2.Reads as x2-reads
use Rattle.exports.proofs.yard_pair.Kinds as pair-kinds
use Rattle.exports.proofs.yard_pair.Reads as pair-reads
use Rattle.exports.proofs.yard_header1.Kinds as header1-kinds
use Rattle.exports.proofs.yard_header1.Reads as header1-reads
use Rattle.exports.proofs.yard_header2.Kinds as header2-kinds
use Rattle.exports.proofs.yard_header2.Reads as header2-reads
use Rattle.exports.proofs.yard_track.Kinds as track-kinds
use Rattle.exports.proofs.yard_track.Reads as track-reads
use Rattle.exports.proofs.yard_point.Kinds as point-kinds
use Rattle.exports.proofs.yard_point.Reads as point-reads
use Rattle.exports.proofs.yard_coordinate.Kinds as coordinate-kinds
use Rattle.exports.proofs.yard_coordinate.Reads as coordinate-reads
use Rattle.exports.proofs.yard_degrees.Kinds as degrees-kinds
use Rattle.exports.proofs.yard_degrees.Reads as degrees-reads
use Rattle.exports.proofs.yard_point_degrees.Kinds as point-degrees-kinds
use Rattle.exports.proofs.yard_point_degrees.Reads as point-degrees-reads
use Rattle.exports.proofs.yard_record.Kinds as record-kinds
use Rattle.exports.proofs.yard_record.Reads as record-reads
use Rattle.exports.proofs.yard_ahead.Kinds as ahead-kinds
use Rattle.exports.proofs.yard_ahead.Reads as ahead-reads
use Rattle.exports.proofs.yard_load_open.Kinds as load-open-kinds
use Rattle.exports.proofs.yard_load_open.Reads as load-open-reads
use Rattle.exports.proofs.yard_load_piece.Kinds as load-piece-kinds
use Rattle.exports.proofs.yard_load_piece.Reads as load-piece-reads
use Rattle.exports.proofs.yard_load_finish.Kinds as load-finish-kinds
use Rattle.exports.proofs.yard_load_finish.Reads as load-finish-reads
use Rattle.exports.proofs.yard_routes.Kinds as routes-kinds
use Rattle.exports.proofs.yard_routes.Reads as routes-reads
use Rattle.exports.proofs.yard_routes_flat.Kinds as routes-flat-kinds
use Rattle.exports.proofs.yard_routes_flat.Reads as routes-flat-reads

-- the number and the place of an answer
abbrev pub Shows : Answer → ℕ → ℕ → Type 0
Shows a n p = (answer_number a ≡ n) × (answer_place a ≡ p)

-- ---- 1. 'It returns for every file and every question, damaged or not, and reads no byte outside what it was lent. A refusal is a
-- number and a byte place by the fixed order of checks; lent memory keeps its contents.' That a function returns and stays inside what it
-- was lent is what the kit proves of every function before anything is said here. So what is left: it asks nothing of its caller, every
-- input determines its answer and what is left in lent memory (here for the functions that C can call; crate promises has the same of
-- every public function), and a refusal leaves every byte.
-- 01: Account.1
pub record Returns : Type 0 where
  pub checksum : Determined 1 checksum-kinds.ps checksum-kinds.r checksum-reads.Pre checksum-reads.Post
  pub first : Determined 1 x1-kinds.ps x1-kinds.r x1-reads.Pre x1-reads.Post
  pub first_by_version_1 : Determined 1 x1-version-1-kinds.ps x1-version-1-kinds.r x1-version-1-reads.Pre x1-version-1-reads.Post
  pub second : Determined 1 x2-kinds.ps x2-kinds.r x2-reads.Pre x2-reads.Post
  pub pair : Determined 2 pair-kinds.ps pair-kinds.r pair-reads.Pre pair-reads.Post
  pub first_header : Determined 2 header1-kinds.ps header1-kinds.r header1-reads.Pre header1-reads.Post
  pub second_header : Determined 2 header2-kinds.ps header2-kinds.r header2-reads.Pre header2-reads.Post
  pub track : Determined 2 track-kinds.ps track-kinds.r track-reads.Pre track-reads.Post
  pub point : Determined 2 point-kinds.ps point-kinds.r point-reads.Pre point-reads.Post
  pub position : Determined 2 coordinate-kinds.ps coordinate-kinds.r coordinate-reads.Pre coordinate-reads.Post
  -- 02: Ticket14.1
  pub degrees : Determined 2 degrees-kinds.ps degrees-kinds.r degrees-reads.Pre degrees-reads.Post
  -- 02: Ticket14.1
  pub point_degrees : Determined 2 point-degrees-kinds.ps point-degrees-kinds.r point-degrees-reads.Pre point-degrees-reads.Post
  pub record_asked : Determined 2 record-kinds.ps record-kinds.r record-reads.Pre record-reads.Post
  pub list : Determined 3 routes-kinds.ps routes-kinds.r routes-reads.Pre routes-reads.Post
  pub list_flat : Determined 3 routes-flat-kinds.ps routes-flat-kinds.r routes-flat-reads.Pre routes-flat-reads.Post
  -- 01: Form.4
  pub look-ahead : Determined 4 ahead-kinds.ps ahead-kinds.r ahead-reads.Pre ahead-reads.Post
  pub load_opening : Determined 2 load-open-kinds.ps load-open-kinds.r load-open-reads.Pre load-open-reads.Post
  pub load_piece : Determined 3 load-piece-kinds.ps load-piece-kinds.r load-piece-reads.Pre load-piece-reads.Post
  pub load_finishing : Determined 2 load-finish-kinds.ps load-finish-kinds.r load-finish-reads.Pre load-finish-reads.Post
  -- an output after a refusal, the words lent to a listing after one, and the bytes lent for the objects ahead
  -- 01: Ask.6
  pub output_kept : (a : Answer) (out : List ℕ) → (answer_number a ≡ 0 → ⊥) → leaves a out ≡ out
  -- 01: Ask.6
  pub words_kept : (f : List ℕ) (start limit budget : ℕ) (out : List ℕ) (t : Fault)
      → routes_asked f start limit budget (room_of out) ≡ Err t → left_asked f start limit budget out ≡ out
  -- 02: Ticket9.9
  pub objects_kept : (f g : List ℕ) (offset link : ℕ) (lies out : List ℕ)
      → (answer_number (ahead_answer (ahead_asked f g offset link lies (length out))) ≡ 0 → ⊥) → leftAhead f g offset link lies out ≡ out
  -- and the state and the room that a C host lends to a call of the loader
  -- 02: Ticket6.12
  pub transfer_kept : (h : Host) (c : Call) → (number_part (returned h c) ≡ 0 → ⊥) → host_after h c ≡ h

-- ---- 2. 'A file is accepted exactly when it obeys the standard as document 01 reads it. Every record handed out has the value that its
-- bytes mean; a coordinate is the exact interpolated value to the nearest milliarcsecond.'
-- 01: Account.5
pub record Accepts : Type 0 where
  -- accepted exactly, and refused exactly: by which number and where
  pub first_accepted : (f : List ℕ) → (number_in (x1Verdict f) ≡ 0) ↔ X1Obeys f
  pub first_answered : (f : List ℕ) (n p : ℕ) → ((number_in (x1Verdict f) ≡ n) × (place_in (x1Verdict f) ≡ p)) ↔ Reported (x1Checks f) n p
  pub second_accepted : (f : List ℕ) → (number_in (x2Verdict f) ≡ 0) ↔ X2Obeys f
  pub second_answered : (f : List ℕ) (n p : ℕ) → ((number_in (x2Verdict f) ≡ n) × (place_in (x2Verdict f) ≡ p)) ↔ Answered (x2Checks f) n p
  pub pair_answered : (f g : List ℕ) (d n p : ℕ)
      → ((pair_file_in (pair_of f g) ≡ d) × ((pair_number_in (pair_of f g) ≡ n) × (pair_place_in (pair_of f g) ≡ p))) ↔ PairAnswered f g d n p
  -- each question: the file's own fault first, then its own refusals, and else an answer
  pub first_header : (f : List ℕ) (n p : ℕ) → Shows (header_answer (header_of f)) n p ↔ Asked (x1Verdict f) survey.header_checks n p
  pub track : (f : List ℕ) (i n p : ℕ) → Shows (track_answer (track_of f i)) n p ↔ Asked (x1Verdict f) (survey.track_checks f i) n p
  pub point : (f : List ℕ) (i j n p : ℕ) → Shows (point_answer (point_of f i j)) n p ↔ Asked (x1Verdict f) (survey.point_checks f i j) n p
  pub position : (f : List ℕ) (number x n p : ℕ) → Shows (coordinate_answer (coordinate_asked f number x)) n p
      ↔ Asked (x1Verdict f) (survey.coordinate_checks f number x) n p
  pub second_header : (f : List ℕ) (n p : ℕ) → Shows (named_header_answer (named_header_of f)) n p
      ↔ Asked (x2Verdict f) application.header_checks n p
  pub record_there : (f : List ℕ) (x n p : ℕ) → Shows (record_answer (record_of f x)) n p
      ↔ Asked (x2Verdict f) (application.record_checks f x) n p
  -- what an enum stands for is the number that is stored; every byte of a file is below 256
  pub enums : (f : List ℕ) → ((i : ℕ) → get_or f i 0 < 256) → x2Verdict f ≡ Ok tt → (at : ℕ)
      → Memᴰ at (starts f (layout_of f)) → EnumsKept f at (record_at f (kind_at (layout_of f) at) at)
  -- what a record has for a name is the name that stands there, with as many bytes as the rule says
  -- 02: Ticket10.7
  pub names : (f : List ℕ) → x2Verdict f ≡ Ok tt → (at : ℕ)
      → Memᴰ at (starts f (layout_of f)) → NamesRead f at (record_at f (kind_at (layout_of f) at) at)
  -- the height of a point is the one that its bytes mean, and a file of version 1 has none
  -- 02: Ticket11.2
  pub heights : (f : List ℕ) (i j : ℕ) (p : Point) → point_of f i j ≡ Ok p
      → HeightRead f (point_place f (size_of f) (entry_place i) j) p.height
  -- a file of version 1 reads as ever, alone and in a pair
  -- 02: Ticket11.5
  pub as_ever : (f : List ℕ) → structure_of f ≡ 1 → AsEver f
  -- 02: Ticket11.5
  pub pair_as_ever : (f g : List ℕ) → structure_of f ≡ 1 → pair_of f g ≡ pair_was f g
  -- the version 1 reader answers 4 at 1 to the new file, and to every other what the reader answers that users have
  -- 02: Ticket11.6
  pub new_refused : (f : List ℕ) → NewFile f → (number_in (x1VerdictBy 1 f) ≡ 4) × (place_in (x1VerdictBy 1 f) ≡ 1)
  -- 02: Ticket11.6
  pub others_alike : (f : List ℕ) → (NewFile f → ⊥) → x1VerdictBy 1 f ≡ x1Verdict f
  -- each value of an answer comes back from its four bytes in a C caller's output, read as unsigned or signed
  pub track_back : (f out : List ℕ) (i : ℕ) → AnswerBack track_signed (track_answer (track_of f i)) out
  pub point_back : (f out : List ℕ) → ((i : ℕ) → get_or f i 0 < 256) → (i j : ℕ) → AnswerBack point_signed (point_answer (point_of f i j)) out
  pub position_back : (f out : List ℕ) (number x : ℕ) → AnswerBack coordinate_signed (coordinate_answer (coordinate_asked f number x)) out
  pub record_back : (f out : List ℕ) → ((i : ℕ) → get_or f i 0 < 256) → (x : ℕ) → AnswerBack record_signed (record_answer (record_of f x)) out
  -- at each position up to the end of a track, the nearest to the exact value between two neighbouring points; and no other
  pub nearest : (f : List ℕ) → X1Obeys f → (i : ℕ) → i < count_of f → (x : ℕ) → x ≤ end_position_of f (entry_place i)
      → (r : Coordinate) × (coordinate_asked f (number_at f (entry_place i)) x ≡ Ok r)
      × CoordinateAt f (size_of f) (entry_place i) x r
  pub no_other : (f : List ℕ) → X1Obeys f → (i : ℕ) → i < count_of f → (x : ℕ) (r : Coordinate) → CoordinateAt f (size_of f) (entry_place i) x r
      → coordinate_asked f (number_at f (entry_place i)) x ≡ Ok r
  -- in degrees too, at a position and of a point (02, ticket 14): the refusals are those of the coordinate and of the point, and a refusal's values
  -- are 0, the bits of 0.0 among them
  -- 02: Ticket14.4
  pub degrees_asked_lem : (f : List ℕ) (number x n p : ℕ) → Shows (degrees_answer (degrees_asked f number x)) n p
      ↔ Asked (x1Verdict f) (survey.coordinate_checks f number x) n p
  -- 02: Ticket14.4
  pub point_degrees_asked : (f : List ℕ) (i j n p : ℕ) → Shows (degrees_answer (point_degrees_of f i j)) n p
      ↔ Asked (x1Verdict f) (survey.point_checks f i j) n p
  -- 02: Ticket14.4
  pub degrees_values : (a : DegreesAnswer) → answer_values (degrees_answer a)
      ≡ (coordinate_in a).latitude ∷ (coordinate_in a).longitude
      ∷ pos (to_bits binary64 (degrees_in a).latitude) ∷ pos (to_bits binary64 (degrees_in a).longitude) ∷ []
  -- the milliarcseconds are those of the coordinate, and of a point its track's start plus its increment
  -- 02: Ticket14.3
  pub degrees_record : (f : List ℕ) (number x : ℕ) (s : Surveyed) → degrees_asked f number x ≡ Ok s
      → coordinate_asked f number x ≡ Ok s.coordinate
  -- 02: Ticket14.3
  pub point_degrees_record : (f : List ℕ) (i j : ℕ) (s : Surveyed) → point_degrees_of f i j ≡ Ok s → StandsAt f i j s.coordinate
  -- the two numbers beside them are each one division of them by 3,600,000, and so their exact quotient, rounded once; and finite
  -- 02: Ticket14.2
  pub degrees_beside : (f : List ℕ) (number x : ℕ) (s : Surveyed) → degrees_asked f number x ≡ Ok s → InDegrees s
  -- 02: Ticket14.2
  pub point_degrees_beside : (f : List ℕ) (i j : ℕ) (s : Surveyed) → point_degrees_of f i j ≡ Ok s → InDegrees s
  -- every whole degree is exact
  -- 02: Ticket14.2
  pub whole_degrees : (k : ℤ) (x : Float) → nat_abs k ≤ 180 → DegreesOf (k *ℤ pos degree) x → IsWhole x k
  -- equal milliarcseconds have equal degrees, and more have more
  -- 02: Ticket14.3
  pub degrees_same : (z w : ℤ) (x y : Float) → DegreesOf z x → DegreesOf w y → nat_abs z ≤ told_apart → nat_abs w ≤ told_apart → (z ≡ w) ↔ (x ≡ y)
  -- 02: Ticket14.2
  pub degrees_order : (z w : ℤ) (x y : Float) → DegreesOf z x → DegreesOf w y → nat_abs z ≤ told_apart → nat_abs w ≤ told_apart → z <ℤ w → T (lt x y)
  -- in a C caller's output each value comes back from its four bytes, and each number of degrees from its eight
  -- 02: Ticket14.1
  pub degrees_back : (f out : List ℕ) (number x : ℕ) → AnswerBack degrees_signed (degrees_laid (degrees_asked f number x)) out
      × DegreesBack (degrees_asked f number x) out
  -- 02: Ticket14.1
  pub point_degrees_back : (f out : List ℕ) (i j : ℕ) → AnswerBack degrees_signed (degrees_laid (point_degrees_of f i j)) out
      × DegreesBack (point_degrees_of f i j) out

-- ---- 3. 'From a boundary of an accepted X.2, within a limit and a budget, every legal route is listed once and only once, normal before
-- reverse, and nothing else; refused as too many steps, else as no room, exactly when 01 says.'
-- 01: Account.6
pub record Lists : Type 0 where
  -- which of the five it is, for every input: the file's own fault, 13, 14, 15, or a listing
  pub which : (f : List ℕ) (start limit budget room n p : ℕ) → Shows (routes_answer (routes_asked f start limit budget room)) n p
      ↔ Asked (x2Verdict f) (routes_checks f start limit budget room) n p
  -- what a listing is: all routes, each once and in their order, their words in the memory lent, and nothing else changed
  pub listed : (f : List ℕ) → x2Verdict f ≡ Ok tt → (start limit budget : ℕ) (out : List ℕ) (t : Tally)
      → routes_asked f start limit budget (room_of out) ≡ Ok t
      → Listing (object_at f (layout_of f)) start (limit_of limit) budget t out (left_asked f start limit budget out)
  -- there is no second such list
  pub one_list : (f : List ℕ) → x2Verdict f ≡ Ok tt → (start : ℕ) → BoundaryHere f start → (limit : ℕ) (a b : List (List ℕ))
      → AllRoutes (object_at f (layout_of f)) start limit a → AllRoutes (object_at f (layout_of f)) start limit b → a ≡ b
  -- of a group of balises a walk meets the first alone (02, ticket 2)
  -- 02: Ticket2.5
  pub first_only : (f : List ℕ) → x2Verdict f ≡ Ok tt → (start : ℕ) → BoundaryHere f start → (limit : ℕ) (w : List ℕ)
      → Walk (object_at f (layout_of f)) start limit w → (x : ℕ) → Memᴰ x w → Member f (layout_of f) x → ⊥
  -- what the lister reads of a record is what the record's bytes mean
  pub objects : (f : List ℕ) (at : ℕ) → object_at f (layout_of f) at ≡ object_of (record_at f (kind_at (layout_of f) at) at)
  -- 0 is a way to say 160; with 64 stated, the answer and the bytes left are those that 0 gave before, when it meant 64
  -- 02: Ticket8.2
  pub default : (f : List ℕ) (start budget room : ℕ) → routes_asked f start 0 budget room ≡ routes_asked f start 160 budget room
  -- 02: Ticket8.5
  pub as_approved : (f : List ℕ) (start budget room : ℕ) → routes_asked f start 64 budget room ≡ routes_was f start 0 budget room
  -- 02: Ticket8.5
  pub left_as_approved : (f : List ℕ) (start budget : ℕ) (out : List ℕ) → left_asked f start 64 budget out ≡ left_was f start 0 budget out
  -- the second engine answers and leaves what the first does, for every input: as far as the contracts of both allow
  -- 02: Ticket12.3
  pub engines : Agree 3 routes-kinds.ps routes-kinds.r routes-reads.Post routes-flat-reads.Post
  -- a route read backwards is a route: in an accepted file w leads from a to b within a limit exactly when its reverse leads from b to a
  -- 02: Ticket13.1
  pub route_back : (f : List ℕ) → x2Verdict f ≡ Ok tt → (a b : ℕ) → BoundaryHere f a → BoundaryHere f b → (limit : ℕ) (w : List ℕ)
      → RouteTo (object_at f (layout_of f)) a b limit w ↔ RouteTo (object_at f (layout_of f)) b a limit (reverse w)
  -- 'listed' is said of the words in the memory after a listing that is not refused: they are read in one way, and what is listed there are the
  -- routes
  -- 02: Ticket13.2
  pub read_one_way : (n : ℕ) (memory : List ℕ) (rs qs : List (List ℕ)) → Holds n memory rs → Holds n memory qs → rs ≡ qs
  -- 02: Ticket13.2
  pub in_memory : (q : NotRefused) (w : List ℕ) → ListedIn (seen_of q).words (seen_of q).memory w
      ↔ Route (object_at q.file (layout_of q.file)) q.start (limit_of q.limit) w
  -- so of two that are not refused, of one file and by one limit, whatever their budgets and rooms: a route from the one start to the other is
  -- listed exactly when its reverse is listed from there
  -- 02: Ticket13.2
  pub backwards : (p q : NotRefused) → Backwards (seen_of p) (seen_of q)
  -- the same of two calls from C whose number is 0, by either engine each: as far as their contracts allow
  -- 02: Ticket13.2
  pub calls_backwards : (e e' : Engine) (p : CalledBy e) (q : CalledBy e') → Backwards (seen_calling e p) (seen_calling e' q)

-- ---- Above the reader: what lies ahead, for a cab unit (02, ticket 9). 'Given an accepted pair, the object last passed, the link it leaves by, and
-- for each turnout number a lie, list the objects ahead in order.' The object last passed starts at `offset` of the X.2, and leaves by its link of
-- the index `link`; `LiesAhead g offset link lies objects s` reads: these objects lie ahead, by the ticket's words, and the list stops for s.
pub record LooksAhead : Type 0 where
  -- which file, number and place it is, for every input: the pair's own fault, 13, 15, or a list
  -- 02: Ticket9.9
  pub which : (f g : List ℕ) (offset link : ℕ) (lies : List ℕ) (room d n p : ℕ)
      → ((ahead_file (ahead_asked f g offset link lies room) ≡ d) × Shows (ahead_answer (ahead_asked f g offset link lies room)) n p)
      ↔ AheadAnswered f g offset link lies room d n p
  -- what an answer is: the list that lies ahead, with its stop, in the memory lent, and nothing else changed
  -- 02: Ticket9.2
  pub listed : (f g : List ℕ) (offset link : ℕ) (lies out : List ℕ) (s : Sight) → ahead_asked f g offset link lies (length out) ≡ Ok s
      → Listed g offset link lies s out (leftAhead f g offset link lies out)
  -- there is no second such list
  -- 02: Ticket9.2
  pub one_list : (f g : List ℕ) → PairObeys f g → (offset link : ℕ) (lies : List ℕ) → InRange g offset link lies → (a b : List ℕ) (s u : Stop)
      → LiesAhead g offset link lies a s → LiesAhead g offset link lies b u → (a ≡ b) × (s ≡ u)
  -- why it stops, and exactly when: of a list whose last object is x, and of one of no objects
  -- 02: Ticket9.3
  pub stops : (f g : List ℕ) → PairObeys f g → (offset link : ℕ) (lies : List ℕ) → InRange g offset link lies → (w : List ℕ) (x : ℕ) (s : Stop)
      → LiesAhead g offset link lies (w ++ (x ∷ [])) s
      → (u : Stop) → (s ≡ u) ↔ EndsFor (objects_of g x) (last_object (offset ∷ w)) lies offset (w ++ (x ∷ [])) u
  -- 02: Ticket9.3
  pub stops_at_once : (g : List ℕ) (offset link : ℕ) (lies : List ℕ) (s : Stop) → LiesAhead g offset link lies [] s
      ↔ (((link_of g offset link ≡ 0) × (s ≡ stop.NoLink))
      ⊎ ((link_of g offset link ≡ 0 → ⊥) × (link_of g offset link ≡ offset) × (s ≡ stop.Repeated)))
  -- at most 64 objects are listed
  -- 02: Ticket9.6
  pub few : (g : List ℕ) (offset link : ℕ) (lies objects : List ℕ) (s : Stop) → LiesAhead g offset link lies objects s → length objects ≤ 64
  -- no object is listed twice, and the one last passed is not listed
  -- 02: Ticket9.5
  pub once : (g : List ℕ) (offset link : ℕ) (lies objects : List ℕ) (s : Stop) → LiesAhead g offset link lies objects s → NoneTwice (offset ∷ objects)
  -- it is a legal way, as 01 has it for routes: the link asked with names the first object, and each object after it is one by which the object before
  -- is left
  -- 02: Ticket9.2
  pub steps : (g : List ℕ) (offset link : ℕ) (lies : List ℕ) (b : ℕ) (objects : List ℕ) (s : Stop) → LiesAhead g offset link lies (b ∷ objects) s
      → (b ≡ link_of g offset link) × (b ≡ 0 → ⊥) × Follows (objects_of g) offset (b ∷ objects)
  -- so a partial walk that goes from the object last passed to the first one listed goes on over all of them, up to its limit and while none stands
  -- twice
  -- 02: Ticket9.2
  pub walk_goes_on : (g : List ℕ) (offset link : ℕ) (lies : List ℕ) (start limit : ℕ) (w : List ℕ) (b : ℕ) (objects : List ℕ) (s : Stop)
      → LiesAhead g offset link lies (b ∷ objects) s → Walk (objects_of g) start limit (w ++ (offset ∷ b ∷ []))
      → NoneTwice (w ++ (offset ∷ b ∷ objects)) → length (w ++ (offset ∷ b ∷ objects)) ≤ limit
      → Walk (objects_of g) start limit (w ++ (offset ∷ b ∷ objects))
  -- from a boundary, left by its link, the list is a partial walk, of at most 65 objects with the boundary; and a route, where it stops at a boundary
  -- 02: Ticket9.2
  pub from_boundary : (g : List ℕ) (offset : ℕ) (lies : List ℕ) (objects : List ℕ) (s : Stop) → BoundaryHere g offset
      → LiesAhead g offset 0 lies objects s → Walk (objects_of g) offset 65 (offset ∷ objects)
  -- 02: Ticket9.2
  pub route_ahead : (g : List ℕ) (offset : ℕ) (lies : List ℕ) (objects : List ℕ) → BoundaryHere g offset
      → LiesAhead g offset 0 lies objects stop.Boundary → Route (objects_of g) offset 65 (offset ∷ objects)
  -- the number that C is returned has the answer's number, its file and its place in it, why the list stops, and how many objects it has
  -- 02: Ticket9.7
  pub returned : (f g : List ℕ) (offset link : ℕ) (lies : List ℕ) (room : ℕ)
      → AheadBack (ahead_asked f g offset link lies room) (ahead_shown (ahead_asked f g offset link lies room))

-- ---- Above the reader: a loader that cannot join two versions (02, ticket 6). i is an identity, t a state of the loader, s the bytes of a piece, w
-- a state with a room and `cs` any sequence of calls; n bytes of the room are lent. Every byte of a piece and of a file is below 256.
pub record Loads : Type 0 where
  -- which number and place each call answers, for every state, also one that no calls lead to
  -- 02: Ticket6.8
  pub which_opening : (i : Identity) (room n p : ℕ)
      → ((number_in (open_verdict i room) ≡ n) × (place_in (open_verdict i room) ≡ p)) ↔ Reported (open_checks i room) n p
  -- 02: Ticket6.9
  pub which_piece : (t : State) (s : List ℕ) (room : ℕ) → ((k : ℕ) → get_or s k 0 < 256) → (n p : ℕ)
      → ((number_in (piece_verdict t s room) ≡ n) × (place_in (piece_verdict t s room) ≡ p)) ↔ Reported (piece_checks t s room) n p
  -- 02: Ticket6.10
  pub which_finishing : (t : State) (room : List ℕ) (n p : ℕ)
      → ((number_in (finish_verdict t room) ≡ n) × (place_in (finish_verdict t room) ≡ p)) ↔ FinishAnswered t room n p
  -- a refused call changes neither state nor room, finishing changes nothing, and openings write no byte
  -- 02: Ticket6.6
  pub refused_keeps : (w : World) (c : Call) (t : Fault) → answer w c ≡ Err t → after w c ≡ w
  -- 02: Ticket6.6
  pub finishing_keeps : (w : World) (n : ℕ) → after w (finishing n) ≡ w
  -- 02: Ticket6.12
  pub openings_write_nothing : (w : World) (n : ℕ) (i : Identity) → (after w (opening n i)).room ≡ w.room
  -- after any run of calls since a granted opening the room holds the bytes of the pieces accepted since, in order and without gap, all of them under
  -- one identity; what lies behind is as it was
  -- 02: Ticket6.4
  pub gathers : (w : World) (n : ℕ) (i : Identity) → answer w (opening n i) ≡ Ok tt → (cs : List Call)
      → Gathered (taken_since w n i cs) (run_since w n i cs)
  -- a finishing that is accepted means: the reader accepts exactly those bytes, and their header, length and trailer are the identity's
  -- 02: Ticket6.5
  pub one_version : (w : World) (n : ℕ) (i : Identity) → answer w (opening n i) ≡ Ok tt → (cs : List Call) (m : ℕ)
      → answer (run_since w n i cs) (finishing m) ≡ Ok tt → OneVersion (taken_since w n i cs) (run_since w n i cs).room
  -- THE INCIDENT was the head of one data version joined to the tail of the next. No accepted file holds bytes of pieces with two identities, and every
  -- piece in it stated the data version that stands in its header.
  -- 02: Ticket6.4
  pub never_joined : (w : World) (n : ℕ) (i : Identity) → answer w (opening n i) ≡ Ok tt → (cs : List Call) (m : ℕ)
      → answer (run_since w n i cs) (finishing m) ≡ Ok tt
      → (head tail : List ℕ) → Memᴰ head (taken_since w n i cs).pieces → Memᴰ tail (taken_since w n i cs).pieces
      → ((stated_in head).identity ≡ (stated_in tail).identity)
      × ((stated_in tail).identity.version ≡ num_at 2 (take (taken_since w n i cs).identity.total (run_since w n i cs).room) data_at)
  -- and it refuses no one who keeps to the ticket: a file that the reader accepts, opened with its own identity in a room that holds it and sent in
  -- pieces of any sizes, arrives
  -- 02: Ticket6.4
  pub arrives : (f : List ℕ) → ((k : ℕ) → get_or f k 0 < 256) → reader_of (identity_of f).kind f ≡ Ok tt
      → (parts : List (List ℕ)) → EachSome parts → together parts ≡ f → (w : World) (n : ℕ) → length f ≤ length (lent n w) → Arrives w n f parts
  -- refused calls may as well not have been made: a transfer that broke off goes on where it stopped, and the file arrives
  -- 02: Ticket6.6
  pub resumes : (w : World) (cs : List Call) → run w cs ≡ run w (accepted_in w cs)
  -- 02: Ticket6.4
  pub arrives_resumed : (f : List ℕ) → ((k : ℕ) → get_or f k 0 < 256) → reader_of (identity_of f).kind f ≡ Ok tt
      → (parts : List (List ℕ)) → EachSome parts → together parts ≡ f → (w : World) (n : ℕ) → length f ≤ length (lent n w)
      → (cs : List Call) → accepted_in (after w (opening n (identity_of f))) cs ≡ sending n f parts
      → (answer (run_since w n (identity_of f) cs) (finishing n) ≡ Ok tt) × (take (length f) (run_since w n (identity_of f) cs).room ≡ f)
  -- a number of a piece: what is read is what is written for it, and each number has just one form that is read
  -- 02: Ticket6.3
  pub number_read : (s : List ℕ) (at v next : ℕ) → ((k : ℕ) → get_or s k 0 < 256) → (numberRead s at ≡ found v next) ↔ Form s at v next
  -- what is laid out to be sent, the numbers and then the bytes, is a piece
  -- 02: Ticket6.2
  pub head_laid : (i : Identity) (start : ℕ) (bytes : List ℕ)
      → take (head_in i start (length bytes)).length (head_in i start (length bytes)).bytes ++ bytes ≡ piece_of i start bytes
  -- a C host keeps the state in bytes, 28 or more, and the room. After any run of calls these are the loader's, and each call is returned the loader's
  -- number and place
  pub host_runs : (h : Host) → Lent h.state → (cs : List Call) → world_in (host_run h cs) ≡ run (world_in h) cs
  pub host_answers : (h : Host) → Lent h.state → (cs : List Call) (c : Call)
      → TakenApart (returned (host_run h cs) c) (number_in (answer (run (world_in h) cs) c)) 0 (place_in (answer (run (world_in h) cs) c))
  -- so the incident does not happen to it, whatever its bytes were before an opening that returned 0
  -- 02: Ticket6.4
  pub host_never_joined : (h : Host) (n : ℕ) (i : Identity) → number_part (returned h (opening n i)) ≡ 0 → (cs : List Call) (m : ℕ)
      → number_part (returned (host_run h (opening n i ∷ cs)) (finishing m)) ≡ 0
      → (head tail : List ℕ) → Memᴰ head (taken_since (world_in h) n i cs).pieces → Memᴰ tail (taken_since (world_in h) n i cs).pieces
      → ((stated_in head).identity ≡ (stated_in tail).identity)
      × ((stated_in tail).identity.version
      ≡ num_at 2 (take (taken_since (world_in h) n i cs).identity.total (host_run h (opening n i ∷ cs)).room) data_at)
