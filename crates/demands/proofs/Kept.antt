-- THEOREMS: the three promises are kept. Each part is a theorem of a crate below.
use mathlib.Core.Path.{◌≡◌, refl}
use mathlib.Core.List.{List}
use Prim.Native.Nat.{ℕ}
use Rattle.verdict.specs.Answers.{Answer, answered, refused, answer_number}
use Rattle.promises.proofs.OfExports.{yard_checksum_determined, yard_x1_determined, yard_x1_version_1_determined, yard_x2_determined, yard_pair_determined, yard_header1_determined, yard_header2_determined, yard_track_determined, yard_point_determined, yard_coordinate_determined, yard_degrees_determined, yard_point_degrees_determined, yard_record_determined, yard_routes_determined, yard_routes_flat_determined, yard_ahead_determined, yard_load_open_determined, yard_load_piece_determined, yard_load_finish_determined}
use Rattle.promises.proofs.Engines.{calls_agree}
use Rattle.c_values.specs.Shown.{leaves}
use Rattle.export_theorems.proofs.Fit.{track_back, point_back, coordinate_back, degrees_back, point_degrees_back, record_back}
use Rattle.export_theorems.proofs.Doubles.{degrees_double, point_degrees_double}
use Rattle.x1_obeys.specs.Obeys.{entry_place}
use Rattle.x1_theorems.proofs.Numbers as x1
use Rattle.x1_lookup.specs.Lookup.{number_at}
use Rattle.x1_lookup.proofs.Lookup.{found_iff}
use Rattle.x1_theorems.proofs.Asked as survey
use Rattle.x1_theorems.proofs.Heights.{height_read}
use Rattle.x1_theorems.proofs.Base.{as_ever, new_refused, others_alike}
use Rattle.x1_theorems.proofs.Coordinates.{coordinate_nearest, coordinate_only_one}
use Rattle.x1_theorems.proofs.Degrees.{degrees_asked_lem, point_degrees_asked, degrees_values, degrees_record, point_degrees_record, degrees_beside, point_degrees_beside, whole_exact, degrees_same, degrees_rise}
use Rattle.x2_theorems.proofs.Numbers as x2
use Rattle.x2_theorems.proofs.Asked as application
use Rattle.x2_theorems.proofs.Values.{enums_kept, names_read}
use Rattle.pair_theorems.proofs.Whole.{pair_is}
use Rattle.pair_theorems.proofs.Base.{pair_as_ever}
use Rattle.x2_layout.specs.Layout.{layout_of}
use Rattle.route_graph.proofs.Read.{object_read}
use Rattle.route_theorems.proofs.Listed as yard
use Rattle.route_theorems.proofs.Range as range
use Rattle.route_theorems.proofs.Asked.{routes_asked_lem}
use Rattle.route_theorems.proofs.Base.{stated_is, stated_left, default_is}
use Rattle.route_backwards.proofs.Reading.{one_reading}
use Rattle.route_backwards.proofs.Backwards.{routes_back, listed_iff, lists_back}
use Rattle.route_backwards.proofs.Engines.{calls_back}
use Rattle.ahead_theorems.specs.Asked.{objects_of, link_of}
use Rattle.ahead_theorems.proofs.Answered as ahead
use Rattle.ahead_theorems.proofs.Legal.{ahead_few, ahead_once, ahead_steps, walk_goes_on}
use Rattle.ahead_theorems.proofs.Ends.{none_ahead}
use Rattle.ahead_theorems.proofs.Ways.{from_boundary, route_ahead}
use Rattle.seven_bits.proofs.Forms.{form_iff}
use Rattle.transfer_theorems.proofs.Which as transfer
use Rattle.transfer_theorems.proofs.Runs as runs
use Rattle.transfer_theorems.proofs.Sent.{arrives, arrives_resumed}
use Rattle.transfer_theorems.proofs.Forms.{head_laid}
use Rattle.export_theorems.proofs.Ahead.{ahead_back}
use Rattle.export_theorems.proofs.Load.{refused_leaves}
use Rattle.export_theorems.proofs.Hosts.{c_runs, c_answers, c_never_joined}
use Rattle.demands.specs.Demands.{Returns, Accepts, Lists, LooksAhead, Loads}

-- a refusal leaves every byte of an output
output_kept : (a : Answer) (out : List ℕ) → (answer_number a ≡ 0 → ⊥) → leaves a out ≡ out
output_kept (answered values) out n = absurd (n refl)
output_kept (refused k t) out n = refl

-- PROMISE 1
pub returns : Returns
returns = record {
  checksum = yard_checksum_determined;
  first = yard_x1_determined;
  first_by_version_1 = yard_x1_version_1_determined;
  second = yard_x2_determined;
  pair = yard_pair_determined;
  first_header = yard_header1_determined;
  second_header = yard_header2_determined;
  track = yard_track_determined;
  point = yard_point_determined;
  position = yard_coordinate_determined;
  degrees = yard_degrees_determined;
  point_degrees = yard_point_degrees_determined;
  record_asked = yard_record_determined;
  list = yard_routes_determined;
  list_flat = yard_routes_flat_determined;
  output_kept = output_kept;
  words_kept = yard.refused_keeps;
  look-ahead = yard_ahead_determined;
  objects_kept = λ f g offset link lies out n. ahead.refused_keeps f g offset link lies out n;
  load_opening = yard_load_open_determined;
  load_piece = yard_load_piece_determined;
  load_finishing = yard_load_finish_determined;
  transfer_kept = refused_leaves;
}

-- PROMISE 2
pub accepts : Accepts
accepts = record {
  first_accepted = x1.accepted_is;
  first_answered = x1.answer_is;
  second_accepted = x2.accepted_is;
  second_answered = x2.answer_is;
  pair_answered = pair_is;
  first_header = survey.header_asked;
  track = survey.track_asked;
  point = survey.point_asked;
  position = survey.coordinate_asked_lem;
  second_header = application.header_asked;
  record_there = application.record_asked;
  enums = enums_kept;
  names = names_read;
  heights = height_read;
  as_ever = as_ever;
  pair_as_ever = pair_as_ever;
  new_refused = new_refused;
  others_alike = others_alike;
  track_back = λ f out. track_back out f;
  point_back = λ f out. point_back out f;
  position_back = λ f out. coordinate_back out f;
  record_back = λ f out. record_back out f;
  nearest = λ f o i l x h. coordinate_nearest f o (number_at f (entry_place i)) (entry_place i) ((found_iff f o (number_at f (entry_place i)) (entry_place i)).1 (record { track = i; in_file = l; there = refl; same = refl })) x h;
  no_other = λ f o i l x r h. coordinate_only_one f o (number_at f (entry_place i)) (entry_place i) ((found_iff f o (number_at f (entry_place i)) (entry_place i)).1 (record { track = i; in_file = l; there = refl; same = refl })) x r h;
  degrees_asked_lem = degrees_asked_lem;
  point_degrees_asked = point_degrees_asked;
  degrees_values = degrees_values;
  degrees_record = degrees_record;
  point_degrees_record = point_degrees_record;
  degrees_beside = degrees_beside;
  point_degrees_beside = point_degrees_beside;
  whole_degrees = whole_exact;
  degrees_same = degrees_same;
  degrees_order = degrees_rise;
  degrees_back = λ f out number x. (degrees_back out f number x, degrees_double out f number x);
  point_degrees_back = λ f out i j. (point_degrees_back out f i j, point_degrees_double out f i j);
}

-- PROMISE 3
pub lists : Lists
lists = record {
  which = routes_asked_lem;
  listed = yard.listed;
  one_list = λ f e start b limit x y p q. range.one_list f e start b limit x y p q;
  first_only = λ f e start b limit w h x m. range.first_only f e start b limit w h x m;
  objects = λ f at. object_read f (layout_of f) at;
  default = default_is;
  as_approved = stated_is;
  left_as_approved = stated_left;
  engines = calls_agree;
  route_back = routes_back;
  read_one_way = one_reading;
  in_memory = listed_iff;
  backwards = lists_back;
  calls_backwards = calls_back;
}

-- WHAT LIES AHEAD
pub looks_ahead : LooksAhead
looks_ahead = record {
  which = λ f g offset link lies room d n p. ahead.which f g offset link lies room d n p;
  listed = λ f g offset link lies out s e. ahead.listed f g offset link lies out s e;
  one_list = λ f g o offset link lies r a b s u p q. ahead.one_list f g offset link lies o r a b s u p q;
  stops = λ f g o offset link lies r w x s h u. ahead.stops f g offset link lies o r w x s h u;
  stops_at_once = λ g offset link lies s. none_ahead (objects_of g) lies offset (link_of g offset link) s;
  few = λ g offset link lies objects s h. ahead_few (objects_of g) lies offset (link_of g offset link) objects s h;
  once = λ g offset link lies objects s h. ahead_once (objects_of g) lies offset (link_of g offset link) objects s h;
  steps = λ g offset link lies b objects s h. ahead_steps (objects_of g) lies offset (link_of g offset link) b objects s h;
  walk_goes_on = λ g offset link lies start limit w b objects s h k d l. walk_goes_on (objects_of g) lies offset (link_of g offset link) start limit w b objects s h k d l;
  from_boundary = from_boundary;
  route_ahead = route_ahead;
  returned = λ f g offset link lies room. ahead_back f g offset link lies room;
}

-- A LOADER THAT CANNOT JOIN TWO VERSIONS
pub loads : Loads
loads = record {
  which_opening = λ i room n p. transfer.which_opening i room n p;
  which_piece = λ t s room bytes n p. transfer.which_piece t s room bytes n p;
  which_finishing = λ t room n p. transfer.which_finishing t room n p;
  refused_keeps = runs.refused_keeps;
  finishing_keeps = runs.finishing_keeps;
  openings_write_nothing = runs.openings_write_nothing;
  gathers = runs.since_opening;
  one_version = runs.one_version;
  never_joined = runs.never_joined;
  arrives = arrives;
  resumes = runs.resumes;
  arrives_resumed = arrives_resumed;
  number_read = form_iff;
  head_laid = head_laid;
  host_runs = c_runs;
  host_answers = c_answers;
  host_never_joined = λ h n i o cs m e head tail p q. c_never_joined h n i o cs m e head tail p q;
}
