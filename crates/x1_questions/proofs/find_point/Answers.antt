-- `x1_questions::find_point` meets its contract. The point is no further than its track's last one, and so stands in the file.
use Rattle.x1_questions.proofs.Questions.{sought_no_track, sought_none, sought_there, point_in_file}
use Rattle.x1_questions.proofs.find_point.Goals as goal

pub returns-then-number_of-track : goal.returns-then-number_of-track
returns-then-number_of-track c = sought_no_track _ c.number_of.ensures.is _ _ c.if-number_of-track.true

pub returns-then-points-index : goal.returns-then-points-index
returns-then-points-index c = sought_none _ c.number_of.ensures.is _ _ c.if-number_of-track.false c.entry_place-entry.ensures c.size_of-size.ensures c.read-its.ensures c.points.ensures c.if-points-index.true

pub point_place-place-requires : goal.point_place-place-requires
point_place-place-requires c = point_in_file _ c.number_of.ensures.is _ _ c.if-number_of-track.false c.entry_place-entry.ensures c.size_of-size.ensures c.read-its.ensures c.points.ensures c.requires c.if-points-index.false

pub returns : goal.returns
returns c = sought_there _ c.number_of.ensures.is _ _ c.if-number_of-track.false c.entry_place-entry.ensures c.size_of-size.ensures c.read-its.ensures c.points.ensures c.if-points-index.false
    c.point_place-place.ensures
