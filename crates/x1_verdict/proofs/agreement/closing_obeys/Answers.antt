-- `x1_verdict::agreement::closing_obeys` meets its contract.
use mathlib.Core.Bool.{and-true}
use Rattle.octets.specs.declared.Width.TheVariants.{Four}
use Rattle.tables.specs.Table.{field_place}
use Rattle.x1_records.specs.Rows.{start_latitude, start_longitude, end_latitude, end_longitude}
use Rattle.x1_verdict.proofs.Starts.{start_handed, start_small}
use Rattle.x1_verdict.proofs.agreement.closing_obeys.Goals as goal

pub sum_equals-north-requires : goal.sum_equals-north-requires
sum_equals-north-requires c = let a = c.args in
    (start_small Four a.f.now (field_place a.e start_latitude) a.t.latitude c.requires.latitude, start_small Four a.f.now (field_place a.e end_latitude) c.signed_of-end_north.result c.signed_of-end_north.ensures)

pub sum_equals-east-requires : goal.sum_equals-east-requires
sum_equals-east-requires c = let a = c.args in
    (start_small Four a.f.now (field_place a.e start_longitude) a.t.longitude c.requires.longitude, start_small Four a.f.now (field_place a.e end_longitude) c.signed_of-end_east.result c.signed_of-end_east.ensures)

pub returns : goal.returns
returns c = let a = c.args in
    let north = start_handed Four a.f.now (field_place a.e start_latitude) a.t.latitude c.requires.latitude in
    let east = start_handed Four a.f.now (field_place a.e start_longitude) a.t.longitude c.requires.longitude in
    let end_north = start_handed Four a.f.now (field_place a.e end_latitude) c.signed_of-end_north.result c.signed_of-end_north.ensures in
    let end_east = start_handed Four a.f.now (field_place a.e end_longitude) c.signed_of-end_east.result c.signed_of-end_east.ensures in
    simp (and-true, c.sum_equals-east.ensures, c.sum_equals-north.ensures, c.equals-position.ensures, c.number_of-end.ensures.is, north.is, east.is, end_north.is, end_east.is)
