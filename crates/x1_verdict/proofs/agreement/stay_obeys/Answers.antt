-- `x1_verdict::agreement::stay_obeys` meets its contract.
use mathlib.Core.Path.{sym}
use mathlib.Core.Bool.{and-true}
use Rattle.octets.specs.declared.Width.TheVariants.{Four}
use Rattle.tables.specs.Table.{field_place}
use Rattle.x1_records.specs.Rows.{start_latitude, start_longitude}
use Rattle.x1_verdict.proofs.Starts.{start_handed}
use Rattle.x1_verdict.proofs.agreement.stay_obeys.Goals as goal

pub returns-then-t : goal.returns-then-t
returns-then-t c = sym (c.requires.roomy c.if-t.true c.args.p)

pub returns : goal.returns
returns c = let a = c.args in
    let north = start_handed Four a.f.now (field_place a.e start_latitude) a.t.latitude c.requires.latitude in
    let east = start_handed Four a.f.now (field_place a.e start_longitude) a.t.longitude c.requires.longitude in
    simp (and-true, c.sum_lies_within-east.ensures, c.sum_lies_within-north.ensures, north.is, east.is)
