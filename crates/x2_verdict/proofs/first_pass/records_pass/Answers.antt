-- `x2_verdict::first_pass::records_pass` meets its contract: each sort of records is passed over where the one before it was.
use Rattle.x2_verdict.proofs.Passes.{start_sort, starts_whole, ends_whole, end_sort, turnout_sort, balise_sort, signal_sort, joint_sort, siding_sort, passing_start, passing_all}
use Rattle.x2_verdict.proofs.first_pass.records_pass.Goals as goal

pub kind_pass-requires : goal.kind_pass-requires
kind_pass-requires c = (c.requires.0, c.requires.1, start_sort _ _ c.requires.1, starts_whole _ _ c.requires.1, passing_start _ _ _ c.requires.2 c.requires.3)

pub kind_pass-requires-2 : goal.kind_pass-requires-2
kind_pass-requires-2 c = (c.requires.0, c.requires.1, end_sort _ _ c.requires.1, ends_whole _ _ c.requires.1, c.in_ok-starts.ensures)

pub kind_pass-requires-3 : goal.kind_pass-requires-3
kind_pass-requires-3 c = (c.requires.0, c.requires.1, turnout_sort _ _ c.requires.1, c.requires.1.turnouts, c.in_ok-ends.ensures)

pub balises_obey-requires : goal.balises_obey-requires
balises_obey-requires c = (c.requires.0, balise_sort _ _ c.requires.1, c.in_ok-turnouts.ensures)

pub kind_pass-requires-4 : goal.kind_pass-requires-4
kind_pass-requires-4 c = (c.requires.0, c.requires.1, signal_sort _ _ c.requires.1, c.requires.1.signals, c.in_ok-balises.ensures)

pub kind_pass-requires-5 : goal.kind_pass-requires-5
kind_pass-requires-5 c = (c.requires.0, c.requires.1, joint_sort _ _ c.requires.1, c.requires.1.joints, c.in_ok-signals.ensures)

pub kind_pass-requires-6 : goal.kind_pass-requires-6
kind_pass-requires-6 c = (c.requires.0, c.requires.1, siding_sort _ _ c.requires.1, c.requires.1.sidings, c.in_ok-joints.ensures)

pub returns : goal.returns
returns c = passing_all _ c.args.l _ _ c.in_ok-kind_pass.ensures
