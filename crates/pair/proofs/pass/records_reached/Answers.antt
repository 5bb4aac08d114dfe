-- `pair::pass::records_reached` meets its contract.
use mathlib.Core.Path.{refl}
use Rattle.x2_verdict.proofs.Passes.{start_sort, end_sort, turnout_sort, balise_sort, signal_sort, joint_sort, siding_sort}
use Rattle.pair.proofs.Passing.{walked_to}
use Rattle.pair.proofs.pass.records_reached.Goals as goal

pub kind_reached-at-requires : goal.kind_reached-at-requires
kind_reached-at-requires c = (c.requires.0, c.requires.1, start_sort _ _ c.requires.2, record { so = refl })

pub returns-then-at-l : goal.returns-then-at-l
returns-then-at-l c = c.kind_reached-at.ensures

pub kind_reached-at-requires-2 : goal.kind_reached-at-requires-2
kind_reached-at-requires-2 c = (c.requires.0, c.requires.1, end_sort _ _ c.requires.2, walked_to c.kind_reached-at.ensures c.if-at-l.false)

pub returns-then-at-l-2 : goal.returns-then-at-l-2
returns-then-at-l-2 c = c.kind_reached-at-2.ensures

pub kind_reached-at-requires-3 : goal.kind_reached-at-requires-3
kind_reached-at-requires-3 c = (c.requires.0, c.requires.1, turnout_sort _ _ c.requires.2, walked_to c.kind_reached-at-2.ensures c.if-at-l-2.false)

pub returns-then-at-l-3 : goal.returns-then-at-l-3
returns-then-at-l-3 c = c.kind_reached-at-3.ensures

pub kind_reached-at-requires-4 : goal.kind_reached-at-requires-4
kind_reached-at-requires-4 c = (c.requires.0, c.requires.1, balise_sort _ _ c.requires.2, walked_to c.kind_reached-at-3.ensures c.if-at-l-3.false)

pub returns-then-at-l-4 : goal.returns-then-at-l-4
returns-then-at-l-4 c = c.kind_reached-at-4.ensures

pub kind_reached-at-requires-5 : goal.kind_reached-at-requires-5
kind_reached-at-requires-5 c = (c.requires.0, c.requires.1, signal_sort _ _ c.requires.2, walked_to c.kind_reached-at-4.ensures c.if-at-l-4.false)

pub returns-then-at-l-5 : goal.returns-then-at-l-5
returns-then-at-l-5 c = c.kind_reached-at-5.ensures

pub kind_reached-at-requires-6 : goal.kind_reached-at-requires-6
kind_reached-at-requires-6 c = (c.requires.0, c.requires.1, joint_sort _ _ c.requires.2, walked_to c.kind_reached-at-5.ensures c.if-at-l-5.false)

pub returns-then-at-l-6 : goal.returns-then-at-l-6
returns-then-at-l-6 c = c.kind_reached-at-6.ensures

pub kind_reached-requires : goal.kind_reached-requires
kind_reached-requires c = (c.requires.0, c.requires.1, siding_sort _ _ c.requires.2, walked_to c.kind_reached-at-6.ensures c.if-at-l-6.false)

pub returns : goal.returns
returns c = c.kind_reached.ensures
