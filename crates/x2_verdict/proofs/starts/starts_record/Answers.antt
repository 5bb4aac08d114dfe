-- `x2_verdict::starts::starts_record` meets its contract.
use mathlib.Core.Path.{◌∙◌}
use native.Mathlib.Omega.{arith}
use Rattle.x2_layout.proofs.Starts.{found_boundary}
use Rattle.x2_verdict.proofs.Found.{found_low, found_turnout, found_balise, found_signal, found_joint, found_siding, found_high}
use Rattle.x2_verdict.proofs.starts.starts_record.Goals as goal

pub returns-then-x-l : goal.returns-then-x-l
returns-then-x-l c = found_low c.args.f.now c.args.l c.requires c.args.x (omega arith)

pub returns-then-x-l-2 : goal.returns-then-x-l-2
returns-then-x-l-2 c = found_boundary c.args.f.now c.args.l c.requires c.args.x (omega arith) (omega arith)

pub returns-then-x-l-3 : goal.returns-then-x-l-3
returns-then-x-l-3 c = found_turnout c.args.f.now c.args.l c.requires c.args.x (omega arith) (omega arith)

pub returns-then-x-l-4 : goal.returns-then-x-l-4
returns-then-x-l-4 c = c.starts_balise.ensures ∙ found_balise c.args.f.now c.args.l c.requires c.args.x (omega arith) (omega arith)

pub returns-then-x-l-5 : goal.returns-then-x-l-5
returns-then-x-l-5 c = found_signal c.args.f.now c.args.l c.requires c.args.x (omega arith) (omega arith)

pub returns-then-x-l-6 : goal.returns-then-x-l-6
returns-then-x-l-6 c = found_joint c.args.f.now c.args.l c.requires c.args.x (omega arith) (omega arith)

pub returns-then-x-l-7 : goal.returns-then-x-l-7
returns-then-x-l-7 c = found_siding c.args.f.now c.args.l c.requires c.args.x (omega arith) (omega arith)

pub returns : goal.returns
returns c = found_high c.args.f.now c.args.l c.requires c.args.x (omega arith)
