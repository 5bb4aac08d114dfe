-- `x1_verdict::pass::track_passes` meets its contract.
use mathlib.Core.Bool.{◌&&◌}
use native.Mathlib.Omega.{arith}
use lib.Dec.{eqb}
use borrow.Author.Tests.{eqb-true}
use Rattle.verdict.proofs.Orders.{and-true}
use Rattle.x1_verdict.proofs.Passing.{track_passed}
use Rattle.x1_verdict.proofs.pass.track_passes.Goals as goal

pub last_passes-closes-requires : goal.last_passes-closes-requires
last_passes-closes-requires c = let frame = c.frame_inside-t.ensures in
    (frame, omega (arith, frame.first, c.later_pass-last.ensures.after))

pub returns-then-first-due : goal.returns-then-first-due
returns-then-first-due c = let closes = c.last_passes-closes in
    let later = c.later_pass-last in
    let opens = c.first_passes-opens in
    let number = c.number_obeys-number in
    let frame = c.frame_inside-t in
    let a = c.args in
    let due = and-true (eqb frame.result.first a.due) (number.result && (opens.result && closes.result)) c.if-first-due.true in
    let numbered = and-true number.result (opens.result && closes.result) due.1 in
    let edges = and-true opens.result closes.result numbered.1 in
    let last = closes.ensures edges.1 in (
      track_passed a.f.now a.size a.e c.requires later.result later.ensures (omega (arith, last.here)) a.due frame.result.first frame.ensures.first
          (eqb-true frame.result.first a.due due.0) number.result number.ensures numbered.0 (opens.ensures edges.0) last.edge,
      omega (arith, later.ensures.small),
    )
