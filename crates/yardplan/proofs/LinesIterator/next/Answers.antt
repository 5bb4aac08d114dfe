-- `yardplan::LinesIterator::next` meets its contract.
use Rattle.std.proofs.Common.{◌∙◌, sym, arith, length}
use borrow.Author.Rules.{part_to_end}
use borrow.Author.Tests.{eqb-true, eqb-false}
use Rattle.plan_reading.proofs.TextLines.{next_line, past_end, no_line}
use Rattle.yardplan.proofs.LinesIterator.next.Goals as goal

pub returns-then-is_empty-clause-steps : goal.returns-then-is_empty-clause-steps
returns-then-is_empty-clause-steps c =
    let e = no_line c.args.self.now.0.now (eqb-true _ _ (sym c.is_empty.ensures ∙ c.if-is_empty.true)) in
    (e, e)

pub returns-clause-steps : goal.returns-clause-steps
returns-clause-steps c =
    let s = c.args.self.now.0.now in
    let n = eqb-false (length s) 0 (sym c.is_empty.ensures ∙ c.if-is_empty.false) in
    let e = next_line s _ (omega arith) c.length_before.ensures.value in
    let r = c.split_at.result.1.now in
    rw (part_to_end r c.min.result, past_end r c.min.result c.min.ensures, c.split_at.ensures.front, c.split_at.ensures.back) e
