-- `decimal::number_in` meets its contract. The loop's invariant: the digits passed are the number n, or more than can be told where n is
-- `none`: n and the rest of the text make the same number as the whole text.
use Rattle.std.proofs.Common.{◌∙◌, ap, not, arith, rules}
use Rattle.decimal.proofs.Digits.{from_start, no_text, from_more, from_stop, from_end}
use Rattle.decimal.proofs.number_in.Goals as goal

pub returns-then-is_empty : goal.returns-then-is_empty
returns-then-is_empty c = no_text c.args.text.now c.args.most (search rules)

pub loop-c-init : goal.loop-c-init
loop-c-init c = (omega arith, from_start c.args.text.now c.args.most (search rules))

pub returns-then-not-is_ascii_digit : goal.returns-then-not-is_ascii_digit
returns-then-not-is_ascii_digit c = let l = c.loop-c in
    from_stop c.args.text.now l.c-index _ c.is_ascii_digit.ensures.value l.n _ c.loop-c-test.true (ap not c.if-not-is_ascii_digit.true) ∙ l.invariant.1

pub loop-c-preserved : goal.loop-c-preserved
loop-c-preserved c = let l = c.loop-c in (
  omega (arith, c.appended-n.ensures),
  from_more c.args.text.now l.c-index _ c.is_ascii_digit.ensures.value l.n _ _ c.loop-c-test.true (ap not c.if-not-is_ascii_digit.false) c.appended-n.ensures ∙ l.invariant.1,
)

pub returns : goal.returns
returns c = let l = c.loop-c in
    from_end c.args.text.now l.n _ l.c-index l.invariant.0 (omega arith) ∙ l.invariant.1
