-- `plan_lines::from_line` meets its contract.
use Rattle.std.proofs.Common.{◌∙◌, sym}
use Rattle.std.proofs.lemmas.Result.{err_from_is_err_and}
use Rattle.plan_lines.proofs.Says.{ok_or_none, ok_or_some, from_none, from_word, from_more, from_one}
use Rattle.plan_lines.proofs.from_line.Goals as goal

pub returns-in_err-word : goal.returns-in_err-word
returns-in_err-word c =
    let p = err_from_is_err_and c.from_residual.result c.from_residual.ensures.1 in
    let o = ok_or_none _ _ _ _ c.ok_or.ensures.value c.in_err-word.was in
    rw (p.1, p.2, o.1) (from_none _ (rw o.0 at c.next.ensures.steps).0)

pub returns-in_err-start : goal.returns-in_err-start
returns-in_err-start c =
    let p = err_from_is_err_and c.from_residual-in_err-start.result c.from_residual-in_err-start.ensures.1 in
    let n = ok_or_some _ _ _ _ c.ok_or.ensures.value c.in_ok-word.was in
    let o = ok_or_none _ _ _ _ c.ok_or-2.ensures.value c.in_err-start.was in
    rw (p.1, p.2, o.1) (from_word _ _ _ (rw n at c.next.ensures.steps) (sym o.0 ∙ c.offset.ensures))

pub returns-in-None : goal.returns-in-None
returns-in-None c =
    let n = ok_or_some _ _ _ _ c.ok_or.ensures.value c.in_ok-word.was in
    let o = ok_or_some _ _ _ _ c.ok_or-2.ensures.value c.in_ok-start.was in
    from_one _ _ _ (rw n at c.next.ensures.steps) _ (sym o ∙ c.offset.ensures) c.in-None.ensures.steps.0

pub returns-in-Some : goal.returns-in-Some
returns-in-Some c =
    let n = ok_or_some _ _ _ _ c.ok_or.ensures.value c.in_ok-word.was in
    from_more _ _ _ (rw n at c.next.ensures.steps) _ _ c.in-Some.ensures.steps
