-- `plan_lines::read` meets its contract.
use Rattle.std.proofs.Common.{Ok, sym, ap, ◌∙◌, arith}
use Rattle.std.proofs.lemmas.Result.{err_from_is_err_and}
use Rattle.plan_lines.proofs.Lent.{line-is, no_route, other_route, other_left, route_words, route_left, route_stored}
use Rattle.plan_lines.proofs.read.Goals as goal

pub returns-in_err-says : goal.returns-in_err-says
returns-in_err-says c =
    let p = err_from_is_err_and c.from_residual.result c.from_residual.ensures.1 in
    record {
      value = rw (p.1, p.2) (sym c.in_err-says.was ∙ line-is _ _ c.length_before.ensures.value _ c.said_line.ensures);
      out_after = other_left _ _ c.length_before.ensures.value _ c.said_line.ensures _ (no_route _ _ c.in_err-says.was);
    }

pub store-requires : goal.store-requires
store-requires c =
    let w = route_words _ _ c.length_before.ensures.value _ c.said_line.ensures _ (c.in_ok-says.was ∙ ap Ok c.in-Route.is) in
    record { text_value = w.0; text_in_bounds = omega (arith, w.1) }

pub returns-then-n-out : goal.returns-then-n-out
returns-then-n-out c =
    let n = c.in_ok-says.was ∙ ap Ok c.in-Route.is in
    record {
      value = sym n ∙ line-is _ _ c.length_before.ensures.value _ c.said_line.ensures;
      out_after = route_stored _ _ c.length_before.ensures.value _ c.said_line.ensures _ n _ _ c.if-n-out.true c.store.ensures;
    }

pub returns-else-n-out : goal.returns-else-n-out
returns-else-n-out c =
    let n = c.in_ok-says.was ∙ ap Ok c.in-Route.is in
    record {
      value = sym n ∙ line-is _ _ c.length_before.ensures.value _ c.said_line.ensures;
      out_after = route_left _ _ c.length_before.ensures.value _ c.said_line.ensures _ n _ c.if-n-out.false;
    }

pub returns-in_default : goal.returns-in_default
returns-in_default c = record {
  value = sym c.in_ok-says.was ∙ line-is _ _ c.length_before.ensures.value _ c.said_line.ensures;
  out_after = other_left _ _ c.length_before.ensures.value _ c.said_line.ensures _ (other_route _ _ c.in_ok-says.was c.in_default.not-Route);
}
