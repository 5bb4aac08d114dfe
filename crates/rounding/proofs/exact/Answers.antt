-- `rounding::exact` meets its contract: each of its four steps is right (proofs/Steps.antt, 'the exact coordinate').
use Rattle.rounding.proofs.Steps.{fit, reads, part, exact}
use Rattle.rounding.proofs.exact.Goals as goal

pub overflow_mul-result-2 : goal.overflow_mul-result-2
overflow_mul-result-2 c = fit (part c.requires)

pub overflow_add-result : goal.overflow_add-result
overflow_add-result c = fit (exact c.requires)

pub returns : goal.returns
returns c = reads (exact c.requires)
