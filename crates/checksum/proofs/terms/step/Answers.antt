-- `checksum::terms::step` meets its contract: `by_terms` says that the terms alone are left to be taken off.
use native.Mathlib.Omega.{arith}
use Rattle.checksum.proofs.Plain.{by_terms}
use Rattle.checksum.proofs.terms.step.Goals as goal

pub returns : goal.returns
returns c = by_terms c.args.register (omega arith)
