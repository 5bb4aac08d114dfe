-- `x1_verdict::pass::byte_inside` meets its contract.
use native.Mathlib.Omega.{arith}
use Rattle.octets.proofs.Reading.{one}
use Rattle.x1_verdict.proofs.pass.byte_inside.Goals as goal

pub overflow_cast-result : goal.overflow_cast-result
overflow_cast-result c = omega (arith, c.shared_slice_known-1.given c.args.at)

pub returns : goal.returns
returns c = one _ _ (c.shared_slice_known-1.given c.args.at).fits
