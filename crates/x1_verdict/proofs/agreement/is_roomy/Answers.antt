-- `x1_verdict::agreement::is_roomy` meets its contract.
use mathlib.Core.Path.{◌∙◌, ap}
use native.Mathlib.Omega.{arith}
use lib.IntN.{nat_abs}
use Rattle.octets.proofs.Signs.{kept}
use Rattle.x1_verdict.proofs.Starts.{both_inside}
use Rattle.x1_verdict.proofs.agreement.is_roomy.Goals as goal

pub returns : goal.returns
returns c = λ h.
    let a = c.args in
    both_inside a.latitude a.longitude _ _ _ _ (c.distance.ensures ∙ ap nat_abs (kept a.latitude c.ranges.latitude.sfits))
    (c.distance-2.ensures ∙ ap nat_abs (kept a.longitude c.ranges.longitude.sfits)) h (omega arith) (omega arith)
