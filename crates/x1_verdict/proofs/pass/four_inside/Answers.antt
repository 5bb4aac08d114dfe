-- `x1_verdict::pass::four_inside` meets its contract.
use Prim.Native.Nat.{ℕ, ◌+◌}
use mathlib.Core.Path.{◌≡◌, subst}
use native.Mathlib.Omega.{arith}
use Rattle.octets.specs.Octets.{Is}
use Rattle.octets.proofs.Reading.{more}
use Rattle.x1_verdict.proofs.pass.four_inside.Goals as goal

pub returns : goal.returns
returns c = let high = c.two_inside in
    let a = c.args in
    let next : a.at + 2 ≡ a.at + 1 + 1 = omega arith in
    more 3 _ _ _ _ c.byte_inside.ensures (more 2 _ _ _ _ c.byte_inside-2.ensures (subst (λ (i : ℕ). Is 2 a.f.now i high.result) next high.ensures))
