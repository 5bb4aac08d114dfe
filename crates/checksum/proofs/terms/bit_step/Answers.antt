-- `checksum::terms::bit_step` meets its contract: a bit at the high end fits the register.
use mathlib.Core.Path.{◌≡◌, ap, ◌∙◌}
use Prim.Native.Nat.{ℕ, ◌*◌, ◌%◌, ◌^◌}
use native.Mathlib.Omega.{arith}
use lib.Bits.{bit_xor}
use Rattle.checksum.specs.Checksum.{step, bit_step}
use Rattle.checksum.proofs.terms.bit_step.Goals as goal

pub returns : goal.returns
unfolding bit_step
returns c = let a = c.args in
    let fits : a.bit * 2 ^ 31 % 2 ^ 32 ≡ a.bit * 2 ^ 31 = omega arith in
    c.step.ensures ∙ ap (λ (x : ℕ). step (bit_xor x a.register)) fits
