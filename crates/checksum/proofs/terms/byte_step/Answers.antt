-- `checksum::terms::byte_step` meets its contract. The loop's invariant: what the bits at the places to come make of the register is what
-- the whole byte makes of the first one.
use Rattle.std.proofs.Common.{refl, arith}
use Rattle.checksum.specs.Checksum.{byte_step}
use Rattle.checksum.proofs.Plain.{bit_on, bits_end}
use Rattle.checksum.proofs.terms.byte_step.Goals as goal

pub loop-place-init : goal.loop-place-init
unfolding byte_step
loop-place-init c = refl

pub loop-place-preserved : goal.loop-place-preserved
loop-place-preserved c = let l = c.loop-place in
    bit_on l.place _ l.stepped _ _ _ (omega arith) c.bit_step-stepped.ensures l.invariant

pub returns : goal.returns
returns c = let l = c.loop-place in bits_end l.place _ _ _ (omega arith) l.invariant
