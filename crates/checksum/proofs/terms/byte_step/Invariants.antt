-- `checksum::terms::byte_step` meets its contract. The loop's invariant: what the bits at the places to come make of the register is what
-- the whole byte makes of the first one.
use Rattle.std.proofs.Common.{◌≡◌}
use Rattle.checksum.specs.Checksum.{byte_step, bit_steps}
use Rattle.checksum.proofs.Plain.{down}
use Rattle.checksum.proofs.terms.byte_step.Given as goal

abbrev pub invariant-loop-place : goal.invariant-loop-place
invariant-loop-place l = bit_steps (down l.place) l.stepped l.byte ≡ byte_step l.register l.byte
