-- `degrees::in_degrees` meets its contract. The divisor is its bit pattern in the code, and the converted number in the definition.
use lib.Ieee.{of_bits, of_int}
use borrow.Author.Rules.{rules}
use Rattle.degrees.specs.Degrees.{degrees_of}
use Rattle.degrees.proofs.in_degrees.Goals as goal

pub returns : goal.returns
unfolding degrees_of of_bits of_int
returns c = search rules
