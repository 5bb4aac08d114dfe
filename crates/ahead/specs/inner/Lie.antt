-- The three lies as the code has them, and the bytes that they stand for. A byte that is no lie counts as unknown; no question with one is answered.
use Rattle.std.specs.Prelude.{ℕ, cond, eqb}
use Rattle.ahead.specs.declared.ways.Lie.{Lie}
use Rattle.ahead.specs.declared.ways.Lie.TheVariants.{Normal, Reverse, Unknown}
use Rattle.ahead.specs.Lies.{normal, reverse, unknown}

abbrev pub byte_of : Lie → ℕ
byte_of Normal = normal
byte_of Reverse = reverse
byte_of Unknown = unknown

abbrev pub lie_named : ℕ → Lie
lie_named b = cond (eqb b normal) Normal (cond (eqb b reverse) Reverse Unknown)
