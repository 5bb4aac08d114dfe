-- `rounding::nearest` meets its contract: 2 num + den is in range (proofs/Steps.antt, 'the nearest'), and `floor` rounds the fraction down.
use mathlib.Core.Path.{ap, ◌∙◌}
use Prim.Native.Nat.{◌*◌}
use lib.IntN.{ℤ}
use lib.Signed.{shr_z}
use Rattle.octets.proofs.Signs.{kept}
use Rattle.rounding.specs.Nearest.{nearest_of}
use Rattle.rounding.proofs.Steps.{reads, raised}
use Rattle.rounding.proofs.nearest.Goals as goal

pub returns : goal.returns
unfolding nearest_of
returns c = let a = c.args in
    let p = c.requires in
    kept c.floor.result c.floor.type_inv
    ∙ c.floor.ensures
    ∙ ap (λ (z : ℤ). shr_z z (2 * a.den)) (reads (raised a.num a.den p.2 p.1))
