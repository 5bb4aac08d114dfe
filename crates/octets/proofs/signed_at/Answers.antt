-- `octets::signed_at` meets its contract.
use Rattle.octets.proofs.Signs.{of_number, kept}
use mathlib.Core.Path.{◌∙◌}
use Rattle.octets.proofs.signed_at.Goals as goal

pub returns : goal.returns
returns c = of_number c.args.w _ _ _ _ _ c.num_at.ensures c.half.ensures (kept _ c.signed_of.type_inv ∙ c.signed_of.ensures)
