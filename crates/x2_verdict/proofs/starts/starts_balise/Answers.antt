-- `x2_verdict::starts::starts_balise` meets its contract. The invariant: what is found from here on is what is found from the first balise on.
use mathlib.Core.Path.{◌∙◌, refl}
use native.Mathlib.Omega.{arith}
use Rattle.x2_verdict.proofs.Found.{seek_step, seek_stop}
use Rattle.x2_verdict.proofs.starts.starts_balise.Goals as goal

pub loop-at-init : goal.loop-at-init
loop-at-init c = refl

pub loop-at-preserved : goal.loop-at-preserved
loop-at-preserved c = let a = c.args in
    let h = c.loop-at in
    seek_step a.f.now a.x h.at _ (omega arith) (simp c.size_of-at.ensures.is) ∙ h.invariant

pub returns : goal.returns
returns c = let a = c.args in
    seek_stop a.f.now a.x c.loop-at.at (omega arith) ∙ c.loop-at.invariant
