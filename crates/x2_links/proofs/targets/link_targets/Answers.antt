-- `x2_links::targets::link_targets` meets its contract: the first link whose target does not obey.
use mathlib.Core.List.{[], ◌∷◌}
use Rattle.std.proofs.lemmas.Result.{err_from_is_err_and}
use Rattle.verdict.proofs.Facts.{stops}
use Rattle.x2_links.specs.Links.{target}
use Rattle.x2_links.proofs.targets.link_targets.Goals as goal

pub returns-in_err-target_fact-in-Two : goal.returns-in_err-target_fact-in-Two
returns-in_err-target_fact-in-Two c = let a = c.args in
    let two = c.in-Two in
    let p = err_from_is_err_and c.from_residual.result c.from_residual.ensures.1 in
    rw (two.is, p.1, p.2) (stops _ _ (target a.f.now a.l a.at two.p ∷ []) _ c.target_fact-in-Two.ensures c.in_err-target_fact-in-Two.was)

pub returns-in_err-target_fact-in-Three : goal.returns-in_err-target_fact-in-Three
returns-in_err-target_fact-in-Three c = let a = c.args in
    let three = c.in-Three in
    let p = err_from_is_err_and c.from_residual-in_err-target_fact-in-Three.result c.from_residual-in_err-target_fact-in-Three.ensures.1 in
    rw (three.is, p.1, p.2) (stops _ _ (target a.f.now a.l a.at three.p ∷ []) _ c.target_fact-in-Three.ensures c.in_err-target_fact-in-Three.was)
