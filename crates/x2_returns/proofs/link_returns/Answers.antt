-- `x2_returns::link_returns` meets its contract: the first link that is not returned, after those that are.
use mathlib.Core.List.{[], ◌∷◌}
use Rattle.std.proofs.lemmas.Result.{err_from_is_err_and}
use Rattle.verdict.proofs.Facts.{stops, goes_on}
use Rattle.x2_links.specs.Links.{back, distinct}
use Rattle.x2_returns.proofs.link_returns.Goals as goal

pub returns-in_err-back_fact-in-Two : goal.returns-in_err-back_fact-in-Two
returns-in_err-back_fact-in-Two c = let a = c.args in
    let two = c.in-Two in
    let p = err_from_is_err_and c.from_residual.result c.from_residual.ensures.1 in
    rw (two.is, p.1, p.2) (stops _ _ (back a.f.now a.l a.at two.p ∷ []) _ c.back_fact-in-Two.ensures c.in_err-back_fact-in-Two.was)

pub returns-in_err-back_fact-in-Two-2 : goal.returns-in_err-back_fact-in-Two-2
returns-in_err-back_fact-in-Two-2 c = let a = c.args in
    let two = c.in-Two in
    let p = err_from_is_err_and c.from_residual-in_err-back_fact-in-Two-2.result c.from_residual-in_err-back_fact-in-Two-2.ensures.1 in
    rw (two.is, p.1, p.2)
    (goes_on _ _ (back a.f.now a.l a.at two.p ∷ []) _ c.back_fact-in-Two.ensures c.in_ok-back_fact-in-Two.was
    (stops _ _ (back a.f.now a.l a.at two.q ∷ []) _ c.back_fact-in-Two-2.ensures c.in_err-back_fact-in-Two-2.was))

pub returns-in_err-back_fact-in-Three : goal.returns-in_err-back_fact-in-Three
returns-in_err-back_fact-in-Three c = let a = c.args in
    let three = c.in-Three in
    let p = err_from_is_err_and c.from_residual-in_err-back_fact-in-Three.result c.from_residual-in_err-back_fact-in-Three.ensures.1 in
    rw (three.is, p.1, p.2) (stops _ _ (back a.f.now a.l a.at three.p ∷ []) _ c.back_fact-in-Three.ensures c.in_err-back_fact-in-Three.was)

pub returns-in_err-back_fact-in-Three-2 : goal.returns-in_err-back_fact-in-Three-2
returns-in_err-back_fact-in-Three-2 c = let a = c.args in
    let three = c.in-Three in
    let p = err_from_is_err_and c.from_residual-in_err-back_fact-in-Three-2.result c.from_residual-in_err-back_fact-in-Three-2.ensures.1 in
    rw (three.is, p.1, p.2)
    (goes_on _ _ (back a.f.now a.l a.at three.p ∷ []) _ c.back_fact-in-Three.ensures c.in_ok-back_fact-in-Three.was
    (stops _ _ (back a.f.now a.l a.at three.q ∷ []) _ c.back_fact-in-Three-2.ensures c.in_err-back_fact-in-Three-2.was))

pub returns-in_err-back_fact-in-Three-3 : goal.returns-in_err-back_fact-in-Three-3
returns-in_err-back_fact-in-Three-3 c = let a = c.args in
    let three = c.in-Three in
    let p = err_from_is_err_and c.from_residual-in_err-back_fact-in-Three-3.result c.from_residual-in_err-back_fact-in-Three-3.ensures.1 in
    rw (three.is, p.1, p.2)
    (goes_on _ _ (back a.f.now a.l a.at three.p ∷ []) _ c.back_fact-in-Three.ensures c.in_ok-back_fact-in-Three.was
    (goes_on _ _ (back a.f.now a.l a.at three.q ∷ []) _ c.back_fact-in-Three-2.ensures c.in_ok-back_fact-in-Three-2.was
    (goes_on _ _ (distinct a.f.now a.at three.q three.p ∷ []) _ c.distinct_fact-in-Three.ensures c.in_ok-distinct_fact-in-Three.was
    (stops _ _ (back a.f.now a.l a.at three.r ∷ []) _ c.back_fact-in-Three-3.ensures c.in_err-back_fact-in-Three-3.was))))

pub returns-in_ok-distinct_fact-in-Three-2 : goal.returns-in_ok-distinct_fact-in-Three-2
returns-in_ok-distinct_fact-in-Three-2 c = let a = c.args in
    let three = c.in-Three in
    rw three.is
    (goes_on _ _ (back a.f.now a.l a.at three.p ∷ []) _ c.back_fact-in-Three.ensures c.in_ok-back_fact-in-Three.was
    (goes_on _ _ (back a.f.now a.l a.at three.q ∷ []) _ c.back_fact-in-Three-2.ensures c.in_ok-back_fact-in-Three-2.was
    (goes_on _ _ (distinct a.f.now a.at three.q three.p ∷ []) _ c.distinct_fact-in-Three.ensures c.in_ok-distinct_fact-in-Three.was
    (goes_on _ _ (back a.f.now a.l a.at three.r ∷ []) _ c.back_fact-in-Three-3.ensures c.in_ok-back_fact-in-Three-3.was
    (goes_on _ _ (distinct a.f.now a.at three.r three.p ∷ []) _ c.distinct_fact-in-Three-2.ensures c.in_ok-distinct_fact-in-Three-2.was
    c.distinct_fact-in-Three-3.ensures)))))
