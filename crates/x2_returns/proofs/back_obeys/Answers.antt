-- `x2_returns::back_obeys` meets its contract.
use mathlib.Core.Bool.{and-true}
use mathlib.Core.List.{List}
use Prim.Native.Nat.{ℕ}
use Rattle.verdict.specs.Facts.{test}
use Rattle.x2_records.proofs.Linked.{by_links}
use Rattle.x2_returns.proofs.Returned.{returned_is}
use Rattle.x2_links.specs.Links.{some_names}
use Rattle.x2_returns.proofs.back_obeys.Goals as goal

pub returns : goal.returns
returns c = let a = c.args in
    let named = by_links (λ (ps : List ℕ). test (some_names a.f.now ps a.at)) c.kind_at-k.result c.u16_at-x.result _ _ c.links.ensures c.some_names-returned.ensures in
    let x = c.u16_at-x.ensures.is in
    let returned = returned_is a.f.now a.l a.at a.p _ _ _ x c.kind_at-k.ensures named in
    simp (returned, x, and-true)
