-- `x1_verdict::pass::tracks_pass` meets its contract.
use mathlib.Core.Path.{subst}
use native.Mathlib.Nat.{le_refl}
use native.Mathlib.Omega.{arith}
use borrow.Author.Tests.{leb-true}
use Rattle.x1_layout.specs.Layout.{points_at}
use Rattle.x1_verdict.specs.inner.Pass.{Reached}
use Rattle.x1_verdict.proofs.Passing.{passing_all}
use Rattle.x1_verdict.proofs.pass.tracks_pass.Goals as goal

pub returns-in-Ok : goal.returns-in-Ok
returns-in-Ok c = λ h.
    let a = c.args in
    passing_all a.f.now a.size (points_at a.f.now) _ (le_refl (points_at a.f.now)) (omega (arith, leb-true _ _ h, c.end_of.ensures))
    (subst (Reached a.f.now a.size) c.in-Ok.is c.tracks_reached.ensures)
