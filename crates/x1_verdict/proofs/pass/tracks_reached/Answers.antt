-- `x1_verdict::pass::tracks_reached` meets its contract. The invariant: the tracks before the entry at e agree, and the fields of the
-- points before `due` obey.
use Prim.Native.Nat.{◌+◌}
use mathlib.Core.Path.{sym, subst}
use native.Mathlib.Omega.{arith}
use Rattle.x1_records.specs.Places.{entries_at, entry_size}
use Rattle.x1_verdict.specs.inner.Pass.{Passing}
use Rattle.x1_verdict.proofs.Passing.{passing_start, passing_over, passing_end}
use Rattle.x1_verdict.proofs.pass.tracks_reached.Goals as goal

pub loop-e-init : goal.loop-e-init
loop-e-init c = let a = c.args in
    subst (Passing a.f.now a.size entries_at) (sym c.points_at-points.ensures.value) (passing_start a.f.now a.size)

pub loop-e-preserved : goal.loop-e-preserved
loop-e-preserved c = let h = c.loop-e in
    let a = c.args in
    passing_over a.f.now a.size h.e h.due _ (omega (arith, c.points_at-points.ensures.value)) h.invariant c.in-Some.ensures.0

pub returns-in-None : goal.returns-in-None
returns-in-None c = (c.loop-e.due, c.loop-e.invariant)

pub returns : goal.returns
returns c = let h = c.loop-e in
    let a = c.args in
    passing_end a.f.now a.size h.e h.due (omega (arith, c.points_at-points.ensures.value)) h.invariant

pub returns-in-Some : goal.returns-in-Some
returns-in-Some c = let h = c.loop-e in
    let a = c.args in
    passing_end a.f.now a.size (h.e + entry_size) _ (omega (arith, c.points_at-points.ensures.value))
    (passing_over a.f.now a.size h.e h.due _ (omega (arith, c.points_at-points.ensures.value)) h.invariant c.in-Some.ensures.0)
