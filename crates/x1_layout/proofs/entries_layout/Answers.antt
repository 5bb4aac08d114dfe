-- `x1_layout::entries_layout` meets its contract. The entries before e obey, so that the facts of the entries from e on give the verdict that
-- the facts of all entries give.
use Prim.Native.Nat.{◌+◌}
use mathlib.Core.Path.{◌∙◌, refl, sym}
use native.Mathlib.Omega.{arith}
use Rattle.verdict.proofs.Checks.{passes_over, fails_here, first_stop}
use Rattle.x1_records.specs.Places.{entry_size}
use Rattle.x1_layout.specs.Layout.{points_at, entries, entry_layout}
use Rattle.x1_layout.proofs.entries_layout.Goals as goal

pub loop-e-init : goal.loop-e-init
unfolding entries
loop-e-init c = refl

pub returns-then-not-offsets_obey : goal.returns-then-not-offsets_obey
returns-then-not-offsets_obey c = let t = c.offsets_obey in
    let a = c.args in
    fails_here (λ _. entry_size) (points_at a.f.now) (entry_layout a.f.now a.size) (λ x. omega arith) c.loop-e.e t.result (omega (arith, c.points_at-points.ensures.value)) t.ensures _
    c.if-not-offsets_obey.true c.entry_layout.ensures
    ∙ c.loop-e.invariant

pub loop-e-preserved : goal.loop-e-preserved
loop-e-preserved c = let t = c.offsets_obey in
    let a = c.args in
    passes_over (λ _. entry_size) (points_at a.f.now) (entry_layout a.f.now a.size) (λ x. omega arith) c.loop-e.e t.result (omega (arith, c.points_at-points.ensures.value)) t.ensures _
    c.if-not-offsets_obey.false refl
    ∙ c.loop-e.invariant

pub returns : goal.returns
returns c = let a = c.args in
    sym (first_stop (λ _. entry_size) (points_at a.f.now) (entry_layout a.f.now a.size) _ (omega (arith, c.points_at-points.ensures.value))) ∙ c.loop-e.invariant

-- after the last entry, which obeys
pub returns-else-not-offsets_obey : goal.returns-else-not-offsets_obey
returns-else-not-offsets_obey c = let t = c.offsets_obey in
    let a = c.args in
    let next = c.loop-e.e + entry_size in
    let value = c.points_at-points.ensures.value in
    sym (first_stop (λ _. entry_size) (points_at a.f.now) (entry_layout a.f.now a.size) next (omega arith))
    ∙ passes_over (λ _. entry_size) (points_at a.f.now) (entry_layout a.f.now a.size) (λ x. omega arith) c.loop-e.e t.result (omega arith) t.ensures next
    c.if-not-offsets_obey.false refl
    ∙ c.loop-e.invariant
