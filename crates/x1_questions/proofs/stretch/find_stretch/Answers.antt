-- `x1_questions::stretch::find_stretch` meets its contract. The invariant: the search among the points from p on answers what the search
-- among all of them does.
use Prim.Native.Nat.{◌+◌}
use mathlib.Core.Path.{◌∙◌, sym}
use native.Mathlib.Omega.{arith}
use borrow.Author.Tests.{le-leb, lt-leb}
use Rattle.x1_layout.specs.Layout.{last_of}
use Rattle.x1_lookup.proofs.Search.{where_here, where_next, where_stop}
use Rattle.x1_questions.specs.Stretch.{position_of, reaches, stretch_of}
use Rattle.x1_questions.proofs.stretch.find_stretch.Goals as goal

pub loop-p-init : goal.loop-p-init
unfolding stretch_of
loop-p-init c = rw c.number_of-first.ensures.is

pub returns-then-x-number_of : goal.returns-then-x-number_of
returns-then-x-number_of c = let h = c.loop-p in
    let a = c.args in
    let last = c.number_of-last.ensures.is in
    let next = c.number_of.ensures.is in
    sym (where_here (λ _. a.size) (last_of a.f.now a.e) (reaches a.f.now a.size a.x) (λ _. c.requires) h.p (omega arith)
    (le-leb a.x (position_of a.f.now (h.p + a.size)) (omega arith)))
    ∙ h.invariant

pub loop-p-preserved : goal.loop-p-preserved
loop-p-preserved c = let h = c.loop-p in
    let a = c.args in
    let last = c.number_of-last.ensures.is in
    let next = c.number_of.ensures.is in
    where_next (λ _. a.size) (last_of a.f.now a.e) (reaches a.f.now a.size a.x) (λ _. c.requires) h.p (omega arith)
    (lt-leb a.x (position_of a.f.now (h.p + a.size)) (omega arith))
    ∙ h.invariant

pub returns : goal.returns
returns c = let h = c.loop-p in
    let a = c.args in
    let last = c.number_of-last.ensures.is in
    sym (where_stop (λ _. a.size) (last_of a.f.now a.e) (reaches a.f.now a.size a.x) h.p (omega arith)) ∙ h.invariant

-- the last stretch, which does not reach the position
pub returns-else-x-number_of : goal.returns-else-x-number_of
returns-else-x-number_of c = let h = c.loop-p in
    let a = c.args in
    let last = c.number_of-last.ensures.is in
    let next = c.number_of.ensures.is in
    sym (where_stop (λ _. a.size) (last_of a.f.now a.e) (reaches a.f.now a.size a.x) (h.p + a.size) (omega arith))
    ∙ where_next (λ _. a.size) (last_of a.f.now a.e) (reaches a.f.now a.size a.x) (λ _. c.requires) h.p (omega arith)
    (lt-leb a.x (position_of a.f.now (h.p + a.size)) (omega arith))
    ∙ h.invariant
