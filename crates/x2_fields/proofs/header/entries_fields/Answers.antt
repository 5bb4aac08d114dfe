-- `x2_fields::header::entries_fields` meets its contract. The invariant: the facts of the entries from i on have the
-- first fault of all entries.
use mathlib.Core.Path.{◌∙◌, refl, sym}
use native.Mathlib.Omega.{arith}
use Rattle.std.proofs.lemmas.Result.{err_from_is_err_and}
use Rattle.verdict.proofs.Checks.{first_stop, checked_over, refused_here}
use Rattle.x2_layout.specs.Facts.{indexes}
use Rattle.x2_fields.specs.Fields.{entry_fields, entries_fields}
use Rattle.x2_fields.proofs.header.entries_fields.Goals as goal

pub loop-i-init : goal.loop-i-init
unfolding entries_fields indexes
loop-i-init c = refl

pub returns-in_err-between : goal.returns-in_err-between
returns-in_err-between c = let a = c.args in
    let p = err_from_is_err_and c.from_residual.result c.from_residual.ensures.1 in
    rw (p.1, p.2)
    (refused_here (λ _. 1) a.count (entry_fields a.f.now a.entries) (λ x. omega arith) c.loop-i.i _ c.loop-i-test.true
    (simp (c.between.ensures, c.place_of-place.ensures)) c.in_err-between.was
    ∙ c.loop-i.invariant)

pub loop-i-preserved : goal.loop-i-preserved
loop-i-preserved c = let a = c.args in
    checked_over (λ _. 1) a.count (entry_fields a.f.now a.entries) (λ x. omega arith) c.loop-i.i _ c.loop-i-test.true
    (simp (c.between.ensures, c.place_of-place.ensures)) _ c.in_ok-between.was refl
    ∙ c.loop-i.invariant

pub returns : goal.returns
returns c = let a = c.args in
    sym (first_stop (λ _. 1) a.count (entry_fields a.f.now a.entries) _ (omega arith)) ∙ c.loop-i.invariant
