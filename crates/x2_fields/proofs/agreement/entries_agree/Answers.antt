-- `x2_fields::agreement::entries_agree` meets its contract. The invariant: the facts of the entries from i on have the
-- first fault of all entries.
use mathlib.Core.Path.{◌∙◌, refl, sym}
use native.Mathlib.Omega.{arith}
use Rattle.std.proofs.lemmas.Result.{err_from_is_err_and}
use Rattle.verdict.proofs.Checks.{first_stop, checked_over, refused_here}
use Rattle.x2_layout.specs.Facts.{indexes}
use Rattle.x2_fields.specs.Agreement.{entry_agrees, entries_agree}
use Rattle.x2_fields.proofs.agreement.entries_agree.Goals as goal

pub loop-i-init : goal.loop-i-init
unfolding entries_agree indexes
loop-i-init c = refl

pub returns-in_err-same_as : goal.returns-in_err-same_as
returns-in_err-same_as c = let a = c.args in
    let p = err_from_is_err_and c.from_residual.result c.from_residual.ensures.1 in
    rw (p.1, p.2)
    (refused_here (λ _. 1) a.count (entry_agrees a.f.now a.entries a.from) (λ x. omega arith) c.loop-i.i _ c.loop-i-test.true
    (simp (c.same_as.ensures, c.place_of-own.ensures, c.place_of-here.ensures)) c.in_err-same_as.was
    ∙ c.loop-i.invariant)

pub loop-i-preserved : goal.loop-i-preserved
loop-i-preserved c = let a = c.args in
    checked_over (λ _. 1) a.count (entry_agrees a.f.now a.entries a.from) (λ x. omega arith) c.loop-i.i _ c.loop-i-test.true
    (simp (c.same_as.ensures, c.place_of-own.ensures, c.place_of-here.ensures)) _ c.in_ok-same_as.was refl
    ∙ c.loop-i.invariant

pub returns : goal.returns
returns c = let a = c.args in
    sym (first_stop (λ _. 1) a.count (entry_agrees a.f.now a.entries a.from) _ (omega arith)) ∙ c.loop-i.invariant
