-- `x2_layout::groups::check_groups` meets its contract. The invariant: the facts of the groups from the index i on, the first of them due
-- where the last one ended, have the first fault of all groups.
use Prim.Native.Nat.{◌-◌}
use mathlib.Core.Path.{◌≡◌, ◌∙◌}
use native.Mathlib.Omega.{arith}
use Rattle.x2_layout.proofs.Loops.{groups_step, groups_fault, groups_stop}
use borrow.Author.Rules.{rules}
use Rattle.std.proofs.lemmas.Result.{err_from_is_err_and}
use Rattle.x2_layout.proofs.groups.check_groups.Goals as goal

pub loop-i-init : goal.loop-i-init
loop-i-init c = let e : c.args.o.count - 0 ≡ c.args.o.count = omega arith in (search rules, rw e)

pub returns-in_err-one_group : goal.returns-in_err-one_group
returns-in_err-one_group c = let h = c.loop-i in
    let a = c.args in
    let p = err_from_is_err_and c.from_residual.result c.from_residual.ensures.1 in
    rw (p.1, p.2)
    (groups_fault a.f.now a.last a.o h.i h.due c.loop-i-test.true _ _ _ c.group_end-until.ensures.value c.next_group-next.ensures.field c.one_group.ensures _ c.in_err-one_group.was
    ∙ h.invariant.1)

pub loop-i-preserved : goal.loop-i-preserved
loop-i-preserved c = let h = c.loop-i in
    let a = c.args in (
      c.group_end-until.ensures.upper_bound,
      groups_step a.f.now a.last a.o h.i h.due c.loop-i-test.true _ _ _ c.group_end-until.ensures.value c.next_group-next.ensures.field c.one_group.ensures c.in_ok-one_group.was
          ∙ h.invariant.1,
    )

pub returns : goal.returns
returns c = let h = c.loop-i in
    let a = c.args in
    groups_stop a.f.now a.last a.o h.i h.due c.loop-i-test.false _ c.ends_at.ensures ∙ h.invariant.1
