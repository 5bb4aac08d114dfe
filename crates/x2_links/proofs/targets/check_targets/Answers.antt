-- `x2_links::targets::check_targets` meets its contract.
use Prim.Native.Nat.{ℕ}
use lib.ListN.{length-replicate}
use borrow.Author.Rules.{rules}
use Rattle.x2_layout.proofs.Bounds.{none_asked, is_bounded, all_judged}
use Rattle.x2_links.specs.inner.Marks.{cells}
use Rattle.x2_links.proofs.Marking.{blank_zeros}
use Rattle.x2_links.proofs.targets.check_targets.Goals as goal

pub returns-then-not-is_bounded : goal.returns-then-not-is_bounded
returns-then-not-is_bounded c = none_asked _ _ c.is_bounded.ensures c.if-not-is_bounded.true _

pub mark_targets-requires : goal.mark_targets-requires
mark_targets-requires c = (is_bounded _ _ c.is_bounded.ensures c.if-not-is_bounded.false, length-replicate {A = ℕ} cells 0, blank_zeros cells)

pub all_targets-requires : goal.all_targets-requires
all_targets-requires c = (search rules, is_bounded _ _ c.is_bounded.ensures c.if-not-is_bounded.false)

pub returns : goal.returns
returns c = all_judged _ _ c.is_bounded.ensures c.if-not-is_bounded.false _ _ c.all_targets.ensures
