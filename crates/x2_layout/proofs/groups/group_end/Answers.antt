-- `x2_layout::groups::group_end` meets its contract.
use mathlib.Core.Path.{◌∙◌, sym}
use Rattle.x2_layout.proofs.Grouped.{end_empty, end_there}
use borrow.Author.Rules.{rules}
use Rattle.x2_layout.proofs.groups.group_end.Goals as goal

pub returns-then-u16_at-eq0 : goal.returns-then-u16_at-eq0
returns-then-u16_at-eq0 c = record { value = sym (end_empty _ _ _ (sym c.u16_at.ensures.is ∙ c.if-u16_at-eq0.true)); upper_bound = search rules }

pub returns : goal.returns
returns c = let off = c.u16_at.ensures.is in
    record { value = c.next_group.ensures.start ∙ sym (end_there _ _ _ (λ e. c.if-u16_at-eq0.false (off ∙ e))); upper_bound = c.next_group.ensures.below }
