-- `plan_lines::length_before` meets its contract.
use Rattle.std.proofs.Common.{rules, tests, ◌≡◌, true, false, sym, ◌∙◌}
use Rattle.std.proofs.lemmas.Iterator.{IsFirst-from_position, YieldsList-from_slice}
use Rattle.plan_lines.specs.Lines.{is_not}
use Rattle.plan_lines.proofs.Fronts.{front_position}
use Rattle.plan_lines.proofs.length_before.Goals as goal

pub returns-clause-value : goal.returns-clause-value
returns-clause-value c = c.unwrap_or.ensures ∙ sym (front_position (is_not c.args.mark) c.args.text.now _ (IsFirst-from_position _ _ _ (λ x. is_not c.args.mark x ≡ false) (λ x. is_not c.args.mark x ≡ true) c.position.ensures.ran (YieldsList-from_slice c.args.text.now cc) (λ x q k. search (rules, tests)) (λ x q k. search (rules, tests))))
