-- `plan_lines::word_length` meets its contract.
use Rattle.std.proofs.Common.{rules, tests, ◌≡◌, true, false, sym, ◌∙◌}
use Rattle.std.proofs.lemmas.Iterator.{IsFirst-from_position, YieldsList-from_slice}
use Rattle.plan_lines.specs.Lines.{is_part}
use Rattle.plan_lines.proofs.Fronts.{front_position}
use Rattle.plan_lines.proofs.word_length.Goals as goal

pub returns-clause-value : goal.returns-clause-value
returns-clause-value c = c.unwrap_or.ensures ∙ sym (front_position is_part c.args.text.now _ (IsFirst-from_position _ _ _ (λ x. is_part x ≡ false) (λ x. is_part x ≡ true) c.position.ensures.ran (YieldsList-from_slice c.args.text.now cc) (λ x q k. search (rules, tests)) (λ x q k. search (rules, tests))))
