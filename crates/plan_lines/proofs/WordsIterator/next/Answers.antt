-- `plan_lines::WordsIterator::next` meets its contract: the blanks in front are passed over, and then comes the word.
use Rattle.std.proofs.Common.{rules, tests, ◌≡◌, true, false, arith, length-drop}
use borrow.Author.Rules.{part_to_end}
use Rattle.std.proofs.lemmas.Iterator.{IsFirst-from_position, YieldsList-from_slice}
use Rattle.plan_lines.specs.Lines.{is_blank}
use Rattle.plan_lines.proofs.WordsIn.{first_none, first_some, next_word, next_bytes}
use Rattle.plan_lines.proofs.WordsIterator.next.Goals as goal

pub returns-in_err-start-clause-steps : goal.returns-in_err-start-clause-steps
returns-in_err-start-clause-steps c =
    let s = c.args.self.now.0.now in
    let e = first_none s _ (IsFirst-from_position _ _ _ (λ x. is_blank x ≡ false) (λ x. is_blank x ≡ true) c.position.ensures.ran (YieldsList-from_slice s cc) (λ x q k. search (rules, tests)) (λ x q k. search (rules, tests))) c.in_err-start.was in
    rw c.from_residual.ensures (e, e)

pub returns-clause-steps : goal.returns-clause-steps
returns-clause-steps c =
    let s = c.args.self.now.0.now in
    let n = c.in_ok-start.start in
    let f = first_some s _ (IsFirst-from_position _ _ _ (λ x. is_blank x ≡ false) (λ x. is_blank x ≡ true) c.position.ensures.ran (YieldsList-from_slice s cc) (λ x q k. search (rules, tests)) (λ x q k. search (rules, tests))) n c.in_ok-start.was in
    let t = part_to_end s n in
    let e = next_word s n c.word_length.result f (rw t at c.word_length.ensures.value) in
    rw (c.split_at.ensures.front, c.split_at.ensures.back, t) e

pub returns-clause-goes : goal.returns-clause-goes
returns-clause-goes c =
    let s = c.args.self.now.0.now in
    let n = c.in_ok-start.start in
    let f = first_some s _ (IsFirst-from_position _ _ _ (λ x. is_blank x ≡ false) (λ x. is_blank x ≡ true) c.position.ensures.ran (YieldsList-from_slice s cc) (λ x q k. search (rules, tests)) (λ x q k. search (rules, tests))) n c.in_ok-start.was in
    let t = part_to_end s n in
    let b = next_bytes s n c.word_length.result f (rw t at c.word_length.ensures.value) in
    let l = length-drop n s in
    let k = rw t at c.split_at.ensures.back_len in
    record { on = λ _. (search rules, search rules, omega arith); keeps = search rules; rests = search rules }
