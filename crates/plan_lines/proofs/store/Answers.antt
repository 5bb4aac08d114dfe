-- `plan_lines::store` meets its contract.
use Rattle.std.proofs.Common.{◌∙◌, ap}
use Rattle.std.specs.Option.{unwrap_or}
use Rattle.plan_lines.proofs.Stores.{word_room, stored_word, stored_end}
use Rattle.plan_lines.proofs.store.Goals as goal

pub bounds-out-k : goal.bounds-out-k
bounds-out-k c = let s = c.in-Some.ensures.steps in rw s.1 (word_room _ _ _ _ _ c.loop-k.invariant _ _ s.0)

pub loop-k-preserved : goal.loop-k-preserved
loop-k-preserved c =
    let s = c.in-Some.ensures.steps in
    rw (s.1, s.2) (stored_word _ _ _ _ _ c.loop-k.invariant _ _ s.0 _ (c.unwrap_or.ensures ∙ ap (λ o. unwrap_or o 0) c.offset.ensures))

pub returns : goal.returns
returns c = stored_end _ _ _ _ _ c.loop-k.invariant c.in-None.ensures.steps.0.0 c.requires.text_in_bounds
