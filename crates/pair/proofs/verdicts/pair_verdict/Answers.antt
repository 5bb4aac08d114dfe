-- `pair::verdicts::pair_verdict` meets its contract: of an accepted X.2 the layout is the one that the pair's facts ask for.
use mathlib.Core.Path.{◌∙◌, sym}
use Rattle.x2_verdict.proofs.Questions.{accepted_bounded, accepted_regions}
use borrow.Author.Rules.{rules}
use Rattle.pair.proofs.verdicts.pair_verdict.Goals as goal

pub check_pair-requires : goal.check_pair-requires
check_pair-requires c = let a = c.args in
    let asked = c.verdict_of-w.ensures in
    let accepted = c.in-Ok-w.is in (
      sym c.verdict_of-v.ensures ∙ c.in-Ok.is,
      accepted_bounded a.second.now 0 _ asked accepted _ c.layout_of.ensures.value,
      accepted_regions a.second.now 0 _ asked accepted _ c.layout_of.ensures.value,
    )
