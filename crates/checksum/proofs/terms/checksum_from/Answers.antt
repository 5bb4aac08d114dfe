-- `checksum::terms::checksum_from` meets its contract: the definition is the fold of the byte's step.
use Rattle.std.proofs.Common.{rules, ◌∙◌}
use Rattle.std.proofs.lemmas.Iterator.{YieldsList-from_slice}
use Rattle.std.proofs.lemmas.Iterator.Consumers.{fold_from_yields_List}
use Rattle.checksum.specs.Checksum.{byte_step}
use Rattle.checksum.proofs.Walk.{from_fold}
use Rattle.checksum.proofs.terms.checksum_from.Goals as goal

pub returns : goal.returns
returns c =
    fold_from_yields_List _ byte_step _ _ c.fold.ensures.ran (YieldsList-from_slice c.args.s.now cc) (λ a x b q k. search rules)
    ∙ from_fold c.args.s.now c.args.register
