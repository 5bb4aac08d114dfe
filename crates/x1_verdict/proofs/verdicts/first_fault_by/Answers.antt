-- `x1_verdict::verdicts::first_fault_by` meets its contract: the file is no longer than the most, and its points have a size.
use native.Mathlib.Omega.{arith}
use Rattle.rules.proofs.Length.{length_held}
use Rattle.envelope.specs.Seal.{most_length}
use Rattle.x1_records.specs.Places.{least_length}
use Rattle.x1_records.proofs.Whole.{size_positive}
use Rattle.x1_layout.specs.Layout.{structure_of}
use Rattle.x1_verdict.proofs.verdicts.first_fault_by.Goals as goal

pub sized_fault-requires : goal.sized_fault-requires
sized_fault-requires c = let f = c.args.f.now in
    let h = length_held f least_length most_length _ c.length_between.ensures c.in_ok-length_between.was in
    (omega arith, omega (arith, size_positive (structure_of f), c.size_of.ensures))
