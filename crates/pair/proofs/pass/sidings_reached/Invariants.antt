-- `pair::pass::sidings_reached` meets its contract.
use Prim.Native.Nat.{ℕ, ◌-◌}
use mathlib.Core.Path.{refl, ap, ◌∙◌}
use native.Mathlib.Omega.{arith}
use Rattle.octets.specs.Octets.{num_at}
use Rattle.x1_lookup.specs.Lookup.{find_track}
use Rattle.x2_records.specs.declared.Kind.TheVariants as kind
use Rattle.x2_layout.specs.Records.{size_of}
use Rattle.pair.proofs.Passing.{Reached, reached_none, reached-more, stands_passed}
use borrow.Author.Rules.{rules}
use mathlib.Core.Bool.{not}
use Rattle.pair.proofs.pass.sidings_reached.Given as goal

abbrev pub invariant-loop-at : goal.invariant-loop-at
invariant-loop-at l = Reached l.f l.g kind.Siding l.from l.until l.at

abbrev pub decreases-loop-at : goal.decreases-loop-at
decreases-loop-at l = l.until - l.at
