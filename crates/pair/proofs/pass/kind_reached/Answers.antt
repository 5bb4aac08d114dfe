-- `pair::pass::kind_reached` meets its contract.
use mathlib.Core.Path.{ap}
use Rattle.x2_records.specs.declared.Kind.{Kind}
use Rattle.pair.specs.Pair.{record_pair}
use Rattle.pair.proofs.Passing.{sort_small, sort_is}
use borrow.Author.Rules.{rules}
use Rattle.pair.proofs.pass.kind_reached.Goals as goal

pub sort_reached-requires : goal.sort_reached-requires
sort_reached-requires c = (c.requires.0, λ at. ap (λ (k : Kind). record_pair c.args.f.now c.args.g.now k at) c.in-StartBoundary.is, sort_small c.requires.1 c.requires.2)

pub sort_reached-requires-in-EndBoundary : goal.sort_reached-requires-in-EndBoundary
sort_reached-requires-in-EndBoundary c = (c.requires.0, λ at. ap (λ (k : Kind). record_pair c.args.f.now c.args.g.now k at) c.in-EndBoundary.is, sort_small c.requires.1 c.requires.2)

pub turnouts_reached-requires : goal.turnouts_reached-requires
turnouts_reached-requires c = (c.requires.0, sort_small c.requires.1 c.requires.2)

pub sort_reached-requires-in-Balise : goal.sort_reached-requires-in-Balise
sort_reached-requires-in-Balise c = (c.requires.0, λ at. ap (λ (k : Kind). record_pair c.args.f.now c.args.g.now k at) c.in-Balise.is, sort_small c.requires.1 c.requires.2)

pub sort_reached-requires-in-Signal : goal.sort_reached-requires-in-Signal
sort_reached-requires-in-Signal c = (c.requires.0, λ at. ap (λ (k : Kind). record_pair c.args.f.now c.args.g.now k at) c.in-Signal.is, sort_small c.requires.1 c.requires.2)

pub sort_reached-requires-in-Joint : goal.sort_reached-requires-in-Joint
sort_reached-requires-in-Joint c = (c.requires.0, λ at. ap (λ (k : Kind). record_pair c.args.f.now c.args.g.now k at) c.in-Joint.is, sort_small c.requires.1 c.requires.2)

pub sidings_reached-requires : goal.sidings_reached-requires
sidings_reached-requires c = (c.requires.0, sort_small c.requires.1 c.requires.2)

pub returns-in-StartBoundary : goal.returns-in-StartBoundary
returns-in-StartBoundary c = c.sort_reached.ensures c.args.l c.requires.2 c.requires.3

pub returns-in-EndBoundary : goal.returns-in-EndBoundary
returns-in-EndBoundary c = c.sort_reached-in-EndBoundary.ensures c.args.l c.requires.2 c.requires.3

pub returns-in-Turnout : goal.returns-in-Turnout
returns-in-Turnout c = c.turnouts_reached.ensures c.args.l (sort_is c.in-Turnout.is c.requires.2) c.requires.3

pub returns-in-Balise : goal.returns-in-Balise
returns-in-Balise c = c.sort_reached-in-Balise.ensures c.args.l c.requires.2 c.requires.3

pub returns-in-Signal : goal.returns-in-Signal
returns-in-Signal c = c.sort_reached-in-Signal.ensures c.args.l c.requires.2 c.requires.3

pub returns-in-Joint : goal.returns-in-Joint
returns-in-Joint c = c.sort_reached-in-Joint.ensures c.args.l c.requires.2 c.requires.3

pub returns-in-Siding : goal.returns-in-Siding
returns-in-Siding c = c.sidings_reached.ensures c.args.l (sort_is c.in-Siding.is c.requires.2) c.requires.3
