-- The pass of `route_lister::Flat` is a lister's: the boundary alone is the first walk, and `take_up` finds the others.
use mathlib.Core.Path.{refl}
use borrow.Author.Rules.{rules}
use Rattle.route_lister.specs.inner.Marks.{cells}
use Rattle.route_lister.proofs.Marking.{marked_one}
use Rattle.route_lister.proofs.Whole.{passes_through}
use Rattle.route_lister.proofs.flat.FlatLister.pass.Goals as goal

pub take_up-requires : goal.take_up-requires
take_up-requires c = (c.requires, search rules, marked_one cells _ refl, record { objects_are = search rules; links_are = search rules })

pub returns : goal.returns
returns c = passes_through _ _ _ _ _ _ _ _ _ _ _ c.ends_of-e.ensures c.object_at.ensures c.edge_link-first.ensures c.requires.least c.take_up.ensures
