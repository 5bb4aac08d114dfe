-- The pass of `route_lister::Nested` is a lister's: the boundary alone is the first walk, and `follow` opens the others.
use mathlib.Core.Path.{refl}
use borrow.Author.Rules.{rules}
use Rattle.route_lister.specs.inner.Marks.{cells}
use Rattle.route_lister.proofs.Marking.{marked_one}
use Rattle.route_lister.proofs.Whole.{passes_through}
use Rattle.route_lister.proofs.lister.NestedLister.pass.Goals as goal

pub follow-requires : goal.follow-requires
follow-requires c = record { sane = search rules; few = search rules; begun = search rules; room = search rules; small = search rules; marked = marked_one cells _ refl }

pub returns : goal.returns
returns c = passes_through _ _ _ _ _ _ _ _ _ _ _ c.ends_of-e.ensures c.object_at.ensures c.edge_link-first.ensures c.requires.least c.follow.ensures.grown
