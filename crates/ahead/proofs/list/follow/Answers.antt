-- `ahead::list::follow` meets its contract. The loop's invariant: the first n of the path are listed, and what follows them by the link `to` is all
-- that follows.
use mathlib.Core.Path.{ap, ◌∙◌}
use borrow.Author.Rules.{rules}
use Rattle.route_graph.specs.declared.Object.{Object}
use Rattle.route_graph.specs.Objects.{object_at}
use Rattle.ahead.specs.Ways.{way_of}
use Rattle.ahead.proofs.Looking.{stood, begins, no_link, repeated, full, stops, goes_on_lem, ended_so}
use Rattle.ahead.proofs.list.follow.Goals as goal

pub loop-to-init : goal.loop-to-init
loop-to-init c = let a = c.args in
    begins (object_at a.g.now a.l) a.lies.now a.passed a.first a.path.now (search rules)

pub returns-then-to-eq0 : goal.returns-then-to-eq0
returns-then-to-eq0 c = ended_so _ _ _ _ c.ends.ensures (no_link _ _ _ _ _ _ _ _ c.loop-to.invariant c.if-to-eq0.true)

pub returns-then-passed-to : goal.returns-then-passed-to
returns-then-passed-to c = let h = c.loop-to in
    let a = c.args in
    let again = stood a.passed h.to _ _ c.stands_in.ensures in
    ended_so _ _ _ _ c.ends-then-passed-to.ensures (repeated _ _ _ _ _ _ _ _ h.invariant c.if-to-eq0.false _ again c.if-passed-to.true)

pub returns-then-n-eq-OBJECTS_MOST : goal.returns-then-n-eq-OBJECTS_MOST
returns-then-n-eq-OBJECTS_MOST c = let h = c.loop-to in
    let a = c.args in
    let again = stood a.passed h.to _ _ c.stands_in.ensures in
    ended_so _ _ _ _ c.ends-then-n-eq-OBJECTS_MOST.ensures (full _ _ _ _ _ _ _ _ h.invariant c.if-to-eq0.false _ again c.if-passed-to.false c.if-n-eq-OBJECTS_MOST.true)

pub returns-in-Err : goal.returns-in-Err
returns-in-Err c = let h = c.loop-to in
    let a = c.args in
    let way = c.way_of.ensures ∙ ap (λ (o : Object). way_of o h.from a.lies.now) c.object_at.ensures in
    let again = stood a.passed h.to _ _ c.stands_in.ensures in
    ended_so _ _ _ _ c.ends-in-Err.ensures (stops _ _ _ _ _ _ _ _ h.invariant c.if-to-eq0.false _ again c.if-passed-to.false c.if-n-eq-OBJECTS_MOST.false _ way _ c.in-Err.is)

pub loop-to-preserved : goal.loop-to-preserved
loop-to-preserved c = let h = c.loop-to in
    let a = c.args in
    let way = c.way_of.ensures ∙ ap (λ (o : Object). way_of o h.from a.lies.now) c.object_at.ensures in
    let again = stood a.passed h.to _ _ c.stands_in.ensures in
    goes_on_lem _ _ _ _ _ _ _ _ h.invariant c.if-to-eq0.false _ again c.if-passed-to.false c.if-n-eq-OBJECTS_MOST.false _ way _ c.in-Ok.is
