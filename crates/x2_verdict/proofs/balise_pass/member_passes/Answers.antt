-- `x2_verdict::balise_pass::member_passes` meets its contract: each part of the two group bytes in turn.
use mathlib.Core.Path.{◌∙◌, sym}
use borrow.Author.Tests.{ltb-true}
use native.Mathlib.Omega.{arith}
use Rattle.x2_verdict.proofs.Balises.{member_right}
use Rattle.x2_verdict.proofs.balise_pass.member_passes.Goals as goal

pub returns : goal.returns
returns c = λ e.
    let a = c.args in
    member_right a.f.now a.from a.before a.at c.byte_of-group.result c.byte_of-other.result c.byte_of-group.ensures.is c.byte_of-other.ensures.is
    c.if-before-from.false c.if-at-before.false
    (sym c.bits_of.ensures ∙ c.if-bits_of-ne0.false)
    (omega (arith, c.if-count_of-rank_of.false, c.rank_of.ensures, c.count_of.ensures))
    (sym c.count_of-2.ensures ∙ c.if-count_of.false ∙ c.count_of-3.ensures)
    (omega (arith, ltb-true c.rank_of-2.result c.rank_of-3.result e, c.rank_of-2.ensures, c.rank_of-3.ensures))
