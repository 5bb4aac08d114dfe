-- `x1_verdict::pass::all_obey` meets its contract.
use mathlib.Core.Path.{sym, ◌∙◌}
use Rattle.x1_verdict.proofs.Passing.{all_passed}
use Rattle.x1_verdict.proofs.pass.all_obey.Goals as goal

pub returns-then-is_ok-2 : goal.returns-then-is_ok-2
returns-then-is_ok-2 c = λ h.
    let a = c.args in
    all_passed a.f.now a.size c.header_fields.result c.entries_fields.result c.header_fields.ensures (sym c.is_ok.ensures.value ∙ c.if-is_ok.true)
    c.entries_fields.ensures (sym c.is_ok-then-is_ok.ensures.value ∙ c.if-is_ok-2.true) (c.tracks_pass.ensures h)
