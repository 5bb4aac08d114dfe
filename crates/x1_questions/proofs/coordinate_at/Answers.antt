-- `x1_questions::coordinate_at` meets its contract. The stretch that is found keeps rounding's limits, since the track obeys.
use mathlib.Core.Path.{sym, ◌∙◌}
use Rattle.x1_questions.proofs.Stretches.{on_found_lem}
use Rattle.x1_questions.proofs.Questions.{beyond_end, no_stretch, along_stretch}
use Rattle.x1_questions.proofs.coordinate_at.Goals as goal

pub returns-then-number_of-x : goal.returns-then-number_of-x
returns-then-number_of-x c = beyond_end _ _ _ _ c.number_of.ensures.is c.if-number_of-x.true c.refusal.ensures

pub returns-in_default : goal.returns-in_default
returns-in_default c = no_stretch _ _ _ _ c.number_of.ensures.is c.if-number_of-x.false c.find_stretch-stretch.ensures c.in_default.is c.refusal-in_default.ensures

pub coordinate_on-requires : goal.coordinate_on-requires
coordinate_on-requires c = let a = c.args in
    on_found_lem a.f.now a.size a.e c.requires.0 c.requires.1 a.x _ (sym c.find_stretch-stretch.ensures ∙ c.in-Some.is)

pub returns : goal.returns
returns c = along_stretch _ _ _ _ c.number_of.ensures.is c.if-number_of-x.false c.find_stretch-stretch.ensures c.in-Some.is c.coordinate_on.ensures
