-- `x1_questions::stretch::along` meets its contract. The two sums are small, so the machine reads them back as they are; inside the
-- limits rounding always answers.
use Rattle.rounding.proofs.Answers.{never_outside, given_read}
use Rattle.x1_questions.proofs.Sums.{summed}
use Rattle.x1_questions.proofs.stretch.along.Goals as goal

pub returns-in_default : goal.returns-in_default
returns-in_default c = absurd (never_outside c.requires (summed _ _ _ _ c.sum_of-y0.result c.sum_of-y0.ensures) (summed _ _ _ _ c.sum_of-y1.result c.sum_of-y1.ensures) c.coordinate.ensures
    c.in_default.is)

pub returns : goal.returns
returns c = given_read c.requires (summed _ _ _ _ c.sum_of-y0.result c.sum_of-y0.ensures) (summed _ _ _ _ c.sum_of-y1.result c.sum_of-y1.ensures) c.coordinate.ensures
    c.in-Some.is
