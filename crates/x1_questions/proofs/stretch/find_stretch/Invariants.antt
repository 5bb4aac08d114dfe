-- `x1_questions::stretch::find_stretch` meets its contract. The invariant: the search among the points from p on answers what the search
-- among all of them does.
use mathlib.Core.Path.{◌≡◌}
use Rattle.verdict.specs.Walk.{starts_from}
use Rattle.x1_layout.specs.Layout.{last_of}
use Rattle.x1_lookup.specs.Lookup.{first_where}
use Rattle.x1_questions.specs.Stretch.{reaches, stretch_of}
use Rattle.x1_questions.proofs.stretch.find_stretch.Given as goal

abbrev pub invariant-loop-p : goal.invariant-loop-p
invariant-loop-p l = first_where (reaches l.f l.size l.x) (starts_from (λ _. l.size) (last_of l.f l.e) l.p) ≡ stretch_of l.f l.size l.e l.x
