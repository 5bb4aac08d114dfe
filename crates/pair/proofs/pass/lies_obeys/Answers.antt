-- `pair::pass::lies_obeys` meets its contract.
use Prim.Native.Nat.{ℕ, ◌+◌}
use mathlib.Core.Path.{sym, ap, ◌∙◌}
use mathlib.Core.Bool.{true≢false}
use Rattle.octets.specs.Octets.{num_at}
use Rattle.x1_lookup.specs.Lookup.{find_track}
use Rattle.pair.proofs.Passing.{lies_passed}
use borrow.Author.Rules.{rules}
use Rattle.pair.proofs.pass.lies_obeys.Goals as goal

pub returns-then-g-p : goal.returns-then-g-p
returns-then-g-p c = λ e. absurd (true≢false (sym e))

pub returns : goal.returns
returns c = let a = c.args in
    let f = a.f.now in
    let g = a.g.now in
    λ e.
    lies_passed f g a.at (a.at + a.track.0) (a.at + a.position.0)
    (c.track_at.ensures ∙ ap (λ (t : ℕ). find_track f (num_at 1 g t)) c.place_of.ensures)
    (c.u32_at.ensures.is ∙ ap (num_at 4 g) c.place_of-p.ensures)
    (c.reaches.ensures e)
