-- `c_values::load::state_in` meets its contract: each value is read at its place.
use Rattle.c_values.specs.Load.{state_in}
use borrow.Author.Rules.{rules}
use Rattle.c_values.proofs.load.state_in.Goals as goal

pub returns : goal.returns
unfolding state_in
returns c = simp (
  c.u32_at-7.ensures.is,
  c.u32_at-6.ensures.is,
  c.u32_at-5.ensures.is,
  c.u32_at-4.ensures.is,
  c.u32_at-3.ensures.is,
  c.u32_at-2.ensures.is,
  c.u32_at.ensures.is,
)
