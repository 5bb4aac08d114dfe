-- `x1_lookup::presence::ones_below` meets its contract.
use Prim.Native.Nat.{ℕ, ◌≤◌, ◌%◌, ◌^◌}
use mathlib.Core.Path.{sym, ap, subst}
use native.Mathlib.Nat.{mod-le, lt_of_le_of_lt}
use lib.Count.{ones, ones-le}
use lib.Pow.{pow_pos}
use Rattle.x1_lookup.proofs.Ones.{shl_one, below_bit}
use Rattle.x1_lookup.proofs.presence.ones_below.Goals as goal

pub overflow_sub-result : goal.overflow_sub-result
overflow_sub-result c = subst (λ (m : ℕ). 1 ≤ m) (sym (shl_one c.args.k c.requires)) (pow_pos c.args.k)

pub returns : goal.returns
returns c = let e = below_bit c.args.word c.args.k c.requires in
    record {
      is = ap ones e;
      small = subst (λ (m : ℕ). ones m ≤ 64) (sym e) (ones-le 64 (c.args.word % 2 ^ c.args.k) (lt_of_le_of_lt (mod-le c.args.word (2 ^ c.args.k)) c.ranges.word.fits));
    }
