-- `degrees::bits_of` meets its contract: all that is no number has the same bits.
use mathlib.Core.Path.{◌≡◌, refl, sym, ◌∙◌}
use mathlib.Core.Bool.{true, false≢true}
use lib.Ieee.{Float, nan, inf, fin, binary64, is_nan, to_bits}
use Prim.Native.Nat.{ℕ}
use Rattle.degrees.proofs.bits_of.Goals as goal

no_number : (x : Float) → is_nan x ≡ true → ◌≡◌ {A = ℕ} 9221120237041090560 (to_bits binary64 x)
unfolding is_nan to_bits
no_number nan e = refl
no_number (inf s) e = absurd (false≢true e)
no_number (fin s m d) e = absurd (false≢true e)

pub returns-then-is_nan : goal.returns-then-is_nan
returns-then-is_nan c = no_number c.args.x (sym c.is_nan.ensures.value ∙ c.if-is_nan.true)
