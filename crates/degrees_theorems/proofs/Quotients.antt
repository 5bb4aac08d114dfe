-- A quotient of two numbers, by any fractions that they equal: it is the quotient of the fractions, rounded.
use Prim.Native.Nat.{ℕ, zero, suc, ◌*◌, ◌<◌}
use native.Mathlib.Nat.{mul-mul-mul_comm, mul_comm, mul-pos, lt_irrefl}
use mathlib.Core.Path.{◌≡◌, sym, ap, ap₂, ◌∙◌}
use mathlib.Core.Bool.{Bool, true, false, true≢false}
use lib.IntN.{ℤ}
use lib.Dec.{ltb→lt, eqb-suc-zero}
use lib.Ieee.{Float, fin, Format, up, down, round, div, inf, nan}
use lib.Ieee.Exact.{HasValue}
use lib.Ieee.Fits.{up_pos, down_pos}
use lib.Ieee.Positive.{positive_of_value}
use lib.Ieee.Scale.{round_same}

-- M / E is a / c, and N / D is b / d: so M / E by N / D is a / c by b / d
cross : (M E N D a c b d : ℕ) → M * c ≡ a * E → N * d ≡ b * D → M * D * (b * c) ≡ a * d * (N * E)
cross M E N D a c b d p q =
    ap (λ (x : ℕ). M * D * x) (mul_comm b c)
    ∙ mul-mul-mul_comm M D c b
    ∙ ap₂ ◌*◌ p (mul_comm D b ∙ sym q ∙ mul_comm N d)
    ∙ mul-mul-mul_comm a E d N
    ∙ ap (λ (x : ℕ). a * d * x) (mul_comm E N)

pub div_is : (f : Format) (s : Bool) (m : ℕ) (e : ℤ) (n : ℕ) (g : ℤ) → 0 < n
    → div f (fin s m e) (fin false n g) ≡ round f s (m * up e * down g) (n * up g * down e)
unfolding div
div_is f s m e zero g h = absurd (lt_irrefl 0 h)
div_is f true m e (suc n) g h = rw (eqb-suc-zero n)
div_is f false m e (suc n) g h = rw (eqb-suc-zero n)

pub div_at : (f : Format) (x y : Float) (s : Bool) (a c b d : ℕ) → 0 < c → 0 < b → 0 < d → HasValue x s a c → HasValue y false b d
    → div f x y ≡ round f s (a * d) (b * c)
div_at f (fin t m e) (fin true n g) s a c b d C B D h k = absurd (true≢false k.0)
div_at f (fin t m e) (fin false n g) s a c b d C B D h k =
    let some : 0 < n = ltb→lt 0 n (positive_of_value (fin false n g) b d k B) in
    div_is f t m e n g some
    ∙ round_same f t (m * up e * down g) (n * up g * down e) (a * d) (b * c) (mul-pos (mul-pos some (up_pos g)) (down_pos e)) (mul-pos B C)
    (cross (m * up e) (down e) (n * up g) (down g) a c b d h.1 k.1)
    ∙ ap (λ (z : Bool). round f z (a * d) (b * c)) h.0
div_at f nan y s a c b d C B D h k = elim h [ ]
div_at f (inf _) y s a c b d C B D h k = elim h [ ]
div_at f (fin t m e) nan s a c b d C B D h k = elim k [ ]
div_at f (fin t m e) (inf _) s a c b d C B D h k = elim k [ ]
