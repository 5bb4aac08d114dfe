-- What a fraction rounds to: never a NaN; a finite number of its own sign, where it is at most one; and the opposite number for the opposite
-- fraction.
use Prim.Native.Nat.{ℕ, zero, suc, ◌*◌, ◌^◌, ◌<◌}
use mathlib.Core.Path.{◌≡◌, refl, sym, ap, ◌∙◌, subst⁻¹, subst}
use mathlib.Core.Bool.{Bool, true, false, not, cond}
use lib.Dec.{T, ltb, ltb→lt}
use lib.Ieee.{Float, inf, fin, Format, prec, low, is_nan, odd, units, round, neg, le, nan}
use lib.Ieee.Exact.{HasValue, units_val}
use lib.Ieee.Fits.{round_is}
use lib.Ieee.Order.{kept, drop}
use lib.Ieee.Scale.{grid, overflow, finite}

-- ---- no NaN

odd_number : (d : ℕ) (s : Bool) (q k l : ℕ) → T (not (is_nan (odd d s q k l)))
unfolding odd is_nan
odd_number d s zero k l = tt
odd_number d s (suc q) k l = tt

units_number : (f : Format) (s : Bool) (q k : ℕ) → T (not (is_nan (units f s q k)))
unfolding units is_nan
units_number f s q k = go (ltb (q * 2 ^ k) (overflow f))
  where
    go : (b : Bool) → T (not (is_nan (cond b (odd (suc (prec f)) s q k (low f)) (inf s))))
    go true = odd_number (suc (prec f)) s q k (low f)
    go false = tt

pub round_number : (f : Format) (s : Bool) (a c : ℕ) → T (not (is_nan (round f s a c)))
round_number f s a c =
    let n = a * 2 ^ low f in
    subst⁻¹ (λ (x : Float). T (not (is_nan x))) (round_is f s a c) (units_number f s (kept (prec f) n c) (drop (prec f) n c))

-- ---- a finite number

-- what is at most a finite number did not overflow
units_under : (f : Format) (q k : ℕ) (y : Float) → T (finite y) → T (le (units f false q k) y) → q * 2 ^ k < overflow f
unfolding units le
units_under f q k (fin t n d) p = go (ltb (q * 2 ^ k) (overflow f)) (ltb→lt (q * 2 ^ k) (overflow f))
  where
    go : (b : Bool) → (T b → q * 2 ^ k < overflow f) → T (le (cond b (odd (suc (prec f)) false q k (low f)) (inf false)) (fin t n d)) → q * 2 ^ k < overflow f
    go true h l = h tt
    go false h l = absurd l
units_under f q k nan p = elim p [ ]
units_under f q k (inf _) p = elim p [ ]

pub under_of_le : (f : Format) (a c : ℕ) (y : Float) → T (finite y) → T (le (round f false a c) y) → grid f a c < overflow f
under_of_le f a c y p h =
    let n = a * 2 ^ low f in
    units_under f (kept (prec f) n c) (drop (prec f) n c) y p (subst (λ (x : Float). T (le x y)) (round_is f false a c) h)

pub round_value : (f : Format) (s : Bool) (a c : ℕ) → grid f a c < overflow f → HasValue (round f s a c) s (grid f a c) (2 ^ low f)
round_value f s a c h =
    let n = a * 2 ^ low f in
    subst⁻¹ (λ (x : Float). HasValue x s (grid f a c) (2 ^ low f)) (round_is f s a c) (units_val f s (kept (prec f) n c) (drop (prec f) n c) h)

pub value_finite : (x : Float) (s : Bool) (a c : ℕ) → HasValue x s a c → T (finite x)
value_finite (fin t m e) s a c h = tt
value_finite nan s a c h = elim h [ ]
value_finite (inf _) s a c h = elim h [ ]

-- ---- the opposite of a fraction, rounded

odd_neg : (d q k l : ℕ) → odd d true q k l ≡ neg (odd d false q k l)
unfolding odd neg
odd_neg d zero k l = refl
odd_neg d (suc q) k l = refl

units_neg : (f : Format) (q k : ℕ) → units f true q k ≡ neg (units f false q k)
unfolding units neg
units_neg f q k = go (ltb (q * 2 ^ k) (overflow f))
  where
    go : (b : Bool) → cond b (odd (suc (prec f)) true q k (low f)) (inf true) ≡ neg (cond b (odd (suc (prec f)) false q k (low f)) (inf false))
    go true = odd_neg (suc (prec f)) q k (low f)
    go false = refl

pub round_neg : (f : Format) (a c : ℕ) → round f true a c ≡ neg (round f false a c)
round_neg f a c =
    let n = a * 2 ^ low f in
    round_is f true a c ∙ units_neg f (kept (prec f) n c) (drop (prec f) n c) ∙ ap neg (sym (round_is f false a c))
