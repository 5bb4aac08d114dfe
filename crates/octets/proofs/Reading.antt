-- One law for every width: a number is its first byte and the number after it. Past the end there is nothing but 0, so a number whose last
-- byte lies there is that of one byte fewer.
use mathlib.Core.Path.{◌≡◌, refl, sym, ap, ap₂, ◌∙◌}
use mathlib.Core.List.{List}
use Prim.Native.Nat.{ℕ, zero, suc, ◌+◌, ◌*◌, ◌^◌, ◌≤◌, ◌<◌}
use native.Mathlib.Nat.{pow-suc}
use native.Mathlib.Omega.{arith}
use lib.ListN.{get_or, length, get_or-eq_default}
use Rattle.octets.specs.Octets.{num_at, Is}

pub one : (s : List ℕ) (i : ℕ) → get_or s i 0 < 256 → Is 1 s i (get_or s i 0)
unfolding num_at
one s i h = record { is = omega arith; below = h }

pub more : (n : ℕ) (s : List ℕ) (i a b : ℕ) → Is 1 s i a → Is n s (i + 1) b → Is (suc n) s i (a + 256 * b)
unfolding num_at
more n s i a b p q =
    let e : a ≡ get_or s i 0 = omega (arith, p.is) in
    record {
      is = ap₂ (λ (x y : ℕ). x + 256 * y) e q.is;
      below = omega (arith, pow-suc 256 n, p.below, q.below);
    }

num_past : (n : ℕ) (s : List ℕ) (i : ℕ) → length s ≤ i → num_at n s i ≡ 0
unfolding num_at
num_past zero s i h = refl
num_past (suc n) s i h = omega (arith, get_or-eq_default s 0 h, num_past n s (i + 1) (omega arith))

pub past : (n : ℕ) (s : List ℕ) (i : ℕ) → length s ≤ i → 0 < 256 ^ n → Is n s i 0
past n s i h z = record { is = sym (num_past n s i h); below = z }

-- a last byte past the end adds nothing
num_short : (n : ℕ) (s : List ℕ) (i : ℕ) → length s ≤ i + n → num_at (suc n) s i ≡ num_at n s i
unfolding num_at
num_short zero s i h = num_past 1 s i (omega arith)
num_short (suc n) s i h = ap (λ (x : ℕ). get_or s i 0 + 256 * x) (num_short n s (i + 1) (omega arith))

pub short : (n : ℕ) (s : List ℕ) (i r : ℕ) → length s ≤ i + n → Is n s i r → Is (suc n) s i r
short n s i r h p = record {
  is = p.is ∙ sym (num_short n s i h);
  below = omega (arith, pow-suc 256 n, p.below);
}
