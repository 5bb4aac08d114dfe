-- Exclusive or, where the kit's laws of `bit_xor` stop: it associates, products with a power of two pass through it, and so do the bits
-- from a place on and a number taken no times or once. It associates because the last digits of both sides have the same parity, and the
-- digits before them follow by induction.
use mathlib.Core.Path.{◌≡◌, refl, sym, ap, ap₂, ◌∙◌}
use Prim.Native.Nat.{ℕ, zero, suc, ◌+◌, ◌*◌, ◌/◌, ◌%◌, ◌^◌, ◌<◌}
use native.Mathlib.Nat.{add_assoc, add-zero, zero-mul}
use native.Mathlib.Omega.{arith}
use lib.Arith.{bin_ind}
use lib.Pow.{pow_pos}
use lib.Bits.{bit_xor, differ, xor_step, xor_shr, xor_mod, xor_comm, xor_block, xor_self, xor_zero_r}

differ_sum : (x y : ℕ) → x < 2 → y < 2 → differ x y ≡ (x + y) % 2
differ_sum zero y hx hy = omega arith
differ_sum (suc zero) zero hx hy = refl
differ_sum (suc zero) (suc zero) hx hy = refl
differ_sum (suc zero) (suc (suc y)) hx hy = omega arith
differ_sum (suc (suc x)) y hx hy = omega arith

xor_digits : (a b : ℕ) → bit_xor a b ≡ bit_xor (a / 2) (b / 2) * 2 + (a % 2 + b % 2) % 2
xor_digits a b = xor_step a b ∙ ap (λ (d : ℕ). bit_xor (a / 2) (b / 2) * 2 + d) (differ_sum (a % 2) (b % 2) (omega arith) (omega arith))

xor_odd : (a b : ℕ) → bit_xor a b % 2 ≡ (a % 2 + b % 2) % 2
xor_odd a b = omega (arith, xor_digits a b)

drop-left : (a z : ℕ) → (a % 2 + z) % 2 ≡ (a + z) % 2
drop-left a z = omega arith

drop_right : (x a : ℕ) → (x + a % 2) % 2 ≡ (x + a) % 2
drop_right x a = omega arith

parity : (x y z : ℕ) → ((x % 2 + y % 2) % 2 + z % 2) % 2 ≡ (x % 2 + (y % 2 + z % 2) % 2) % 2
parity x y z =
    drop-left (x % 2 + y % 2) (z % 2) ∙ ap (λ (n : ℕ). n % 2) (add_assoc (x % 2) (y % 2) (z % 2)) ∙ sym (drop_right (x % 2) (y % 2 + z % 2))

pub xor_assoc : (a b c : ℕ) → bit_xor (bit_xor a b) c ≡ bit_xor a (bit_xor b c)
xor_assoc =
    bin_ind (λ (n : ℕ). (b c : ℕ) → bit_xor (bit_xor n b) c ≡ bit_xor n (bit_xor b c)) (λ b c. refl)
    (λ n ih b c.
    xor_digits (bit_xor n b) c
    ∙ ap₂ (λ (x y : ℕ). bit_xor x (c / 2) * 2 + (y + c % 2) % 2) (xor_shr n b 1) (xor_odd n b)
    ∙ ap₂ (λ (x y : ℕ). x * 2 + y) (ih (b / 2) (c / 2)) (parity n b c)
    ∙ sym (ap₂ (λ (x y : ℕ). bit_xor (n / 2) x * 2 + (n % 2 + y) % 2) (xor_shr b c 1) (xor_odd b c))
    ∙ sym (xor_digits n (bit_xor b c)))

-- the inner two of four change places
pub xor_four : (a b c d : ℕ) → bit_xor (bit_xor a b) (bit_xor c d) ≡ bit_xor (bit_xor a c) (bit_xor b d)
xor_four a b c d =
    xor_assoc a b (bit_xor c d)
    ∙ ap (bit_xor a) (sym (xor_assoc b c d) ∙ ap (λ (x : ℕ). bit_xor x d) (xor_comm b c) ∙ xor_assoc c b d)
    ∙ sym (xor_assoc a c (bit_xor b d))

-- what stands there twice is gone
pub xor_twice : (a b : ℕ) → bit_xor a (bit_xor b a) ≡ b
xor_twice a b = ap (bit_xor a) (xor_comm b a) ∙ sym (xor_assoc a a b) ∙ ap (λ (x : ℕ). bit_xor x b) (xor_self a)

pub xor_shift : (k a b : ℕ) → bit_xor (a * 2 ^ k) (b * 2 ^ k) ≡ bit_xor a b * 2 ^ k
xor_shift k a b =
    ap₂ bit_xor (sym (add-zero (a * 2 ^ k))) (sym (add-zero (b * 2 ^ k)))
    ∙ xor_block k a b 0 0 (pow_pos k) (pow_pos k)
    ∙ add-zero (bit_xor a b * 2 ^ k)

-- the n bits from the place k on
pub xor_bits : (n k a b : ℕ) → bit_xor a b / 2 ^ k % 2 ^ n ≡ bit_xor (a / 2 ^ k % 2 ^ n) (b / 2 ^ k % 2 ^ n)
xor_bits n k a b = ap (λ (x : ℕ). x % 2 ^ n) (xor_shr a b k) ∙ xor_mod (a / 2 ^ k) (b / 2 ^ k) n

-- m, no times or once
pub xor_times : (m d e : ℕ) → d < 2 → e < 2 → bit_xor d e * m ≡ bit_xor (d * m) (e * m)
xor_times m zero e p q = sym (ap (λ (x : ℕ). bit_xor x (e * m)) (zero-mul m))
xor_times m (suc zero) zero p q = sym (ap (bit_xor (1 * m)) (zero-mul m) ∙ xor_zero_r (1 * m))
xor_times m (suc zero) (suc zero) p q = zero-mul m ∙ sym (xor_self (1 * m))
xor_times m (suc zero) (suc (suc e)) p q = omega arith
xor_times m (suc (suc d)) e p q = omega arith
