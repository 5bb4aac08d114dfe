-- The steps are linear in the register and the byte together: what two registers and two bytes make apart, their exclusive or makes at
-- once. So it is with the move up by one place, with the polynomial that is taken off no times or once, and with the bit that enters;
-- the bits follow one after the other, in whatever order. And while no one reaches the high end, an empty byte only moves the register up.
use mathlib.Core.Path.{◌≡◌, refl, sym, ap, ap₂, ◌∙◌}
use mathlib.Core.List.{List, [], ◌∷◌}
use Prim.Native.Nat.{ℕ, suc, ◌*◌, ◌/◌, ◌%◌, ◌^◌, ◌-◌, ◌≤◌, ◌<◌}
use native.Mathlib.Nat.{zero-div, mul-one, mul_assoc, mul_comm, pow-suc, mul-le-mul_left}
use native.Mathlib.Omega.{arith}
use lib.ListN.{length}
use lib.Pow.{pow_pos}
use lib.Bits.{bit_xor, xor_lt, xor_shr, xor_self}
use Rattle.checksum.specs.Checksum.{polynomial, width, ones, top, step, bit_step, bit_steps}
use Rattle.checksum.proofs.Xor.{xor_four, xor_shift, xor_bits, xor_times}

pub step_lt : (r : ℕ) → r < 2 ^ width → step r < 2 ^ width
unfolding step
step_lt r p =
    let off : top r * ones polynomial / 2 ^ width ≡ top r = omega arith in
    let up : r * 2 / 2 ^ width ≡ top r = omega arith in
    omega (arith, xor_shr (top r * ones polynomial) (r * 2) width ∙ ap₂ bit_xor off up ∙ xor_self (top r))

pub step_xor : (a b : ℕ) → a < 2 ^ width → b < 2 ^ width → step (bit_xor a b) ≡ bit_xor (step a) (step b)
unfolding step
step_xor a b p q =
    ap₂ bit_xor
    (ap (λ (t : ℕ). t * ones polynomial) (xor_shr a b (width - 1)) ∙ xor_times (ones polynomial) (top a) (top b) (omega arith) (omega arith))
    (sym (xor_shift 1 a b))
    ∙ xor_four (top a * ones polynomial) (top b * ones polynomial) (a * 2) (b * 2)

enters_lt : (r d : ℕ) → r < 2 ^ width → d < 2 → bit_xor (d * 2 ^ (width - 1)) r < 2 ^ width
enters_lt r d p q = xor_lt width (d * 2 ^ (width - 1)) r (omega arith) p

bit_lt : (r d : ℕ) → r < 2 ^ width → d < 2 → bit_step r d < 2 ^ width
unfolding bit_step
bit_lt r d p q = step_lt (bit_xor (d * 2 ^ (width - 1)) r) (enters_lt r d p q)

bit_xor_lem : (r q d e : ℕ) → r < 2 ^ width → q < 2 ^ width → d < 2 → e < 2
    → bit_step (bit_xor r q) (bit_xor d e) ≡ bit_xor (bit_step r d) (bit_step q e)
unfolding bit_step
bit_xor_lem r q d e hr hq hd he =
    let in_place : ℕ → ℕ = λ x. x * 2 ^ (width - 1) in
    ap step (ap (λ (x : ℕ). bit_xor x (bit_xor r q)) (sym (xor_shift (width - 1) d e)) ∙ xor_four (in_place d) (in_place e) r q)
    ∙ step_xor (bit_xor (in_place d) r) (bit_xor (in_place e) q) (enters_lt r d hr hd) (enters_lt q e hq he)

pub bits_lt : (ks : List ℕ) (r b : ℕ) → r < 2 ^ width → bit_steps ks r b < 2 ^ width
unfolding bit_steps
bits_lt [] r b p = p
bits_lt (k ∷ ks) r b p = bits_lt ks (bit_step r (b / 2 ^ k % 2)) b (bit_lt r (b / 2 ^ k % 2) p (omega arith))

pub bits_xor : (ks : List ℕ) (r q a b : ℕ) → r < 2 ^ width → q < 2 ^ width
    → bit_steps ks (bit_xor r q) (bit_xor a b) ≡ bit_xor (bit_steps ks r a) (bit_steps ks q b)
unfolding bit_steps
bits_xor [] r q a b hr hq = refl
bits_xor (k ∷ ks) r q a b hr hq =
    let d : ℕ = a / 2 ^ k % 2 in
    let e : ℕ = b / 2 ^ k % 2 in
    let hd : d < 2 = omega arith in
    let he : e < 2 = omega arith in
    ap (λ (x : ℕ). bit_steps ks x (bit_xor a b)) (ap (bit_step (bit_xor r q)) (xor_bits 1 k a b) ∙ bit_xor_lem r q d e hr hq hd he)
    ∙ bits_xor ks (bit_step r d) (bit_step q e) a b (bit_lt r d hr hd) (bit_lt q e hq he)

pub step_low : (r : ℕ) → r < 2 ^ (width - 1) → step r ≡ r * 2
unfolding step
step_low r p =
    let none : top r * ones polynomial ≡ 0 = omega arith in
    ap (λ (x : ℕ). bit_xor x (r * 2)) none

pub bits_low : (ks : List ℕ) (r : ℕ) → r * 2 ^ length ks < 2 ^ width → bit_steps ks r 0 ≡ r * 2 ^ length ks
unfolding bit_steps bit_step
bits_low [] r p = sym (mul-one r)
bits_low (k ∷ ks) r p =
    let n : ℕ = length ks in
    let more : r * 2 * 2 ^ n ≡ r * 2 ^ suc n = mul_assoc r 2 (2 ^ n) ∙ ap (λ (x : ℕ). r * x) (mul_comm 2 (2 ^ n) ∙ sym (pow-suc 2 n)) in
    let least : r * 2 * 1 ≤ r * 2 * 2 ^ n = mul-le-mul_left (r * 2) (pow_pos n) in
    let none : 0 / 2 ^ k % 2 ≡ 0 = ap (λ (x : ℕ). x % 2) (zero-div (2 ^ k)) in
    ap (λ (d : ℕ). bit_steps ks (bit_step r d) 0) none
    ∙ ap (λ (x : ℕ). bit_steps ks x 0) (step_low r (omega arith))
    ∙ bits_low ks (r * 2) (omega arith)
    ∙ more
