-- The sum of five powers that the polynomial divides: what 341, 151, 95, 42 and no empty bytes make of a register is together nothing. Empty
-- bytes are linear, and a step before them is a step after them; so it is enough to see it of one register, the one whose last bit alone is
-- one (computed), since a register is a step of its half, and its last bit.
use mathlib.Core.Path.{◌≡◌, refl, sym, ap, ap₂, ◌∙◌}
use Prim.Native.Nat.{ℕ, zero, suc, ◌+◌, ◌*◌, ◌/◌, ◌%◌, ◌^◌, ◌<◌}
use native.Mathlib.Omega.{arith}
use lib.Arith.{bin_ind}
use lib.Bits.{bit_xor, xor_lt, xor_shifted}
use Rattle.checksum.specs.Checksum.{width, step, bit_step, bit_steps, byte_step}
use Rattle.checksum.specs.inner.Table.{empty_steps}
use Rattle.checksum.proofs.Xor.{xor_four}
use Rattle.checksum.proofs.Linear.{step_lt, step_xor, step_low}
use Rattle.checksum.proofs.Empty.{empty_xor, empty_lt, empty_zero}

-- a step before an empty byte is a step after it
byte_step_lem : (c : ℕ) → byte_step (step c) 0 ≡ step (byte_step c 0)
unfolding byte_step bit_steps bit_step
byte_step_lem c = refl

empty_step : (n c : ℕ) → empty_steps n (step c) ≡ step (empty_steps n c)
unfolding empty_steps
empty_step zero c = refl
empty_step (suc n) c = ap (empty_steps n) (byte_step_lem c) ∙ empty_step n (byte_step c 0)

-- five numbers together
abbrev pub five : ℕ → ℕ → ℕ → ℕ → ℕ → ℕ
five a b c d e = bit_xor a (bit_xor (bit_xor (bit_xor b c) d) e)

-- what the empty bytes make of a register, together
abbrev pub together : ℕ → ℕ
together c = five (empty_steps 341 c) (empty_steps 151 c) (empty_steps 95 c) (empty_steps 42 c) c

-- the register whose last bit alone is one, and the empty one
one : together 1 ≡ 0
unfolding empty_steps byte_step bit_steps bit_step step
one = refl

none : together 0 ≡ 0
none = ap₂ bit_xor (empty_zero 341) (ap₂ (λ (x y : ℕ). bit_xor (bit_xor x y) 0) (ap₂ bit_xor (empty_zero 151) (empty_zero 95)) (empty_zero 42))

bit : (d : ℕ) → d < 2 → together d ≡ 0
bit zero p = none
bit (suc zero) p = one
bit (suc (suc d)) p = omega arith

five_xor : (a b c d e v w x y z : ℕ)
    → five (bit_xor a v) (bit_xor b w) (bit_xor c x) (bit_xor d y) (bit_xor e z) ≡ bit_xor (five a b c d e) (five v w x y z)
five_xor a b c d e v w x y z =
    ap (bit_xor (bit_xor a v))
    (ap (λ (n : ℕ). bit_xor n (bit_xor e z))
    (ap (λ (n : ℕ). bit_xor n (bit_xor d y)) (xor_four b w c x) ∙ xor_four (bit_xor b c) (bit_xor w x) d y)
    ∙ xor_four (bit_xor (bit_xor b c) d) (bit_xor (bit_xor w x) y) e z)
    ∙ xor_four a v (bit_xor (bit_xor (bit_xor b c) d) e) (bit_xor (bit_xor (bit_xor w x) y) z)

five_step : (a b c d e : ℕ) → a < 2 ^ width → b < 2 ^ width → c < 2 ^ width → d < 2 ^ width → e < 2 ^ width
    → five (step a) (step b) (step c) (step d) (step e) ≡ step (five a b c d e)
five_step a b c d e ha hb hc hd he =
    let hbc : bit_xor b c < 2 ^ width = xor_lt width b c hb hc in
    let hbd : bit_xor (bit_xor b c) d < 2 ^ width = xor_lt width (bit_xor b c) d hbc hd in
    let hbe : bit_xor (bit_xor (bit_xor b c) d) e < 2 ^ width = xor_lt width (bit_xor (bit_xor b c) d) e hbd he in
    sym (step_xor a (bit_xor (bit_xor (bit_xor b c) d) e) ha hbe
    ∙ ap (bit_xor (step a))
    (step_xor (bit_xor (bit_xor b c) d) e hbd he
    ∙ ap (λ (n : ℕ). bit_xor n (step e)) (step_xor (bit_xor b c) d hbc hd ∙ ap (λ (n : ℕ). bit_xor n (step d)) (step_xor b c hb hc))))

together_xor : (a b : ℕ) → a < 2 ^ width → b < 2 ^ width → together (bit_xor a b) ≡ bit_xor (together a) (together b)
together_xor a b p q =
    rw (empty_xor 341 a b p q, empty_xor 151 a b p q, empty_xor 95 a b p q, empty_xor 42 a b p q)
    (five_xor (empty_steps 341 a) (empty_steps 151 a) (empty_steps 95 a) (empty_steps 42 a) a
    (empty_steps 341 b) (empty_steps 151 b) (empty_steps 95 b) (empty_steps 42 b) b)

together_step : (c : ℕ) → c < 2 ^ width → together (step c) ≡ step (together c)
together_step c p =
    rw (empty_step 341 c, empty_step 151 c, empty_step 95 c, empty_step 42 c)
    (five_step (empty_steps 341 c) (empty_steps 151 c) (empty_steps 95 c) (empty_steps 42 c) c
    (empty_lt 341 c p) (empty_lt 151 c p) (empty_lt 95 c p) (empty_lt 42 c p) p)

step_zero : step 0 ≡ 0
unfolding step
step_zero = refl

-- a register by its half and its last bit
halved : (n : ℕ) → n < 2 ^ width → n ≡ bit_xor (step (n / 2)) (n % 2)
halved n p =
    let whole : n ≡ n / 2 * 2 ^ 1 + n % 2 = omega arith in
    whole ∙ sym (ap (λ (x : ℕ). bit_xor x (n % 2)) (step_low (n / 2) (omega arith)) ∙ xor_shifted (n / 2) 1 (n % 2) (omega arith))

-- THEOREM: nothing is left of any register
pub gone : (c : ℕ) → c < 2 ^ width → together c ≡ 0
gone =
    bin_ind (λ (n : ℕ). n < 2 ^ width → together n ≡ 0) (λ p. none)
    (λ n ih p.
    let half : n / 2 < 2 ^ width = omega arith in
    ap together (halved n p)
    ∙ together_xor (step (n / 2)) (n % 2) (step_lt (n / 2) half) (omega arith)
    ∙ ap₂ bit_xor (together_step (n / 2) half ∙ ap step (ih half) ∙ step_zero) (bit (n % 2) (omega arith)))
