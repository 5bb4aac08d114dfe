-- The plain way, bit by bit, is the definition. Where a one leaves the register, the definition takes the understood term off that one, and
-- nothing is left of both: so the code lets it go and takes off the page's terms alone. A byte's bits enter from the highest place down.
use mathlib.Core.Path.{◌≡◌, sym, ap, ap₂, ◌∙◌}
use mathlib.Core.List.{List, [], ◌∷◌}
use Prim.Native.Nat.{ℕ, zero, suc, ◌+◌, ◌*◌, ◌/◌, ◌%◌, ◌^◌, ◌<◌}
use native.Mathlib.Nat.{zero-add}
use native.Mathlib.Omega.{arith}
use lib.Bits.{bit_xor, xor_self, xor_block}
use Rattle.checksum.specs.Checksum.{terms, polynomial, width, ones, top, step, bit_step, bit_steps}

-- what leaves the register and the understood term are one and the same
pub by_terms : (r : ℕ) → r < 2 ^ width → bit_xor (top r * ones terms) (r * 2 % 2 ^ width) ≡ step r
unfolding step
by_terms r p =
    let t : ℕ = top r in
    let off : t * ones polynomial ≡ t * 2 ^ width + t * ones terms = omega arith in
    let up : r * 2 ≡ t * 2 ^ width + r * 2 % 2 ^ width = omega arith in
    let low : ℕ = bit_xor (t * ones terms) (r * 2 % 2 ^ width) in
    sym (ap₂ bit_xor off up
    ∙ xor_block width t t (t * ones terms) (r * 2 % 2 ^ width) (omega arith) (omega arith)
    ∙ ap (λ (x : ℕ). x * 2 ^ width + low) (xor_self t)
    ∙ zero-add low)

-- the places below n, from the highest down
abbrev pub down : ℕ → List ℕ
down zero = []
down (suc n) = n ∷ down n

-- the bit at the highest place enters
pub bit_on : (n m r q b c : ℕ) → n ≡ suc m → q ≡ bit_step r (b / 2 ^ m % 2) → bit_steps (down n) r b ≡ c → bit_steps (down m) q b ≡ c
unfolding bit_steps
bit_on n m r q b c e entered kept =
    ap (λ (x : ℕ). bit_steps (down m) x b) entered ∙ ap (λ (k : ℕ). bit_steps (down k) r b) (sym e) ∙ kept

-- no bit is left
pub bits_end : (n r b c : ℕ) → n ≡ 0 → bit_steps (down n) r b ≡ c → r ≡ c
unfolding bit_steps
bits_end n r b c e kept = sym (ap (λ (k : ℕ). bit_steps (down k) r b) e) ∙ kept
