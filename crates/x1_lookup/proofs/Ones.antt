-- The bits of a word: one that is set, and how many are set below one.
use Prim.Native.Nat.{ℕ, suc, ◌+◌, ◌-◌, ◌*◌, ◌/◌, ◌%◌, ◌^◌, ◌≤◌, ◌<◌}
use mathlib.Core.Path.{◌≡◌, sym, ap, ◌∙◌}
use mathlib.Core.Logic.{◌⊎◌, inl, inr, ⊎_elim}
use native.Mathlib.Nat.{one-mul, mod-lt, div-eq_of_lt, pow-suc, mul-mod_left}
use native.Mathlib.Omega.{arith}
use lib.Bits.{bit_and, bit_or, and_mask, or_shr, or_mod, or_zero_r}
use lib.Count.{ones, ones_in, ones_cat}
use lib.Pow.{pow_pos, pow-lt, pow-add, shl_exact, shl-shr, mod-pow-add}
use Rattle.verdict.proofs.Orders.{le-or-lt}
use Rattle.x1_lookup.specs.Presence.{bit_of}

-- ---- one bit by itself

pub shl_one : (k : ℕ) → k < 64 → (1 * 2 ^ k) % 2 ^ 64 ≡ 2 ^ k
shl_one k h = shl_exact {a = 1} 1 k 64 (omega arith) (omega arith) ∙ one-mul (2 ^ k)

-- all bits below it
pub below_bit : (w k : ℕ) → k < 64 → bit_and w ((1 * 2 ^ k) % 2 ^ 64 - 1) ≡ w % 2 ^ k
below_bit w k h = ap (λ (m : ℕ). bit_and w (m - 1)) (shl_one k h) ∙ and_mask w k

pub bit_either : (w k : ℕ) → (bit_of w k ≡ 0) ⊎ (bit_of w k ≡ 1)
bit_either w k =
    let h : bit_of w k < 2 = mod-lt (w / 2 ^ k) (omega arith) in
    ⊎_elim (λ (l : 1 ≤ bit_of w k). inr (omega arith)) (λ (l : bit_of w k < 1). inl (omega arith)) (le-or-lt 1 (bit_of w k))

own_bit : (k : ℕ) → bit_of (2 ^ k) k ≡ 1
own_bit k = ap (λ (m : ℕ). m / 2 ^ k % 2) (sym (one-mul (2 ^ k))) ∙ ap (λ (m : ℕ). m % 2) (shl-shr 1 k)

other_bit : (m k : ℕ) → (m ≡ k → ⊥) → bit_of (2 ^ m) k ≡ 0
other_bit m k o =
    ⊎_elim
    (λ (l : suc k ≤ m).
    let d : ℕ = m - suc k in
    let up : m ≡ suc d + k = omega arith in
    ap (λ (x : ℕ). 2 ^ x / 2 ^ k % 2) up
    ∙ ap (λ (x : ℕ). x / 2 ^ k % 2) (pow-add 2 (suc d) k)
    ∙ ap (λ (x : ℕ). x % 2) (shl-shr (2 ^ suc d) k ∙ pow-suc 2 d)
    ∙ mul-mod_left (2 ^ d) 2)
    (λ (l : m < suc k). let below : m < k = ⊎_elim (λ (h : k ≤ m). absurd (o (omega arith))) (λ h. h) (le-or-lt k m) in ap (λ (x : ℕ). x % 2) (div-eq_of_lt (pow-lt below)))
    (le-or-lt (suc k) m)

-- ---- one bit more

or_bit : (w m k : ℕ) → bit_of (bit_or w (2 ^ m)) k ≡ bit_or (bit_of w k) (bit_of (2 ^ m) k)
or_bit w m k = ap (λ (x : ℕ). x % 2) (or_shr w (2 ^ m) k) ∙ or_mod (w / 2 ^ k) (2 ^ m / 2 ^ k) 1

pub bit_set : (w k : ℕ) → bit_of (bit_or w (2 ^ k)) k ≡ 1
bit_set w k =
    or_bit w k k ∙ ap (bit_or (bit_of w k)) (own_bit k)
    ∙ ⊎_elim (λ (e : bit_of w k ≡ 0). ap (λ (b : ℕ). bit_or b 1) e) (λ (e : bit_of w k ≡ 1). ap (λ (b : ℕ). bit_or b 1) e) (bit_either w k)

pub bit_kept : (w m k : ℕ) → (m ≡ k → ⊥) → bit_of (bit_or w (2 ^ m)) k ≡ bit_of w k
bit_kept w m k o = or_bit w m k ∙ ap (bit_or (bit_of w k)) (other_bit m k o) ∙ or_zero_r (bit_of w k)

-- ---- how many are set

one_bit : (b : ℕ) → (b ≡ 0) ⊎ (b ≡ 1) → ones b ≡ b
unfolding ones ones_in
one_bit b h = ⊎_elim (λ (e : b ≡ 0). ap ones e ∙ sym e) (λ (e : b ≡ 1). ap ones e ∙ sym e) h

pub no_ones : (w : ℕ) → ones (w % 2 ^ 0) ≡ 0
unfolding ones ones_in
no_ones w = let h : w % 1 < 1 = mod-lt w (omega arith) in let e : w % 1 ≡ 0 = omega arith in ap ones e

-- one bit further
pub ones_further : (w k : ℕ) → ones (w % 2 ^ suc k) ≡ bit_of w k + ones (w % 2 ^ k)
ones_further w k =
    let next : suc k ≡ 1 + k = omega arith in
    ap (λ (x : ℕ). ones (w % 2 ^ x)) next ∙ ap ones (mod-pow-add w 1 k) ∙ ones_cat k (bit_of w k) (w % 2 ^ k) (mod-lt w (pow_pos k))
    ∙ ap (λ (x : ℕ). x + ones (w % 2 ^ k)) (one_bit (bit_of w k) (bit_either w k))
