-- Empty bytes. They are linear, so what a register is made of can be taken apart: the bytes to come make of an exclusive or what they make
-- of one part, and as many empty bytes of the other. So the later bytes of a turn can enter an empty register, beside the first.
use mathlib.Core.Path.{◌≡◌, refl, sym, ap, ap₂, ◌∙◌}
use mathlib.Core.List.{List, [], ◌∷◌}
use Prim.Native.Nat.{ℕ, zero, suc, ◌+◌, ◌^◌, ◌<◌}
use native.Mathlib.Nat.{add-zero, add-suc}
use native.Mathlib.Omega.{arith}
use lib.ListN.{length}
use lib.Bits.{bit_xor, xor_comm, xor_zero_r}
use Rattle.checksum.specs.Checksum.{width, step, bit_step, high_first, bit_steps, byte_step, checksum_from}
use Rattle.checksum.specs.inner.Table.{empty_steps}
use Rattle.checksum.proofs.Linear.{bits_lt, bits_xor}

pub byte_lt : (r b : ℕ) → r < 2 ^ width → byte_step r b < 2 ^ width
unfolding byte_step
byte_lt r b p = bits_lt high_first r b p

-- a byte enters an exclusive or: it enters one part, and an empty byte the other
byte_xor : (x r b : ℕ) → x < 2 ^ width → r < 2 ^ width → byte_step (bit_xor x r) b ≡ bit_xor (byte_step x 0) (byte_step r b)
unfolding byte_step
byte_xor x r b p q = bits_xor high_first x r 0 b p q

pub from_lt : (bs : List ℕ) (r : ℕ) → r < 2 ^ width → checksum_from r bs < 2 ^ width
unfolding checksum_from
from_lt [] r p = p
from_lt (b ∷ bs) r p = from_lt bs (byte_step r b) (byte_lt r b p)

pub from_xor : (bs : List ℕ) (x r : ℕ) → x < 2 ^ width → r < 2 ^ width
    → checksum_from (bit_xor x r) bs ≡ bit_xor (empty_steps (length bs) x) (checksum_from r bs)
unfolding checksum_from empty_steps
from_xor [] x r p q = refl
from_xor (b ∷ bs) x r p q =
    ap (λ (y : ℕ). checksum_from y bs) (byte_xor x r b p q) ∙ from_xor bs (byte_step x 0) (byte_step r b) (byte_lt x 0 p) (byte_lt r b q)

-- some bytes enter an empty register, beside a register q that as many empty ones enter: the bytes enter q
pub beside : (bs : List ℕ) (x y q : ℕ) → q < 2 ^ width → x ≡ checksum_from 0 bs → y ≡ empty_steps (length bs) q → bit_xor x y ≡ checksum_from q bs
beside bs x y q p e f =
    ap₂ bit_xor e f
    ∙ xor_comm (checksum_from 0 bs) (empty_steps (length bs) q)
    ∙ sym (from_xor bs q 0 p (omega arith))
    ∙ ap (λ (z : ℕ). checksum_from z bs) (xor_zero_r q)

pub empty_xor : (n x y : ℕ) → x < 2 ^ width → y < 2 ^ width → empty_steps n (bit_xor x y) ≡ bit_xor (empty_steps n x) (empty_steps n y)
unfolding empty_steps
empty_xor zero x y p q = refl
empty_xor (suc n) x y p q = ap (empty_steps n) (byte_xor x y 0 p q) ∙ empty_xor n (byte_step x 0) (byte_step y 0) (byte_lt x 0 p) (byte_lt y 0 q)

pub empty_lt : (n x : ℕ) → x < 2 ^ width → empty_steps n x < 2 ^ width
unfolding empty_steps
empty_lt zero x p = p
empty_lt (suc n) x p = empty_lt n (byte_step x 0) (byte_lt x 0 p)

-- an empty register stays empty
pub empty_zero : (n : ℕ) → empty_steps n 0 ≡ 0
unfolding empty_steps byte_step bit_steps bit_step step
empty_zero zero = refl
empty_zero (suc n) = empty_zero n

-- n empty bytes, and then m
pub empty_add : (m n x : ℕ) → empty_steps m (empty_steps n x) ≡ empty_steps (m + n) x
unfolding empty_steps
empty_add m zero x = ap (λ (k : ℕ). empty_steps k x) (sym (add-zero m))
empty_add m (suc n) x = empty_add m n (byte_step x 0) ∙ ap (λ (k : ℕ). empty_steps k x) (sym (add-suc m n))
