-- A byte's step by a right table. By linearity the register's high byte h, its lower bytes l and the byte b that enters part into
-- three: h entering over h leaves nothing (computed at each of the 256 bytes); the exclusive or of b and h entering over nothing is the
-- table's entry; an empty byte over l only moves l up. So each of four bytes gives an entry, with the bytes after it as empty ones, and
-- after four bytes nothing is left of the register. The four may meet the register at once, as one word, since each byte of an exclusive
-- or is that of the bytes at its place.
use mathlib.Core.Path.{◌≡◌, sym, ap, ap₂, ◌∙◌}
use mathlib.Core.List.{List, [], ◌∷◌}
use Prim.Native.Nat.{ℕ, ◌+◌, ◌*◌, ◌/◌, ◌%◌, ◌^◌, ◌<◌}
use native.Mathlib.Omega.{arith}
use lib.ListN.{length}
use lib.Bits.{bit_xor, xor_shr, xor_mod, xor_comm, xor_zero_r, xor_shifted}
use Rattle.checksum.specs.Checksum.{step, bit_step, high_first, bit_steps, byte_step, checksum_from}
use Rattle.checksum.specs.inner.Table.{word_of, empty_steps}
use Rattle.checksum.proofs.Xor.{xor_assoc, xor_twice, xor_bits}
use Rattle.checksum.proofs.Linear.{bits_xor, bits_low}
use Rattle.checksum.proofs.Agree.{agreed}
use Rattle.checksum.proofs.Empty.{byte_lt, from_xor, from_lt, empty_xor, empty_lt, empty_zero, empty_add}

emptied : (h : ℕ) → h < 256 → byte_step (h * 2 ^ 24) h ≡ 0
unfolding byte_step bit_steps bit_step step
emptied = agreed (λ h. byte_step (h * 2 ^ 24) h) (λ h. 0) 256 tt

pub by_parts : (h l b : ℕ) → h < 2 ^ 8 → l < 2 ^ 24 → b < 2 ^ 8 → byte_step (h * 2 ^ 24 + l) b ≡ bit_xor (byte_step 0 (bit_xor b h)) (l * 2 ^ 8)
unfolding byte_step
by_parts h l b p q w =
    let k : ℕ = bit_xor b h in
    ap₂ (bit_steps high_first) (sym (xor_shifted h 24 l q)) (sym (xor_twice h b))
    ∙ bits_xor high_first (h * 2 ^ 24) l h k (omega arith) (omega arith)
    ∙ ap (λ (x : ℕ). bit_xor x (bit_steps high_first l k)) (emptied h p)
    ∙ ap (bit_steps high_first l) (sym (xor_zero_r k))
    ∙ bits_xor high_first 0 l k 0 (omega arith) (omega arith)
    ∙ ap (bit_xor (bit_steps high_first 0 k)) (bits_low high_first l (omega arith))

-- what a byte makes of an empty register, once n empty bytes have followed
abbrev alone : ℕ → ℕ → ℕ
alone n b = empty_steps n (byte_step 0 b)

-- what the code computes of an entry and the register is the step
pub by_table : (e r b : ℕ) → r < 2 ^ 32 → b < 2 ^ 8 → e ≡ alone 0 (bit_xor b (r / 2 ^ 24)) → bit_xor e (r * 2 ^ 8 % 2 ^ 32) ≡ byte_step r b
unfolding empty_steps
by_table e r b p q entry =
    let parts : r ≡ r / 2 ^ 24 * 2 ^ 24 + r % 2 ^ 24 = omega arith in
    let moved : r * 2 ^ 8 % 2 ^ 32 ≡ r % 2 ^ 24 * 2 ^ 8 = omega arith in
    ap₂ bit_xor entry moved ∙ sym (ap (λ (x : ℕ). byte_step x b) parts ∙ by_parts (r / 2 ^ 24) (r % 2 ^ 24) b (omega arith) (omega arith) q)

-- of the bytes that enter, and n empty ones after them, the first gives its part: m, what it makes together with the high byte that it meets
first_part : (n : ℕ) (bs : List ℕ) (r h l b m : ℕ) → r ≡ h * 2 ^ 24 + l → h < 2 ^ 8 → l < 2 ^ 24 → b < 2 ^ 8 → bit_xor b h ≡ m
    → empty_steps n (checksum_from r (b ∷ bs)) ≡ bit_xor (alone (n + length bs) m) (empty_steps n (checksum_from (l * 2 ^ 8) bs))
unfolding checksum_from
first_part n bs r h l b m e p q w met =
    let x : ℕ = byte_step 0 m in
    let hx : x < 2 ^ 32 = byte_lt 0 m (omega arith) in
    let hl : l * 2 ^ 8 < 2 ^ 32 = omega arith in
    ap (λ (y : ℕ). empty_steps n (checksum_from y bs))
    (ap (λ (y : ℕ). byte_step y b) e ∙ by_parts h l b p q w ∙ ap (λ (y : ℕ). bit_xor (byte_step 0 y) (l * 2 ^ 8)) met)
    ∙ ap (empty_steps n) (from_xor bs x (l * 2 ^ 8) hx hl)
    ∙ empty_xor n (empty_steps (length bs) x) (checksum_from (l * 2 ^ 8) bs) (empty_lt (length bs) x hx) (from_lt bs (l * 2 ^ 8) hl)
    ∙ ap (λ (y : ℕ). bit_xor y (empty_steps n (checksum_from (l * 2 ^ 8) bs))) (empty_add n (length bs) x)

-- a byte b of a word that meets a register: at its place stands x in the register, y in the word, and m in what they make together
met : (x y b m : ℕ) → b ≡ y → m ≡ bit_xor x y → bit_xor b x ≡ m
met x y b m e together = xor_comm b x ∙ ap (bit_xor x) e ∙ sym together

-- what the four bytes of m make of an empty register, each with those after it, and n more, as empty ones
abbrev pub four_alone : ℕ → ℕ → ℕ
four_alone n m =
    bit_xor
    (bit_xor (alone (n + 3) (m / 2 ^ 24)) (alone (n + 2) (m / 2 ^ 16 % 256)))
    (bit_xor (alone (n + 1) (m / 2 ^ 8 % 256)) (alone (n + 0) (m % 256)))

-- four bytes enter, and n empty ones after them: as one word they meet the register
pub four_parts : (n r a b c d : ℕ) → r < 2 ^ 32 → a < 2 ^ 8 → b < 2 ^ 8 → c < 2 ^ 8 → d < 2 ^ 8
    → empty_steps n (checksum_from r (a ∷ b ∷ c ∷ d ∷ [])) ≡ four_alone n (bit_xor r (word_of a b c d))
unfolding checksum_from
four_parts n r a b c d p ha hb hc hd =
    let v : ℕ = word_of a b c d in
    let m : ℕ = bit_xor r v in
    let w : ℕ = alone (n + 3) (m / 2 ^ 24) in
    let x : ℕ = alone (n + 2) (m / 2 ^ 16 % 256) in
    let y : ℕ = alone (n + 1) (m / 2 ^ 8 % 256) in
    let z : ℕ = alone (n + 0) (m % 256) in
    first_part n (b ∷ c ∷ d ∷ []) r (r / 2 ^ 24) (r % 2 ^ 24) a (m / 2 ^ 24) (omega arith) (omega arith) (omega arith) ha
    (met (r / 2 ^ 24) (v / 2 ^ 24) a (m / 2 ^ 24) (omega arith) (xor_shr r v 24))
    ∙ ap (bit_xor w)
    (first_part n (c ∷ d ∷ []) (r % 2 ^ 24 * 2 ^ 8) (r / 2 ^ 16 % 256) (r % 2 ^ 16 * 2 ^ 8) b (m / 2 ^ 16 % 256) (omega arith) (omega arith) (omega arith) hb
    (met (r / 2 ^ 16 % 256) (v / 2 ^ 16 % 256) b (m / 2 ^ 16 % 256) (omega arith) (xor_bits 8 16 r v))
    ∙ ap (bit_xor x)
    (first_part n (d ∷ []) (r % 2 ^ 16 * 2 ^ 8 * 2 ^ 8) (r / 2 ^ 8 % 256) (r % 2 ^ 8 * 2 ^ 16) c (m / 2 ^ 8 % 256) (omega arith) (omega arith) (omega arith) hc
    (met (r / 2 ^ 8 % 256) (v / 2 ^ 8 % 256) c (m / 2 ^ 8 % 256) (omega arith) (xor_bits 8 8 r v))
    ∙ ap (bit_xor y)
    (first_part n [] (r % 2 ^ 8 * 2 ^ 16 * 2 ^ 8) (r % 256) 0 d (m % 256) (omega arith) (omega arith) (omega arith) hd
    (met (r % 256) (v % 256) d (m % 256) (omega arith) (xor_mod r v 8))
    ∙ ap (bit_xor z) (empty_zero n)
    ∙ xor_zero_r z)))
    ∙ sym (xor_assoc w x (bit_xor y z))
