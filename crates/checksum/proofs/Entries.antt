-- Tables are right where tests of their entries pass. A byte is the powers of two in it, joined by exclusive or, and what it makes of an empty
-- register is joined alike. So a first row is right where its entry of the empty byte is empty, its entries at the powers of two are right,
-- and each entry from a power of two on, up to the next, is that power's entry joined with the one that stands that far before it. At the
-- powers of two the near table has what the byte makes, bit by bit, and by that row what an empty byte makes of any register; the far one
-- has what twelve empty bytes make of the near one's. Each later entry of both is what an empty byte makes of the entry that stands 256
-- before it: so the entries of one more empty byte follow from those before them. Entries are tested along the lists, one after the other.
use mathlib.Core.Path.{◌≡◌, refl, sym, ap, ap₂, ◌∙◌}
use mathlib.Core.Logic.{⊎_elim}
use mathlib.Core.Bool.{Bool, true, false}
use mathlib.Core.List.{List, [], ◌∷◌}
use Prim.Native.Nat.{ℕ, zero, suc, ◌+◌, ◌-◌, ◌*◌, ◌/◌, ◌%◌, ◌^◌, ◌≤◌, ◌<◌}
use native.Mathlib.Nat.{add-zero, pow-suc, le_of_suc-le-suc, not-suc-le-zero, eq-zero-or-pos}
use native.Mathlib.Omega.{arith}
use lib.Dec.{T, eqb, eqb→eq}
use lib.ListN.{length, get_or, take, drop, length-drop}
use lib.Seq.{get_or-take, get_or-drop, length-take-le}
use lib.Pow.{pow_mono}
use lib.Bits.{bit_xor, xor_self, xor_shifted}
use Rattle.checksum.specs.Checksum.{high_first, byte_step}
use Rattle.checksum.specs.inner.Table.{empty_steps, RightTable, RightTables}
use Rattle.checksum.proofs.Agree.{both, both_left, both_right, agree, agreed}
use Rattle.checksum.proofs.Linear.{bits_xor}
use Rattle.checksum.proofs.Empty.{byte_lt, empty_xor, empty_lt, empty_add}
use Rattle.checksum.proofs.ByTable.{by_parts}

module _ (f : ℕ → ℕ) where
  -- each number of the second list is what f makes of the number at its place in the first
  abbrev pub each : List ℕ → List ℕ → Bool
  each xs [] = true
  each [] (y ∷ ys) = false
  each (x ∷ xs) (y ∷ ys) = both (eqb y (f x)) (each xs ys)

  each-is : (xs ys : List ℕ) → T (each xs ys) → (j : ℕ) → j < length ys → get_or ys j 0 ≡ f (get_or xs j 0)
  each-is xs [] t j h = absurd (not-suc-le-zero h)
  each-is [] (y ∷ ys) t j h = absurd t
  each-is (x ∷ xs) (y ∷ ys) t zero h = eqb→eq y (f x) (both_left (eqb y (f x)) (each xs ys) t)
  each-is (x ∷ xs) (y ∷ ys) t (suc j) h = each-is xs ys (both_right (eqb y (f x)) (each xs ys) t) j (le_of_suc-le-suc h)

-- the entries from the place 2 ^ k on, as many as stand before it: each is the entry there, joined with the one that stands as far before it
abbrev upper : List ℕ → ℕ → Bool
upper row k = each (bit_xor (get_or row (2 ^ k) 0)) row (take (2 ^ k) (drop (2 ^ k) row))

-- so it is from each power of two on, before the place 2 ^ k
abbrev pub joined : List ℕ → ℕ → Bool
joined row zero = true
joined row (suc k) = both (upper row k) (joined row k)

power_and : (k j : ℕ) → j < 2 ^ k → bit_xor (2 ^ k) j ≡ 2 ^ k + j
power_and k j h =
    let once : 1 * 2 ^ k ≡ 2 ^ k = omega arith in
    ap (λ (x : ℕ). bit_xor x j) (sym once) ∙ xor_shifted 1 k j h ∙ ap (λ (x : ℕ). x + j) once

-- a row of what a linear g makes of each byte
module _ (g : ℕ → ℕ) (linear : (a b : ℕ) → g (bit_xor a b) ≡ bit_xor (g a) (g b)) (row : List ℕ) (long : 256 ≤ length row)
    (none : get_or row 0 0 ≡ 0) (powers : (k : ℕ) → k < 8 → get_or row (2 ^ k) 0 ≡ g (2 ^ k)) where
  upper_is : (k j : ℕ) → k < 8 → T (upper row k) → j < 2 ^ k → get_or row j 0 ≡ g j → get_or row (2 ^ k + j) 0 ≡ g (2 ^ k + j)
  upper_is k j p t h e =
      let from : List ℕ = drop (2 ^ k) row in
      let room : 2 ^ k ≤ length from = omega (arith, length-drop (2 ^ k) row, pow_mono p, pow-suc 2 k) in
      sym (get_or-drop (2 ^ k) row j 0)
      ∙ sym (get_or-take (2 ^ k) from j 0 h)
      ∙ each-is (bit_xor (get_or row (2 ^ k) 0)) row (take (2 ^ k) from) t j (omega (arith, length-take-le (2 ^ k) from room))
      ∙ ap₂ bit_xor (powers k p) e
      ∙ sym (linear (2 ^ k) j)
      ∙ ap g (power_and k j h)

  joined_is : (k : ℕ) → k ≤ 8 → T (joined row k) → (b : ℕ) → b < 2 ^ k → get_or row b 0 ≡ g b
  joined_is zero p t b h =
      let e : b ≡ 0 = omega arith in
      ap (λ (x : ℕ). get_or row x 0) e ∙ none ∙ sym (linear 0 0 ∙ xor_self (g 0)) ∙ ap g (sym e)
  joined_is (suc k) p t b h =
      let before : (c : ℕ) → c < 2 ^ k → get_or row c 0 ≡ g c = joined_is k (omega arith) (both_right (upper row k) (joined row k) t) in
      ⊎_elim
      (λ l.
      let j : ℕ = b - 2 ^ k in
      let place : 2 ^ k + j ≡ b = omega arith in
      let less : j < 2 ^ k = omega (arith, pow-suc 2 k) in
      ap (λ (x : ℕ). get_or row x 0) (sym place)
      ∙ upper_is k j p (both_left (upper row k) (joined row k) t) less (before j less)
      ∙ ap g place)
      (λ l. before b (omega arith))
      (eq-zero-or-pos (2 ^ k - b))

-- what a byte makes of an empty register, and then n empty bytes of that, is linear in the byte
made_xor : (n a b : ℕ) → empty_steps n (byte_step 0 (bit_xor a b)) ≡ bit_xor (empty_steps n (byte_step 0 a)) (empty_steps n (byte_step 0 b))
unfolding byte_step
made_xor n a b =
    ap (empty_steps n) (bits_xor high_first 0 0 a b (omega arith) (omega arith))
    ∙ empty_xor n (byte_step 0 a) (byte_step 0 b) (byte_lt 0 a (omega arith)) (byte_lt 0 b (omega arith))

-- what n empty bytes make of r, by the near table's entry of its high byte
abbrev pub empties : List ℕ → ℕ → ℕ → ℕ
empties near zero r = r
empties near (suc n) r = empties near n (bit_xor (get_or near (r / 2 ^ 24) 0) (r % 2 ^ 24 * 2 ^ 8))

module _ (near : List ℕ) (by_byte : (b : ℕ) → b < 256 → get_or near b 0 ≡ byte_step 0 b) where
  empties_is : (n r : ℕ) → r < 2 ^ 32 → empties near n r ≡ empty_steps n r
  unfolding empty_steps
  empties_is zero r p = refl
  empties_is (suc n) r p =
      let parts : r / 2 ^ 24 * 2 ^ 24 + r % 2 ^ 24 ≡ r = omega arith in
      ap (λ (x : ℕ). empties near n (bit_xor x (r % 2 ^ 24 * 2 ^ 8))) (by_byte (r / 2 ^ 24) (omega arith))
      ∙ ap (empties near n) (sym (by_parts (r / 2 ^ 24) (r % 2 ^ 24) 0 (omega arith) (omega arith) (omega arith)))
      ∙ ap (λ (x : ℕ). empties near n (byte_step x 0)) parts
      ∙ empties_is n (byte_step r 0) (byte_lt r 0 p)

  module _ (n : ℕ) (table : List ℕ) (all : length table ≡ 1024) where
    -- a first row that is what n empty bytes make of the near one
    first_row : get_or table 0 0 ≡ 0
        → T (agree (λ k. get_or table (2 ^ k) 0) (λ k. empties near n (get_or near (2 ^ k) 0)) 8)
        → T (joined table 8)
        → (b : ℕ) → b < 256 → get_or table b 0 ≡ empty_steps n (byte_step 0 b)
    first_row none at-powers t =
        joined_is (λ b. empty_steps n (byte_step 0 b)) (made_xor n) table (omega arith) none
        (λ k p.
        agreed (λ k. get_or table (2 ^ k) 0) (λ k. empties near n (get_or near (2 ^ k) 0)) 8 at-powers k p
        ∙ ap (empties near n) (by_byte (2 ^ k) (omega (arith, pow_mono p, pow-suc 2 k)))
        ∙ empties_is n (byte_step 0 (2 ^ k)) (byte_lt 0 (2 ^ k) (omega arith)))
        8 (omega arith) t

    module _ (first : (b : ℕ) → b < 256 → get_or table b 0 ≡ empty_steps n (byte_step 0 b)) (later : T (each (empties near 1) table (drop 256 table))) where
      next : (j : ℕ) → j < 768 → get_or table (256 + j) 0 ≡ empties near 1 (get_or table j 0)
      next j h = sym (get_or-drop 256 table j 0) ∙ each-is (empties near 1) table (drop 256 table) later j (omega (arith, length-drop 256 table))

      entries : (k b : ℕ) → k < 4 → b < 256 → get_or table (256 * k + b) 0 ≡ empty_steps (n + k) (byte_step 0 b)
      entries zero b p q =
          let place : 256 * 0 + b ≡ b = omega arith in
          ap (λ (i : ℕ). get_or table i 0) place ∙ first b q ∙ ap (λ (m : ℕ). empty_steps m (byte_step 0 b)) (sym (add-zero n))
      entries (suc k) b p q =
          let place : 256 * suc k + b ≡ 256 + (256 * k + b) = omega arith in
          let more : 1 + (n + k) ≡ n + suc k = omega arith in
          let x : ℕ = byte_step 0 b in
          ap (λ (i : ℕ). get_or table i 0) place
          ∙ next (256 * k + b) (omega arith)
          ∙ ap (empties near 1) (entries k b (omega arith) q)
          ∙ empties_is 1 (empty_steps (n + k) x) (empty_lt (n + k) x (byte_lt 0 b (omega arith)))
          ∙ empty_add 1 (n + k) x
          ∙ ap (λ (m : ℕ). empty_steps m x) more

      right_table : RightTable n table
      unfolding RightTable
      right_table = entries

-- a near table whose first row is right bit by bit, and a far one whose first row follows from it by twelve empty bytes
pub right_tables : (near far : List ℕ) → length near ≡ 1024 → length far ≡ 1024 → get_or near 0 0 ≡ 0 → get_or far 0 0 ≡ 0
    → T (agree (λ k. get_or near (2 ^ k) 0) (λ k. byte_step 0 (2 ^ k)) 8)
    → T (joined near 8)
    → T (each (empties near 1) near (drop 256 near))
    → T (agree (λ k. get_or far (2 ^ k) 0) (λ k. empties near 12 (get_or near (2 ^ k) 0)) 8)
    → T (joined far 8)
    → T (each (empties near 1) far (drop 256 far))
    → RightTables near far
unfolding empty_steps
right_tables near far near-all far-all near_none far_none near-powers near-joined near-later far-powers far-joined far-later =
    let by_byte : (b : ℕ) → b < 256 → get_or near b 0 ≡ byte_step 0 b =
    joined_is (byte_step 0) (made_xor 0) near (omega arith) near_none
    (agreed (λ k. get_or near (2 ^ k) 0) (λ k. byte_step 0 (2 ^ k)) 8 near-powers) 8 (omega arith) near-joined in
    record {
      nearby = right_table near by_byte 0 near near-all by_byte near-later;
      distant = right_table near by_byte 12 far far-all (first_row near by_byte 12 far far-all far_none far-powers far-joined) far-later;
    }
