-- Rows that hold the bytes that were passed on, as the code of src/reach.rt goes: a row with one more byte, a row that is moved, a row that
-- goes from block to block, and a row after which bytes are left. At the end all is joined: few bytes are left that have the same checksum.
use mathlib.Core.Path.{◌≡◌, refl, sym, ap, ◌∙◌, subst, subst₂}
use mathlib.Core.List.{List, [], ◌∷◌, ◌++◌, append-nil, append_assoc}
use Prim.Native.Nat.{ℕ, zero, suc, ◌+◌, ◌*◌, ◌≤◌, ◌<◌}
use native.Mathlib.Nat.{zero-mul, suc-mul}
use native.Mathlib.Omega.{arith}
use lib.ListN.{length, get_or, set, take, drop, replicate, length-drop, length-replicate, get_or-replicate, length-set, drop_of_length-le}
use lib.Seq.{get_or-set_same, get_or-set_other, take_all, take-suc, take-add, drop-cons, drop-drop, take-suc-set}
use lib.Bits.{bit_xor}
use Rattle.std.specs.Simd.{first_chunks}
use Rattle.std.proofs.lemmas.List.{take-append-drop}
use Rattle.checksum.specs.inner.Reach.{lead, brought, brought_at, passed, left, Holds, Passes, Few}
use Rattle.checksum.proofs.Passed.{zeros, short}

-- one more byte is passed on
hold_on : (n p : ℕ) (ps row : List ℕ) → n < 341 + 2048 → Holds n ps row → Holds (n + 1) (p ∷ ps) (set row n p)
hold_on n p ps row h held = record { room = length-set row n p ∙ held.room; each = at }
  where
    at : (i j : ℕ) → i + j + 1 ≡ n + 1 → get_or (set row n p) i 0 ≡ get_or (p ∷ ps) j 0
    at i zero e =
        let place : i ≡ n = omega arith in
        ap (λ (k : ℕ). get_or (set row n p) k 0) place ∙ get_or-set_same row n p 0 (omega arith)
    at i (suc j) e = get_or-set_other row n i p 0 (λ q. omega arith) ∙ held.each i j (omega arith)

-- what a row brings is what the bytes bring that it holds
brought_is : (k : ℕ) (ps row : List ℕ) → Holds (341 + k) ps row → brought_at row k ≡ brought ps
brought_is k ps row held =
    rw (
      held.each (151 + k) 189 (omega arith),
      held.each (95 + k) 245 (omega arith),
      held.each (42 + k) 298 (omega arith),
      held.each k 340 (omega arith),
    )

-- bytes are passed on, and then more
passed_append : (s t ps : List ℕ) → passed ps (s ++ t) ≡ passed (passed ps s) t
unfolding passed
passed_append [] t ps = refl
passed_append (b ∷ s) t ps = passed_append s t (bit_xor b (brought ps) ∷ ps)

-- the byte at the place k is passed on too
passed_suc : (s ps : List ℕ) (k : ℕ) → k < length s
    → passed ps (take (suc k) s) ≡ bit_xor (get_or s k 0) (brought (passed ps (take k s))) ∷ passed ps (take k s)
unfolding passed
passed_suc s ps k h = ap (passed ps) (take-suc s k 0 h) ∙ passed_append (take k s) (get_or s k 0 ∷ []) ps

-- PASSING ON: the first k bytes of s are in the row, after those that were there at first
abbrev pub After : List ℕ → List ℕ → ℕ → List ℕ → Type 0
After row₀ s k row = (ps : List ℕ) → Holds 341 ps row₀ → Holds (341 + k) (passed ps (take k s)) row

pub after_none : (row s : List ℕ) → After row s 0 row
unfolding passed
after_none row s ps held = held

pub after_on : (row₀ s row : List ℕ) (k x : ℕ) → k < length s → k < 2048 → x ≡ brought_at row k → After row₀ s k row
    → After row₀ s (k + 1) (set row (341 + k) (bit_xor (get_or s k 0) x))
after_on row₀ s row k x h room e kept ps held =
    let b : ℕ = get_or s k 0 in
    let qs : List ℕ = passed ps (take k s) in
    let more : (341 + k) + 1 ≡ 341 + (k + 1) = omega arith in
    let next : suc k ≡ k + 1 = omega arith in
    let on : bit_xor b x ∷ qs ≡ passed ps (take (k + 1) s) =
    ap (λ (y : ℕ). bit_xor b y ∷ qs) (e ∙ brought_is k qs row (kept ps held))
    ∙ sym (passed_suc s ps k h)
    ∙ ap (λ (n : ℕ). passed ps (take n s)) next in
    subst₂ (λ (n : ℕ) (l : List ℕ). Holds n l (set row (341 + k) (bit_xor b x))) more on (hold_on (341 + k) (bit_xor b x) qs row (omega arith) (kept ps held))

pub after_all : (row₀ s row : List ℕ) (k : ℕ) → length s ≡ k → After row₀ s k row
    → (ps : List ℕ) → Holds 341 ps row₀ → Holds (341 + length s) (passed ps s) row
after_all row₀ s row k e kept ps held =
    subst₂ (λ (n : ℕ) (l : List ℕ). Holds (341 + n) (passed ps l) row) (sym e) (take_all k s (omega arith)) (kept ps held)

-- a block is passed on, and the row is moved
pub passes : (row₀ row₁ row₂ s : List ℕ)
    → ((ps : List ℕ) → Holds 341 ps row₀ → Holds (341 + length s) (passed ps s) row₁)
    → ((ps : List ℕ) → Holds (341 + length s) ps row₁ → Holds 341 ps row₂)
    → Passes s row₀ row₂
unfolding Passes
passes row₀ row₁ row₂ s on moved ps held = moved (passed ps s) (on ps held)

-- BLOCK BY BLOCK, of n bytes each
pub passes_none : (row s : List ℕ) → Passes (take 0 s) row row
unfolding Passes passed
passes_none row s ps held = held

passes_append : (row₀ row₁ row₂ s t : List ℕ) → Passes s row₀ row₁ → Passes t row₁ row₂ → Passes (s ++ t) row₀ row₂
unfolding Passes
passes_append row₀ row₁ row₂ s t first then ps held =
    subst (λ (l : List ℕ). Holds 341 l row₂) (sym (passed_append s t ps)) (then (passed ps s) (first ps held))

-- the block i
block_at : (n k i : ℕ) (s : List ℕ) → i < k → get_or (first_chunks n k s) i [] ≡ take n (drop (i * n) s)
block_at n zero i s h = absurd (omega arith)
block_at n (suc k) zero s h = ap (λ (j : ℕ). take n (drop j s)) (sym (zero-mul n))
block_at n (suc k) (suc i) s h =
    block_at n k i (drop n s) (omega arith)
    ∙ ap (take n) (drop-drop (i * n) n s ∙ ap (λ (j : ℕ). drop j s) (omega (arith, suc-mul i n)))

pub passes_on : (n k i : ℕ) (row₀ row₁ row₂ s : List ℕ) (blocks : List (List ℕ)) → blocks ≡ first_chunks n k s → i < k
    → Passes (take (i * n) s) row₀ row₁ → Passes (get_or blocks i []) row₁ row₂ → Passes (take ((i + 1) * n) s) row₀ row₂
passes_on n k i row₀ row₁ row₂ s blocks e h first then =
    subst (λ (l : List ℕ). Passes l row₀ row₂)
    (sym (take-add (i * n) n s) ∙ ap (λ (j : ℕ). take j s) (omega (arith, suc-mul i n)))
    (passes_append row₀ row₁ row₂ (take (i * n) s) (take n (drop (i * n) s)) first
    (subst (λ (l : List ℕ). Passes l row₁ row₂) (ap (λ (l : List (List ℕ)). get_or l i []) e ∙ block_at n k i s h) then))

pub passes_all : (row₀ row₁ row₂ s rest : List ℕ) (j : ℕ) → rest ≡ drop j s → Passes (take j s) row₀ row₁ → Passes rest row₁ row₂ → Passes s row₀ row₂
passes_all row₀ row₁ row₂ s rest j e first then =
    subst (λ (l : List ℕ). Passes l row₀ row₂) (ap (λ (l : List ℕ). take j s ++ l) e ∙ take-append-drop j s) (passes_append row₀ row₁ row₂ (take j s) rest first then)

-- LEAVING: of the last bytes, s, the first k are left, and the row has nothing for them
pub record Leaves (row₀ s : List ℕ) (k : ℕ) (row few : List ℕ) : Type 0 where
  pub all : length few ≡ 341
  pub holds : (ps : List ℕ) → Holds 341 ps row₀ → Holds (341 + k) (zeros k ps) row
  pub lefts : (ps : List ℕ) → Holds 341 ps row₀ → take k few ++ left (zeros k ps) (drop k s) ≡ left ps s

pub leaves_none : (row s few : List ℕ) → length few ≡ 341 → Leaves row s 0 row few
leaves_none row s few all = record { all = all; holds = λ ps held. held; lefts = λ ps held. refl }

pub leaves_on : (row₀ s row few : List ℕ) (k x : ℕ) → k < length s → k < 341 → x ≡ brought_at row k → Leaves row₀ s k row few
    → Leaves row₀ s (k + 1) (set row (341 + k) 0) (set few k (bit_xor (get_or s k 0) x))
unfolding left
leaves_on row₀ s row few k x h small e kept =
    let b : ℕ = get_or s k 0 in
    let q : ℕ = bit_xor b x in
    let more : (341 + k) + 1 ≡ 341 + (k + 1) = omega arith in
    let next : suc k ≡ k + 1 = omega arith in
    record {
      all = length-set few k q ∙ kept.all;
      holds = λ ps held.
          subst₂ (λ (n m : ℕ). Holds n (zeros m ps) (set row (341 + k) 0)) more next (hold_on (341 + k) 0 (zeros k ps) row (omega arith) (kept.holds ps held));
      lefts = λ ps held.
          let later : List ℕ = left (zeros (suc k) ps) (drop (suc k) s) in
          ap (λ (n : ℕ). take n (set few k q) ++ left (zeros n ps) (drop n s)) (sym next)
          ∙ ap (λ (l : List ℕ). l ++ later) (take-suc-set few k q (omega (arith, kept.all)))
          ∙ append_assoc (take k few) (q ∷ []) later
          ∙ ap (λ (y : ℕ). take k few ++ (bit_xor b y ∷ later)) (e ∙ brought_is k (zeros k ps) row (kept.holds ps held))
          ∙ ap (λ (l : List ℕ). take k few ++ left (zeros k ps) l) (sym (drop-cons s k 0 h))
          ∙ kept.lefts ps held;
    }

pub leaves_all : (row₀ s row few : List ℕ) (k : ℕ) → length s ≤ k → 341 ≤ k → Leaves row₀ s k row few
    → (ps : List ℕ) → Holds 341 ps row₀ → few ≡ left ps s
unfolding left
leaves_all row₀ s row few k h small kept ps held =
    sym (append-nil few)
    ∙ ap (λ (l : List ℕ). l ++ []) (sym (take_all k few (omega (arith, kept.all))))
    ∙ ap (λ (l : List ℕ). take k few ++ left (zeros k ps) l) (sym (drop_of_length-le s h))
    ∙ kept.lefts ps held

left_length : (s ps : List ℕ) → length (left ps s) ≡ length s
unfolding left
left_length [] ps = refl
left_length (b ∷ s) ps = ap suc (left_length s (0 ∷ ps))

-- a row of nothing, before the first byte is passed on
none : Holds 341 [] (replicate (341 + 2048) 0)
none =
    let empty : ℕ = 0 in
    record { room = length-replicate (341 + 2048) empty; each = λ i j e. get_or-replicate (341 + 2048) i empty empty (omega arith) }

-- ALL: the lead is passed on, then the first n bytes, and the last ones are left
pub few_is : (row₁ row₂ s few : List ℕ) (n m : ℕ) → n + 341 ≡ length s → m ≡ 341
    → Passes lead (replicate (341 + 2048) 0) row₁
    → Passes (take n s) row₁ row₂
    → ((ps : List ℕ) → Holds 341 ps row₂ → few ≡ left ps (take m (drop n s)))
    → Few few s
unfolding Passes
few_is row₁ row₂ s few n m h e first then last =
    let ps : List ℕ = passed (passed [] lead) (take n s) in
    let long : length (drop n s) ≡ 341 = length-drop n s ∙ omega arith in
    let is : few ≡ left ps (drop n s) =
    last ps (then (passed [] lead) (first [] none)) ∙ ap (left ps) (take_all m (drop n s) (omega (arith, length-drop n s))) in
    record { long = ap length is ∙ left_length (drop n s) ps ∙ long; same = short n s few long is }
