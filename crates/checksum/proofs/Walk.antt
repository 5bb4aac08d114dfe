-- The checksum by a walk along the bytes: byte by byte, as a fold, or by pieces of some bytes each. A piece of sixteen goes four bytes after
-- four, its first four beside the others.
use mathlib.Core.Path.{◌≡◌, refl, sym, ap, ap₂, ◌∙◌}
use mathlib.Core.List.{List, [], ◌∷◌}
use Prim.Native.Nat.{ℕ, zero, suc, ◌+◌, ◌*◌, ◌/◌, ◌^◌, ◌≤◌, ◌<◌}
use native.Mathlib.Nat.{zero-add, suc-add, zero-mul, suc-mul}
use native.Mathlib.Omega.{arith}
use lib.ListN.{length, get_or, take, drop, length-drop}
use lib.Seq.{take-nil, take_all, drop-cons, drop-drop, length-take-le}
use lib.Bits.{bit_xor}
use Rattle.std.specs.List.{fold}
use Rattle.std.specs.Simd.{first_chunks}
use Rattle.checksum.specs.Checksum.{width, byte_step, checksum_from}
use Rattle.checksum.specs.inner.Table.{word_of, empty_steps}
use Rattle.checksum.proofs.Empty.{from_lt, beside}
use Rattle.checksum.proofs.ByTable.{four_alone, four_parts}

-- the bytes enter, one after the other: a fold
pub from_fold : (s : List ℕ) (r : ℕ) → fold byte_step r s ≡ checksum_from r s
unfolding checksum_from
from_fold [] r = refl
from_fold (b ∷ s) r = from_fold s (byte_step r b)

-- the first n bytes enter, and then the others
pub from_take : (n : ℕ) (s : List ℕ) (r : ℕ) → checksum_from (checksum_from r (take n s)) (drop n s) ≡ checksum_from r s
unfolding checksum_from
from_take zero s r = refl
from_take (suc n) [] r = refl
from_take (suc n) (b ∷ s) r = from_take n s (byte_step r b)

-- the first i bytes enter, and then n more
more : (n i : ℕ) (s : List ℕ) (r : ℕ) → checksum_from (checksum_from r (take i s)) (take n (drop i s)) ≡ checksum_from r (take (i + n) s)
unfolding checksum_from
more n zero s r = ap (λ (k : ℕ). checksum_from r (take k s)) (sym (zero-add n))
more n (suc i) [] r = ap (checksum_from r) (take-nil n ∙ sym (take-nil (suc i + n)))
more n (suc i) (b ∷ s) r = more n i s (byte_step r b) ∙ ap (λ (k : ℕ). checksum_from r (take k (b ∷ s))) (sym (suc-add i n))

-- a turn of n bytes enters
pub turn_on : (n : ℕ) (s : List ℕ) (r q t i : ℕ) → t ≡ checksum_from q (take n (drop i s)) → q ≡ checksum_from r (take i s) → t ≡ checksum_from r (take (i + n) s)
turn_on n s r q t i e kept = e ∙ ap (λ (x : ℕ). checksum_from x (take n (drop i s))) kept ∙ more n i s r

-- the place after i
opened : (s : List ℕ) (i j : ℕ) → i < length s → j ≡ suc i → drop i s ≡ get_or s i 0 ∷ drop j s
opened s i j h e = drop-cons s i 0 h ∙ ap (λ (k : ℕ). get_or s i 0 ∷ drop k s) (sym e)

-- four bytes from a place on
four : (s : List ℕ) (i : ℕ) → i + 4 ≤ length s → take 4 (drop i s) ≡ get_or s i 0 ∷ get_or s (i + 1) 0 ∷ get_or s (i + 2) 0 ∷ get_or s (i + 3) 0 ∷ []
four s i h =
    rw (
      opened s i (i + 1) (omega arith) (omega arith),
      opened s (i + 1) (i + 2) (omega arith) (omega arith),
      opened s (i + 2) (i + 3) (omega arith) (omega arith),
      opened s (i + 3) (i + 4) (omega arith) (omega arith),
    )

-- four bytes enter as a word, and n empty ones after them
pub word_on : (n : ℕ) (s : List ℕ) (r w : ℕ) → length s ≡ 4 → r < 2 ^ width → ((k : ℕ) → get_or s k 0 < 2 ^ 8)
    → w ≡ word_of (get_or s 0 0) (get_or s 1 0) (get_or s 2 0) (get_or s 3 0)
    → four_alone n (bit_xor r w) ≡ empty_steps n (checksum_from r s)
word_on n s r w h p bytes e =
    ap (λ (v : ℕ). four_alone n (bit_xor r v)) e
    ∙ sym (four_parts n r (get_or s 0 0) (get_or s 1 0) (get_or s 2 0) (get_or s 3 0) p (bytes 0) (bytes 1) (bytes 2) (bytes 3))
    ∙ ap (λ (bs : List ℕ). empty_steps n (checksum_from r bs)) (sym (four s 0 (omega arith)) ∙ take_all 4 s (omega arith))

-- a place k, and n on
on : (n k j : ℕ) (s : List ℕ) → j ≡ k + n → drop j s ≡ drop n (drop k s)
on n k j s e = ap (λ (m : ℕ). drop m s) e ∙ sym (drop-drop n k s)

-- after n of the bytes from the place i on, four more enter
four_more : (n i j : ℕ) (s : List ℕ) (r q t : ℕ) → j ≡ i + n → q ≡ checksum_from r (take n (drop i s)) → t ≡ checksum_from q (take 4 (drop j s))
    → t ≡ checksum_from r (take (n + 4) (drop i s))
four_more n i j s r q t place before e = turn_on 4 (drop i s) r q t n (e ∙ ap (λ (l : List ℕ). checksum_from q (take 4 l)) (on n i j s place)) before

-- the last twelve bytes of a turn enter an empty register, four after four, beside the first four, which twelve empty ones follow
pub sixteen : (s : List ℕ) (r x y z t : ℕ) → length s ≡ 16 → r < 2 ^ width
    → x ≡ checksum_from 0 (take 4 (drop 4 s))
    → y ≡ checksum_from x (take 4 (drop 8 s))
    → z ≡ checksum_from y (take 4 (drop 12 s))
    → t ≡ empty_steps 12 (checksum_from r (take 4 s))
    → bit_xor z t ≡ checksum_from r s
sixteen s r x y z t h p ex ey ez et =
    let later : List ℕ = drop 4 s in
    let first : ℕ = checksum_from r (take 4 s) in
    let eight : y ≡ checksum_from 0 (take 8 later) = four_more 4 4 8 s 0 x y (omega arith) ex ey in
    let twelve : z ≡ checksum_from 0 (take 12 later) = four_more 8 4 12 s 0 y z (omega arith) eight ez in
    let long : length (take 12 later) ≡ 12 = length-take-le 12 later (omega (arith, length-drop 4 s)) in
    beside (take 12 later) z t first (from_lt (take 4 s) r p) twelve (et ∙ ap (λ (n : ℕ). empty_steps n first) (sym long))
    ∙ more 12 4 s r
    ∙ ap (checksum_from r) (take_all 16 s (omega arith))

-- the first k pieces of n bytes enter, one after the other, and then the bytes after them
pub pieces : (n k : ℕ) (s : List ℕ) (r : ℕ) → checksum_from (fold checksum_from r (first_chunks n k s)) (drop (k * n) s) ≡ checksum_from r s
pieces n zero s r = ap (λ (j : ℕ). checksum_from r (drop j s)) (zero-mul n)
pieces n (suc k) s r =
    ap (checksum_from (fold checksum_from (checksum_from r (take n s)) (first_chunks n k (drop n s)))) (on (k * n) n (suc k * n) s (omega (arith, suc-mul k n)))
    ∙ pieces n k (drop n s) (checksum_from r (take n s))
    ∙ from_take n s r

-- the same of all whole pieces: in q they have entered, and what is left of the bytes then enters
pub all_pieces : (n : ℕ) (s : List ℕ) (r q : ℕ) (front : List (List ℕ)) (back : List ℕ) → q ≡ fold checksum_from r front
    → front ≡ first_chunks n (length s / n) s → back ≡ drop (length s / n * n) s → checksum_from q back ≡ checksum_from r s
all_pieces n s r q front back e whole left =
    ap₂ checksum_from (e ∙ ap (fold checksum_from r) whole) left ∙ pieces n (length s / n) s r

-- the four pieces of sixteen bytes
pub quarters : (s : List ℕ) (fours : List (List ℕ)) → length s ≡ 16 → fours ≡ first_chunks 4 (length s / 4) s
    → (get_or fours 0 [] ≡ take 4 s) × (get_or fours 1 [] ≡ take 4 (drop 4 s)) × (get_or fours 2 [] ≡ take 4 (drop 8 s)) × (get_or fours 3 [] ≡ take 4 (drop 12 s))
quarters s fours h e =
    let all : fours ≡ first_chunks 4 4 s = e ∙ ap (λ (n : ℕ). first_chunks 4 (n / 4) s) h in (
      ap (λ (l : List (List ℕ)). get_or l 0 []) all,
      ap (λ (l : List (List ℕ)). get_or l 1 []) all,
      ap (λ (l : List (List ℕ)). get_or l 2 []) all ∙ ap (take 4) (drop-drop 4 4 s),
      ap (λ (l : List (List ℕ)). get_or l 3 []) all ∙ ap (take 4) (drop-drop 4 4 (drop 4 s) ∙ drop-drop 8 4 s),
    )
