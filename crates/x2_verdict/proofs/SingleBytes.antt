-- What one byte tells of a field: of a number of one byte, of one of four bytes, whose last byte weighs the most, and of the signal byte.
use Prim.Native.Nat.{ℕ, zero, suc, ◌+◌, ◌*◌, ◌/◌, ◌%◌, ◌<◌}
use mathlib.Core.Path.{◌≡◌, refl, sym, ap, ap₂, ◌∙◌}
use mathlib.Core.Bool.{Bool, true, false, not, ◌&&◌, and-true}
use mathlib.Core.List.{List}
use native.Mathlib.Omega.{arith}
use borrow.Author.Tests.{ltb-true, ltb-false, le-leb, lt-leb, ne_eqb}
use lib.Dec.{eqb, ltb, leb}
use lib.ListN.{get_or}
use Rattle.octets.specs.Octets.{num_at, Is}
use Rattle.verdict.specs.Facts.{test, all_tests}
use Rattle.rules.specs.Rules.{lies_between}
use Rattle.tables.specs.Rows.{value_facts, row_facts}
use Rattle.x2_records.specs.Rows.{positions, signal_byte}

-- a byte that is not 0
some_number : (b : ℕ) → b < 256 → not (eqb b 0) ≡ test (lies_between 1 255 b)
some_number zero h = refl
some_number (suc b) h = rw (ne_eqb (suc b) 0 (λ e. omega arith), le-leb 1 (suc b) (omega arith), le-leb (suc b) 255 (omega arith))

pub not_zero_tested : (f : List ℕ) (p b : ℕ) → Is 1 f p b → not (eqb b 0) ≡ test (lies_between 1 255 (num_at 1 f p))
not_zero_tested f p b i = rw (← i.is) (some_number b i.below)

-- a byte that is not too great
pub at_most_tested : (f : List ℕ) (p b x : ℕ) → Is 1 f p b → leb b x ≡ test (lies_between 0 x (num_at 1 f p))
at_most_tested f p b x i = rw (← i.is, le-leb 0 b (omega arith))

-- the last of four bytes
below_half : (a b c d n : ℕ) → a < 256 → b < 256 → c < 256 → n ≡ a + 256 * (b + 256 * (c + 256 * d)) → ltb d 128 ≡ test (lies_between 0 2147483647 n)
below_half a b c d n p q r e = go (ltb d 128) refl
  where
    go : (t : Bool) → ltb d 128 ≡ t → t ≡ test (lies_between 0 2147483647 n)
    go true h = let small = ltb-true d 128 h in rw (le-leb 0 n (omega arith), le-leb n 2147483647 (omega arith))
    go false h = let large = ltb-false d 128 h in rw (le-leb 0 n (omega arith), lt-leb n 2147483647 (omega arith))

pub position_tested : (f : List ℕ) (at k : ℕ) → ((i : ℕ) → get_or f i 0 < 256) → ltb (get_or f (at + k + 3) 0) 128 ≡ all_tests (value_facts f at k 4 positions)
unfolding num_at
position_tested f at k fits =
    let p = at + k in
    let last : p + 1 + 1 + 1 ≡ p + 3 = omega arith in
    let same : get_or f (p + 1 + 1 + 1) 0 ≡ get_or f (p + 3) 0 = ap (λ (i : ℕ). get_or f i 0) last in
    below_half (get_or f p 0) (get_or f (p + 1) 0) (get_or f (p + 1 + 1) 0) (get_or f (p + 3) 0) (num_at 4 f p) (fits p) (fits (p + 1)) (fits (p + 1 + 1)) (omega arith)
    ∙ sym (and-true (test (lies_between 0 2147483647 (num_at 4 f p))))

-- ---- the signal byte: its top two bits, and the rest, of which the low four are left where the middle two are 0

facing_tested : (b : ℕ) → b < 256 → ltb b 192 ≡ test (lies_between 0 2 (b / 64 % 4))
facing_tested b h = go (ltb b 192) refl
  where
    go : (t : Bool) → ltb b 192 ≡ t → t ≡ test (lies_between 0 2 (b / 64 % 4))
    go true e = let low = ltb-true b 192 e in rw (le-leb 0 (b / 64 % 4) (omega arith), le-leb (b / 64 % 4) 2 (omega arith))
    go false e = let high = ltb-false b 192 e in rw (le-leb 0 (b / 64 % 4) (omega arith), lt-leb (b / 64 % 4) 2 (omega arith))

duty_tested : (d m w : ℕ) → d ≡ 16 * m + w → (leb 1 d && leb d 5) ≡ (test (lies_between 0 0 m) && (test (lies_between 1 5 w) && true))
duty_tested d zero w e = let same : d ≡ w = omega arith in rw (same) (sym (and-true (leb 1 w && leb w 5)))
duty_tested d (suc m) w e = rw (le-leb 1 d (omega arith), lt-leb d 5 (omega arith), le-leb 0 (suc m) (omega arith), lt-leb (suc m) 0 (omega arith))

pub signal_tested : (f : List ℕ) (at b : ℕ) → Is 1 f (at + signal_byte.offset) b → (ltb b 192 && (leb 1 (b % 64) && leb (b % 64) 5)) ≡ all_tests (row_facts f at signal_byte)
signal_tested f at b i = rw (← i.is) (ap₂ ◌&&◌ (facing_tested b i.below) (duty_tested (b % 64) (b / 16 % 4) (b / 1 % 16) (omega arith)))
