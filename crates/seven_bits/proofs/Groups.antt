-- Group by group: what each way out of the functions gives, of reading and then of writing.
use Prim.Native.Nat.{ℕ, zero, suc, ◌+◌, ◌-◌, ◌*◌, ◌/◌, ◌%◌, ◌≤◌, ◌<◌}
use native.Mathlib.Numerals.{add-one}
use native.Mathlib.Omega.{arith}
use mathlib.Core.Path.{◌≡◌, refl, sym, ap, ap₂, ◌∙◌, subst⁻¹}
use mathlib.Core.Bool.{Bool, true, false, ◌&&◌, false≢true}
use mathlib.Core.List.{List, [], ◌∷◌, ◌++◌}
use lib.ListN.{length, get_or, take, drop, set}
use lib.Seq.{append_snoc, take-suc-set, drop-set-lt, paste, paste-zero}
use lib.Dec.{ltb}
use borrow.Author.Tests.{ltb-true, lt-ltb, le-ltb, le-leb, lt-leb}
use Rattle.octets.specs.Octets.{num_at, Is}
use Rattle.seven_bits.specs.declared.Number.{Number}
use Rattle.seven_bits.specs.Numbers.{group_values, groups_most, rest_limit, bad, found, may_follow, joined, groups_at}
use Rattle.seven_bits.specs.Numbers.{groups_of, written, put_in, put_next}

-- ---- a first group and the groups after it

all_three : (a b c : Bool) → (a && (b && c)) ≡ true → (a ≡ true) × (b ≡ true) × (c ≡ true)
all_three true true true e = (refl, refl, refl)
all_three true true false e = absurd (false≢true e)
all_three true false c e = absurd (false≢true e)
all_three false b c e = absurd (false≢true e)

-- what the test of the groups after the first says of them
pub rest_told : (r : Number) → may_follow r ≡ true → (r.good ≡ true) × (0 < r.value) × (r.value < rest_limit)
rest_told r e =
    let t = all_three r.good (ltb 0 r.value) (ltb r.value rest_limit) e in
    (t.0, ltb-true _ _ t.1, ltb-true _ _ t.2)

pub join_good : (at low : ℕ) (r : Number) → may_follow r ≡ true → joined at low r ≡ found (low + group_values * r.value) r.next
unfolding joined
join_good at low r e = rw e

pub join_bad : (at low : ℕ) (r : Number) → may_follow r ≡ false → joined at low r ≡ bad at
unfolding joined
join_bad at low r e = rw e

-- ---- the number at a place

pub at_none : (s : List ℕ) (at : ℕ) → groups_at zero s at ≡ bad at
unfolding groups_at
at_none s at = refl

pub at_past : (n : ℕ) (s : List ℕ) (at : ℕ) → length s ≤ at → groups_at n s at ≡ bad at
unfolding groups_at
at_past zero s at h = refl
at_past (suc n) s at h = rw (le-ltb at (length s) h)

pub at_last : (n : ℕ) (s : List ℕ) (at : ℕ) → at < length s → get_or s at 0 < group_values → groups_at (suc n) s at ≡ found (get_or s at 0) (at + 1)
unfolding groups_at
at_last n s at h l = rw (lt-ltb at (length s) h, lt-ltb (get_or s at 0) group_values l)

pub at_more : (n : ℕ) (s : List ℕ) (at : ℕ) → at < length s → group_values ≤ get_or s at 0
    → groups_at (suc n) s at ≡ joined at (get_or s at 0 - group_values) (groups_at n s (at + 1))
unfolding groups_at
at_more n s at h l = rw (lt-ltb at (length s) h, le-ltb (get_or s at 0) group_values l)

-- ---- the groups of a number

pub of_none : (v : ℕ) → groups_of zero v ≡ []
unfolding groups_of
of_none v = refl

pub of_last : (n v : ℕ) → v < group_values → groups_of (suc n) v ≡ v ∷ []
unfolding groups_of
of_last n v h = rw (lt-ltb v group_values h)

pub of_more : (n v : ℕ) → group_values ≤ v → groups_of (suc n) v ≡ (group_values + v % group_values) ∷ groups_of n (v / group_values)
unfolding groups_of
of_more n v h = rw (le-ltb v group_values h)

-- ---- the ways out of `groups_at`, with `left` groups at most

byte-is : (s : List ℕ) (at b : ℕ) → Is 1 s at b → b ≡ get_or s at 0
unfolding num_at
byte-is s at b p = omega (arith, p.is)

pub read_none : (left : ℕ) (s : List ℕ) (at : ℕ) → left ≡ 0 → bad at ≡ groups_at left s at
read_none zero s at e = sym (at_none s at)
read_none (suc n) s at e = absurd (omega arith)

module _ (left : ℕ) (s : List ℕ) (at b : ℕ) (some : left ≡ 0 → ⊥) (inside : at < length s) (p : Is 1 s at b) where
  fewer : groups_at (suc (left - 1)) s at ≡ groups_at left s at
  fewer = let e : suc (left - 1) ≡ left = omega arith in ap (λ (k : ℕ). groups_at k s at) e

  pub read-last : b < group_values → found b (at + 1) ≡ groups_at left s at
  read-last l =
      let e = byte-is s at b p in
      ap (λ (x : ℕ). found x (at + 1)) e ∙ sym (at_last (left - 1) s at inside (omega arith)) ∙ fewer

  pub read_more : (r : Number) → group_values ≤ b → r ≡ groups_at (left - 1) s (at + 1) → joined at (b - group_values) r ≡ groups_at left s at
  read_more r l q =
      let e = byte-is s at b p in
      ap₂ (λ (x : ℕ) (y : Number). joined at (x - group_values) y) e q ∙ sym (at_more (left - 1) s at inside (omega arith)) ∙ fewer

-- ---- the ways out of `put_groups`, with `left` groups at most, for which there is room

-- the bytes `bs` stand in a list from a place on, nothing else changed, and `next` is the place behind them
abbrev Laid : List ℕ → List ℕ → ℕ → ℕ → List ℕ → Type 0
Laid bs out at next after = (next ≡ at + length bs) × (after ≡ paste out at bs (length bs))

laid_none : (out : List ℕ) (at : ℕ) → Laid [] out at at out
laid_none out at = (omega arith, paste-zero out at [])

-- a byte stored, and those after it pasted behind it
set_paste : (out : List ℕ) (at b : ℕ) (bs : List ℕ) (n : ℕ) → at < length out
    → paste (set out at b) (at + 1) bs n ≡ paste out at (b ∷ bs) (suc n)
set_paste out at b bs n h =
    let l = set out at b in
    let m : at + 1 + n ≡ at + suc n = omega arith in
    let front : take (at + 1) l ≡ take at out ++ (b ∷ []) = ap (λ (i : ℕ). take i l) (add-one at) ∙ take-suc-set out at b h in
    let back : drop (at + 1 + n) l ≡ drop (at + suc n) out = ap (λ (i : ℕ). drop i l) m ∙ drop-set-lt (at + suc n) out at b (omega arith) in
    ap₂ (λ (x y : List ℕ). x ++ take n bs ++ y) front back
    ∙ ap (λ (x : List ℕ). x ++ drop (at + suc n) out) (append_snoc (take at out) b (take n bs))

laid_more : (b : ℕ) (bs out : List ℕ) (at next : ℕ) (after : List ℕ) → at < length out → Laid bs (set out at b) (at + 1) next after
    → Laid (b ∷ bs) out at next after
laid_more b bs out at next after h l = (omega (arith, l.0), l.1 ∙ set_paste out at b bs (length bs) h)

pub put_none : (left : ℕ) (out : List ℕ) (at v : ℕ) → left ≡ 0 → Laid (groups_of left v) out at at out
put_none zero out at v e = subst⁻¹ (λ (bs : List ℕ). Laid bs out at at out) (of_none v) (laid_none out at)
put_none (suc n) out at v e = absurd (omega arith)

module _ (left : ℕ) (out : List ℕ) (at v : ℕ) (some : left ≡ 0 → ⊥) (room : at + left ≤ length out) where
  one_fewer : groups_of left v ≡ groups_of (suc (left - 1)) v
  one_fewer = let e : left ≡ suc (left - 1) = omega arith in ap (λ (k : ℕ). groups_of k v) e

  pub put_last : v < group_values → Laid (groups_of left v) out at (at + 1) (set out at v)
  put_last l =
      let one = laid_more v [] out at (at + 1) (set out at v) (omega arith) (laid_none (set out at v) (at + 1)) in
      subst⁻¹ (λ (bs : List ℕ). Laid bs out at (at + 1) (set out at v)) (one_fewer ∙ of_last (left - 1) v l) one

  pub put_more : (next : ℕ) (after : List ℕ) → group_values ≤ v
      → Laid (groups_of (left - 1) (v / group_values)) (set out at (group_values + v % group_values)) (at + 1) next after
      → Laid (groups_of left v) out at next after
  put_more next after l rest =
      let more = laid_more (group_values + v % group_values) (groups_of (left - 1) (v / group_values)) out at next after (omega arith) rest in
      subst⁻¹ (λ (bs : List ℕ). Laid bs out at next after) (one_fewer ∙ of_more (left - 1) v l) more

-- ---- the ways out of `put_number`

pub put_short : (out : List ℕ) (at v : ℕ) → length out - at < groups_most → (at ≡ put_next out at v) × (out ≡ put_in out at v)
unfolding put_next put_in
put_short out at v h = rw (lt-leb (at + groups_most) (length out) (omega arith)) (refl, refl)

pub put_room : (out : List ℕ) (at v next : ℕ) (after : List ℕ) → groups_most ≤ length out - at → Laid (groups_of groups_most v) out at next after
    → (next ≡ put_next out at v) × (after ≡ put_in out at v)
unfolding put_next put_in written
put_room out at v next after h l = rw (le-leb (at + groups_most) (length out) (omega arith)) l
