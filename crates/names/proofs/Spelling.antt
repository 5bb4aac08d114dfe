-- Names byte by byte. After some of the eight bytes there are only bytes of a name, of which the last may be a space; or a name and then
-- zeros; or what is no name's beginning.
use Prim.Native.Nat.{ℕ, zero, suc, ◌+◌, ◌-◌, min, ◌≤◌, ◌<◌}
use mathlib.Core.Path.{◌≡◌, refl, sym, ap, subst, ◌∙◌}
use mathlib.Core.Bool.{Bool, true, false, not, ◌&&◌, ◌||◌, and-false}
use mathlib.Core.List.{List}
use mathlib.Core.Logic.{◌↔◌, ⊎_elim}
use native.Mathlib.Nat.{le_refl}
use native.Mathlib.Omega.{arith}
use lib.Dec.{leb, eqb}
use mir.Val.{bool_byte}
use borrow.Author.Count.{below_more}
use borrow.Author.Tests.{leb-true, leb-false, eqb-true, eqb-false, le-leb, lt-leb, ne_eqb}
use lib.ListN.{length, get_or, get_or-eq_default}
use Rattle.octets.specs.Octets.{num_at}
use Rattle.verdict.proofs.Orders.{le-or-lt}
use Rattle.verdict.proofs.Facts.{Agrees, agrees}
use Rattle.verdict.specs.Facts.{Claim, test, Holds}
use Rattle.std.specs.Prelude.{Option, Some, None}
use Rattle.std.specs.Option.{unwrap_or}
use Rattle.names.specs.Names.{byte_after, zeros, naming_of, bytes_in, name_at, IsName, IsNaming, object_name, ObjectName}
use Rattle.names.specs.Written.{field_at}
use Rattle.names.proofs.Names.{zeros_iff, one_length, no_first, naming_is, naming_only, object_name_iff, same_name}

-- ---- bytes inside and past the end

pub byte-is : (f : List ℕ) (p k : ℕ) → byte_after f p k ≡ get_or f (p + k) 0
unfolding num_at
byte-is f p k = omega arith

byte_past : (f : List ℕ) (p k : ℕ) → length f ≤ p + k → byte_after f p k ≡ 0
byte_past f p k h = byte-is f p k ∙ get_or-eq_default f 0 h

-- ---- what is decided the same way

-- two statements that hold together are decided alike
same_test : (s t : Bool) (A B : Type 0) → Agrees s A → Agrees t B → (A ↔ B) → s ≡ t
same_test true true A B a b e = refl
same_test true false A B a b e = absurd (b (e.0 a))
same_test false true A B a b e = absurd (a (e.1 b))
same_test false false A B a b e = refl

-- ---- zeros

all_zeros : (f : List ℕ) (p from until : ℕ) → ((k : ℕ) → from ≤ k → k < until → byte_after f p k ≡ 0) → true ≡ test (zeros f p from until)
all_zeros f p from until h =
    let all : Holds (zeros f p from until) = (zeros_iff f p from until).1 h in
    same_test true (test (zeros f p from until)) (Holds (zeros f p from until)) (Holds (zeros f p from until)) all (agrees (zeros f p from until)) (λ a. a, λ a. a)

no_zero : (f : List ℕ) (p from until k : ℕ) → from ≤ k → k < until → (byte_after f p k ≡ 0 → ⊥) → false ≡ test (zeros f p from until)
no_zero f p from until k l g z =
    let none : Holds (zeros f p from until) → ⊥ = λ all. z ((zeros_iff f p from until).0 all k l g) in
    same_test false (test (zeros f p from until)) (Holds (zeros f p from until)) (Holds (zeros f p from until)) none (agrees (zeros f p from until)) (λ a. a, λ a. a)

-- the bytes from `from` up to k are zeros, and k is past those that lie inside the file
pub zeros_end : (f : List ℕ) (p from until top k : ℕ) → top ≡ min until (length f - p) → top ≤ k → ((j : ℕ) → j < k → from ≤ j → byte_after f p j ≡ 0) → true ≡ test (zeros f p from until)
zeros_end f p from until top k e h passed =
    all_zeros f p from until (λ j l g. ⊎_elim (λ (a : k ≤ j). byte_past f p j (omega arith)) (λ (a : j < k). passed j a l) (le-or-lt k j))

pub zeros_stop : (f : List ℕ) (p from until top k : ℕ) → top ≡ min until (length f - p) → k < top → from ≤ k → (get_or f (p + k) 0 ≡ 0 → ⊥) → false ≡ test (zeros f p from until)
zeros_stop f p from until top k e h l z = no_zero f p from until k l (omega arith) (λ b. z (sym (byte-is f p k) ∙ b))

-- ---- one pass over the eight bytes

-- n bytes of a name were passed
abbrev pub Passed : List ℕ → ℕ → ℕ → Type 0
Passed f p n = (k : ℕ) → k < n → (0x20 ≤ byte_after f p k) × (byte_after f p k ≤ 0x7E)

-- the last of n bytes is no space
abbrev Ended : List ℕ → ℕ → ℕ → Type 0
Ended f p n = 0 < n → byte_after f p (n - 1) ≡ 0x20 → ⊥

-- no number of bytes makes a name
abbrev Never : List ℕ → ℕ → Type 0
Never f p = (count : ℕ) → IsName f p count → ⊥

-- what is found: a name of n bytes, or none
abbrev Found : List ℕ → ℕ → ℕ → Bool → Type 0
Found f p n true = IsName f p n
Found f p n false = Never f p

-- what the first k bytes are: a name's, of which the last is no space or is one; n of a name and then zeros; or no name's beginning. The
-- booleans are the code's: all well so far, the last byte is one of a name, it is a space
pub data Spelt (f : List ℕ) (p k n : ℕ) : Bool → Bool → Bool → Type 0 where
  lettered : n ≡ k → Passed f p k → Ended f p k → Spelt f p k n true true false
  after_space : n ≡ k → Passed f p k → 0 < k → byte_after f p (k - 1) ≡ 0x20 → Spelt f p k n true true true
  closed : n < k → Passed f p n → Ended f p n → ((j : ℕ) → n ≤ j → j < k → byte_after f p j ≡ 0) → Spelt f p k n true false false
  spoiled : {before spaced : Bool} → Never f p → Spelt f p k n false before spaced

-- a byte that is neither a name's nor a zero is in no name
stray : (f : List ℕ) (p k : ℕ) → k < 8 → (0x20 ≤ byte_after f p k → byte_after f p k ≤ 0x7E → ⊥) → (byte_after f p k ≡ 0 → ⊥) → Never f p
stray f p k h other z count r =
    ⊎_elim (λ (g : count ≤ k). z (r.rest k g h)) (λ (g : k < count). let b = r.bytes k g in other b.0 b.1) (le-or-lt count k)

-- a name's byte after a zero is in no name
late : (f : List ℕ) (p n k : ℕ) → n ≤ k → k < 8 → byte_after f p n ≡ 0 → 0x20 ≤ byte_after f p k → Never f p
late f p n k l h z letter count r =
    ⊎_elim
    (λ (g : count ≤ n). let y = r.rest k (omega arith) h in omega arith)
    (λ (g : n < count). let b = (r.bytes n g).0 in omega arith)
    (le-or-lt count n)

-- a zero after a space ends no name: the name would have just the k bytes before it
unended : (f : List ℕ) (p k : ℕ) → 0 < k → k < 8 → byte_after f p (k - 1) ≡ 0x20 → byte_after f p k ≡ 0 → Never f p
unended f p k o h s z count r =
    ⊎_elim
    (λ (g : count ≤ k - 1). let y = r.rest (k - 1) g (omega arith) in omega arith)
    (λ (g : k - 1 < count).
    ⊎_elim
    (λ (m : count ≤ k). let e : count ≡ k = omega arith in r.last (omega arith) (rw e s))
    (λ (m : k < count). let b = (r.bytes k m).0 in omega arith)
    (le-or-lt count k))
    (le-or-lt count (k - 1))

-- what the byte at k is: a name's but no space, a space, a zero, or none of these. The booleans are the code's: a name's, a zero, a space
pub data Byte (f : List ℕ) (p k : ℕ) : Bool → Bool → Bool → Type 0 where
  letter : 0x21 ≤ byte_after f p k → byte_after f p k ≤ 0x7E → Byte f p k true false false
  space : byte_after f p k ≡ 0x20 → Byte f p k true false true
  nought : byte_after f p k ≡ 0 → Byte f p k false true false
  other : (0x20 ≤ byte_after f p k → byte_after f p k ≤ 0x7E → ⊥) → (byte_after f p k ≡ 0 → ⊥) → Byte f p k false false false

pub byte_tests : (f : List ℕ) (p k : ℕ) → Byte f p k (leb 0x20 (get_or f (p + k) 0) && leb (get_or f (p + k) 0) 0x7E) (eqb (get_or f (p + k) 0) 0) (eqb (get_or f (p + k) 0) 0x20)
byte_tests f p k = go (get_or f (p + k) 0) (byte-is f p k)
  where
    go : (b : ℕ) → byte_after f p k ≡ b → Byte f p k (leb 0x20 b && leb b 0x7E) (eqb b 0) (eqb b 0x20)
    go b i =
        ⊎_elim
        (λ (low : b ≤ 0).
        let z : b ≡ 0 = omega arith in
        rw z (nought (i ∙ z)))
        (λ (some : 0 < b).
        ⊎_elim
        (λ (under : b ≤ 0x1F).
        rw (lt-leb 0x20 b (omega arith), ne_eqb b 0 (λ e. omega arith), ne_eqb b 0x20 (λ e. omega arith)) (other (λ l m. omega arith) (λ e. omega arith)))
        (λ (from : 0x1F < b).
        ⊎_elim
        (λ (least : b ≤ 0x20).
        let e : b ≡ 0x20 = omega arith in
        rw e (space (i ∙ e)))
        (λ (above : 0x20 < b).
        ⊎_elim
        (λ (most : b ≤ 0x7E).
        rw (le-leb 0x20 b (omega arith), le-leb b 0x7E most, ne_eqb b 0 (λ e. omega arith), ne_eqb b 0x20 (λ e. omega arith)) (letter (omega arith) (omega arith)))
        (λ (over : 0x7E < b).
        rw (le-leb 0x20 b (omega arith), lt-leb b 0x7E over, ne_eqb b 0 (λ e. omega arith), ne_eqb b 0x20 (λ e. omega arith)) (other (λ l m. omega arith) (λ e. omega arith)))
        (le-or-lt b 0x7E))
        (le-or-lt b 0x20))
        (le-or-lt b 0x1F))
        (le-or-lt b 0)

pub at_most_one : (b : Bool) → bool_byte b ≤ 1
at_most_one true = omega arith
at_most_one false = omega arith

-- one byte of a name more
passed_more : (f : List ℕ) (p k : ℕ) → Passed f p k → 0x20 ≤ byte_after f p k → byte_after f p k ≤ 0x7E → Passed f p (k + 1)
passed_more f p k passed a b = below_more (λ j. (0x20 ≤ byte_after f p j) × (byte_after f p j ≤ 0x7E)) k passed (a, b)

-- the last of k + 1 bytes is the one at k
last-is : (f : List ℕ) (p k x : ℕ) → byte_after f p k ≡ x → byte_after f p (k + 1 - 1) ≡ x
last-is f p k x e = let i : k + 1 - 1 ≡ k = omega arith in rw i e

ended_more : (f : List ℕ) (p k : ℕ) → 0x21 ≤ byte_after f p k → Ended f p (k + 1)
ended_more f p k a o e = let i : k + 1 - 1 ≡ k = omega arith in let b : byte_after f p k ≡ 0x20 = rw i at e in omega arith

-- one byte more
pub one_more : (f : List ℕ) (p k n : ℕ) (ok before spaced l z s : Bool) → k < 8 → Spelt f p k n ok before spaced → Byte f p k l z s
    → Spelt f p (k + 1) (n + bool_byte l) (ok && ((z && not spaced) || (l && before))) l s
one_more f p k n _ _ _ _ _ _ h (lettered e passed end) (letter a b) = lettered (omega arith) (passed_more f p k passed (omega arith) b) (ended_more f p k a)
one_more f p k n _ _ _ _ _ _ h (lettered e passed end) (space i) = after_space (omega arith) (passed_more f p k passed (omega arith) (omega arith)) (omega arith) (last-is f p k 0x20 i)
one_more f p k n _ _ _ _ _ _ h (lettered e passed end) (nought y) =
    closed (omega arith) (λ j l. passed j (omega arith)) (λ o. let i : n + 0 ≡ k = omega arith in rw i (end (omega arith))) (λ j l g. let i : j ≡ k = omega arith in rw i y)
one_more f p k n _ _ _ _ _ _ h (lettered e passed end) (other a y) = spoiled (stray f p k h a y)
one_more f p k n _ _ _ _ _ _ h (after_space e passed o i) (letter a b) = lettered (omega arith) (passed_more f p k passed (omega arith) b) (ended_more f p k a)
one_more f p k n _ _ _ _ _ _ h (after_space e passed o i) (space j) = after_space (omega arith) (passed_more f p k passed (omega arith) (omega arith)) (omega arith) (last-is f p k 0x20 j)
one_more f p k n _ _ _ _ _ _ h (after_space e passed o i) (nought y) = spoiled (unended f p k o h i y)
one_more f p k n _ _ _ _ _ _ h (after_space e passed o i) (other a y) = spoiled (stray f p k h a y)
one_more f p k n _ _ _ _ _ _ h (closed e passed end rest) (letter a b) = spoiled (late f p n k (omega arith) h (rest n (le_refl n) e) (omega arith))
one_more f p k n _ _ _ _ _ _ h (closed e passed end rest) (space i) = spoiled (late f p n k (omega arith) h (rest n (le_refl n) e) (omega arith))
one_more f p k n _ _ _ _ _ _ h (closed e passed end rest) (nought y) =
    closed (omega arith) (λ j l. passed j (omega arith)) (λ o. let i : n + 0 ≡ n = omega arith in rw i (end (omega arith))) (λ j l g. below_more (λ i. n ≤ i → byte_after f p i ≡ 0) k (λ i m o. rest i o m) (λ o. y) j g (omega arith))
one_more f p k n _ _ _ _ _ _ h (closed e passed end rest) (other a y) = spoiled (stray f p k h a y)
one_more f p k n _ _ _ _ _ _ h (spoiled never) (letter a b) = spoiled never
one_more f p k n _ _ _ _ _ _ h (spoiled never) (space i) = spoiled never
one_more f p k n _ _ _ _ _ _ h (spoiled never) (nought y) = spoiled never
one_more f p k n _ _ _ _ _ _ h (spoiled never) (other a y) = spoiled never

-- ---- what all eight bytes are

-- the code's test of the first byte
abbrev pub first_space : List ℕ → ℕ → Bool
first_space f p = eqb (get_or f p 0) 0x20

-- n bytes of a name and then only zeros: a name, where the first is no space
spelt_out : (f : List ℕ) (p n : ℕ) → n ≤ 8 → Passed f p n → Ended f p n → ((j : ℕ) → n ≤ j → j < 8 → byte_after f p j ≡ 0)
    → (t : Bool) → first_space f p ≡ t → Found f p n (true && (not t && true))
spelt_out f p n m passed end rest = go
  where
    at : p + 0 ≡ p
    at = omega arith

    first-is : byte_after f p 0 ≡ get_or f p 0
    first-is = byte-is f p 0 ∙ rw at refl

    go : (t : Bool) → first_space f p ≡ t → Found f p n (true && (not t && true))
    go true e = λ count r. no_first r (first-is ∙ eqb-true (get_or f p 0) 0x20 e)
    go false e = record { room = m; bytes = passed; first = λ o s. eqb-false (get_or f p 0) 0x20 e (sym first-is ∙ s); last = end; rest = rest }

-- eight bytes of which the last is a space
full_space : (f : List ℕ) (p k : ℕ) → k ≡ 8 → byte_after f p (k - 1) ≡ 0x20 → Never f p
full_space f p k e s count r =
    ⊎_elim
    (λ (g : count ≤ k - 1). let y = r.rest (k - 1) g (omega arith) in omega arith)
    (λ (g : k - 1 < count). let m = r.room in let c : count ≡ k = omega arith in r.last (omega arith) (rw c s))
    (le-or-lt count (k - 1))

-- all eight bytes: those of the name were counted
all_eight : (f : List ℕ) (p k n : ℕ) (ok before spaced : Bool) → k ≡ 8 → Spelt f p k n ok before spaced
    → Found f p n (ok && (not (first_space f p) && not spaced))
all_eight f p k n _ _ _ e (lettered q passed end) =
    let i : k ≡ n = omega arith in
    spelt_out f p n (omega arith) (λ j l. passed j (omega arith)) (rw i at end) (λ j l g. absurd (omega arith)) (first_space f p) refl
all_eight f p k n _ _ _ e (after_space q passed o s) = rw (and-false (not (first_space f p))) (full_space f p k e s)
all_eight f p k n _ _ _ e (closed q passed end rest) =
    spelt_out f p n (omega arith) passed end (λ j l g. rest j l (omega arith)) (first_space f p) refl
all_eight f p k n _ _ _ e (spoiled never) = never

-- what the code answers
pub spelt_name : (f : List ℕ) (p k n : ℕ) (ok before spaced : Bool) → k ≡ 8 → Spelt f p k n ok before spaced
    → (ok && (not (first_space f p) && not spaced)) ≡ true → Some n ≡ naming_of f p
spelt_name f p k n ok before spaced e s h =
    naming_only f p (Some n) (naming_of f p) (subst (λ (t : Bool). Found f p n t) h (all_eight f p k n ok before spaced e s)) (naming_is f p)

pub spelt_none : (f : List ℕ) (p k n : ℕ) (ok before spaced : Bool) → k ≡ 8 → Spelt f p k n ok before spaced
    → (ok && (not (first_space f p) && not spaced)) ≡ false → None ≡ naming_of f p
spelt_none f p k n ok before spaced e s h =
    naming_only f p None (naming_of f p) (subst (λ (t : Bool). Found f p n t) h (all_eight f p k n ok before spaced e s)) (naming_is f p)

-- ---- whether there is a name of at least so many bytes

abbrev has_enough : ℕ → Option ℕ → Bool
has_enough least (Some n) = leb least n
has_enough least None = false

enough : (f : List ℕ) (p least : ℕ) (a : Option ℕ) → IsNaming f p a → Agrees (has_enough least a) (ObjectName f p least)
enough f p least (Some n) r = go (leb least n) refl
  where
    go : (s : Bool) → leb least n ≡ s → Agrees s (ObjectName f p least)
    go true e = record { count = n; enough = leb-true least n e; name = r }
    go false e = λ (o : ObjectName f p least). let l = leb-false least n e in let s = one_length o.name r in let m = o.enough in omega arith
enough f p least None r = λ (o : ObjectName f p least). r o.count o.name

pub told_enough : (f : List ℕ) (p least : ℕ) (a : Option ℕ) → a ≡ naming_of f p → has_enough least a ≡ test (object_name f p least)
told_enough f p least a e =
    let c : Claim = object_name f p least in
    let i = object_name_iff f p least in
    rw e
    (same_test (has_enough least (naming_of f p)) (test c) (ObjectName f p least) (Holds c) (enough f p least (naming_of f p) (naming_is f p)) (agrees c) (i.1, i.0))

-- a record's name: n is how many bytes it has
pub named_at : (f : List ℕ) (p n : ℕ) (a : Option ℕ) → a ≡ naming_of f p → n ≡ unwrap_or a 0 → record { place = p; bytes = n } ≡ name_at f p
unfolding name_at
named_at f p n a e q = ap (λ (x : ℕ). record { place = p; bytes = x }) (q ∙ told a ∙ ap bytes_in e)
  where
    told : (a : Option ℕ) → unwrap_or a 0 ≡ bytes_in a
    told (Some n) = refl
    told None = refl

-- ---- a field that the file may end in

-- the bytes of a field, taken out of the file
pub field_entry : (f : List ℕ) (p k : ℕ) → k < 8 → get_or (field_at f p) k 0 ≡ byte_after f p k
unfolding field_at
field_entry f p zero h = refl
field_entry f p (suc zero) h = refl
field_entry f p (suc (suc zero)) h = refl
field_entry f p (suc (suc (suc zero))) h = refl
field_entry f p (suc (suc (suc (suc zero)))) h = refl
field_entry f p (suc (suc (suc (suc (suc zero))))) h = refl
field_entry f p (suc (suc (suc (suc (suc (suc zero)))))) h = refl
field_entry f p (suc (suc (suc (suc (suc (suc (suc zero))))))) h = refl
field_entry f p (suc (suc (suc (suc (suc (suc (suc (suc k)))))))) h = absurd (omega arith)

pub field_byte : (f : List ℕ) (p k : ℕ) → k < 8 → byte_after (field_at f p) 0 k ≡ byte_after f p k
field_byte f p k h = let i : 0 + k ≡ k = omega arith in byte-is (field_at f p) 0 k ∙ rw i (field_entry f p k h)

-- what is answered of a field that was taken out of the file
pub cut_naming : (f g : List ℕ) (p : ℕ) (a : Option ℕ) → g ≡ field_at f p → a ≡ naming_of g 0 → a ≡ naming_of f p
cut_naming f g p a e h =
    (rw e at h) ∙ naming_only f p (naming_of (field_at f p) 0) (naming_of f p) (carried (naming_of (field_at f p) 0) (naming_is (field_at f p) 0)) (naming_is f p)
  where
    carried : (a : Option ℕ) → IsNaming (field_at f p) 0 a → IsNaming f p a
    carried (Some n) r = same_name (field_byte f p) r
    carried None r = λ n i. r n (same_name (λ k l. sym (field_byte f p k l)) i)
