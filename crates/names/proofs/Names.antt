-- What the name rules say, in plain facts: a name's claim holds exactly where the record of its facts does. The record's number is the
-- one that is counted, since no byte before it is 0 and the next one is.
use Prim.Native.Nat.{ℕ, ◌+◌, ◌-◌, ◌*◌, ◌/◌, ◌%◌, ◌≤◌, ◌<◌}
use mathlib.Core.Path.{◌≡◌, refl, sym, ap, ◌∙◌}
use mathlib.Core.Bool.{Bool, true, false, cond}
use mathlib.Core.List.{List}
use mathlib.Core.Logic.{◌↔◌, ◌⊎◌, inl, inr, ⊎_elim}
use native.Mathlib.Nat.{le_refl}
use native.Mathlib.Omega.{arith}
use Rattle.verdict.specs.Facts.{Claim, test, Holds}
use Rattle.verdict.proofs.Facts.{Agrees, agrees}
use Rattle.verdict.proofs.Orders.{le-or-lt}
use Rattle.names.specs.Names.{byte_after, bytes_between, zeros, name_length, is_name, naming_of, bytes_in, IsName, IsNaming, object_name, ObjectName, code_count, station_name_length, code_at, codes, station_name, StationName}
use Rattle.names.specs.Base.{BaseName}
use Rattle.std.specs.Prelude.{Option, Some, None}
use Rattle.names.proofs.Counts.{lead_most, lead_is, each_number}

-- ---- bytes

between_iff : (f : List ℕ) (p from until low high : ℕ) → Holds (bytes_between f p from until low high) ↔ ((k : ℕ) → from ≤ k → k < until → (low ≤ byte_after f p k) × (byte_after f p k ≤ high))
unfolding bytes_between
between_iff f p from until low high = each_number (λ k. (low ≤ byte_after f p k) × (byte_after f p k ≤ high)) from until

pub zeros_iff : (f : List ℕ) (p from until : ℕ) → Holds (zeros f p from until) ↔ ((k : ℕ) → from ≤ k → k < until → byte_after f p k ≡ 0)
zeros_iff f p from until =
    let b = between_iff f p from until 0 0 in
    (λ h k l g. let z = (b.0 h k l g).1 in omega arith, λ h. b.1 (λ k l g. let z = h k l g in (omega arith, omega arith)))

codes_iff : (f : List ℕ) (p n : ℕ) → Holds (codes f p n) ↔ ((k : ℕ) → 0 ≤ k → k < n → Holds (code_at f p k))
unfolding codes
codes_iff f p n = each_number (λ k. Holds (code_at f p k)) 0 n

-- ---- names of 8 bytes

-- THEOREM (02, ticket 10): the rule says how many bytes the name has: those before the first 0x00 ..
pub name_length_lem : {f : List ℕ} {p count : ℕ} → IsName f p count → count ≡ name_length f p
unfolding name_length
name_length_lem {f} {p} {count} r =
    lead_is (λ k. byte_after f p k) 8 count r.room (λ k l z. let b = (r.bytes k l).0 in omega arith) (λ l. r.rest count (le_refl count) l)

-- .. and no other number.
pub one_length : {f : List ℕ} {p m n : ℕ} → IsName f p m → IsName f p n → m ≡ n
one_length a b = name_length_lem a ∙ sym (name_length_lem b)

-- where a name is empty, its first byte and its last one are the first 0x00
pub no_first : {f : List ℕ} {p count : ℕ} → IsName f p count → byte_after f p 0 ≡ 0x20 → ⊥
no_first {f} {p} {count} r e =
    ⊎_elim (λ (g : 1 ≤ count). r.first g e) (λ (g : count < 1). let z = r.rest 0 (omega arith) (omega arith) in omega arith) (le-or-lt 1 count)

no_last : {f : List ℕ} {p count : ℕ} → IsName f p count → byte_after f p (count - 1) ≡ 0x20 → ⊥
no_last {f} {p} {count} r e =
    ⊎_elim (λ (g : 1 ≤ count). r.last g e) (λ (g : count < 1). let z = r.rest (count - 1) (omega arith) (omega arith) in omega arith) (le-or-lt 1 count)

-- THEOREM (02, ticket 10): the claim of a name of so many bytes holds exactly where the record of its facts does.
pub name_iff : (f : List ℕ) (p count : ℕ) → count ≤ 8 → Holds (is_name f p count) ↔ IsName f p count
unfolding is_name
name_iff f p count m = (
  λ h. record {
    room = m;
    bytes = λ k l. (between_iff f p 0 count 0x20 0x7E).0 h.0 k (omega arith) l;
    first = λ _. h.1.0;
    last = λ _. h.1.1.0;
    rest = (zeros_iff f p count 8).0 h.1.1.1;
  },
  λ r. (
    (between_iff f p 0 count 0x20 0x7E).1 (λ k z l. r.bytes k l),
    (no_first r, (no_last r, (zeros_iff f p count 8).1 r.rest)),
  ),
)

pub length_most : (f : List ℕ) (p : ℕ) → name_length f p ≤ 8
unfolding name_length
length_most f p = lead_most (λ k. byte_after f p k) 8

-- ---- what the 8 bytes are

module _ (f : List ℕ) (p : ℕ) where
  -- the claim of a name of the bytes before the first 0x00
  abbrev counted : Claim
  counted = is_name f p (name_length f p)

  -- THEOREM (02, ticket 10): what is computed of 8 bytes is right: a name of so many bytes is one by the rule, and else there is none; ..
  pub naming_is : IsNaming f p (naming_of f p)
  unfolding naming_of
  naming_is = go (test counted) (agrees counted)
    where
      right : Holds counted ↔ IsName f p (name_length f p)
      right = name_iff f p (name_length f p) (length_most f p)

      go : (t : Bool) → Agrees t (Holds counted) → IsNaming f p (cond t (Some (name_length f p)) None)
      go true h = right.0 h
      go false h = λ n r. h (right.1 (rw (← name_length_lem r) r))

-- .. and no other answer is.
pub naming_only : (f : List ℕ) (p : ℕ) (a b : Option ℕ) → IsNaming f p a → IsNaming f p b → a ≡ b
naming_only f p (Some m) (Some n) a b = ap Some (one_length a b)
naming_only f p (Some m) None a b = absurd (b m a)
naming_only f p None (Some n) a b = absurd (a n b)
naming_only f p None None a b = refl

-- how many bytes that is
pub bytes_most : (f : List ℕ) (p : ℕ) → bytes_in (naming_of f p) ≤ 8
bytes_most f p = go (naming_of f p) (naming_is f p)
  where
    go : (a : Option ℕ) → IsNaming f p a → bytes_in a ≤ 8
    go (Some n) r = r.room
    go None r = omega arith

pub bytes_are : {f : List ℕ} {p count : ℕ} → IsName f p count → bytes_in (naming_of f p) ≡ count
bytes_are {f} {p} {count} r = ap bytes_in (naming_only f p (naming_of f p) (Some count) (naming_is f p) r)

pub object_name_iff : (f : List ℕ) (p least : ℕ) → Holds (object_name f p least) ↔ ObjectName f p least
unfolding object_name
object_name_iff f p least =
    let i = name_iff f p (name_length f p) (length_most f p) in (
      λ h. record { count = name_length f p; enough = h.0; name = i.0 h.1 },
      λ r.
          let e = name_length_lem r.name in
          (rw (← e) r.enough, i.1 (rw (← e) r.name)),
    )

-- THEOREM (02, ticket 10): every name that is right by document 01 alone is right, and has as many bytes.
pub base_name : {f : List ℕ} {p count : ℕ} → BaseName f p count → IsName f p count
base_name {f} {p} {count} r = record {
  room = r.room;
  bytes = λ k l. let b = r.bytes k l in (omega (arith, b.0), b.1);
  first = λ l e. let b = r.bytes 0 l in omega (arith, b.0);
  last = λ l e. let b = r.bytes (count - 1) (omega arith) in omega (arith, b.0);
  rest = r.rest;
}

-- the rule looks at the 8 bytes alone
pub same_name : {f g : List ℕ} {p q count : ℕ} → ((k : ℕ) → k < 8 → byte_after f p k ≡ byte_after g q k) → IsName f p count → IsName g q count
same_name {f} {g} {p} {q} {count} same r =
    let m = r.room in
    record {
      room = m;
      bytes = λ k l. let e = same k (omega arith) in let b = r.bytes k l in (omega (arith, e, b.0), omega (arith, e, b.1));
      first = λ l e. r.first l (same 0 (omega arith) ∙ e);
      last = λ l e. r.last l (same (count - 1) (omega arith) ∙ e);
      rest = λ k l h. sym (same k h) ∙ r.rest k l h;
    }

-- ---- station name

-- the record's number of codes is the one that is counted
pub station_name_count : {f : List ℕ} {p : ℕ} (r : StationName f p) → r.count ≡ code_count f p
unfolding code_count
station_name_count {f} {p} r =
    lead_is (λ k. byte_after f p (2 * k)) 8 r.count r.room (λ k l z. let b = (r.first k l).0 in omega arith) (λ l. r.rest (2 * r.count) (le_refl (2 * r.count)) (omega arith))

pub station_name_iff : (f : List ℕ) (p : ℕ) → Holds (station_name f p) ↔ StationName f p
unfolding station_name code_count
station_name_iff f p = (
  λ h. record {
    count = code_count f p;
    enough = h.0;
    room = lead_most (λ k. byte_after f p (2 * k)) 8;
    first = λ k l. ((codes_iff f p (code_count f p)).0 h.1.0 k (omega arith) l).0;
    second = λ k l. ((codes_iff f p (code_count f p)).0 h.1.0 k (omega arith) l).1;
    rest = (zeros_iff f p (2 * code_count f p) 16).0 h.1.1;
  },
  λ r. rw (← station_name_count r) (
    r.enough,
    ((codes_iff f p r.count).1 (λ k z l. (r.first k l, r.second k l)), (zeros_iff f p (2 * r.count) 16).1 r.rest),
  ),
)

-- a byte of a code is not 0
code_byte : {f : List ℕ} {p : ℕ} (r : StationName f p) (k : ℕ) → k < 2 * r.count → byte_after f p k ≡ 0 → ⊥
code_byte {f} {p} r k h z = by_half (le-or-lt 1 (k % 2))
  where
    by_half : (1 ≤ k % 2) ⊎ (k % 2 < 1) → ⊥
    by_half (inl o) =
        let e : k ≡ 2 * (k / 2) + 1 = omega arith in
        let y = rw e at z in
        ⊎_elim (λ b. omega (arith, y, b.0)) (λ b. omega (arith, y, b.0)) (r.second (k / 2) (omega arith))
    by_half (inr o) =
        let e : k ≡ 2 * (k / 2) = omega arith in
        let y = rw e at z in
        let b = (r.first (k / 2) (omega arith)).0 in
        omega (arith, y, b)

-- THEOREM: a station's name ends where its closing zeros begin: a byte of the sixteen is 0 exactly where the name's length is passed.
pub station_name_ends : {f : List ℕ} {p : ℕ} → StationName f p → (k : ℕ) → k < 16 → (byte_after f p k ≡ 0) ↔ (station_name_length f p ≤ k)
station_name_ends {f} {p} r k h =
    let n = station_name_count r in (
      λ z. ⊎_elim (λ (g : station_name_length f p ≤ k). g) (λ (g : k < station_name_length f p). absurd (code_byte r k (omega arith) z)) (le-or-lt (station_name_length f p) k),
      λ g. r.rest k (omega arith) h,
    )
