-- What the code reads of an entry once for all its points: a start that one function gives is what the next one is handed, since the
-- machine's word of it is read back as it was; and from a roomy start every point stays in the coordinates' ranges.
use Prim.Native.Nat.{ℕ, ◌+◌, ◌-◌, ◌^◌, ◌≤◌, ◌<◌}
use mathlib.Core.Path.{◌≡◌, refl, sym, subst}
use mathlib.Core.Bool.{Bool, true, ◌&&◌}
use mathlib.Core.List.{List}
use native.Mathlib.Omega.{arith}
use lib.Dec.{leb}
use lib.ListN.{get_or}
use lib.IntN.{ℤ, pos, negsuc, nat_abs, ◌+ℤ◌}
use lib.Signed.{mag}
use borrow.Author.Tests.{leb-true, le-leb}
use Rattle.octets.specs.declared.Width.{Width}
use Rattle.octets.specs.declared.Width.TheVariants.{Three, Four}
use Rattle.octets.specs.Octets.{bytes_of, num_at, signed_at, half_of, Is, IsSigned}
use Rattle.octets.proofs.Reading.{one, more}
use Rattle.octets.proofs.Signs.{read, kept, half_most, of_number}
use Rattle.octets.proofs.Sizes.{mag_add}
use Rattle.verdict.proofs.Orders.{and-true}
use Rattle.tables.specs.Table.{field_place, signed_of}
use Rattle.x1_records.specs.declared.Axis.{Axis}
use Rattle.x1_records.specs.Places.{latitude_most, longitude_most}
use Rattle.x1_records.specs.Rows.{start_latitude, start_longitude, first, last, latitude_increment, longitude_increment}
use Rattle.x1_verdict.specs.Agreement.{SumOf, FrameOf}

-- ---- handed on

pub start_handed : (w : Width) (f : List ℕ) (i : ℕ) (z : ℤ) → IsSigned (bytes_of w) f i z → IsSigned (bytes_of w) f i (read z)
start_handed w f i z h = subst (IsSigned (bytes_of w) f i) (sym (kept z (omega (arith, h.small, half_most w)))) h

pub start_small : (w : Width) (f : List ℕ) (i : ℕ) (z : ℤ) → IsSigned (bytes_of w) f i z → mag (read z) < 2 ^ 31
start_small w f i z h = omega (arith, (start_handed w f i z h).small, half_most w)

pub sum_handed : (f : List ℕ) (axis : Axis) (e p : ℕ) (z : ℤ) → SumOf f axis e p z → SumOf f axis e p (read z)
sum_handed f axis e p z h = subst (SumOf f axis e p) (sym (kept z (omega (arith, h.small)))) h

-- ---- roomy

-- how far a number is from 0, and its size
mag_most : (z : ℤ) → mag z ≤ nat_abs z
mag_most (pos n) = omega arith
mag_most (negsuc n) = omega arith

far_most : (z : ℤ) → nat_abs z ≤ mag z + 1
far_most (pos n) = omega arith
far_most (negsuc n) = omega arith

-- three bytes are an increment of at most so much
increment_small : (f : List ℕ) → ((i : ℕ) → get_or f i 0 < 256) → (i : ℕ) → mag (signed_at 3 f i) < half_of 3
unfolding signed_at
increment_small f bytes i =
    let n = more 2 f i _ _ (one f i (bytes i)) (more 1 f (i + 1) _ _ (one f (i + 1) (bytes (i + 1))) (one f (i + 1 + 1) (bytes (i + 1 + 1)))) in
    let m : Is 3 f i (num_at 3 f i) = record { is = refl; below = omega (arith, n.is, n.below) } in
    (of_number Three f i (num_at 3 f i) (half_of 3) (signed_at 3 f i) m refl refl).small

-- from so far inside, an increment leads to the limit at most
stays_inside : (x y : ℤ) (limit : ℕ) → nat_abs x + half_of 3 < limit → mag y < half_of 3 → nat_abs (x +ℤ y) ≤ limit
stays_inside x y limit h q =
    let m = mag_add x y (nat_abs x) (2 ^ 23 - 1) (mag_most x) (omega arith) in
    omega (arith, far_most (x +ℤ y))

module _ (x y : ℤ) where
  -- m and n are how far x and y are from 0, and no more than so much
  pub both_inside :
      (m n north east : ℕ) → m ≡ nat_abs x → n ≡ nat_abs y → (leb m north && leb n east) ≡ true → north + half_of 3 < latitude_most → east + half_of 3 < longitude_most
      → (nat_abs x + half_of 3 < latitude_most) × (nat_abs y + half_of 3 < longitude_most)
  both_inside m n north east i j h k l =
      let both = and-true (leb m north) (leb n east) h in
      (omega (arith, leb-true m north both.0), omega (arith, leb-true n east both.1))

  -- the frame of an entry whose start is x and y: as they are handed on, they lie so far inside if r is true
  pub frame_read :
      (f : List ℕ) → ((i : ℕ) → get_or f i 0 < 256) → (e m n : ℕ) (r : Bool) → Is 2 f (field_place e first) m → Is 2 f (field_place e last) n
      → IsSigned 4 f (field_place e start_latitude) x → IsSigned 4 f (field_place e start_longitude) y
      → (r ≡ true → (nat_abs (read x) + half_of 3 < latitude_most) × (nat_abs (read y) + half_of 3 < longitude_most))
      → FrameOf f e (record { first = m; last = n; latitude = read x; longitude = read y; roomy = r })
  frame_read f bytes e m n r i j s t inside =
      let north = start_handed Four f (field_place e start_latitude) x s in
      let east = start_handed Four f (field_place e start_longitude) y t in
      let increment = increment_small f bytes in
      record {
        first = i.is;
        last = j.is;
        latitude = north;
        longitude = east;
        roomy = λ h p.
            let north_inside = subst (λ (z : ℤ). nat_abs z + half_of 3 < latitude_most) north.is (inside h).0 in
            let east_inside = subst (λ (z : ℤ). nat_abs z + half_of 3 < longitude_most) east.is (inside h).1 in
            let latitude = stays_inside (signed_of f e start_latitude) (signed_of f p latitude_increment) latitude_most north_inside (increment (field_place p latitude_increment)) in
            let longitude = stays_inside (signed_of f e start_longitude) (signed_of f p longitude_increment) longitude_most east_inside (increment (field_place p longitude_increment)) in
            simp (le-leb _ _ latitude, le-leb _ _ longitude);
      }
