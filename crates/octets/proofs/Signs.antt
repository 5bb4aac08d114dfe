-- Signed numbers as the machine has them: the two halves of two's complement, for every width at once.
use mathlib.Core.Path.{◌≡◌, refl, sym, ap, ap₂, ◌∙◌, subst}
use mathlib.Core.List.{List}
use mathlib.Core.Logic.{⊎_elim}
use Prim.Native.Nat.{ℕ, zero, suc, ◌+◌, ◌-◌, ◌^◌, ◌≤◌, ◌<◌}
use native.Mathlib.Omega.{arith}
use lib.IntN.{ℤ, pos, negsuc, ◌-ℤ◌, nat_abs}
use borrow.Author.Tests.{lt-ltb, le-ltb}
use mir.Syntax.{w64}
use mir.Val.{to_z, of_z}
use mir.Facts.{to_z_pos, to_z-of_z}
use lib.Signed.{mag}
use Rattle.verdict.proofs.Orders.{le-or-lt}
use Rattle.octets.specs.declared.Width.{Width}
use Rattle.octets.specs.declared.Width.TheVariants.{One, Two, Three, Four}
use Rattle.octets.specs.Octets.{bytes_of, half_of, signed, signed_at, Is, IsSigned}

less_one : (m : ℕ) → negsuc 0 -ℤ pos m ≡ negsuc m
less_one zero = refl
less_one (suc k) = ap negsuc (omega arith)

-- -1 - m, as the code computes it
pub minus : (m : ℕ) → m < 2 ^ 63 → negsuc 0 -ℤ to_z w64 m ≡ negsuc m
minus m h = ap (λ (z : ℤ). negsuc 0 -ℤ z) (to_z_pos w64 h) ∙ less_one m

pub low : (half n : ℕ) → n < half → signed half n ≡ pos n
unfolding signed
low half n h = simp (lt-ltb _ _ h)

pub high : (half n : ℕ) → half ≤ n → signed half n ≡ negsuc (half + half - 1 - n)
unfolding signed
high half n h = rw (le-ltb n half h) (ap negsuc (omega arith))

-- a number that a call gave is read back as it was
pub kept : (z : ℤ) → mag z < 2 ^ 63 → to_z w64 (of_z w64 z) ≡ z
kept z h = to_z-of_z {w = w64} (record { sfits = h })

signed_near : (half n : ℕ) → n < half + half → mag (signed half n) < half
signed_near half n h =
    ⊎_elim
    (λ (g : half ≤ n). let e = ap mag (high half n g) in omega arith)
    (λ (g : n < half). let e = ap mag (low half n g) in omega arith)
    (le-or-lt half n)

-- the two halves of a width
pub halves : (w : Width) → 256 ^ bytes_of w ≡ half_of (bytes_of w) + half_of (bytes_of w)
halves One = refl
halves Two = refl
halves Three = refl
halves Four = refl

pub half_most : (w : Width) → half_of (bytes_of w) ≤ 2147483648
half_most One = omega arith
half_most Two = omega arith
half_most Three = omega arith
half_most Four = omega arith

-- the signed number of a width, from the number of the width
pub of_number : (w : Width) (s : List ℕ) (i u h : ℕ) (r : ℤ) → Is (bytes_of w) s i u → h ≡ half_of (bytes_of w) → r ≡ signed h u → IsSigned (bytes_of w) s i r
unfolding signed_at
of_number w s i u h r p e q =
    let g : u < half_of (bytes_of w) + half_of (bytes_of w) = omega (arith, p.below, halves w) in
    let k : r ≡ signed (half_of (bytes_of w)) u = q ∙ ap (λ (x : ℕ). signed x u) e in
    record {
      is = k ∙ ap (signed (half_of (bytes_of w))) p.is;
      small = subst (λ (z : ℤ). mag z < half_of (bytes_of w)) (sym k) (signed_near (half_of (bytes_of w)) u g);
    }

-- how far the signed number is from 0
pub low_distance : (half n : ℕ) → n < half → n ≡ nat_abs (signed half n)
low_distance half n h = sym (ap nat_abs (low half n h))

pub high_distance : (half n : ℕ) → half ≤ n → n < half + half → half + half - n ≡ nat_abs (signed half n)
high_distance half n h g = let e = ap nat_abs (high half n h) in omega arith

pub distance_of_number : (w : Width) (s : List ℕ) (i u h r : ℕ) → Is (bytes_of w) s i u → h ≡ half_of (bytes_of w) → r ≡ nat_abs (signed h u) → r ≡ nat_abs (signed_at (bytes_of w) s i)
unfolding signed_at
distance_of_number w s i u h r p e q = q ∙ ap₂ (λ (x y : ℕ). nat_abs (signed x y)) e p.is

-- what the machine reads back of z
abbrev pub read : ℤ → ℤ
read z = to_z w64 (of_z w64 z)
