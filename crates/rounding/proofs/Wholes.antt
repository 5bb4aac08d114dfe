-- Laws of the whole numbers that the kit lacks: a sum is multiplied term by term, and x ≤ y exactly where y is x and a natural number more,
-- so that sums and products keep the order.
use mathlib.Core.Path.{◌≡◌, refl, sym, ap, ap₂, ◌∙◌, subst, subst⁻¹}
use mathlib.Core.Bool.{Bool, true, false, cond}
use mathlib.Core.Logic.{⊎_elim}
use Prim.Native.Nat.{ℕ, zero, suc, ◌+◌, ◌-◌, ◌*◌, ◌≤◌, ◌<◌}
use native.Mathlib.Nat.{mul-add, mul_comm, mul_assoc, zero-mul}
use native.Mathlib.Omega.{arith}
use lib.Dec.{T, ltb, le→leb, leb→le, lt→ltb}
use borrow.Author.Tests.{ltb-true, le-ltb, lt-ltb}
use lib.IntN.{ℤ, pos, negsuc, neg_ℤ, ◌+ℤ◌, ◌-ℤ◌, ◌*ℤ◌, +ℤ_assoc, +ℤ_comm, neg_ℤ-neg_ℤ, neg_ℤ-+ℤ, *ℤ_comm, *ℤ-zero, -ℤ-+ℤ_cancel}
use lib.Signed.{le_z, lt_z, ◌≤ℤ◌, ◌<ℤ◌, clash_ℤ}
use Rattle.verdict.proofs.Orders.{le-or-lt}

-- ---- sums and products

pub exchange : (a b c d : ℤ) → (a +ℤ b) +ℤ (c +ℤ d) ≡ (a +ℤ c) +ℤ (b +ℤ d)
exchange a b c d =
    +ℤ_assoc a b (c +ℤ d)
    ∙ ap (λ (z : ℤ). a +ℤ z) (sym (+ℤ_assoc b c d) ∙ ap (λ (z : ℤ). z +ℤ d) (+ℤ_comm b c) ∙ +ℤ_assoc c b d)
    ∙ sym (+ℤ_assoc a c (b +ℤ d))

pub times_sum : (x : ℤ) (s t : ℕ) → x *ℤ pos (s + t) ≡ x *ℤ pos s +ℤ x *ℤ pos t
times_sum (pos a) s t = ap pos (mul-add a s t)
times_sum (negsuc a) s t =
    ap (λ (n : ℕ). neg_ℤ (pos n)) (mul-add (suc a) s t) ∙ neg_ℤ-+ℤ (pos (suc a * s)) (pos (suc a * t))

times_one : (x : ℤ) → x *ℤ pos 1 ≡ x
times_one (pos a) = ap pos (omega arith)
times_one (negsuc a) = let e : suc a * 1 ≡ suc a = omega arith in ap (λ (n : ℕ). neg_ℤ (pos n)) e

pub sum_times : (x y : ℤ) (t : ℕ) → (x +ℤ y) *ℤ pos t ≡ x *ℤ pos t +ℤ y *ℤ pos t
sum_times x y zero = *ℤ-zero (x +ℤ y) ∙ sym (ap₂ ◌+ℤ◌ (*ℤ-zero x) (*ℤ-zero y))
sum_times x y (suc t) =
    once_more (x +ℤ y)
    ∙ ap (λ (z : ℤ). z +ℤ (x +ℤ y)) (sum_times x y t)
    ∙ exchange (x *ℤ pos t) (y *ℤ pos t) x y
    ∙ sym (ap₂ ◌+ℤ◌ (once_more x) (once_more y))
  where
    once_more : (z : ℤ) → z *ℤ pos (suc t) ≡ z *ℤ pos t +ℤ z
    once_more z =
        let e : suc t ≡ t + 1 = omega arith in
        ap (λ (n : ℕ). z *ℤ pos n) e ∙ times_sum z t 1 ∙ ap (λ (w : ℤ). z *ℤ pos t +ℤ w) (times_one z)

pub opposite_times : (x : ℤ) (t : ℕ) → neg_ℤ x *ℤ pos t ≡ neg_ℤ (x *ℤ pos t)
opposite_times (pos zero) t = ap pos (zero-mul t) ∙ sym (ap (λ (n : ℕ). neg_ℤ (pos n)) (zero-mul t))
opposite_times (pos (suc a)) t = refl
opposite_times (negsuc a) t = sym (neg_ℤ-neg_ℤ (pos (suc a * t)))

pub times_opposite : (k n : ℕ) → pos k *ℤ neg_ℤ (pos n) ≡ neg_ℤ (pos (k * n))
times_opposite k n =
    *ℤ_comm (pos k) (neg_ℤ (pos n)) ∙ opposite_times (pos n) k ∙ ap (λ (i : ℕ). neg_ℤ (pos i)) (mul_comm n k)

-- 2 (m den) is (2 den) m
pub twice : (m : ℤ) (den : ℕ) → pos 2 *ℤ (m *ℤ pos den) ≡ pos (2 * den) *ℤ m
twice m den = by_sign m
  where
    double : (a : ℕ) → 2 * (a * den) ≡ 2 * den * a
    double a = ap (λ (n : ℕ). 2 * n) (mul_comm a den) ∙ sym (mul_assoc 2 den a)

    by_sign : (m : ℤ) → pos 2 *ℤ (m *ℤ pos den) ≡ pos (2 * den) *ℤ m
    by_sign (pos a) = ap pos (double a)
    by_sign (negsuc a) = times_opposite 2 (suc a * den) ∙ ap (λ (n : ℕ). neg_ℤ (pos n)) (double (suc a))

-- b, with a added and taken away
pub beside : (a b : ℤ) → a +ℤ (b -ℤ a) ≡ b
beside a b = +ℤ_comm a (b -ℤ a) ∙ -ℤ-+ℤ_cancel b a

-- ---- the order

-- a natural number more is not less, and one that is not 0 is more
pub further : (x : ℤ) (n : ℕ) → x ≤ℤ (x +ℤ pos n)
further (pos a) n = record { le = le→leb a (a + n) (omega arith) }
further (negsuc a) n = record { le = either (ltb n (suc a)) }
  where
    either : (b : Bool) → T (le_z (negsuc a) (cond b (negsuc (suc a - suc n)) (pos (n - suc a))))
    either true = le→leb (suc a - suc n) a (omega arith)
    either false = tt

pub beyond : (x : ℤ) (n : ℕ) → 0 < n → x <ℤ (x +ℤ pos n)
beyond (pos a) n h = record { lt = lt→ltb a (a + n) (omega arith) }
beyond (negsuc a) n h = record { lt = either (ltb n (suc a)) refl }
  where
    either : (b : Bool) → ltb n (suc a) ≡ b → T (lt_z (negsuc a) (cond b (negsuc (suc a - suc n)) (pos (n - suc a))))
    either true e = let g = ltb-true n (suc a) e in lt→ltb (suc a - suc n) a (omega arith)
    either false e = tt

-- what is not less is a natural number more
gap : (x y : ℤ) → T (le_z x y) → (n : ℕ) × (x +ℤ pos n ≡ y)
gap (pos a) (pos b) h = let g = leb→le a b h in (b - a, ap pos (omega arith))
gap (pos a) (negsuc b) h = absurd h
gap (negsuc a) (pos b) h =
    (b + suc a, rw (le-ltb (b + suc a) (suc a) (omega arith)) (ap pos (omega arith)))
gap (negsuc a) (negsuc b) h =
    let g = leb→le b a h in
    (a - b, rw (lt-ltb (a - b) (suc a) (omega arith)) (ap negsuc (omega arith)))

pub sum_order : {x y u v : ℤ} → x ≤ℤ y → u ≤ℤ v → (x +ℤ u) ≤ℤ (y +ℤ v)
sum_order {x} {y} {u} {v} h k =
    let g = gap x y h.le in
    let l = gap u v k.le in
    subst (λ (z : ℤ). (x +ℤ u) ≤ℤ z) (sym (exchange x (pos g.0) u (pos l.0)) ∙ ap₂ ◌+ℤ◌ g.1 l.1) (further (x +ℤ u) (g.0 + l.0))

pub times_order : {x y : ℤ} (t : ℕ) → x ≤ℤ y → (x *ℤ pos t) ≤ℤ (y *ℤ pos t)
times_order {x} {y} t h =
    let g = gap x y h.le in
    subst (λ (z : ℤ). (x *ℤ pos t) ≤ℤ z) (sym (sum_times x (pos g.0) t) ∙ ap (λ (z : ℤ). z *ℤ pos t) g.1) (further (x *ℤ pos t) (g.0 * t))

-- of two natural numbers more, the order is theirs
split : (x : ℤ) (n k : ℕ) → k ≤ n → x +ℤ pos n ≡ x +ℤ pos k +ℤ pos (n - k)
split x n k h = let e : n ≡ k + (n - k) = omega arith in ap (λ (i : ℕ). x +ℤ pos i) e ∙ sym (+ℤ_assoc x (pos k) (pos (n - k)))

pub less : (x : ℤ) (n k : ℕ) → (x +ℤ pos n) <ℤ (x +ℤ pos k) → n < k
less x n k h =
    ⊎_elim
    (λ (g : k ≤ n). clash_ℤ h (subst⁻¹ (λ (z : ℤ). (x +ℤ pos k) ≤ℤ z) (split x n k g) (further (x +ℤ pos k) (n - k))))
    (λ (g : n < k). g)
    (le-or-lt k n)

pub less_or_same : (x : ℤ) (n k : ℕ) → (x +ℤ pos n) ≤ℤ (x +ℤ pos k) → n ≤ k
less_or_same x n k h =
    ⊎_elim
    (λ (g : n ≤ k). g)
    (λ (g : k < n). clash_ℤ (subst⁻¹ (λ (z : ℤ). (x +ℤ pos k) <ℤ z) (split x n k (omega arith)) (beyond (x +ℤ pos k) (n - k) (omega arith))) h)
    (le-or-lt n k)
