-- Comparing two numbers: opposite numbers are in the opposite order; one that is not above 0 is at most one that is not below it; and of two that
-- are not below 0 the one with the smaller fraction is less.
use Prim.Native.Nat.{ℕ, zero, suc, ◌+◌, ◌*◌, ◌≤◌, ◌<◌}
use native.Mathlib.Nat.{add_comm, lt_irrefl, lt_of_not-le, not-le_of_lt, mul-pos}
use native.Mathlib.Omega.{arith}
use mathlib.Core.Path.{◌≡◌, sym, subst, subst⁻¹}
use mathlib.Core.Bool.{Bool, true, false, not, ◌&&◌, ◌||◌, beq, true≢false, false≢true}
use lib.Dec.{T, ltb, ltb→lt, lt→ltb, eqb, eqb→eq, eqb_refl}
use lib.Ieee.{Float, inf, fin, up, down, below, level, neg, lt, le, nan}
use lib.Ieee.Exact.{HasValue}
use lib.Ieee.Fits.{and_l, and_r, and_i, down_pos}
use lib.Ieee.Order.{transfer}
use lib.Ieee.Positive.{first_pos}

-- ---- opposites

below_neg : (s : Bool) (a : ℕ) (t : Bool) (b : ℕ) → T (below s a t b) → T (below (not t) b (not s) a)
below_neg false a false b h = h
below_neg false a true b h = h
below_neg true a false b h = subst (λ (n : ℕ). T (ltb 0 n)) (add_comm a b) h
below_neg true a true b h = h

level_neg : (s : Bool) (a : ℕ) (t : Bool) (b : ℕ) → T (level s a t b) → T (level (not t) b (not s) a)
level_neg s a t b h =
    let same : a ≡ b = eqb→eq a b (and_l (eqb a b) (beq s t || eqb a 0) h) in
    subst (λ (n : ℕ). T (level (not t) n (not s) a)) same
    (and_i (eqb a a) (beq (not t) (not s) || eqb a 0) (eqb_refl a) (turned s t (and_r (eqb a b) (beq s t || eqb a 0) h)))
  where
    turned : (s t : Bool) → T (beq s t || eqb a 0) → T (beq (not t) (not s) || eqb a 0)
    turned false false k = k
    turned false true k = k
    turned true false k = k
    turned true true k = k

either : (a b c d : Bool) → (T a → T c) → (T b → T d) → T (a || b) → T (c || d)
either a b true d p q h = tt
either true b false d p q h = absurd (p tt)
either false b false d p q h = q h

pub lt_neg : (x y : Float) → T (lt x y) → T (lt (neg y) (neg x))
unfolding lt neg
lt_neg (inf true) (inf false) h = tt
lt_neg (inf true) (fin t n d) h = tt
lt_neg (inf false) (inf t) h = absurd h
lt_neg (inf false) (fin t n d) h = absurd h
lt_neg (fin s m e) (inf false) h = tt
lt_neg (fin s m e) (fin t n d) h = below_neg s (m * up e * down d) t (n * up d * down e) h
lt_neg nan y h = elim h [ ]
lt_neg (inf false) nan h = elim h [ ]
lt_neg (inf true) nan h = elim h [ ]
lt_neg (inf true) (inf true) h = elim h [ ]
lt_neg (fin s m e) nan h = elim h [ ]
lt_neg (fin s m e) (inf true) h = elim h [ ]

pub le_neg : (x y : Float) → T (le x y) → T (le (neg y) (neg x))
unfolding le neg
le_neg (inf true) (inf true) h = tt
le_neg (inf true) (inf false) h = tt
le_neg (inf true) (fin t n d) h = tt
le_neg (inf false) (inf false) h = tt
le_neg (inf false) (fin t n d) h = absurd h
le_neg (fin s m e) (inf false) h = tt
le_neg (fin s m e) (fin t n d) h =
    let a = m * up e * down d in
    let b = n * up d * down e in
    either (below s a t b) (level s a t b) (below (not t) b (not s) a) (level (not t) b (not s) a) (below_neg s a t b) (level_neg s a t b) h
le_neg nan y h = elim h [ ]
le_neg (inf false) nan h = elim h [ ]
le_neg (inf false) (inf true) h = elim h [ ]
le_neg (inf true) nan h = elim h [ ]
le_neg (fin s m e) nan h = elim h [ ]
le_neg (fin s m e) (inf true) h = elim h [ ]

-- ---- a number that is not above 0, and one that is not below it

pub le_across : (x y : Float) (a c b d : ℕ) → HasValue x true a c → HasValue y false b d → T (le x y)
unfolding le
le_across (fin false m e) y a c b d h k = absurd (false≢true h.0)
le_across (fin true m e) (fin true n g) a c b d h k = absurd (true≢false k.0)
le_across nan y a c b d h k = elim h [ ]
le_across (inf _) y a c b d h k = elim h [ ]
le_across (fin true m e) nan a c b d h k = elim k [ ]
le_across (fin true m e) (inf _) a c b d h k = elim k [ ]
le_across (fin true m e) (fin false n g) a c b d h k = go (m * up e * down g) (n * up g * down e)
  where
    left : (p q : ℕ) → 0 < p + q → T (ltb 0 (p + q) || (eqb p q && (false || eqb p 0)))
    left p q some = either true false (ltb 0 (p + q)) (eqb p q && (false || eqb p 0)) (λ _. lt→ltb 0 (p + q) some) (λ t. absurd t) tt

    go : (p q : ℕ) → T (ltb 0 (p + q) || (eqb p q && (false || eqb p 0)))
    go zero zero = tt
    go zero (suc q) = left zero (suc q) (omega arith)
    go (suc p) q = left (suc p) q (omega arith)

pub lt_across : (x y : Float) (a c b d : ℕ) → HasValue x true a c → HasValue y false b d → 0 < a → T (lt x y)
unfolding lt
lt_across (fin false m e) y a c b d h k some = absurd (false≢true h.0)
lt_across (fin true m e) (fin true n g) a c b d h k some = absurd (true≢false k.0)
lt_across (fin true m e) (fin false n g) a c b d h k some =
    let size : 0 < m * up e = first_pos (m * up e) c (subst⁻¹ (λ (i : ℕ). 0 < i) h.1 (mul-pos some (down_pos e))) in
    lt→ltb 0 (m * up e * down g + n * up g * down e) (omega (arith, mul-pos size (down_pos g)))
lt_across nan y a c b d h k some = elim h [ ]
lt_across (inf _) y a c b d h k some = elim h [ ]
lt_across (fin true m e) nan a c b d h k some = elim k [ ]
lt_across (fin true m e) (inf _) a c b d h k some = elim k [ ]

-- ---- two that are not below 0

pub lt_of_values : (x y : Float) (a c b d : ℕ) → HasValue x false a c → HasValue y false b d → a * d < b * c → T (lt x y)
unfolding lt
lt_of_values (fin true m e) y a c b d h k l = absurd (true≢false h.0)
lt_of_values (fin false m e) (fin true n g) a c b d h k l = absurd (true≢false k.0)
lt_of_values (fin false m e) (fin false n g) a c b d h k l =
    lt→ltb (m * up e * down g) (n * up g * down e)
    (lt_of_not-le (λ (q : n * up g * down e ≤ m * up e * down g).
    not-le_of_lt l (transfer b a d c (n * up g) (m * up e) (down g) (down e) (down_pos g) (down_pos e) (sym k.1) (sym h.1) q)))
lt_of_values nan y a c b d h k l = elim h [ ]
lt_of_values (inf _) y a c b d h k l = elim h [ ]
lt_of_values (fin false m e) nan a c b d h k l = elim k [ ]
lt_of_values (fin false m e) (inf _) a c b d h k l = elim k [ ]

pub lt_itself : (x : Float) → T (lt x x) → ⊥
unfolding lt
lt_itself (inf true) h = h
lt_itself (inf false) h = h
lt_itself (fin true m e) h = lt_irrefl (m * up e * down e) (ltb→lt (m * up e * down e) (m * up e * down e) h)
lt_itself (fin false m e) h = lt_irrefl (m * up e * down e) (ltb→lt (m * up e * down e) (m * up e * down e) h)
lt_itself nan h = elim h [ ]
