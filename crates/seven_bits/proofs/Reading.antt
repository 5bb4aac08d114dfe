-- By induction on the groups: what is written is the number in groups, and it is read back; what is read is bad, or it is a number and the
-- bytes are those that are written for it.
use Prim.Native.Nat.{ℕ, zero, suc, ◌+◌, ◌-◌, ◌*◌, ◌/◌, ◌%◌, ◌^◌, ◌≤◌, ◌<◌}
use native.Mathlib.Nat.{pow-suc}
use native.Mathlib.Numerals.{add-one}
use native.Mathlib.Omega.{arith}
use mathlib.Core.Path.{◌≡◌, refl, sym, ap, ap₂, ◌∙◌, subst, subst⁻¹}
use mathlib.Core.Bool.{Bool, true, false}
use mathlib.Core.List.{List, ◌∷◌, ◌++◌}
use lib.ListN.{length, get_or, drop, length-drop}
use lib.Seq.{drop-cons, drop-drop, get_or-drop}
use lib.Dec.{ltb}
use borrow.Author.Tests.{ltb-true, ltb-false, lt-ltb}
use Rattle.seven_bits.specs.Numbers.{group_values, number_limit, rest_limit, bad, found, may_follow, joined, groups_at, groups_of}
use Rattle.seven_bits.specs.Numbers.{InGroups, last, more}
use Rattle.seven_bits.proofs.Groups.{rest_told, join_good, join_bad, at_none, at_past, at_last, at_more, of_last, of_more}

-- ---- the groups of a number are the number in groups, and nothing else is

pub in_groups : (n v : ℕ) → v < group_values ^ suc n → InGroups (groups_of (suc n) v) v
in_groups zero v h =
    let l : v < group_values = omega (arith, pow-suc group_values 0) in
    subst⁻¹ (λ (bs : List ℕ). InGroups bs v) (of_last 0 v l) (last v l)
in_groups (suc n) v h = by_test (λ few. in_groups n (v / group_values) few) (ltb v group_values) refl
  where
    by_test : (v / group_values < group_values ^ suc n → InGroups (groups_of (suc n) (v / group_values)) (v / group_values))
        → (t : Bool) → ltb v group_values ≡ t → InGroups (groups_of (suc (suc n)) v) v
    by_test rest true t = let l = ltb-true v group_values t in subst⁻¹ (λ (bs : List ℕ). InGroups bs v) (of_last (suc n) v l) (last v l)
    by_test rest false t =
        let g = ltb-false v group_values t in
        let whole : v % group_values + group_values * (v / group_values) ≡ v = omega arith in
        let groups = more (v % group_values) (v / group_values) _ (omega arith) (omega arith) (rest (omega (arith, pow-suc group_values (suc n)))) in
        subst⁻¹ (λ (bs : List ℕ). InGroups bs v) (of_more (suc n) v g) (subst (InGroups _) whole groups)

pub only_groups : (n v : ℕ) (bs : List ℕ) → InGroups bs v → v < group_values ^ suc n → bs ≡ groups_of (suc n) v
only_groups n _ _ (last low l) h = sym (of_last n low l)
only_groups zero _ _ (more low rest bs l z g) h = absurd (omega (arith, pow-suc group_values 0))
only_groups (suc n) _ _ (more low rest bs l z g) h =
    let w = low + group_values * rest in
    let first : low ≡ w % group_values = omega arith in
    let high : rest ≡ w / group_values = omega arith in
    let e : bs ≡ groups_of (suc n) rest = only_groups n rest bs g (omega (arith, pow-suc group_values (suc n))) in
    ap (λ (l : List ℕ). (group_values + low) ∷ l) e
    ∙ ap₂ (λ (x y : ℕ). (group_values + x) ∷ groups_of (suc n) y) first high
    ∙ sym (of_more (suc n) w (omega arith))

-- ---- a list from a place on

module _ (s : List ℕ) (at b : ℕ) (rest : List ℕ) (e : drop at s ≡ b ∷ rest) where
  here_in : at < length s
  here_in = omega (arith, ap length e, length-drop at s)

  here_is : get_or s at 0 ≡ b
  here_is =
      let z : at ≡ at + 0 = omega arith in
      ap (λ (k : ℕ). get_or s k 0) z ∙ sym (get_or-drop at s 0 0) ∙ ap (λ (l : List ℕ). get_or l 0 0) e

  here_next : drop (at + 1) s ≡ rest
  here_next = sym (drop-drop 1 at s) ∙ ap (drop 1) e

here_on : (s : List ℕ) (at : ℕ) → at < length s → drop at s ≡ get_or s at 0 ∷ drop (at + 1) s
here_on s at h = drop-cons s at 0 h ∙ ap (λ (i : ℕ). get_or s at 0 ∷ drop i s) (sym (add-one at))

-- ---- what is written is read back

module _ (n v : ℕ) (s post : List ℕ) (at : ℕ) (e : drop at s ≡ groups_of (suc n) v ++ post) where
  back_last : v < group_values → groups_at (suc n) s at ≡ found v (at + length (groups_of (suc n) v))
  back_last h =
      let of = of_last n v h in
      let d : drop at s ≡ v ∷ post = e ∙ ap (λ (l : List ℕ). l ++ post) of in
      let b : get_or s at 0 ≡ v = here_is s at v post d in
      at_last n s at (here_in s at v post d) (omega arith) ∙ ap₂ found b (ap (λ (l : List ℕ). at + length l) (sym of))

  back_more : group_values ≤ v → v < number_limit
      → (drop (at + 1) s ≡ groups_of n (v / group_values) ++ post
      → groups_at n s (at + 1) ≡ found (v / group_values) (at + 1 + length (groups_of n (v / group_values))))
      → groups_at (suc n) s at ≡ found v (at + length (groups_of (suc n) v))
  back_more h m rest =
      let low = v % group_values in
      let high = v / group_values in
      let of = of_more n v h in
      let d : drop at s ≡ (group_values + low) ∷ (groups_of n high ++ post) = e ∙ ap (λ (l : List ℕ). l ++ post) of in
      let b : get_or s at 0 ≡ group_values + low = here_is s at _ _ d in
      let first : get_or s at 0 - group_values ≡ low = omega arith in
      let whole : low + group_values * high ≡ v = omega arith in
      let end : at + 1 + length (groups_of n high) ≡ at + length (groups_of (suc n) v) = omega (arith, ap length of) in
      let after = at + 1 + length (groups_of n high) in
      let follow : may_follow (found high after) ≡ true = rw (lt-ltb 0 high (omega arith), lt-ltb high rest_limit (omega arith)) in
      at_more n s at (here_in s at _ _ d) (omega arith)
      ∙ ap₂ (joined at) first (rest (here_next s at _ _ d))
      ∙ join_good at low (found high after) follow
      ∙ ap₂ found whole end

pub reads : (n v : ℕ) (s post : List ℕ) (at : ℕ) → v < group_values ^ suc n → v < number_limit → drop at s ≡ groups_of (suc n) v ++ post
    → groups_at (suc n) s at ≡ found v (at + length (groups_of (suc n) v))
reads zero v s post at h m e = back_last zero v s post at e (omega (arith, pow-suc group_values 0))
reads (suc n) v s post at h m e = by_test (λ few. reads n (v / group_values) s post (at + 1) few (omega arith)) (ltb v group_values) refl
  where
    by_test :
        (v / group_values < group_values ^ suc n → drop (at + 1) s ≡ groups_of (suc n) (v / group_values) ++ post
        → groups_at (suc n) s (at + 1) ≡ found (v / group_values) (at + 1 + length (groups_of (suc n) (v / group_values))))
        → (t : Bool) → ltb v group_values ≡ t → groups_at (suc (suc n)) s at ≡ found v (at + length (groups_of (suc (suc n)) v))
    by_test rest true t = back_last (suc n) v s post at e (ltb-true _ _ t)
    by_test rest false t = back_more (suc n) v s post at e (ltb-false _ _ t) m (rest (omega (arith, pow-suc group_values (suc n))))

-- ---- what is read has the form

-- `Form`, of at most n groups
pub record FormOf (n : ℕ) (s : List ℕ) (at v next : ℕ) : Type 0 where
  pub stands : drop at s ≡ groups_of n v ++ drop next s
  pub ends : next ≡ at + length (groups_of n v)
  pub fits : v < number_limit

-- what is read is bad, or a number that stands there
pub data Read (n : ℕ) (s : List ℕ) (at : ℕ) : Type 0 where
  none : groups_at n s at ≡ bad at → Read n s at
  some : (v next : ℕ) → groups_at n s at ≡ found v next → FormOf n s at v next → Read n s at

form_last : (n : ℕ) (s : List ℕ) (at : ℕ) → at < length s → get_or s at 0 < group_values → FormOf (suc n) s at (get_or s at 0) (at + 1)
form_last n s at h l =
    let of = of_last n (get_or s at 0) l in
    record {
      stands = here_on s at h ∙ sym (ap (λ (l : List ℕ). l ++ drop (at + 1) s) of);
      ends = ap (λ (l : List ℕ). at + length l) (sym of);
      fits = omega arith;
    }

module _ (n : ℕ) (s : List ℕ) (at v next : ℕ) (h : at < length s) (g : group_values ≤ get_or s at 0) (byte : get_or s at 0 < 256) where
  form_more : 0 < v → v < rest_limit → FormOf n s (at + 1) v next → FormOf (suc n) s at (get_or s at 0 - group_values + group_values * v) next
  form_more z m f =
      let b = get_or s at 0 in
      let w = b - group_values + group_values * v in
      let low : group_values + w % group_values ≡ b = omega arith in
      let high : w / group_values ≡ v = omega arith in
      let of : groups_of (suc n) w ≡ b ∷ groups_of n v = of_more n w (omega arith) ∙ ap₂ (λ (x y : ℕ). x ∷ groups_of n y) low high in
      record {
        stands = here_on s at h ∙ ap (λ (l : List ℕ). b ∷ l) f.stands ∙ sym (ap (λ (l : List ℕ). l ++ drop next s) of);
        ends = omega (arith, f.ends, ap length of);
        fits = omega arith;
      }

  -- by the test of the groups after the first
  read_joined : groups_at n s (at + 1) ≡ found v next → FormOf n s (at + 1) v next → Read (suc n) s at
  read_joined e f = by_test (may_follow (found v next)) refl
    where
      low : ℕ
      low = get_or s at 0 - group_values

      here : groups_at (suc n) s at ≡ joined at low (found v next)
      here = at_more n s at h g ∙ ap (joined at low) e

      by_test : (t : Bool) → may_follow (found v next) ≡ t → Read (suc n) s at
      by_test true t =
          let told = rest_told (found v next) t in
          some (low + group_values * v) next (here ∙ join_good at low (found v next) t) (form_more told.1 told.2 f)
      by_test false t = none (here ∙ join_bad at low (found v next) t)

module _ (s : List ℕ) (bytes : (i : ℕ) → get_or s i 0 < 256) where
  read_more : (n at : ℕ) → at < length s → group_values ≤ get_or s at 0 → Read n s (at + 1) → Read (suc n) s at
  read_more n at h g (none e) = none (at_more n s at h g ∙ ap (joined at (get_or s at 0 - group_values)) e ∙ join_bad at _ (bad (at + 1)) refl)
  read_more n at h g (some v next e f) = read_joined n s at v next h g (bytes at) e f

  pub read : (n at : ℕ) → Read n s at
  read zero at = none (at_none s at)
  read (suc n) at = by_place (read n (at + 1)) (ltb at (length s)) refl
    where
      by_byte : Read n s (at + 1) → at < length s → (t : Bool) → ltb (get_or s at 0) group_values ≡ t → Read (suc n) s at
      by_byte rest h true t = let l = ltb-true _ _ t in some (get_or s at 0) (at + 1) (at_last n s at h l) (form_last n s at h l)
      by_byte rest h false t = read_more n at h (ltb-false _ _ t) rest

      by_place : Read n s (at + 1) → (t : Bool) → ltb at (length s) ≡ t → Read (suc n) s at
      by_place rest true t = by_byte rest (ltb-true _ _ t) (ltb (get_or s at 0) group_values) refl
      by_place rest false t = none (at_past (suc n) s at (ltb-false _ _ t))
