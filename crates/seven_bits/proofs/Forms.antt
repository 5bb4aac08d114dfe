-- Each number has exactly one form that is read: what is written is read back, and what is read as a number is what is written for it. A number
-- written into a list stands there in this form, behind what was written before it.
use Prim.Native.Nat.{ℕ, zero, suc, ◌+◌, ◌-◌, ◌/◌, ◌≤◌, ◌<◌}
use native.Mathlib.Omega.{arith}
use mathlib.Core.Path.{◌≡◌, refl, sym, ap, ap₂, ◌∙◌, subst, subst⁻¹}
use mathlib.Core.Bool.{Bool, true, false, cond, false≢true}
use mathlib.Core.Logic.{◌↔◌}
use mathlib.Core.List.{List, [], ◌∷◌, ◌++◌, append_assoc}
use lib.ListN.{length, get_or, take, drop, replicate, length-append, length-drop, length-replicate, replicate-append-replicate}
use lib.Seq.{length-take-le, take-length, take_at, drop_at, drop-append-add, length-paste}
use lib.Dec.{leb, ltb}
use borrow.Author.Tests.{ltb-true, ltb-false, leb-true, le-leb}
use Rattle.seven_bits.specs.declared.Number.{Number}
use Rattle.seven_bits.specs.Numbers.{group_values, number_limit, groups_most, bad, found, number_at}
use Rattle.seven_bits.specs.Numbers.{groups_of, written, put_in, put_next, InGroups, Form}
use Rattle.seven_bits.proofs.Groups.{of_none, of_last, of_more}
use Rattle.seven_bits.proofs.Reading.{in_groups, only_groups, reads, read, Read, none, some}

-- ---- what is written

-- at most n elements, and each is a byte
record Few (n : ℕ) (bs : List ℕ) : Type 0 where
  few : length bs ≤ n
  bytes : (i : ℕ) → get_or bs i 0 < 256

few_none : (n : ℕ) → Few n []
few_none n = record { few = omega arith; bytes = λ i. omega arith }

few_more : (n b : ℕ) (bs : List ℕ) → b < 256 → Few n bs → Few (suc n) (b ∷ bs)
few_more n b bs h f = record { few = omega (arith, f.few); bytes = each }
  where
    each : (i : ℕ) → get_or (b ∷ bs) i 0 < 256
    each zero = h
    each (suc i) = f.bytes i

of_few : (n v : ℕ) → Few n (groups_of n v)
of_few zero v = subst⁻¹ (Few 0) (of_none v) (few_none 0)
of_few (suc n) v = by_test (of_few n (v / group_values)) (ltb v group_values) refl
  where
    by_test : Few n (groups_of n (v / group_values)) → (t : Bool) → ltb v group_values ≡ t → Few (suc n) (groups_of (suc n) v)
    by_test rest true t = let l = ltb-true v group_values t in subst⁻¹ (Few (suc n)) (of_last n v l) (few_more n v [] (omega arith) (few_none n))
    by_test rest false t = subst⁻¹ (Few (suc n)) (of_more n v (ltb-false _ _ t)) (few_more n _ _ (omega arith) rest)

pub written_some : (v : ℕ) → 0 < length (written v)
unfolding written
written_some v = by_test (ltb v group_values) refl
  where
    by_test : (t : Bool) → ltb v group_values ≡ t → 0 < length (groups_of groups_most v)
    by_test true t = omega (arith, ap length (of_last 4 v (ltb-true _ _ t)))
    by_test false t = omega (arith, ap length (of_more 4 v (ltb-false _ _ t)))

pub written_few : (v : ℕ) → length (written v) ≤ groups_most
unfolding written
written_few v = (of_few groups_most v).few

pub written_bytes : (v i : ℕ) → get_or (written v) i 0 < 256
unfolding written
written_bytes v i = (of_few groups_most v).bytes i

-- What is written for a number is the number in groups.
pub written_is : (v : ℕ) → v < number_limit → InGroups (written v) v
unfolding written
written_is v m = in_groups 4 v (omega arith)

-- No other bytes are the number in groups.
pub only_written : (v : ℕ) (bs : List ℕ) → v < number_limit → InGroups bs v → bs ≡ written v
unfolding written
only_written v bs m g = only_groups 4 v bs g (omega arith)

-- ---- reading

-- Reading what is written gives the number back, wherever it stands, and the place behind it.
pub reads_back : (v : ℕ) (s post : List ℕ) (at : ℕ) → v < number_limit → drop at s ≡ written v ++ post
    → number_at s at ≡ found v (at + length (written v))
unfolding number_at written
reads_back v s post at m e = reads 4 v s post at (omega arith) m e

pub form_read : (s : List ℕ) (at v next : ℕ) → Form s at v next → number_at s at ≡ found v next
form_read s at v next f = reads_back v s (drop next s) at f.fits f.stands ∙ ap (found v) (sym f.ends)

good_or_bad : (at v next : ℕ) → bad at ≡ found v next → ⊥
good_or_bad at v next e = false≢true (ap (λ (r : Number). r.good) e)

pub good_found : (n : Number) → n.good ≡ true → n ≡ found n.value n.next
good_found n e = λ i. record { good = e i; value = n.value; next = n.next }

form_of : (s : List ℕ) (at v next : ℕ) → Read groups_most s at → number_at s at ≡ found v next → Form s at v next
unfolding number_at written
form_of s at v next (none b) e = absurd (good_or_bad at v next (sym b ∙ e))
form_of s at v next (some w end q f) e =
    let same : found w end ≡ found v next = sym q ∙ e in
    let form : Form s at w end = record { stands = f.stands; ends = f.ends; fits = f.fits } in
    subst (λ (x : ℕ). Form s at x next) (ap (λ (r : Number). r.value) same) (subst (Form s at w) (ap (λ (r : Number). r.next) same) form)

bad_of : (s : List ℕ) (at : ℕ) → Read groups_most s at → (number_at s at).good ≡ false → number_at s at ≡ bad at
unfolding number_at
bad_of s at (none b) e = b
bad_of s at (some v next q f) e = absurd (false≢true (sym e ∙ ap (λ (r : Number). r.good) q))

-- What is read as a number fits 32 bits, and its bytes are those that are written for it.
pub only_form : (s : List ℕ) (at v next : ℕ) → ((i : ℕ) → get_or s i 0 < 256) → number_at s at ≡ found v next → Form s at v next
only_form s at v next bytes e = form_of s at v next (read s bytes groups_most at) e

-- A number is read exactly where it stands.
pub form_iff : (s : List ℕ) (at v next : ℕ) → ((i : ℕ) → get_or s i 0 < 256) → (number_at s at ≡ found v next) ↔ Form s at v next
form_iff s at v next bytes = (only_form s at v next bytes, form_read s at v next)

-- What is read is bad exactly where no number stands.
pub bad_iff : (s : List ℕ) (at : ℕ) → ((i : ℕ) → get_or s i 0 < 256) → (number_at s at ≡ bad at) ↔ ((v next : ℕ) → Form s at v next → ⊥)
bad_iff s at bytes = (λ e v next f. good_or_bad at v next (sym e ∙ form_read s at v next f), λ never. by_good never (number_at s at).good refl)
  where
    by_good : ((v next : ℕ) → Form s at v next → ⊥) → (t : Bool) → (number_at s at).good ≡ t → number_at s at ≡ bad at
    by_good never true e = absurd (never _ _ (only_form s at _ _ bytes (good_found (number_at s at) e)))
    by_good never false e = bad_of s at (read s bytes groups_most at) e

-- ---- for callers: what is read, by whether it is good

module _ (n : Number) (s : List ℕ) (at : ℕ) (bytes : (i : ℕ) → get_or s i 0 < 256) (is : n ≡ number_at s at) where
  pub good_form : n.good ≡ true → Form s at n.value n.next
  good_form e = only_form s at n.value n.next bytes (sym is ∙ good_found n e)

  pub bad_found : n.good ≡ false → n ≡ bad at
  bad_found e = is ∙ bad_of s at (read s bytes groups_most at) (ap (λ (r : Number). r.good) (sym is) ∙ e)

-- ---- the form

-- the bytes of a number that stands at a place are those that are written for it
pub form_bytes : (s : List ℕ) (at v next : ℕ) → Form s at v next → take (next - at) (drop at s) ≡ written v
form_bytes s at v next f =
    let w : length (written v) ≡ next - at = omega (arith, f.ends) in
    ap (take (next - at)) f.stands ∙ take_at (written v) (drop next s) (next - at) w

-- Two forms of one number are the same bytes.
pub one_form : (s t : List ℕ) (v at next from end : ℕ) → Form s at v next → Form t from v end
    → take (next - at) (drop at s) ≡ take (end - from) (drop from t)
one_form s t v at next from end f g = form_bytes s at v next f ∙ sym (form_bytes t from v end g)

-- it has one group at least and five at most, all inside the list
pub form_inside : (s : List ℕ) (at v next : ℕ) → Form s at v next → (at < next) × (next ≤ at + groups_most) × (next ≤ length s)
form_inside s at v next f =
    let some = written_some v in
    let few = written_few v in
    let ends = f.ends in
    let all = ap length f.stands ∙ length-append (written v) (drop next s) in
    (omega arith, omega arith, omega (arith, length-drop at s, length-drop next s))

-- ---- writing

-- where there is room
module _ (out : List ℕ) (at v : ℕ) (room : at + groups_most ≤ length out) where
  pub put_is : put_in out at v ≡ take at out ++ written v ++ drop (at + length (written v)) out
  unfolding put_in
  put_is =
      let post = drop (at + length (written v)) out in
      rw (le-leb (at + groups_most) (length out) room) (ap (λ (l : List ℕ). take at out ++ l ++ post) (take-length (written v)))

  pub put_next_lem : put_next out at v ≡ at + length (written v)
  unfolding put_next
  put_next_lem = rw (le-leb (at + groups_most) (length out) room)

  put_stands : drop at (put_in out at v) ≡ written v ++ drop (at + length (written v)) out
  put_stands =
      let post = drop (at + length (written v)) out in
      ap (drop at) (put_is ∙ append_assoc (take at out) (written v) post)
      ∙ drop_at (take at out) (written v ++ post) at (length-take-le at out (omega arith))

  -- What is written into a list is read back from it.
  pub put_back : v < number_limit → number_at (put_in out at v) at ≡ found v (put_next out at v)
  put_back m = reads_back v (put_in out at v) _ at m put_stands ∙ ap (found v) (sym put_next_lem)

length_either : (t : Bool) (a b : List ℕ) → (t ≡ true → length a ≡ length b) → length (cond t a b) ≡ length b
length_either true a b h = h refl
length_either false a b h = refl

-- Writing leaves the length as it was.
pub put_length : (out : List ℕ) (at v : ℕ) → length (put_in out at v) ≡ length out
unfolding put_in
put_length out at v =
    let few = written_few v in
    length_either (leb (at + groups_most) (length out)) _ out
    λ e. let room = leb-true (at + groups_most) (length out) e in length-paste out at (written v) (length (written v)) (omega arith) (omega arith)

-- ---- one number behind others, into zeros

drop_zeros : (k m : ℕ) → k ≤ m → drop {A = ℕ} k (replicate m 0) ≡ replicate (m - k) 0
drop_zeros k m h =
    let e : m ≡ k + (m - k) = omega arith in
    ap (λ (i : ℕ). drop {A = ℕ} k (replicate i 0)) e
    ∙ ap (drop k) (sym (replicate-append-replicate k (m - k) 0))
    ∙ drop_at (replicate k 0) (replicate (m - k) 0) k (length-replicate k 0)

-- what stands then has five bytes more at most
pub after_few : (pre : List ℕ) (v : ℕ) → length (pre ++ written v) ≤ length pre + groups_most
after_few pre v = omega (arith, length-append pre (written v), written_few v)

-- `pre` stands in a list that is of n zeros else
module _ (pre out : List ℕ) (n at v : ℕ) (is : out ≡ pre ++ replicate (n - length pre) 0) (here : at ≡ length pre) (room : at + groups_most ≤ n) where
  all : length out ≡ n
  all = omega (arith, ap length is, length-append pre (replicate (n - length pre) 0), length-replicate {A = ℕ} (n - length pre) 0)

  pub next_after : put_next out at v ≡ length (pre ++ written v)
  next_after = put_next_lem out at v (omega (arith, all)) ∙ ap (λ (k : ℕ). k + length (written v)) here ∙ sym (length-append pre (written v))

  before : take at out ≡ pre
  before = ap (take at) is ∙ take_at pre (replicate (n - length pre) 0) at (sym here)

  behind : drop (at + length (written v)) out ≡ replicate (n - length (pre ++ written v)) 0
  behind =
      let k = length (written v) in
      let left : n - length pre - k ≡ n - length (pre ++ written v) = omega (arith, length-append pre (written v)) in
      ap₂ (λ (i : ℕ) (l : List ℕ). drop (i + k) l) here is
      ∙ drop-append-add pre (replicate (n - length pre) 0) k
      ∙ drop_zeros k (n - length pre) (omega (arith, written_few v))
      ∙ ap (λ (i : ℕ). replicate i 0) left

  pub put_after : put_in out at v ≡ pre ++ written v ++ replicate (n - length (pre ++ written v)) 0
  put_after = put_is out at v (omega (arith, all)) ∙ ap₂ (λ (x y : List ℕ). x ++ written v ++ y) before behind
