-- The words of present numbers: which numbers are present in them, how many are below one, and that the entry found by that count is the one
-- that the search finds, in every file that obeys.
use Prim.Native.Nat.{ℕ, zero, suc, ◌+◌, ◌*◌, ◌/◌, ◌%◌, ◌^◌, ◌≤◌, ◌<◌}
use mathlib.Core.Path.{◌≡◌, refl, sym, ap, ap₂, ◌∙◌}
use mathlib.Core.Bool.{Bool, true, false, cond, true≢false}
use mathlib.Core.Logic.{◌⊎◌, inl, inr, ⊎_elim, ◌↔◌}
use mathlib.Core.List.Memᴰ
use mathlib.Core.List.{List, [], ◌∷◌, Memᴰ}
use native.Mathlib.Nat.{zero-add, mod-eq_of_lt, div-eq_of_lt}
use native.Mathlib.Decide.{ℕ_discrete}
use native.Mathlib.Omega.{arith}
use borrow.Author.Tests.{eq-eqb, ne_eqb}
use lib.Dec.{eqb}
use lib.Bits.{bit_or}
use lib.Count.{ones}
use lib.Pow.{pow_pos}
use Rattle.std.specs.Prelude.{Ok}
use Rattle.verdict.specs.Walk.{starts_from}
use Rattle.verdict.proofs.Walk.{starts_step, starts_stop}
use Rattle.verdict.proofs.Steps.{fixed_iff}
use Rattle.verdict.proofs.Orders.{le-or-lt}
use Rattle.x1_records.specs.Places as place
use Rattle.x1_layout.specs.Layout.{count_of, points_at, entries}
use Rattle.x1_verdict.specs.Facts.{verdict_of}
use Rattle.x1_obeys.specs.Obeys.{entry_place, Obeys}
use Rattle.x1_lookup.specs.Lookup.{number_at, find_track}
use Rattle.x1_lookup.specs.Presence.{nowhere, word_at, bit_of, has, marked, with, with_all, presence_of, below, entry_by, Means}
use Rattle.std.specs.Prelude.{Some, None}
use Rattle.x1_lookup.specs.declared.presence.Presence.{Presence}
use Rattle.x1_lookup.proofs.Ones.{bit_either, bit_set, bit_kept, no_ones, ones_further}
use Rattle.x1_lookup.proofs.Lookup.{verdict_obeys, absent_iff, found_iff, numbers_rise}

-- ---- which numbers are present

-- the word j of the words with one number more
word_with : (w : Presence) (n j : ℕ) → j < 4 → word_at (with w n) j ≡ marked j n (word_at w j)
word_with w n zero h = refl
word_with w n (suc zero) h = refl
word_with w n (suc (suc zero)) h = refl
word_with w n (suc (suc (suc zero))) h = refl
word_with w n (suc (suc (suc (suc j)))) h = absurd (omega arith)

-- no word after the fourth
pub no_word : (w : Presence) (j : ℕ) → 4 ≤ j → word_at w j ≡ 0
no_word w j h = simp (ne_eqb j 0 (λ e. omega arith), ne_eqb j 1 (λ e. omega arith), ne_eqb j 2 (λ e. omega arith), ne_eqb j 3 (λ e. omega arith))

zero_bit : (k : ℕ) → eqb (bit_of 0 k) 1 ≡ false
zero_bit k = ap (λ (x : ℕ). eqb (x % 2) 1) (div-eq_of_lt (pow_pos k))

pub none_above : (w : Presence) (n : ℕ) → 256 ≤ n → has w n ≡ false
unfolding has
none_above w n h = ap (λ (word : ℕ). eqb (bit_of word (n % 64)) 1) (no_word w (n / 64) (omega arith)) ∙ zero_bit (n % 64)

pub with_same : (w : Presence) (n : ℕ) → n < 256 → has (with w n) n ≡ true
unfolding has
with_same w n h =
    ap (λ (b : ℕ). eqb b 1)
    (ap (λ (word : ℕ). bit_of word (n % 64)) (word_with w n (n / 64) (omega arith))
    ∙ ap (λ (b : Bool). bit_of (cond b (bit_or (word_at w (n / 64)) (2 ^ (n % 64))) (word_at w (n / 64))) (n % 64)) (eq-eqb (n / 64) (n / 64) refl)
    ∙ bit_set (word_at w (n / 64)) (n % 64))

pub with_other : (w : Presence) (m n : ℕ) → n < 256 → (m ≡ n → ⊥) → has (with w m) n ≡ has w n
unfolding has
with_other w m n h o = ap (λ (b : ℕ). eqb b 1) (ap (λ (word : ℕ). bit_of word (n % 64)) (word_with w m (n / 64) (omega arith)) ∙ by_word (ℕ_discrete (m / 64) (n / 64)))
  where
    by_word : Dec (m / 64 ≡ n / 64) → bit_of (marked (n / 64) m (word_at w (n / 64))) (n % 64) ≡ bit_of (word_at w (n / 64)) (n % 64)
    by_word (yes e) =
        ap (λ (b : Bool). bit_of (cond b (bit_or (word_at w (n / 64)) (2 ^ (m % 64))) (word_at w (n / 64))) (n % 64)) (eq-eqb (m / 64) (n / 64) e)
        ∙ bit_kept (word_at w (n / 64)) (m % 64) (n % 64) (λ q. o (omega arith))
    by_word (no d) = ap (λ (b : Bool). bit_of (cond b (bit_or (word_at w (n / 64)) (2 ^ (m % 64))) (word_at w (n / 64))) (n % 64)) (ne_eqb (m / 64) (n / 64) d)

none_in_none : (n : ℕ) → has nowhere n ≡ false
unfolding has
none_in_none n = ap (λ (word : ℕ). eqb (bit_of word (n % 64)) 1) (no_bits (n / 64)) ∙ zero_bit (n % 64)
  where
    no_bits : (j : ℕ) → word_at nowhere j ≡ 0
    no_bits zero = refl
    no_bits (suc zero) = refl
    no_bits (suc (suc zero)) = refl
    no_bits (suc (suc (suc zero))) = refl
    no_bits (suc (suc (suc (suc j)))) = no_word nowhere (suc (suc (suc (suc j)))) (omega arith)

-- one of these entries has the number
abbrev Among : List ℕ → ℕ → List ℕ → Type 0
Among f n es = (e : ℕ) × Memᴰ e es × (number_at f e ≡ n)

all-iff : (f : List ℕ) (n : ℕ) → n < 256 → (w : Presence) (es : List ℕ) → (has (with_all f w es) n ≡ true) ↔ ((has w n ≡ true) ⊎ Among f n es)
unfolding with_all
all-iff f n h w [] = (λ e. inl e, λ s. ⊎_elim (λ (a : has w n ≡ true). a) (λ (a : Among f n []). absurd (Memᴰ.not-nil a.1)) s)
all-iff f n h w (x ∷ es) = by_number (ℕ_discrete (number_at f x) n) (all-iff f n h (with w (number_at f x)) es)
  where
    rest : Presence
    rest = with w (number_at f x)

    by_number : Dec (number_at f x ≡ n) → (has (with_all f rest es) n ≡ true) ↔ ((has rest n ≡ true) ⊎ Among f n es)
        → (has (with_all f rest es) n ≡ true) ↔ ((has w n ≡ true) ⊎ Among f n (x ∷ es))
    by_number (yes q) ih = (λ e. inr (x, Memᴰ.head refl, q), λ s. ih.1 (inl (ap (λ (m : ℕ). has (with w m) n) q ∙ with_same w n h)))
    by_number (no o) ih = (
      λ e. ⊎_elim (λ (a : has rest n ≡ true). inl (sym (with_other w (number_at f x) n h o) ∙ a)) (λ (a : Among f n es). inr (a.0, Memᴰ.tail a.1, a.2)) (ih.0 e),
      λ s. ih.1 (⊎_elim
          (λ (a : has w n ≡ true). inl (with_other w (number_at f x) n h o ∙ a))
          (λ (a : Among f n (x ∷ es)). ⊎_elim (λ (e : a.0 ≡ x). absurd (o (ap (number_at f) (sym e) ∙ a.2))) (λ (m : Memᴰ a.0 es). inr (a.0, m, a.2)) (Memᴰ.cases_cons a.1))
          s),
    )

-- THEOREM: in the words of a file bit n is set exactly where track n is in the file. It holds of every file.
pub means : (f : List ℕ) → Means f (presence_of f)
unfolding presence_of entries
means f n = (
  λ e.
      ⊎_elim
      (λ (l : 256 ≤ n). absurd (true≢false (sym e ∙ none_above (presence_of f) n l)))
      (λ (l : n < 256).
      ⊎_elim
      (λ (a : has nowhere n ≡ true). absurd (true≢false (sym a ∙ none_in_none n)))
      (λ (a : Among f n (entries f)).
      let s = (fixed_iff place.entry_size (points_at f) (omega arith) place.entries_at a.0).0 a.1 in
      let there = s.1 in
      let inside = s.2 in
      (l, record { track = s.0; in_file = omega arith; same = ap (number_at f) (sym there) ∙ a.2 }))
      ((all-iff f n l nowhere (entries f)).0 e))
      (le-or-lt 256 n),
  λ h.
      let i = h.1 in
      let x = entry_place i.track in
      (all-iff f n h.0 nowhere (entries f)).1 (inr (x, (fixed_iff place.entry_size (points_at f) (omega arith) place.entries_at x).1 (i.track, refl, omega (arith, i.in_file)), i.same)),
)

-- ---- while they are filled in

module _ (f : List ℕ) (w : Presence) where
  pub all_start : w ≡ nowhere → with_all f w (starts_from (λ _. place.entry_size) (points_at f) place.entries_at) ≡ presence_of f
  unfolding presence_of entries
  all_start e = ap (λ (v : Presence). with_all f v (starts_from (λ _. place.entry_size) (points_at f) place.entries_at)) e

  pub all_next : (e : ℕ) → e < points_at f → (v : Presence) (n : ℕ) → n ≡ number_at f e → v ≡ with w n
      → with_all f v (starts_from (λ _. place.entry_size) (points_at f) (e + place.entry_size)) ≡ with_all f w (starts_from (λ _. place.entry_size) (points_at f) e)
  unfolding with_all
  all_next e h v n is with_it =
      rw (starts_step (λ _. place.entry_size) (points_at f) (λ x. omega arith) e h)
      (ap (λ (u : Presence). with_all f u (starts_from (λ _. place.entry_size) (points_at f) (e + place.entry_size))) (with_it ∙ ap (with w) is))

  pub all-stop : (e : ℕ) → points_at f ≤ e → w ≡ with_all f w (starts_from (λ _. place.entry_size) (points_at f) e)
  unfolding with_all
  all-stop e h = rw (starts_stop (λ _. place.entry_size) (points_at f) e h) refl

-- ---- how many are below one

-- c tracks have a number below x: those of the first c entries, and no others
record Split (f : List ℕ) (x c : ℕ) : Type 0 where
  pub most : c ≤ count_of f
  pub before : (i : ℕ) → i < c → number_at f (entry_place i) < x
  pub after : (i : ℕ) → c ≤ i → i < count_of f → x ≤ number_at f (entry_place i)

module _ (f : List ℕ) (o : Obeys f) where
  number_small : (i : ℕ) → i < count_of f → number_at f (entry_place i) < 256
  number_small i h = let b = (o.fields.each_entry i h).number in let m = b.1 in omega arith

  split : (x : ℕ) → x ≤ 256 → Split f x (below (presence_of f) x)
  unfolding below
  split zero h = record { most = omega arith; before = λ i l. absurd (omega arith); after = λ i l k. omega arith }
  split (suc x) h = by_bit (has (presence_of f) x) refl (split x (omega arith))
    where
      c : ℕ
      c = below (presence_of f) x

      by_bit : (b : Bool) → has (presence_of f) x ≡ b → Split f x c → Split f (suc x) (cond b (suc c) c)
      by_bit true e s =
          let i = ((means f x).0 e).1 in
          let t = i.track in
          let l = i.in_file in
          let q = i.same in
          let first : c ≡ t = ⊎_elim
          (λ (k : c ≤ t). ⊎_elim (λ (m : t ≤ c). omega arith) (λ (m : c < t). let r = numbers_rise f o t c m l in let a = s.after c (omega arith) (omega arith) in absurd (omega arith)) (le-or-lt t c))
          (λ (k : t < c). let b = s.before t k in absurd (omega arith))
          (le-or-lt c t)
          in
          let here = ap (λ (j : ℕ). number_at f (entry_place j)) first in
          record {
            most = omega arith;
            before = λ j k. ⊎_elim (λ (m : c ≤ j). let z : c ≡ j = omega arith in let y = ap (λ (j : ℕ). number_at f (entry_place j)) z in omega arith) (λ (m : j < c). let b = s.before j m in omega arith) (le-or-lt c j);
            after = λ j k m. let r = numbers_rise f o j c k m in omega arith;
          }
      by_bit false e s = record {
        most = s.most;
        before = λ j k. let b = s.before j k in omega arith;
        after = λ j k m.
            let a = s.after j k m in
            ⊎_elim
            (λ (l : suc x ≤ number_at f (entry_place j)). l)
            (λ (l : number_at f (entry_place j) < suc x). absurd (true≢false (sym ((means f x).1 (h, record { track = j; in_file = m; same = omega arith })) ∙ e)))
            (le-or-lt (suc x) (number_at f (entry_place j)));
      }

  -- THEOREM: the count of present numbers below a track's own is the index of its entry.
  pub index_is : (i : ℕ) → i < count_of f → below (presence_of f) (number_at f (entry_place i)) ≡ i
  index_is i h =
      let n = number_at f (entry_place i) in
      let c = below (presence_of f) n in
      let s = split n (let l = number_small i h in omega arith) in
      ⊎_elim
      (λ (k : c ≤ i). ⊎_elim (λ (m : i ≤ c). omega arith) (λ (m : c < i). let a = s.after c (omega arith) (omega arith) in let r = numbers_rise f o i c m h in absurd (omega arith)) (le-or-lt i c))
      (λ (k : i < c). let b = s.before i k in absurd (omega arith))
      (le-or-lt c i)

  -- THEOREM: the entry by the words is the one that the search finds, for every number.
  pub entry_found : (n : ℕ) → entry_by (presence_of f) n ≡ find_track f n
  unfolding entry_by
  entry_found n = by_bit (has (presence_of f) n) refl
    where
      by_bit : (b : Bool) → has (presence_of f) n ≡ b → cond b (Some (entry_place (below (presence_of f) n))) None ≡ find_track f n
      by_bit true e =
          let i = ((means f n).0 e).1 in
          let at : below (presence_of f) n ≡ i.track = ap (below (presence_of f)) (sym i.same) ∙ index_is i.track i.in_file in
          ap (λ (j : ℕ). Some (entry_place j)) at
          ∙ sym ((found_iff f o n (entry_place i.track)).1 (record { track = i.track; in_file = i.in_file; there = refl; same = i.same }))
      by_bit false e =
          sym ((absent_iff f n).1 (λ i h q. true≢false (sym ((means f n).1 (let l = number_small i h in omega arith, record { track = i; in_file = h; same = q })) ∙ e)))

-- THEOREM: so it is in every accepted file.
pub words_answer : (f : List ℕ) → verdict_of f ≡ Ok tt → (n : ℕ) → entry_by (presence_of f) n ≡ find_track f n
words_answer f e = entry_found f ((verdict_obeys f).0 e)

-- ---- the count, word by word

module _ (w : Presence) where
  -- bit k of the word j is that of the number 64 j + k
  own_bit : (j k : ℕ) → k < 64 → has w (64 * j + k) ≡ eqb (bit_of (word_at w j) k) 1
  unfolding has
  own_bit j k h =
      let word : (64 * j + k) / 64 ≡ j = omega arith in
      let bit : (64 * j + k) % 64 ≡ k = omega arith in
      ap₂ (λ (j k : ℕ). eqb (bit_of (word_at w j) k) 1) word bit

  -- one number more is one more below, where its bit is set
  one_more : (n b : ℕ) → (b ≡ 0) ⊎ (b ≡ 1) → has w n ≡ eqb b 1 → below w (suc n) ≡ below w n + b
  unfolding below
  one_more n b either e =
      ap (λ (t : Bool). cond t (suc (below w n)) (below w n)) e
      ∙ ⊎_elim
      (λ (z : b ≡ 0). ap (λ (t : Bool). cond t (suc (below w n)) (below w n)) (ne_eqb b 1 (λ y. omega arith)) ∙ omega arith)
      (λ (z : b ≡ 1). ap (λ (t : Bool). cond t (suc (below w n)) (below w n)) (eq-eqb b 1 z) ∙ omega arith)
      either

  -- k bits of the word j further
  within_word : (j k : ℕ) → k ≤ 64 → below w (64 * j + k) ≡ below w (64 * j) + ones (word_at w j % 2 ^ k)
  within_word j zero h = let z = no_ones (word_at w j) in let e : 64 * j + 0 ≡ 64 * j = omega arith in ap (below w) e ∙ omega arith
  within_word j (suc k) h =
      let next : 64 * j + suc k ≡ suc (64 * j + k) = omega arith in
      let ih = within_word j k (omega arith) in
      let step = one_more (64 * j + k) (bit_of (word_at w j) k) (bit_either (word_at w j) k) (own_bit j k h) in
      let more = ones_further (word_at w j) k in
      ap (below w) next ∙ omega arith

  whole_word : (j : ℕ) → word_at w j < 2 ^ 64 → below w (64 * suc j) ≡ below w (64 * j) + ones (word_at w j)
  whole_word j h =
      let next : 64 * suc j ≡ 64 * j + 64 = omega arith in
      ap (below w) next ∙ within_word j 64 (omega arith) ∙ ap (λ (x : ℕ). below w (64 * j) + ones x) (mod-eq_of_lt h)

  -- the ones of the whole words before a word
  pub to_first : below w 0 ≡ 0
  unfolding below
  to_first = refl

  module _ (a : w.first < 2 ^ 64) where
    pub to_second : below w 64 ≡ ones w.first
    unfolding below
    to_second = whole_word 0 a ∙ zero-add (ones w.first)

    module _ (b : w.second < 2 ^ 64) where
      pub to_third : below w 128 ≡ ones w.first + ones w.second
      to_third = whole_word 1 b ∙ ap (λ (x : ℕ). x + ones w.second) to_second

      pub to_fourth : w.third < 2 ^ 64 → below w 192 ≡ ones w.first + ones w.second + ones w.third
      to_fourth c = whole_word 2 c ∙ ap (λ (x : ℕ). x + ones w.third) to_third

  -- ---- the two ways out of the lookup

  module _ (n word : ℕ) (is : word ≡ word_at w (n / 64)) where
    pub not_there : word / 2 ^ (n % 64) % 2 ≡ 0 → None ≡ entry_by w n
    unfolding entry_by has
    not_there e = ap (λ (b : Bool). cond b (Some (entry_place (below w n))) None) (sym (ap (λ (x : ℕ). eqb (bit_of x (n % 64)) 1) (sym is) ∙ ne_eqb (bit_of word (n % 64)) 1 (λ z. omega arith)))

    present : (word / 2 ^ (n % 64) % 2 ≡ 0 → ⊥) → has w n ≡ true
    unfolding has
    present o = ap (λ (x : ℕ). eqb (bit_of x (n % 64)) 1) (sym is) ∙ eq-eqb (bit_of word (n % 64)) 1 (⊎_elim (λ (e : bit_of word (n % 64) ≡ 0). absurd (o e)) (λ (e : bit_of word (n % 64) ≡ 1). e) (bit_either word (n % 64)))

    pub in_words : (word / 2 ^ (n % 64) % 2 ≡ 0 → ⊥) → n < 256
    in_words o = ⊎_elim (λ (l : 256 ≤ n). absurd (true≢false (sym (present o) ∙ none_above w n l))) (λ (l : n < 256). l) (le-or-lt 256 n)

    pub there : (word / 2 ^ (n % 64) % 2 ≡ 0 → ⊥) → (x y : ℕ) → x ≡ below w (64 * (n / 64)) → y ≡ ones (word % 2 ^ (n % 64)) → Some (entry_place (x + y)) ≡ entry_by w n
    unfolding entry_by
    there o x y p q =
        let at : 64 * (n / 64) + n % 64 ≡ n = omega arith in
        let count : x + y ≡ below w n = ap₂ (λ (x y : ℕ). x + y) p (q ∙ ap (λ (v : ℕ). ones (v % 2 ^ (n % 64))) is) ∙ sym (within_word (n / 64) (n % 64) (omega arith)) ∙ ap (below w) at in
        ap (λ (k : ℕ). Some (entry_place k)) count ∙ sym (ap (λ (b : Bool). cond b (Some (entry_place (below w n))) None) (present o))
