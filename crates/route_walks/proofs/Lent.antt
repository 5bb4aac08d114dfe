-- What words that are stored in the bytes lent leave there: as many bytes as before; where there is room, the bytes of the words in front
-- and every byte after them as it was; and each word is read back as the number that it is. Two lists stored one after the other are one.
use Prim.Native.Nat.{ℕ, zero, suc, ◌+◌, ◌-◌, ◌*◌, ◌/◌, ◌%◌, ◌≤◌, ◌<◌}
use native.Mathlib.Nat.{add-zero, add-suc, suc-add}
use native.Mathlib.Numerals.{add-one}
use native.Mathlib.Omega.{arith}
use mathlib.Core.Path.{◌≡◌, refl, sym, ap, ◌∙◌}
use mathlib.Core.Bool.{Bool, true, false, cond}
use mathlib.Core.List.{List, [], ◌∷◌, ◌++◌}
use mathlib.Core.Logic.{⊎_elim}
use lib.ListN.{length, get_or, take, drop, set, length-set, take-append-drop}
use lib.Seq.{sets, sets-eq, take-suc, take_all, length-take-le}
use lib.Dec.{ltb}
use borrow.Author.Tests.{lt-ltb, le-ltb}
use Rattle.std.specs.Prelude.{min}
use Rattle.verdict.proofs.Orders.{le-or-lt}
use Rattle.octets.specs.Octets.{num_at}
use Rattle.route_walks.specs.Lent.{word_size, room_of, octets_of, lay, lays}

-- a word for which there is room, and one for which there is none
pub lay_in : (out : List ℕ) (k w : ℕ) → k < room_of out → lay out k w ≡ set (set out (word_size * k) (w % 256)) (word_size * k + 1) (w / 256)
unfolding lay
lay_in out k w h = rw (lt-ltb k (room_of out) h, lay) refl

pub lay_out : (out : List ℕ) (k w : ℕ) → room_of out ≤ k → lay out k w ≡ out
unfolding lay
lay_out out k w h = rw (le-ltb k (room_of out) h, lay) refl

pub lays_out : (out : List ℕ) (k : ℕ) (ws : List ℕ) → room_of out ≤ k → lays out k ws ≡ out
unfolding lays
lays_out out k [] h = refl
lays_out out k (w ∷ ws) h = ap (λ (o : List ℕ). lays o (suc k) ws) (lay_out out k w h) ∙ lays_out out (suc k) ws (omega arith)

pub length_lay : (out : List ℕ) (k w : ℕ) → length (lay out k w) ≡ length out
unfolding lay
length_lay out k w = either (ltb k (room_of out))
  where
    either : (x : Bool) → length (cond x (set (set out (2 * k) (w % 256)) (2 * k + 1) (w / 256)) out) ≡ length out
    either true = length-set (set out (2 * k) (w % 256)) (2 * k + 1) (w / 256) ∙ length-set out (2 * k) (w % 256)
    either false = refl

pub length_lays : (out : List ℕ) (k : ℕ) (ws : List ℕ) → length (lays out k ws) ≡ length out
unfolding lays
length_lays out k [] = refl
length_lays out k (w ∷ ws) = length_lays (lay out k w) (suc k) ws ∙ length_lay out k w

pub lays_append : (out : List ℕ) (k : ℕ) (ws vs : List ℕ) → lays out k (ws ++ vs) ≡ lays (lays out k ws) (k + length ws) vs
unfolding lays
lays_append out k [] vs = rw add-zero refl
lays_append out k (w ∷ ws) vs = lays_append (lay out k w) (suc k) ws vs ∙ ap (λ (j : ℕ). lays (lays (lay out k w) (suc k) ws) j vs) (suc-add k (length ws) ∙ sym (add-suc k (length ws)))

-- one word more
pub lays_snoc : (out : List ℕ) (k : ℕ) (ws : List ℕ) (w : ℕ) → lays out k (ws ++ (w ∷ [])) ≡ lay (lays out k ws) (k + length ws) w
unfolding lays
lays_snoc out k ws w = lays_append out k ws (w ∷ [])

-- one turn of the loop of `put_words`: a word more
pub stored_more : (out words q q' : List ℕ) (k i : ℕ) → i < length words → q ≡ lays out k (take i words) → q' ≡ lay q (k + i) (get_or words i 0) → q' ≡ lays out k (take (i + 1) words)
stored_more out words q q' k i h e e' =
    let l : length (take i words) ≡ i = length-take-le i words (omega arith) in
    rw (e', e, add-one i, take-suc words i 0 h, lays_snoc out k (take i words) (get_or words i 0)) (ap (λ (j : ℕ). lay (lays out k (take i words)) (k + j) (get_or words i 0)) (sym l))

-- words after the last for which there is room are not stored
pub stored_all : (out : List ℕ) (k m : ℕ) (words : List ℕ) → min (room_of out - k) (length words) ≤ m → m ≤ length words → lays out k (take m words) ≡ lays out k words
stored_all out k m words low high = ⊎_elim
    (λ h. ap (lays out k) (take_all m words h))
    (λ h.
    let l : length (take m words) ≡ m = length-take-le m words high in
    let o = length_lays out k (take m words) in
    let none = lays_out (lays out k (take m words)) (k + length (take m words)) (drop m words) (omega arith) in
    sym none ∙ sym (lays_append out k (take m words) (drop m words)) ∙ ap (lays out k) (take-append-drop m words))
    (le-or-lt (length words) m)

pub octets_length : (ws : List ℕ) → length (octets_of ws) ≡ word_size * length ws
unfolding octets_of
octets_length [] = refl
octets_length (w ∷ ws) = omega (arith, octets_length ws)

-- where there is room, a word more is two stores more
lays_sets : (ws out : List ℕ) (k : ℕ) → 2 * (k + length ws) ≤ length out → lays out k ws ≡ sets out (2 * k) (octets_of ws)
unfolding lays octets_of
lays_sets [] out k h = refl
lays_sets (w ∷ ws) out k h =
    let inside : k < room_of out = omega arith in
    let next : 2 * k + 1 ≡ suc (2 * k) = omega arith in
    let after : 2 * suc k ≡ suc (suc (2 * k)) = omega arith in
    let stored = set (set out (2 * k) (w % 256)) (suc (2 * k)) (w / 256) in
    let same : length stored ≡ length out = length-set (set out (2 * k) (w % 256)) (suc (2 * k)) (w / 256) ∙ length-set out (2 * k) (w % 256) in
    rw (lay_in out k w inside, next) (lays_sets ws stored (suc k) (omega arith) ∙ ap (λ (j : ℕ). sets stored j (octets_of ws)) after)

-- THEOREM: words that fit stand in front, and every byte after them is as it was
pub lays_front : (ws out : List ℕ) → word_size * length ws ≤ length out → lays out 0 ws ≡ octets_of ws ++ drop (word_size * length ws) out
lays_front ws out h =
    let n = octets_length ws in
    let room : 0 + length (octets_of ws) ≤ length out = omega arith in
    let end : 0 + length (octets_of ws) ≡ 2 * length ws = omega arith in
    lays_sets ws out 0 (omega arith) ∙ sets-eq (octets_of ws) out 0 room ∙ ap (λ (j : ℕ). octets_of ws ++ drop j out) end

-- THEOREM: each word is read back, low byte first
pub read_back : (ws rest : List ℕ) (i : ℕ) → i < length ws → num_at word_size (octets_of ws ++ rest) (word_size * i) ≡ get_or ws i 0
unfolding num_at octets_of
read_back [] rest i h = absurd (omega arith)
read_back (w ∷ ws) rest zero h = omega arith
read_back (w ∷ ws) rest (suc i) h =
    let after : 2 * suc i ≡ suc (suc (2 * i)) = omega arith in
    let last : suc (suc (2 * i)) + 1 ≡ suc (suc (2 * i + 1)) = omega arith in
    rw (after, last) (read_back ws rest i (omega arith))
