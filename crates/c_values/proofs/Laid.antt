-- Values put in an output one after the other: after each the rest gives what the whole gives, and at the end the bytes stand at the start of
-- the output, with what was after them.
use Prim.Native.Nat.{ℕ, suc, ◌+◌, ◌*◌, ◌≤◌, ◌<◌}
use native.Mathlib.Omega.{arith}
use mathlib.Core.Path.{◌≡◌, refl, sym, ap, ◌∙◌}
use mathlib.Core.List.{List, [], ◌∷◌, ◌++◌}
use lib.ListN.{length, get_or, take, drop, drop_of_length-le}
use Rattle.std.proofs.Common.{drop-drop}
use Rattle.std.proofs.lemmas.List.{append_assoc}
use lib.Seq.{sets, length-sets, sets-eq, drop-cons}
use Rattle.c_values.specs.Words.{value_size, word_bytes, laid_bytes}

-- bytes copied to a place, as stores one after the other
pub copied : (out vs : List ℕ) (at k : ℕ) → length vs ≡ k → at + k ≤ length out → take at out ++ (vs ++ drop k (drop at out)) ≡ sets out at vs
copied out vs at k e h = simp (drop-drop, ← e) (sym (append_assoc (take at out) vs (drop (at + length vs) out)) ∙ sym (sets-eq vs out at (omega arith)))

-- one value more
pub lay_more : (words out out' : List ℕ) (i : ℕ) → i < length words → out' ≡ sets out (value_size * i) (word_bytes (get_or words i 0)) → sets out' (value_size * (i + 1)) (laid_bytes (drop (i + 1) words)) ≡ sets out (value_size * i) (laid_bytes (drop i words))
unfolding laid_bytes word_bytes
lay_more words out out' i h e =
    let k : value_size * (i + 1) ≡ suc (suc (suc (suc (value_size * i)))) = omega arith in
    let j : i + 1 ≡ suc i = omega arith in
    rw (e, k, j, drop-cons words i 0 h) refl

pub lay_length : (words out out' : List ℕ) (i : ℕ) → out' ≡ sets out (value_size * i) (word_bytes (get_or words i 0)) → length out' ≡ length out
lay_length words out out' i e = ap length e ∙ length-sets out (value_size * i) (word_bytes (get_or words i 0))

pub lay_stop : (words out out' : List ℕ) (i : ℕ) → length words ≤ i → sets out' (value_size * i) (laid_bytes (drop i words)) ≡ out → out' ≡ out
unfolding laid_bytes
lay_stop words out out' i h e = rw (drop_of_length-le words h) at e

-- how many bytes the values take
pub bytes_length : (words : List ℕ) → length (laid_bytes words) ≡ value_size * length words
unfolding laid_bytes word_bytes
bytes_length [] = refl
bytes_length (w ∷ ws) = let h = bytes_length ws in omega arith

-- where there is room, the stores put the bytes in front
pub laid : (words out : List ℕ) → value_size * length words ≤ length out → sets out 0 (laid_bytes words) ≡ laid_bytes words ++ drop (length (laid_bytes words)) out
laid words out h =
    let l = bytes_length words in
    let k : 0 + length (laid_bytes words) ≡ length (laid_bytes words) = omega arith in
    sets-eq (laid_bytes words) out 0 (omega arith) ∙ ap (λ (n : ℕ). laid_bytes words ++ drop n out) k
