-- The words in some bytes: how the loop of `read_words` reads one more, and that the words of a list are read back.
use Prim.Native.Nat.{ℕ, zero, suc, ◌+◌, ◌*◌, ◌≤◌, ◌<◌}
use native.Mathlib.Numerals.{add-one}
use native.Mathlib.Omega.{arith}
use mathlib.Core.Path.{◌≡◌, refl, sym, ap₂, ◌∙◌}
use mathlib.Core.List.{List, [], ◌∷◌, ◌++◌}
use lib.ListN.{length, take, set}
use lib.Seq.{take-suc, take-suc-set, take-length}
use Rattle.octets.specs.Octets.{num_at}
use Rattle.route_walks.specs.Lent.{word_size, octets_of}
use Rattle.route_walks.proofs.Lent.{read_back}
use Rattle.plan_question.specs.inner.Words.{words_in}

-- one turn of the loop of `read_words`
pub one_read : (s words : List ℕ) (k w : ℕ) → k < length words → take k words ≡ words_in k s → w ≡ num_at word_size s (word_size * k) → take (k + 1) (set words k w) ≡ words_in (k + 1) s
unfolding words_in
one_read s words k w h e q = rw (add-one k, take-suc-set words k w h, e, q) refl

front_back : (ws rest : List ℕ) (k : ℕ) → k ≤ length ws → words_in k (octets_of ws ++ rest) ≡ take k ws
unfolding words_in
front_back ws rest zero h = refl
front_back ws rest (suc k) h =
    ap₂ (λ (a : List ℕ) (w : ℕ). a ++ (w ∷ [])) (front_back ws rest k (omega arith)) (read_back ws rest k (omega arith))
    ∙ sym (take-suc ws k 0 (omega arith))

-- the words of a list that stand in front of some bytes are read back
pub words_back : (ws rest : List ℕ) → words_in (length ws) (octets_of ws ++ rest) ≡ ws
words_back ws rest = front_back ws rest (length ws) (omega arith) ∙ take-length ws
