-- The offsets of a text's words, stored one after the other.
use Prim.Native.Nat.{ℕ, suc, ◌+◌, ◌≤◌, ◌<◌}
use native.Mathlib.Numerals.{add-one}
use native.Mathlib.Nat.{zero-add}
use native.Mathlib.Omega.{arith}
use mathlib.Core.Path.{◌≡◌, refl, ap, ◌∙◌}
use mathlib.Core.Bool.{true}
use mathlib.Core.List.{List, [], ◌∷◌, ◌++◌}
use lib.ListN.{length, drop, set, length-set}
use lib.Seq.{sets, sets-eq}
use Rattle.verdict.proofs.Orders.{and-true}
use Rattle.decimal.specs.Decimal.{number_in}
use Rattle.std.specs.Option.{unwrap_or}
use Rattle.plan_lines.specs.Lines.{offset_most, is_offset, offset_of, all_offsets, offsets_of}

-- the words `left` of all words are left, and the offsets of the n before them are stored: what those store makes the same of `out` as what all
-- words store makes of `first`
pub record Stored (all left : List (List ℕ)) (first : List ℕ) (n : ℕ) (out : List ℕ) : Type 0 where
  pub room : n + length left ≤ length out
  pub offsets : all_offsets left ≡ true
  pub kept : length out ≡ length first
  pub stored : sets out n (offsets_of left) ≡ sets first 0 (offsets_of all)

pub offsets_length : (ws : List (List ℕ)) → length (offsets_of ws) ≡ length ws
unfolding offsets_of
offsets_length [] = refl
offsets_length (w ∷ ws) = ap suc (offsets_length ws)

module _ (all left : List (List ℕ)) (first : List ℕ) (n : ℕ) (out : List ℕ) (s : Stored all left first n out) where
  -- at a word there is room for its offset
  pub word_room : (w : List ℕ) (ws : List (List ℕ)) → left ≡ w ∷ ws → n < length out
  word_room w ws e = omega (arith, rw e at s.room)

  pub stored_word : (w : List ℕ) (ws : List (List ℕ)) → left ≡ w ∷ ws → (x : ℕ) → x ≡ unwrap_or (offset_of w) 0 → Stored all ws first (n + 1) (set out n x)
  unfolding offsets_of all_offsets
  stored_word w ws e x is =
      let a = and-true (is_offset w) (all_offsets ws) (rw e at s.offsets) in
      let l = length-set out n x in
      let number : x ≡ number_in w offset_most = rw a.0 at is in
      record {
        room = omega (arith, rw e at s.room);
        offsets = a.1;
        kept = l ∙ s.kept;
        stored = rw (add-one n, number) (rw e at s.stored);
      }

  pub stored_end : left ≡ [] → length all ≤ length first → out ≡ offsets_of all ++ drop (length all) first
  unfolding offsets_of
  stored_end e r =
      let l = offsets_length all in
      (rw e at s.stored) ∙ sets-eq (offsets_of all) first 0 (omega arith) ∙ rw (l, zero-add)
