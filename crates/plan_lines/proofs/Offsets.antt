-- A word as an offset.
use Prim.Native.Nat.{ℕ, ◌<◌}
use native.Mathlib.Omega.{arith}
use mathlib.Core.Path.{◌≡◌, refl, sym, ap, ◌∙◌}
use mathlib.Core.Bool.{Bool, true, false, cond, true≢false}
use mathlib.Core.List.{List}
use lib.Dec.{leb}
use borrow.Author.Tests.{leb-true, leb-false}
use Rattle.std.specs.Prelude.{Result, None, Some, Ok, Err}
use Rattle.std.specs.Result.{OkIff, IsErr, result_ok}
use Rattle.std.proofs.lemmas.Result.{Ok-from_Ok_iff, IsErr-from_ok_iff}
use Rattle.decimal.specs.Decimal.{number_in}
use Rattle.decimal.proofs.Digits.{number_tested}
use Rattle.plan_lines.specs.Lines.{offset_most, is_offset, offset_of}

no_value : {E : Type 0} (r : Result ℕ E) → IsErr r → result_ok r ≡ None
no_value (Ok x) e = absurd (true≢false (sym e))
no_value (Err x) e = refl

-- what no offset has room for is no offset
pub offset_read : {E : Type 0} (w : List ℕ) (n : ℕ) (r : Result ℕ E) → n ≡ number_in w offset_most → OkIff r (n < 65536) n → result_ok r ≡ offset_of w
offset_read w n r e k = by_test (is_offset w) (sym (number_tested w offset_most)) r k
  where
    by_test : {E : Type 0} (b : Bool) → b ≡ leb (number_in w offset_most) offset_most → (r : Result ℕ E) → OkIff r (n < 65536) n → result_ok r ≡ cond b (Some (number_in w offset_most)) None
    by_test true t r h =
        let l = leb-true (number_in w offset_most) offset_most (sym t) in
        ap result_ok (Ok-from_Ok_iff r (n < 65536) n h (omega arith)) ∙ ap Some e
    by_test false t r h =
        let l = leb-false (number_in w offset_most) offset_most (sym t) in
        no_value r (IsErr-from_ok_iff r (n < 65536) n h (λ k. omega arith))

-- a word that is no offset, and one that is
pub no_offset : (w : List ℕ) → None ≡ offset_of w → is_offset w ≡ false
no_offset w e = by_test (is_offset w) refl e
  where
    by_test : (b : Bool) → is_offset w ≡ b → None ≡ cond b (Some (number_in w offset_most)) None → b ≡ false
    by_test true t q = let z : ◌≡◌ {A = ℕ} 0 1 = cc in absurd (omega arith)
    by_test false t q = refl

pub some_offset : (w : List ℕ) (x : ℕ) → Some x ≡ offset_of w → (is_offset w ≡ true) × (x ≡ number_in w offset_most)
some_offset w x e = by_test (is_offset w) refl e
  where
    by_test : (b : Bool) → is_offset w ≡ b → Some x ≡ cond b (Some (number_in w offset_most)) None → (b ≡ true) × (x ≡ number_in w offset_most)
    by_test true t q = (refl, cc)
    by_test false t q = let z : ◌≡◌ {A = ℕ} 0 1 = cc in absurd (omega arith)
