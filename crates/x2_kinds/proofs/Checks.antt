-- A byte past the file's end; and the facts of a balise's table and of its message.
use Prim.Native.Nat.{ℕ, ◌+◌, ◌-◌, ◌≤◌, ◌<◌}
use mathlib.Core.Path.{◌≡◌, sym, ap, ◌∙◌}
use mathlib.Core.Bool.{Bool, true, false, ◌&&◌, and-true}
use mathlib.Core.List.{List, ◌++◌}
use borrow.Author.Tests.{lt-ltb, le-ltb}
use Rattle.std.specs.Prelude.{Ok}
use lib.ListN.{length}
use native.Mathlib.Omega.{arith}
use Rattle.octets.specs.Octets.{num_at}
use Rattle.octets.proofs.Reading.{past}
use Rattle.verdict.specs.Verdicts.{Judged}
use Rattle.verdict.specs.declared.Mark.{Mark}
use Rattle.verdict.specs.declared.Reason.TheVariants as reason
use Rattle.verdict.specs.declared.Rule.TheVariants as rule
use Rattle.verdict.specs.Facts.{Fact, same, test, mark, all_tests, alone, first_fault}
use Rattle.verdict.proofs.Facts.{tests_append}
use Rattle.x2_records.specs.Places as place
use Rattle.x2_kinds.specs.KindFields.{message_end, size_byte_of, message_fields}

-- a byte past the file's end counts as 0
pub nothing_there : (f : List ℕ) (p : ℕ) → length f ≤ p → num_at 1 f p ≡ 0
nothing_there f p h = sym (past 1 f p h (omega arith)).is

-- two lists of facts, the second tested only where the first passes
module _ (x : Bool) (a b : List Fact) (p : x ≡ all_tests a) where
  pub stops : x ≡ false → false ≡ all_tests (a ++ b)
  stops h = ap (λ (t : Bool). t && all_tests b) (sym h ∙ p) ∙ sym (tests_append a b)

  pub goes_on : x ≡ true → (y : Bool) → y ≡ all_tests b → y ≡ all_tests (a ++ b)
  goes_on h y q = q ∙ ap (λ (t : Bool). t && all_tests b) (sym h ∙ p) ∙ sym (tests_append a b)

-- the test of a message's last byte, where the balise has so many bytes
abbrev last_test : List ℕ → ℕ → ℕ → Bool
last_test f at size = test (same (num_at 1 f (at + place.balise_message + (size - place.balise_size) - 1)) message_end)

-- the mark of a message that ends otherwise
abbrev last_mark : ℕ → ℕ → Mark
last_mark at size = mark reason.Field at (at + place.balise_message) (size - place.balise_size) (rule.LastByte message_end)

module _ (f : List ℕ) (at size : ℕ) (is : size ≡ size_byte_of f at) where
  pub no_message_tested : size ≤ place.balise_size → true ≡ all_tests (message_fields f at)
  unfolding message_fields
  no_message_tested h = rw (← is, le-ltb place.balise_size size h)

  pub message_tested : (t : Bool) → place.balise_size < size → t ≡ last_test f at size → t ≡ all_tests (message_fields f at)
  unfolding message_fields
  message_tested t h p = rw (← is, lt-ltb place.balise_size size h) (p ∙ sym (and-true (last_test f at size)))

  pub no_message : size ≤ place.balise_size → Ok tt ≡ first_fault (message_fields f at)
  unfolding message_fields first_fault
  no_message h = rw (← is, le-ltb place.balise_size size h)

  -- a message has one fact, so its test is that of all
  pub message_judged : (r : Judged) (t : Bool) → place.balise_size < size → t ≡ all_tests (message_fields f at) → r ≡ alone t (last_mark at size) → r ≡ first_fault (message_fields f at)
  unfolding message_fields first_fault
  message_judged r t h e p =
      let one = rw (← is, lt-ltb place.balise_size size h) at e in
      rw (← is, lt-ltb place.balise_size size h) (p ∙ ap (λ (b : Bool). alone b (last_mark at size)) (one ∙ and-true (last_test f at size)))
