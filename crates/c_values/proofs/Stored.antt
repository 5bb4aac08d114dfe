-- The loader's state in bytes: when bytes hold an open one; what is put in them is the state after an accepted call; and no piece is accepted with
-- bytes that are too few.
use Prim.Native.Nat.{ℕ, ◌≤◌}
use mathlib.Core.Path.{◌≡◌, refl}
use mathlib.Core.Bool.{true}
use mathlib.Core.Logic.{◌↔◌}
use mathlib.Core.List.{List}
use lib.ListN.{length}
use lib.Dec.{eqb, leb}
use borrow.Author.Tests.{leb-true, eqb-true, le-leb, eq-eqb, le-ltb}
use Rattle.verdict.specs.Verdicts.{Verdict}
use Rattle.std.specs.Prelude.{Ok, Err}
use Rattle.verdict.specs.Answers.{answered}
use Rattle.verdict.proofs.Orders.{and-true}
use Rattle.transfer.specs.declared.State.{State}
use Rattle.transfer.specs.Calls.{changed, piece_verdict, moved}
use Rattle.transfer.proofs.Answers.{passed}
use Rattle.c_values.specs.Words.{answer_word}
use Rattle.c_values.specs.Shown.{words_shown, verdict_shown, shown}
use Rattle.c_values.specs.Load.{state_size, open_mark, value_in, state_in, state_values, state_answer, piece_shown}

-- THEOREM: an open state is at least so many bytes, of which the first value is the mark; all other bytes have nothing opened
pub open_iff : (b : List ℕ) → ((state_in b).opened ≡ true) ↔ ((state_size ≤ length b) × (value_in b 0 ≡ open_mark))
unfolding state_in
open_iff b = (
  λ e. let a = and-true (leb state_size (length b)) (eqb (value_in b 0) open_mark) e in (leb-true _ _ a.0, eqb-true _ _ a.1),
  λ h. rw (le-leb state_size (length b) h.0, eq-eqb (value_in b 0) open_mark h.1),
)

-- of a call that is refused no state is put in the bytes
pub after_call : (v : Verdict) (new old : State) → state_answer v (changed v new old) ≡ state_answer v new
unfolding changed
after_call (Ok tt) new old = refl
after_call (Err f) new old = refl

-- where the bytes are enough, laying a state in them returns 0
long_shown : (b : List ℕ) (t : State) → state_size ≤ length b → shown (answered (state_values t)) b ≡ answer_word 0 0 0
unfolding words_shown
long_shown b t h = rw (le-ltb (length b) state_size h)

-- and a piece that is accepted has enough
pub piece_shown_lem : (b s : List ℕ) (n : ℕ) → shown (state_answer (piece_verdict (state_in b) s n) (moved (state_in b) s)) b ≡ piece_shown b s n
piece_shown_lem b s n = by_verdict (piece_verdict (state_in b) s n) refl
  where
    by_verdict : (v : Verdict) → piece_verdict (state_in b) s n ≡ v → shown (state_answer v (moved (state_in b) s)) b ≡ verdict_shown v
    by_verdict (Ok tt) e = long_shown b (moved (state_in b) s) ((open_iff b).0 (passed (state_in b) s n e).opened).0
    by_verdict (Err f) e = refl
