-- What finishing reads lies inside the room.
use Prim.Native.Nat.{ℕ}
use mathlib.Core.Path.{◌≡◌, sym, ◌∙◌}
use mathlib.Core.List.{List}
use lib.ListN.{length, take}
use lib.Seq.{length-take-le}
use Rattle.verdict.specs.Verdicts.{Verdict}
use Rattle.std.specs.Prelude.{Ok}
use Rattle.transfer.specs.declared.State.{State}
use Rattle.transfer.specs.Calls.{ready_verdict}
use Rattle.transfer.proofs.Answers.{is_ready}

pub total-is : (t : State) (room : List ℕ) (v : Verdict) → v ≡ ready_verdict t (length room) → v ≡ Ok tt → t.identity.total ≡ length (take t.identity.total room)
total-is t room v e ok = sym (length-take-le t.identity.total room (is_ready t (length room) (sym e ∙ ok)).2)
