-- The numbers of a piece lie inside their room.
use Prim.Native.Nat.{ℕ, ◌-◌, ◌≤◌}
use mathlib.Core.Path.{◌≡◌}
use lib.ListN.{length, replicate, length-append}
use native.Mathlib.Omega.{arith}
use Rattle.seven_bits.proofs.Forms.{written_few}
use Rattle.transfer.specs.declared.Identity.{Identity}
use Rattle.transfer.specs.declared.heads.Head.{Head}
use Rattle.transfer.specs.Pieces.{identity_bytes, head_of}
use Rattle.transfer.specs.Heads.{head_most, head_in}

module _ (h : Head) (i : Identity) (start count : ℕ) (e : h ≡ head_in i start count) where
  pub head_inside : h.length ≤ length h.bytes
  unfolding head_in
  head_inside = simp e (omega (arith, length-append (head_of i start count) (replicate (head_most - length (head_of i start count)) 0)))

  pub head_few : h.length ≤ head_most
  unfolding head_in head_of identity_bytes
  head_few =
      simp (e, length-append)
      (omega (arith, written_few i.station, written_few i.kind, written_few i.version, written_few i.total, written_few i.trailer, written_few start, written_few count))
