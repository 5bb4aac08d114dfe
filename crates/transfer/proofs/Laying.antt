-- The numbers of a piece, laid one behind the other into zeros.
use Prim.Native.Nat.{ℕ, suc, ◌+◌, ◌-◌, ◌*◌, ◌≤◌}
use mathlib.Core.Path.{◌≡◌, refl, ap, ◌∙◌}
use mathlib.Core.List.{List, [], ◌++◌, append_assoc}
use lib.ListN.{length, replicate, length-append}
use native.Mathlib.Omega.{arith}
use Rattle.seven_bits.specs.Numbers.{groups_most, written, put_in, put_next}
use Rattle.seven_bits.proofs.Forms.{written_few, put_after, next_after}
use Rattle.transfer.specs.declared.Identity.{Identity}
use Rattle.transfer.specs.Pieces.{identity_bytes, head_of}
use Rattle.transfer.specs.Heads.{head_most, head_in}

-- `pre` stands in front, zeros behind it, and there is room for so many numbers more
pub record Laid (left : ℕ) (pre out : List ℕ) (at : ℕ) : Type 0 where
  pub is : out ≡ pre ++ replicate (head_most - length pre) 0
  pub here : at ≡ length pre
  pub room : length pre + groups_most * left ≤ head_most

pub none_laid : (out : List ℕ) → out ≡ replicate head_most 0 → Laid 7 [] out 0
none_laid out e = record { is = e; here = refl; room = omega arith }

pub one_more : {left : ℕ} {pre out : List ℕ} {at : ℕ} (v : ℕ) (out' : List ℕ) (at' : ℕ) → Laid (suc left) pre out at
    → at' ≡ put_next out at v → out' ≡ put_in out at v → Laid left (pre ++ written v) out' at'
one_more {left} {pre} {out} {at} v out' at' l n e =
    let room = l.room in
    let here = l.here in
    let fits : at + groups_most ≤ head_most = omega arith in
    record {
      is = e ∙ put_after pre out head_most at v l.is here fits;
      here = n ∙ next_after pre out head_most at v l.is here fits;
      room = omega (arith, length-append pre (written v), written_few v);
    }

-- all seven, in the order of the piece
seven : (a b c d e f g : List ℕ) → ((((((a ++ b) ++ c) ++ d) ++ e) ++ f) ++ g) ≡ (a ++ (b ++ (c ++ (d ++ e)))) ++ (f ++ g)
seven a b c d e f g = simp append_assoc

pub all_laid : (i : Identity) (start count : ℕ) (out : List ℕ) (at : ℕ)
    → Laid 0
    (((((((([] ++ written i.station) ++ written i.kind) ++ written i.version) ++ written i.total) ++ written i.trailer) ++ written start)
    ++ written count))
    out at
    → record { bytes = out; length = at } ≡ head_in i start count
unfolding head_in head_of identity_bytes
all_laid i start count out at l =
    let e = seven (written i.station) (written i.kind) (written i.version) (written i.total) (written i.trailer) (written start) (written count) in
    let bytes = l.is ∙ ap (λ (x : List ℕ). x ++ replicate (head_most - length x) 0) e in
    let length = l.here ∙ ap length e in
    λ k. record { bytes = bytes k; length = length k }
