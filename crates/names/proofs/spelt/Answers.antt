-- `names::spelt` meets its contract. The loop's invariant: n of the first k bytes are a name's, and `ok`, `before` and `spaced` say what
-- the k bytes are (`Spelt`).
use Prim.Native.Nat.{◌+◌}
use mathlib.Core.Path.{refl}
use mathlib.Core.Bool.{◌&&◌}
use native.Mathlib.Omega.{arith}
use lib.Dec.{leb, eqb}
use lib.ListN.{get_or}
use Rattle.names.proofs.Spelling.{lettered, byte_tests, at_most_one, one_more, spelt_name, spelt_none}
use Rattle.names.proofs.spelt.Goals as goal

pub loop-k-init : goal.loop-k-init
loop-k-init c = (omega arith, omega arith, lettered refl (λ j l. absurd (omega arith)) (λ o e. absurd (omega arith)))

pub overflow_add-n : goal.overflow_add-n
overflow_add-n c = let b = get_or c.args.f.now (c.args.place + c.loop-k.k) 0 in
    omega (arith, at_most_one (leb 0x20 b && leb b 0x7E))

pub loop-k-preserved : goal.loop-k-preserved
loop-k-preserved c = let a = c.args in
    let h = c.loop-k in
    let b = get_or a.f.now (a.place + h.k) 0 in (
      omega arith,
      omega (arith, at_most_one (leb 0x20 b && leb b 0x7E)),
      one_more a.f.now a.place h.k h.n h.ok h.before h.spaced (leb 0x20 b && leb b 0x7E) (eqb b 0) (eqb b 0x20) c.loop-k-test.true h.invariant.2 (byte_tests a.f.now a.place h.k),
    )

pub returns-then-ok-first : goal.returns-then-ok-first
returns-then-ok-first c = let a = c.args in
    let h = c.loop-k in
    spelt_name a.f.now a.place h.k h.n h.ok h.before h.spaced (omega arith) h.invariant.2 c.if-ok-first.true

pub returns : goal.returns
returns c = let a = c.args in
    let h = c.loop-k in
    spelt_none a.f.now a.place h.k h.n h.ok h.before h.spaced (omega arith) h.invariant.2 c.if-ok-first.false
