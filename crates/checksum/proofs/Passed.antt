-- The register by the bytes that were passed on: it is what they make of an empty register, all of them and all but the last 190, 246, 299
-- and 341, together. A byte that enters the register and is passed on keeps that, since the register is linear. A byte that enters and is
-- left enters an empty register beside it, and then the empty byte is passed on. Once 341 empty bytes were passed on, nothing of the register
-- is left but what entered beside it (Sparse: gone). So what is left of the last 341 bytes makes of an empty register what all bytes make.
use mathlib.Core.Path.{◌≡◌, refl, sym, ap, ap₂, ◌∙◌}
use mathlib.Core.List.{List, [], ◌∷◌}
use Prim.Native.Nat.{ℕ, zero, suc, ◌+◌, ◌^◌, ◌<◌}
use native.Mathlib.Omega.{arith}
use lib.ListN.{length, get_or, take, drop}
use lib.Bits.{bit_xor, xor_lt, xor_comm, xor_zero_r}
use Rattle.checksum.specs.Checksum.{width, start, step, bit_step, high_first, bit_steps, byte_step, checksum_from, checksum_of}
use Rattle.checksum.specs.inner.Table.{empty_steps}
use Rattle.checksum.specs.inner.Reach.{lead, brought, passed, left}
use Rattle.checksum.proofs.Xor.{xor_twice}
use Rattle.checksum.proofs.Linear.{bits_xor}
use Rattle.checksum.proofs.Empty.{byte_lt, empty_add}
use Rattle.checksum.proofs.Walk.{from_take}
use Rattle.checksum.proofs.Sparse.{gone}

-- what the bytes, newest first, make of an empty register
abbrev made : List ℕ → ℕ
made [] = 0
made (p ∷ ps) = byte_step (made ps) p

made_lt : (ps : List ℕ) → made ps < 2 ^ width
made_lt [] = omega arith
made_lt (p ∷ ps) = byte_lt (made ps) p (made_lt ps)

-- two registers and two bytes, apart and together
linear : (a b x y : ℕ) → a < 2 ^ width → b < 2 ^ width → bit_xor (byte_step a x) (byte_step b y) ≡ byte_step (bit_xor a b) (bit_xor x y)
unfolding byte_step
linear a b x y p q = sym (bits_xor high_first a b x y p q)

-- all but the last d, and one less: where there are no more, nothing enters an empty register
behind : (d : ℕ) (ps : List ℕ) → made (drop d ps) ≡ byte_step (made (drop (suc d) ps)) (get_or ps d 0)
unfolding byte_step bit_steps bit_step step
behind zero [] = refl
behind zero (p ∷ ps) = refl
behind (suc d) [] = refl
behind (suc d) (p ∷ ps) = behind d ps

-- what all but the last 190, 246, 299 and 341 make, together
abbrev far : List ℕ → ℕ
far ps = bit_xor (bit_xor (bit_xor (made (drop 190 ps)) (made (drop 246 ps))) (made (drop 299 ps))) (made (drop 341 ps))

far_lt : (ps : List ℕ) → far ps < 2 ^ width
far_lt ps =
    let a : ℕ = made (drop 190 ps) in
    let b : ℕ = made (drop 246 ps) in
    let c : ℕ = made (drop 299 ps) in
    let d : ℕ = made (drop 341 ps) in
    xor_lt width (bit_xor (bit_xor a b) c) d
    (xor_lt width (bit_xor a b) c (xor_lt width a b (made_lt (drop 190 ps)) (made_lt (drop 246 ps))) (made_lt (drop 299 ps)))
    (made_lt (drop 341 ps))

far_on : (p : ℕ) (ps : List ℕ) → far (p ∷ ps) ≡ byte_step (far ps) (brought ps)
far_on p ps =
    let a : ℕ = made (drop 190 ps) in
    let b : ℕ = made (drop 246 ps) in
    let c : ℕ = made (drop 299 ps) in
    let d : ℕ = made (drop 341 ps) in
    let ab : bit_xor a b < 2 ^ width = xor_lt width a b (made_lt (drop 190 ps)) (made_lt (drop 246 ps)) in
    let abc : bit_xor (bit_xor a b) c < 2 ^ width = xor_lt width (bit_xor a b) c ab (made_lt (drop 299 ps)) in
    ap₂ bit_xor (ap₂ bit_xor (ap₂ bit_xor (behind 189 ps) (behind 245 ps)) (behind 298 ps)) (behind 340 ps)
    ∙ ap (λ (x : ℕ). bit_xor (bit_xor x (byte_step c (get_or ps 298 0))) (byte_step d (get_or ps 340 0)))
    (linear a b (get_or ps 189 0) (get_or ps 245 0) (made_lt (drop 190 ps)) (made_lt (drop 246 ps)))
    ∙ ap (λ (x : ℕ). bit_xor x (byte_step d (get_or ps 340 0)))
    (linear (bit_xor a b) c (bit_xor (get_or ps 189 0) (get_or ps 245 0)) (get_or ps 298 0) ab (made_lt (drop 299 ps)))
    ∙ linear (bit_xor (bit_xor a b) c) d (bit_xor (bit_xor (get_or ps 189 0) (get_or ps 245 0)) (get_or ps 298 0)) (get_or ps 340 0) abc (made_lt (drop 341 ps))

-- the register, by the bytes that were passed on
abbrev register : List ℕ → ℕ
register ps = bit_xor (made ps) (far ps)

register_lt : (ps : List ℕ) → register ps < 2 ^ width
register_lt ps = xor_lt width (made ps) (far ps) (made_lt ps) (far_lt ps)

-- a byte is passed on: the register takes it with what was brought to it
register_on : (p : ℕ) (ps : List ℕ) → register (p ∷ ps) ≡ byte_step (register ps) (bit_xor p (brought ps))
register_on p ps = ap (bit_xor (byte_step (made ps) p)) (far_on p ps) ∙ linear (made ps) (far ps) p (brought ps) (made_lt ps) (far_lt ps)

-- bytes enter the register, and are passed on
passed_is : (s ps : List ℕ) → checksum_from (register ps) s ≡ register (passed ps s)
unfolding checksum_from passed
passed_is [] ps = refl
passed_is (x ∷ s) ps =
    let p : ℕ = bit_xor x (brought ps) in
    let back : bit_xor p (brought ps) ≡ x = xor_comm p (brought ps) ∙ xor_twice (brought ps) x in
    ap (λ (r : ℕ). checksum_from r s) (ap (byte_step (register ps)) (sym back) ∙ sym (register_on p ps))
    ∙ passed_is s (p ∷ ps)

-- n empty bytes were passed on
abbrev pub zeros : ℕ → List ℕ → List ℕ
zeros zero ps = ps
zeros (suc n) ps = 0 ∷ zeros n ps

zeros_on : (n : ℕ) (ps : List ℕ) → zeros n (0 ∷ ps) ≡ zeros (suc n) ps
zeros_on zero ps = refl
zeros_on (suc n) ps = ap (λ (l : List ℕ). 0 ∷ l) (zeros_on n ps)

zeros_made : (n : ℕ) (ps : List ℕ) → made (zeros n ps) ≡ empty_steps n (made ps)
unfolding empty_steps
zeros_made zero ps = refl
zeros_made (suc n) ps =
    let more : 1 + n ≡ suc n = omega arith in
    ap (λ (r : ℕ). byte_step r 0) (zeros_made n ps) ∙ empty_add 1 n (made ps) ∙ ap (λ (k : ℕ). empty_steps k (made ps)) more

-- bytes enter the register, and are left: they enter a register beside it
left_is : (s ps : List ℕ) (a : ℕ) → a < 2 ^ width
    → checksum_from (bit_xor (register ps) a) s ≡ bit_xor (register (zeros (length s) ps)) (checksum_from a (left ps s))
unfolding checksum_from left
left_is [] ps a p = refl
left_is (x ∷ s) ps a p =
    let b : ℕ = brought ps in
    let q : ℕ = bit_xor x b in
    ap (λ (r : ℕ). checksum_from r s)
    (ap (byte_step (bit_xor (register ps) a)) (sym (xor_twice b x))
    ∙ sym (linear (register ps) a b q (register_lt ps) p)
    ∙ ap (λ (r : ℕ). bit_xor r (byte_step a q)) (sym (register_on 0 ps)))
    ∙ left_is s (0 ∷ ps) (byte_step a q) (byte_lt a q p)
    ∙ ap (λ (l : List ℕ). bit_xor (register l) (checksum_from (byte_step a q) (left (0 ∷ ps) s))) (zeros_on (length s) ps)

-- once as many empty bytes were passed on as a byte reaches, nothing is left of the register
all_gone : (ps : List ℕ) → register (zeros 341 ps) ≡ 0
all_gone ps =
    ap₂ bit_xor (zeros_made 341 ps)
    (ap₂ bit_xor (ap₂ bit_xor (ap₂ bit_xor (zeros_made 151 ps) (zeros_made 95 ps)) (zeros_made 42 ps)) refl)
    ∙ gone (made ps) (made_lt ps)

-- of the last bytes as many are left as a byte reaches
last-is : (s ps : List ℕ) → length s ≡ 341 → checksum_from (register ps) s ≡ checksum_from 0 (left ps s)
last-is s ps e =
    ap (λ (r : ℕ). checksum_from r s) (sym (xor_zero_r (register ps)))
    ∙ left_is s ps 0 (omega arith)
    ∙ ap (λ (r : ℕ). bit_xor r (checksum_from 0 (left ps s))) (ap (λ (n : ℕ). register (zeros n ps)) e ∙ all_gone ps)

-- the lead makes the start value
lead_is : register (passed [] lead) ≡ start
unfolding passed byte_step bit_steps bit_step step
lead_is = refl

-- THEOREM: the lead and the first n bytes are passed on, and what is left of the others makes of an empty register the checksum of all
pub short : (n : ℕ) (s t : List ℕ) → length (drop n s) ≡ 341 → t ≡ left (passed (passed [] lead) (take n s)) (drop n s)
    → checksum_from 0 t ≡ checksum_of s
unfolding checksum_of
short n s t e is =
    let ps : List ℕ = passed [] lead in
    ap (checksum_from 0) is
    ∙ sym (last-is (drop n s) (passed ps (take n s)) e)
    ∙ ap (λ (r : ℕ). checksum_from r (drop n s)) (sym (passed_is (take n s) ps))
    ∙ from_take n s (register ps)
    ∙ ap (λ (r : ℕ). checksum_from r s) lead_is
