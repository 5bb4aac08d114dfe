-- Where a byte has a number that its table names, the case that is read has that number. The proofs go through the numbers one by one.
use Prim.Native.Nat.{ℕ, zero, suc, ◌≤◌}
use mathlib.Core.Path.{◌≡◌, refl}
use mathlib.Core.Bool.{cond}
use native.Mathlib.Omega.{arith}
use lib.Dec.{eqb}
use Rattle.x2_records.specs.declared.balises.Nature.TheVariants.{Virtual, Physical}
use Rattle.x2_records.specs.declared.balises.GroupDirection.TheVariants.{Opposite, Same}
use Rattle.x2_records.specs.declared.signals.Facing.TheVariants.{Neither, Down, Up}
use Rattle.x2_records.specs.declared.signals.Duty.TheVariants.{Entry, Exit, Passing, Route, Shunting}
use Rattle.x2_records.specs.Tables.{direction_of, direction_number, nature_bits, nature_of, nature_number, group_direction_bits, group_direction_of, group_direction_number, facing_bits, facing_of, facing_number, duty_bits, duty_of, duty_number}

pub direction_kept : (b : ℕ) → b ≤ 1 → direction_number (direction_of b) ≡ b
unfolding direction_of
direction_kept zero h = refl
direction_kept (suc zero) h = refl
direction_kept (suc (suc n)) h = omega arith

nature : (n : ℕ) → n ≤ 1 → nature_number (cond (eqb n 0) Virtual Physical) ≡ n
nature zero h = refl
nature (suc zero) h = refl
nature (suc (suc n)) h = omega arith

pub nature_kept : (b : ℕ) → nature_bits b ≤ 1 → nature_number (nature_of b) ≡ nature_bits b
unfolding nature_of
nature_kept b h = nature _ h

group_direction : (n : ℕ) → 1 ≤ n → n ≤ 2 → group_direction_number (cond (eqb n 1) Opposite Same) ≡ n
group_direction zero l h = omega arith
group_direction (suc zero) l h = refl
group_direction (suc (suc zero)) l h = refl
group_direction (suc (suc (suc n))) l h = omega arith

pub group_direction_kept : (b : ℕ) → 1 ≤ group_direction_bits b → group_direction_bits b ≤ 2 → group_direction_number (group_direction_of b) ≡ group_direction_bits b
unfolding group_direction_of
group_direction_kept b l h = group_direction _ l h

facing : (n : ℕ) → n ≤ 2 → facing_number (cond (eqb n 0) Neither (cond (eqb n 1) Down Up)) ≡ n
facing zero h = refl
facing (suc zero) h = refl
facing (suc (suc zero)) h = refl
facing (suc (suc (suc n))) h = omega arith

pub facing_kept : (b : ℕ) → facing_bits b ≤ 2 → facing_number (facing_of b) ≡ facing_bits b
unfolding facing_of
facing_kept b h = facing _ h

duty : (n : ℕ) → 1 ≤ n → n ≤ 5 → duty_number (cond (eqb n 1) Entry (cond (eqb n 2) Exit (cond (eqb n 3) Passing (cond (eqb n 4) Route Shunting)))) ≡ n
duty zero l h = omega arith
duty (suc zero) l h = refl
duty (suc (suc zero)) l h = refl
duty (suc (suc (suc zero))) l h = refl
duty (suc (suc (suc (suc zero)))) l h = refl
duty (suc (suc (suc (suc (suc zero))))) l h = refl
duty (suc (suc (suc (suc (suc (suc n)))))) l h = omega arith

pub duty_kept : (b : ℕ) → 1 ≤ duty_bits b → duty_bits b ≤ 5 → duty_number (duty_of b) ≡ duty_bits b
unfolding duty_of
duty_kept b l h = duty _ l h
