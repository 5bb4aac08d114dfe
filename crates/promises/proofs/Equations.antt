-- What a contract allows is one answer, where one equation gives the result and no memory is lent: `u` is the result that it gives; `v` and `w`,
-- what is left in each `&mut`, hold nothing then, so they are equal. This is the proof for nearly every public function.
use mathlib.Core.Path.{◌≡◌, sym, ◌∙◌}

-- a part of the contract is the equation
pub by_part :
    {X L : Type 0} {u : X} {Ensures : X → Type 0} → ((x : X) → Ensures x → x ≡ u) → ((v w : L) → v ≡ w)
    → Unit {0} × ((x y : X) (v w : L) → Ensures x → Ensures y → (x ≡ y) × (v ≡ w))
by_part is nothing = (tt, λ x y v w p q. (is x p ∙ sym (is y q), nothing v w))

-- the contract is the equation
pub by_equation : {X L : Type 0} {u : X} → ((v w : L) → v ≡ w) → Unit {0} × ((x y : X) (v w : L) → x ≡ u → y ≡ u → (x ≡ y) × (v ≡ w))
by_equation {X} {L} {u} nothing = by_part {Ensures = λ (x : X). x ≡ u} (λ x p. p) nothing
