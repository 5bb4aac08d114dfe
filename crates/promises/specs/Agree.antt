-- What it is for two functions of one form to agree (02, ticket 12: 'On every input it agrees with the first in numbers, words, walk count and
-- refusals, lent memory included'): on any input, any answer that the contract of the one allows and any that the contract of the other allows
-- are equal, and so is what is left in each `&mut`. The contracts are given as in Determined.
use Rattle.std.specs.Prelude.{◌≡◌, List, ℕ}
use contract.Lifetimes.{Lfts}
use borrow.Fn.Kinds.{ParamKind, ResultKind, Out, Dens, res_t, ended_of}
use denote.Triple.Clauses.{Lasts, at_exit}

-- 02: Ticket12.3
abbrev pub Agree : (n : ℕ) (ps : List (ParamKind n)) (r : ResultKind n) → Out n ps r → Out n ps r → Type 0
Agree n ps r Ensures Ensures' =
    (κs : Lfts n) (a : Dens κs ps) (x y : (res_t r κs).Denot) (v w : Lasts (ended_of n ps r) κs a)
    → Ensures κs a x (at_exit (ended_of n ps r) κs a v)
    → Ensures' κs a y (at_exit (ended_of n ps r) κs a w)
    → (x ≡ y) × (v ≡ w)
