-- What is promised of a function's contract (01: 'For each public function, every input, refused ones too, determines the answer and the
-- final lent memory. That any two allowed results are equal is itself proved'): it asks nothing of any input, and of any two answers that
-- it allows on one input the results are equal, and so is what is left in each `&mut`. A contract is given by the number of its
-- lifetimes, the kinds of its arguments and of its result, and its two clauses, `requires` and `ensures`, as the check of the function
-- itself uses them.
use Rattle.std.specs.Prelude.{◌≡◌, List, ℕ}
use contract.Lifetimes.{Lfts}
use borrow.Fn.Kinds.{ParamKind, ResultKind, In, Out, Dens, res_t, ended_of}
use denote.Triple.Clauses.{Lasts, at_exit}

-- any two answers x, y and final memories v, w that are allowed on the input a
-- 01: Account.2
abbrev pub OneAnswer : (n : ℕ) (ps : List (ParamKind n)) (r : ResultKind n) → Out n ps r → (κs : Lfts n) → Dens κs ps → Type 0
OneAnswer n ps r Ensures κs a =
    (x y : (res_t r κs).Denot) (v w : Lasts (ended_of n ps r) κs a)
    → Ensures κs a x (at_exit (ended_of n ps r) κs a v)
    → Ensures κs a y (at_exit (ended_of n ps r) κs a w)
    → (x ≡ y) × (v ≡ w)

-- 01: Account.1, Account.3, Account.4
abbrev pub Determined : (n : ℕ) (ps : List (ParamKind n)) (r : ResultKind n) → In n ps → Out n ps r → Type 0
Determined n ps r Requires Ensures = (κs : Lfts n) (a : Dens κs ps) → Requires κs a × OneAnswer n ps r Ensures κs a
