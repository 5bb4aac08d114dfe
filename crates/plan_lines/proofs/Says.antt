-- What words say, by how many there are and whether all of them are offsets.
use Prim.Native.Nat.{ℕ, ◌+◌, ◌≤◌, ◌<◌}
use native.Mathlib.Omega.{arith}
use mathlib.Core.Path.{◌≡◌, refl, ap, ◌∙◌}
use mathlib.Core.Bool.{Bool, true, false, cond}
use mathlib.Core.List.{List, [], ◌∷◌}
use lib.ListN.{length}
use borrow.Author.Tests.{lt-ltb, le-ltb, eq-eqb, ne_eqb}
use Rattle.std.specs.Prelude.{Option, Result, None, Some, Ok, Err}
use Rattle.std.specs.Option.{ok_or}
use Rattle.plan_lines.specs.declared.Line.TheVariants as line
use Rattle.plan_lines.specs.declared.Slip.{Slip}
use Rattle.plan_lines.specs.declared.Slip.TheVariants as slip
use Rattle.plan_lines.specs.Lines.{route_least, route_most, is_offset, offset_of, all_offsets, count_of, is_from, from_by, route_of, route_by, line_by}
use Rattle.plan_lines.proofs.Offsets.{no_offset, some_offset}

-- ---- how many offsets there are: the words of `ws` that stand before those of `left` are offsets

module _ (ws left : List (List ℕ)) (all : all_offsets ws ≡ all_offsets left) where
  module _ (w : List ℕ) (rest : List (List ℕ)) (e : left ≡ w ∷ rest) where
    pub count_stop : None ≡ offset_of w → None ≡ count_of ws
    unfolding all_offsets
    count_stop o = let a : all_offsets ws ≡ false = all ∙ rw (e, no_offset w o) refl in rw a

    pub count_more : (x : ℕ) → Some x ≡ offset_of w → all_offsets ws ≡ all_offsets rest
    unfolding all_offsets
    count_more x o = all ∙ rw (e, (some_offset w x o).0) refl

  pub count_end : (n : ℕ) → left ≡ [] → length ws ≡ n + length left → Some n ≡ count_of ws
  unfolding all_offsets
  count_end n e l =
      let a : all_offsets ws ≡ true = all ∙ rw e refl in
      let k : length ws ≡ n = omega (arith, ap length e) in
      rw (a, k)

-- ---- after 'from'

-- what `ok_or` refuses
pub ok_or_none : {A : Type 0} (o : Option A) (d e : Slip) (r : Result A Slip) → r ≡ ok_or o d → r ≡ Err e → (o ≡ None) × (e ≡ d)
ok_or_none None d e r q h = (refl, cc)
ok_or_none (Some x) d e r q h = let z : ◌≡◌ {A = ℕ} 0 1 = cc in absurd (omega arith)

pub ok_or_some : {A : Type 0} (o : Option A) (d : Slip) (x : A) (r : Result A Slip) → r ≡ ok_or o d → r ≡ Ok x → o ≡ Some x
ok_or_some None d x r q h = let z : ◌≡◌ {A = ℕ} 0 1 = cc in absurd (omega arith)
ok_or_some (Some y) d x r q h = cc

pub from_none : (ws : List (List ℕ)) → ws ≡ [] → Err slip.From ≡ from_by ws
unfolding from_by
from_none ws e = rw e

module _ (ws : List (List ℕ)) (w : List ℕ) (rest : List (List ℕ)) (e : ws ≡ w ∷ rest) where
  pub from_word : None ≡ offset_of w → Err slip.From ≡ from_by ws
  unfolding from_by
  from_word o = rw e (by_case rest (no_offset w o))
    where
      by_case : (rest : List (List ℕ)) → is_offset w ≡ false → Err slip.From ≡ from_by (w ∷ rest)
      by_case [] n = rw n
      by_case (x ∷ xs) n = refl

  pub from_more : (x : List ℕ) (xs : List (List ℕ)) → rest ≡ x ∷ xs → Err slip.From ≡ from_by ws
  unfolding from_by
  from_more x xs h = rw (e, h)

  pub from_one : (x : ℕ) → Some x ≡ offset_of w → rest ≡ [] → Ok (line.From x) ≡ from_by ws
  unfolding from_by
  from_one x o h = let s = some_offset w x o in rw (e, h, s.0, s.1)

-- ---- a route

module _ (ws : List (List ℕ)) where
  pub route_word : None ≡ count_of ws → Err slip.Word ≡ route_by ws
  unfolding route_by
  route_word e = by_test (all_offsets ws) refl e
    where
      by_test : (b : Bool) → all_offsets ws ≡ b → None ≡ cond b (Some (length ws)) None → Err slip.Word ≡ cond b (route_of (length ws)) (Err slip.Word)
      by_test true t q = let z : ◌≡◌ {A = ℕ} 0 1 = cc in absurd (omega arith)
      by_test false t q = refl

  module _ (n : ℕ) (e : Some n ≡ count_of ws) where
    route_count : route_of n ≡ route_by ws
    unfolding route_by
    route_count = by_test (all_offsets ws) refl e
      where
        by_test : (b : Bool) → all_offsets ws ≡ b → Some n ≡ cond b (Some (length ws)) None → route_of n ≡ cond b (route_of (length ws)) (Err slip.Word)
        by_test true t q = let k : n ≡ length ws = cc in ap route_of k
        by_test false t q = let z : ◌≡◌ {A = ℕ} 0 1 = cc in absurd (omega arith)

    pub route_none : n ≡ 0 → Ok line.Empty ≡ route_by ws
    unfolding route_of
    route_none z = (rw (eq-eqb n 0 z)) ∙ route_count

    pub route_few : ¬ (n ≡ 0) → n < route_least → Err slip.Few ≡ route_by ws
    unfolding route_of
    route_few z l = (rw (ne_eqb n 0 z, lt-ltb n route_least l)) ∙ route_count

    pub route_many : route_most < n → Err slip.Many ≡ route_by ws
    unfolding route_of
    route_many m = (rw (ne_eqb n 0 (λ z. omega arith), le-ltb n route_least (omega arith), lt-ltb route_most n m)) ∙ route_count

    pub route-some : route_least ≤ n → n ≤ route_most → Ok (line.Route n) ≡ route_by ws
    unfolding route_of
    route-some l m = (rw (ne_eqb n 0 (λ z. omega arith), le-ltb n route_least l, le-ltb route_most n m)) ∙ route_count

-- ---- the first word

pub line_none : (ws : List (List ℕ)) → ws ≡ [] → route_by ws ≡ line_by ws
unfolding line_by route_by route_of all_offsets
line_none ws e = rw e refl

pub line_from : (ws : List (List ℕ)) (w : List ℕ) (rest : List (List ℕ)) → ws ≡ w ∷ rest → is_from w ≡ true → from_by rest ≡ line_by ws
unfolding line_by
line_from ws w rest e f = rw (e, f)

pub line_route : (ws : List (List ℕ)) (w : List ℕ) (rest : List (List ℕ)) → ws ≡ w ∷ rest → is_from w ≡ false → route_by ws ≡ line_by ws
unfolding line_by
line_route ws w rest e f = rw (e, f)
