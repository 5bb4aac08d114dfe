-- A text line by line, and a plan that is read so: one turn of the loop over the lines, and its end.
use Prim.Native.Nat.{ℕ, zero, suc, ◌+◌, ◌<◌, min}
use native.Mathlib.Omega.{arith}
use mathlib.Core.Path.{◌≡◌, refl, sym, ap, ap₂, ◌∙◌}
use mathlib.Core.Bool.{Bool}
use mathlib.Core.List.{List, [], ◌∷◌}
use lib.ListN.{length, take, drop}
use lib.Seq.{drop-drop}
use Rattle.std.specs.Prelude.{Result, Ok, Err}
use Rattle.plan_lines.specs.declared.Slip.{Slip}
use Rattle.plan_lines.specs.Lines.{is_not}
use Rattle.plan_lines.proofs.Fronts.{front_taken}
use Rattle.plan_reading.specs.declared.Reading.{Reading}
use Rattle.plan_reading.specs.declared.Said.{Said}
use Rattle.plan_reading.specs.declared.Taken.{Taken}
use Rattle.plan_reading.specs.Reading.{taken_of, plan_after}
use Rattle.plan_reading.specs.ReadPlan.{line_of_text, lines_after, lines_in, ReadPlan, after_line, read_lines, named_by, named_after}

after_dropped : (n : ℕ) (s : List ℕ) → lines_after n s ≡ lines_in (drop n s)
unfolding lines_after
after_dropped zero [] = refl
after_dropped zero (c ∷ s) = refl
after_dropped (suc n) [] = refl
after_dropped (suc n) (c ∷ s) = after_dropped n s

-- a text begins with a line, and goes on a byte after it
pub next_line : (s : List ℕ) (n : ℕ) → 0 < length s → n ≡ length (line_of_text s) → lines_in s ≡ take n s ∷ lines_in (drop 1 (drop n s))
unfolding lines_after
next_line [] n h e = absurd (omega arith)
next_line (c ∷ s) n h e =
    let line : line_of_text (c ∷ s) ≡ take n (c ∷ s) = rw e (sym (front_taken (is_not 0x0A) (c ∷ s))) in
    let place : n + 1 ≡ suc n = omega arith in
    let rest : lines_after n s ≡ lines_in (drop 1 (drop n (c ∷ s))) = after_dropped n s ∙ ap lines_in (sym (drop-drop 1 n (c ∷ s) ∙ ap (λ (k : ℕ). drop k (c ∷ s)) place)) in
    ap₂ (λ (l : List ℕ) (k : ℕ). l ∷ lines_after k s) line (sym e) ∙ ap (λ (ls : List (List ℕ)). take n (c ∷ s) ∷ ls) rest

-- where there is no byte after a line
pub past_end : (s : List ℕ) (k : ℕ) → k ≡ min (length s) 1 → drop k s ≡ drop 1 s
past_end [] k e = let z : k ≡ 0 = omega arith in rw z refl
past_end (c ∷ s) k e = let z : k ≡ 1 = omega arith in rw z refl

pub no_line : (s : List ℕ) → length s ≡ 0 → lines_in s ≡ []
unfolding lines_after
no_line [] e = refl
no_line (c ∷ s) e = absurd (omega arith)

-- one line more
module _ (lines rest : List (List ℕ)) (line : List ℕ) (left : lines ≡ line ∷ rest) (r : Reading) (plan : List ℕ) (t : Taken) (plan' : List ℕ) (a : t ≡ taken_of line r plan) (b : plan' ≡ plan_after line r plan) where
  after : record { reading = t.reading; lent = plan' } ≡ after_line line (record { reading = r; lent = plan })
  after = ap₂ (λ (u : Taken) (l : List ℕ). record { reading = u.reading; lent = l }) a b

  pub read_more : read_lines rest (record { reading = t.reading; lent = plan' }) ≡ read_lines lines (record { reading = r; lent = plan })
  unfolding read_lines
  read_more = ap (read_lines rest) after ∙ sym (ap (λ (ls : List (List ℕ)). read_lines ls (record { reading = r; lent = plan })) left)

  pub named_more : (named named' : List Bool) → named' ≡ named_by t.said named
      → named_after rest (record { reading = t.reading; lent = plan' }) named' ≡ named_after lines (record { reading = r; lent = plan }) named
  unfolding named_after
  named_more named named' m =
      ap₂ (named_after rest) after (m ∙ ap (λ (u : Taken). named_by u.said named) a)
      ∙ sym (ap (λ (ls : List (List ℕ)). named_after ls (record { reading = r; lent = plan }) named) left)

-- none is left
pub read_end : (lines : List (List ℕ)) → lines ≡ [] → (p : ReadPlan) → p ≡ read_lines lines p
unfolding read_lines
read_end lines e p = sym (ap (λ (ls : List (List ℕ)). read_lines ls p) e)

pub named_end : (lines : List (List ℕ)) → lines ≡ [] → (p : ReadPlan) (named : List Bool) → named ≡ named_after lines p named
unfolding named_after
named_end lines e p named = sym (ap (λ (ls : List (List ℕ)). named_after ls p named) e)

-- ---- the starts that are named

pub named_ok : (named named' : List Bool) (s : Result Said Slip) (x y : Said) → s ≡ Ok x → x ≡ y → named' ≡ named_by (Ok y) named → named' ≡ named_by s named
named_ok named named' s x y e f h = h ∙ ap (λ (u : Said). named_by (Ok u) named) (sym f) ∙ ap (λ (u : Result Said Slip). named_by u named) (sym e)

pub named_err : (named : List Bool) (s : Result Said Slip) (x : Slip) → s ≡ Err x → named ≡ named_by s named
unfolding named_by
named_err named s x e = rw e
