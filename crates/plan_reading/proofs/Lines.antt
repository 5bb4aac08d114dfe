-- A line that was read, and the words that it leaves.
use Prim.Native.Nat.{ℕ, ◌≤◌, ◌<◌}
use native.Mathlib.Omega.{arith}
use mathlib.Core.Path.{◌≡◌, refl, sym, ap, ◌∙◌}
use mathlib.Core.List.{List, ◌++◌}
use lib.ListN.{length, take, drop, length-take}
use lib.Seq.{take_at}
use Rattle.std.specs.Prelude.{Result, Ok, Err}
use Rattle.plan_lines.specs.declared.Line.{Line}
use Rattle.plan_lines.specs.declared.Line.TheVariants as line
use Rattle.plan_lines.specs.declared.Slip.{Slip}
use Rattle.plan_lines.specs.declared.Slip.TheVariants as slip
use Rattle.plan_lines.specs.Lines as lines
use Rattle.plan_lines.specs.Lines.{route_most, said, words_in, line_of, offsets_in}
use Rattle.plan_lines.proofs.Lent.{line_told, left_stored}
use Rattle.plan_lines.proofs.Stores.{offsets_length}
use Rattle.plan_reading.specs.declared.Reading.{Reading}
use Rattle.plan_reading.specs.declared.Taken.{Taken}
use Rattle.plan_reading.specs.Reading.{wrong_by, route_taken, route_left, taken_by, taken_of, left_by, plan_after}

module _ (text : List ℕ) (r : Reading) (plan : List ℕ) (l : Result Line Slip) (is : l ≡ line_of text) where
  -- what a line says, by what it was read as
  pub by_line : (k : Result Line Slip) → l ≡ k → (taken_by k (offsets_in text) r plan ≡ taken_of text r plan) × (left_by k (offsets_in text) r plan ≡ plan_after text r plan)
  by_line k e =
      let same : k ≡ line_of text = sym e ∙ is in
      (ap (λ (j : Result Line Slip). taken_by j (offsets_in text) r plan) same, ap (λ (j : Result Line Slip). left_by j (offsets_in text) r plan) same)

  module _ (n : ℕ) (e : l ≡ Ok (line.Route n)) where
    -- a route has 2 to 512 offsets
    pub route_size : (0 < n) × (n ≤ route_most)
    route_size = let t = line_told (words_in (said text)) n (sym is ∙ e) in (omega arith, omega arith)

    module _ (out out' : List ℕ) (room : route_most ≤ length out) (left : out' ≡ lines.left_by text out) where
      offsets_size : length (offsets_in text) ≡ n
      offsets_size = offsets_length (words_in (said text)) ∙ (line_told (words_in (said text)) n (sym is ∙ e)).1

      -- which stand in front of the words lent
      in_front : take n out' ≡ offsets_in text
      in_front =
          let q : out' ≡ offsets_in text ++ drop n out = left ∙ rw (sym is ∙ e) (sym (left_stored n (offsets_in text) out (omega (arith, route_size.1)))) in
          rw q (take_at (offsets_in text) (drop n out) n offsets_size)

      pub front_size : length (take n out') ≡ n
      front_size = ap length in_front ∙ offsets_size

      pub fits : n ≤ length out'
      fits = omega (arith, front_size, length-take n out')

      pub by_route : (t : Taken) (plan' : List ℕ) → t ≡ route_taken (take n out') r plan → plan' ≡ route_left (take n out') r plan → (t ≡ taken_of text r plan) × (plan' ≡ plan_after text r plan)
      unfolding taken_by left_by
      by_route t plan' p q =
          let b = by_line (Ok (line.Route n)) e in
          (rw in_front at p ∙ b.0, rw in_front at q ∙ b.1)

-- a wrong line that does not begin with 'from' is passed over
pub err_line : (s : Slip) (offsets : List ℕ) (r : Reading) (plan : List ℕ) → (s ≡ slip.From → ⊥) → taken_by (Err s) offsets r plan ≡ wrong_by s r
unfolding taken_by
err_line slip.From offsets r plan n = absurd (n refl)
err_line slip.Word offsets r plan n = refl
err_line slip.Few offsets r plan n = refl
err_line slip.Many offsets r plan n = refl
err_line slip.Elsewhere offsets r plan n = refl
err_line slip.Again offsets r plan n = refl
err_line slip.NoRoom offsets r plan n = refl
