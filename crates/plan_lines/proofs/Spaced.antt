-- Offsets with one space between each two of them are read back: the line is the route of just these offsets.
use Prim.Native.Nat.{ℕ, ◌≤◌, ◌<◌}
use native.Mathlib.Omega.{arith}
use mathlib.Core.Path.{◌≡◌, refl, sym, ap, ◌∙◌}
use mathlib.Core.Bool.{Bool, true, false, ◌&&◌}
use mathlib.Core.List.{List, [], ◌∷◌, ◌++◌, append-nil}
use lib.ListN.{length, drop}
use lib.Seq.{drop-append_seam}
use lib.Dec.{leb, ltb}
use borrow.Author.Tests.{ltb-true, ne_eqb}
use Rattle.verdict.proofs.Orders.{and-true}
use Rattle.std.specs.Prelude.{Ok}
use Rattle.decimal.specs.Decimal.{is_digit, all_digits, value_after, is_number}
use Rattle.decimal.proofs.Digits.{digit_range}
use Rattle.plan_lines.specs.declared.Line.TheVariants as line
use Rattle.plan_lines.specs.Lines.{front, is_said, said, is_part, word, words_after, words_in, offset_most, is_offset, all_offsets, offsets_of, is_from, route_least, route_most, route_by, line_by, line_of, left_by}
use Rattle.plan_lines.proofs.Fronts.{no_front, front_yes, front_no}
use Rattle.plan_lines.proofs.WordsIn.{at_blank, word_some}
use Rattle.plan_lines.proofs.Says.{route-some, line_none, line_route}
use Rattle.plan_lines.proofs.Lent.{left_stored}

-- the words of a line, one space before each but the first
unfoldable pub after : List (List ℕ) → List ℕ
after [] = []
after (w ∷ ws) = 0x20 ∷ (w ++ after ws)

unfoldable pub spaced : List (List ℕ) → List ℕ
spaced [] = []
spaced (w ∷ ws) = w ++ after ws

-- ---- a word that is an offset: one digit or more

offset_digits : (w : List ℕ) → is_offset w ≡ true → (0 < length w) × (all_digits w ≡ true)
unfolding is_number
offset_digits w e =
    let a = and-true (ltb 0 (length w)) (all_digits w && leb (value_after 0 w) offset_most) e in
    (ltb-true 0 (length w) a.0, (and-true (all_digits w) (leb (value_after 0 w) offset_most) a.1).0)

digit_part : (c : ℕ) → is_digit c ≡ true → is_part c ≡ true
digit_part c e = let r = digit_range c e in rw (ne_eqb c 0x20 (λ q. omega arith), ne_eqb c 0x09 (λ q. omega arith), ne_eqb c 0x0D (λ q. omega arith))

digit_said : (c : ℕ) → is_digit c ≡ true → is_said c ≡ true
digit_said c e = let r = digit_range c e in rw (ne_eqb c 0x23 (λ q. omega arith))

front_digits : (t : ℕ → Bool) → ((c : ℕ) → is_digit c ≡ true → t c ≡ true) → (w s : List ℕ) → all_digits w ≡ true → front t (w ++ s) ≡ w ++ front t s
unfolding all_digits
front_digits t d [] s e = refl
front_digits t d (c ∷ w) s e =
    let a = and-true (is_digit c) (all_digits w) e in
    front_yes t c (w ++ s) (d c a.0) ∙ ap (λ (r : List ℕ). c ∷ r) (front_digits t d w s a.1)

not_from : (w : List ℕ) → all_digits w ≡ true → is_from w ≡ false
unfolding is_from all_digits
not_from [] e = refl
not_from (c ∷ w) e =
    let r = digit_range c (and-true (is_digit c) (all_digits w) e).0 in
    rw (ne_eqb c 0x66 (λ q. omega arith)) refl

-- ---- what is read of the line

each : (w : List ℕ) (ws : List (List ℕ)) → all_offsets (w ∷ ws) ≡ true → (is_offset w ≡ true) × (all_offsets ws ≡ true)
unfolding all_offsets
each w ws e = and-true (is_offset w) (all_offsets ws) e

-- no comment
after_said : (ws : List (List ℕ)) → all_offsets ws ≡ true → said (after ws) ≡ after ws
unfolding after
after_said [] e = no_front is_said
after_said (w ∷ ws) e =
    let o = each w ws e in
    front_yes is_said 0x20 (w ++ after ws) refl
    ∙ ap (λ (r : List ℕ). 0x20 ∷ r) (front_digits is_said digit_said w (after ws) (offset_digits w o.0).1 ∙ ap (λ (r : List ℕ). w ++ r) (after_said ws o.1))

spaced_said : (ws : List (List ℕ)) → all_offsets ws ≡ true → said (spaced ws) ≡ spaced ws
unfolding spaced
spaced_said [] e = no_front is_said
spaced_said (w ∷ ws) e =
    let o = each w ws e in
    front_digits is_said digit_said w (after ws) (offset_digits w o.0).1 ∙ ap (λ (r : List ℕ). w ++ r) (after_said ws o.1)

-- the words
after_blank : (ws : List (List ℕ)) → word (after ws) ≡ []
unfolding after
after_blank [] = no_front is_part
after_blank (w ∷ ws) = front_no is_part 0x20 (w ++ after ws) refl

after_word : (w : List ℕ) (ws : List (List ℕ)) → is_offset w ≡ true → words_in (w ++ after ws) ≡ w ∷ words_in (after ws)
after_word w ws o =
    let d = offset_digits w o in
    let f : word (w ++ after ws) ≡ w = front_digits is_part digit_part w (after ws) d.1 ∙ rw (after_blank ws) (append-nil w) in
    word_some (w ++ after ws) (λ e. omega (arith, ap length f)) ∙ rw (f, drop-append_seam w (after ws))

words_after_lem : (ws : List (List ℕ)) → all_offsets ws ≡ true → words_in (after ws) ≡ ws
unfolding after words_after
words_after_lem [] e = refl
words_after_lem (w ∷ ws) e =
    let o = each w ws e in
    at_blank 0x20 (w ++ after ws) refl ∙ after_word w ws o.0 ∙ ap (λ (l : List (List ℕ)). w ∷ l) (words_after_lem ws o.1)

words_spaced : (ws : List (List ℕ)) → all_offsets ws ≡ true → words_in (spaced ws) ≡ ws
unfolding spaced words_after
words_spaced [] e = refl
words_spaced (w ∷ ws) e =
    let o = each w ws e in
    after_word w ws o.0 ∙ ap (λ (l : List (List ℕ)). w ∷ l) (words_after_lem ws o.1)

-- the words do not begin with 'from'
line_offsets : (ws : List (List ℕ)) → all_offsets ws ≡ true → line_by ws ≡ route_by ws
line_offsets [] e = sym (line_none [] refl)
line_offsets (w ∷ ws) e = sym (line_route (w ∷ ws) w ws refl (not_from w (offset_digits w (each w ws e).0).1))

-- ---- the theorems

module _ (ws : List (List ℕ)) (all : all_offsets ws ≡ true) (least : route_least ≤ length ws) (most : length ws ≤ route_most) where
  words_read : words_in (said (spaced ws)) ≡ ws
  words_read = rw (spaced_said ws all) (words_spaced ws all)

  -- the line is a route of so many offsets
  pub route_read : line_of (spaced ws) ≡ Ok (line.Route (length ws))
  route_read = rw words_read (line_offsets ws all ∙ sym (route-some ws (length ws) (rw all refl) least most))

  -- and where there is room, these are the offsets put in front
  pub offsets_read : (out : List ℕ) → length ws ≤ length out → left_by (spaced ws) out ≡ offsets_of ws ++ drop (length ws) out
  offsets_read out room = rw (route_read, words_read) (sym (left_stored (length ws) (offsets_of ws) out room))
