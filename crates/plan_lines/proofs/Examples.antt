-- Lines of a plan (docs/PLAN.md), computed.
use Prim.Native.Nat.{ℕ, zero, suc}
use mathlib.Core.Path.{◌≡◌, refl}
use mathlib.Core.List.{List, [], ◌∷◌, map}
use Rattle.std.specs.Prelude.{Result, Ok, Err}
use Rattle.decimal.specs.Decimal.{all_digits, value_after, is_number, number_in}
use Rattle.plan_lines.specs.declared.Line.{Line}
use Rattle.plan_lines.specs.declared.Line.TheVariants as line
use Rattle.plan_lines.specs.declared.Slip.{Slip}
use Rattle.plan_lines.specs.declared.Slip.TheVariants as slip
use Rattle.plan_lines.specs.Lines.{front, words_after, all_offsets, offsets_of, is_from, from_by, route_of, route_by, line_by, line_of, leaves, left_by}

-- ---- what a line says

record Example : Type 0 where
  text : List ℕ
  says : Result Line Slip

abbrev examples : List Example
examples =
    -- '44 80 56'
    record { text = 0x34 ∷ 0x34 ∷ 0x20 ∷ 0x38 ∷ 0x30 ∷ 0x20 ∷ 0x35 ∷ 0x36 ∷ []; says = Ok (line.Route 3) }
    -- nothing
    ∷ record { text = []; says = Ok line.Empty }
    -- '# x'
    ∷ record { text = 0x23 ∷ 0x20 ∷ 0x78 ∷ []; says = Ok line.Empty }
    -- 'from 44'
    ∷ record { text = 0x66 ∷ 0x72 ∷ 0x6F ∷ 0x6D ∷ 0x20 ∷ 0x34 ∷ 0x34 ∷ []; says = Ok (line.From 44) }
    -- 'from 44' between tabs, with a carriage return
    ∷ record { text = 0x09 ∷ 0x66 ∷ 0x72 ∷ 0x6F ∷ 0x6D ∷ 0x09 ∷ 0x34 ∷ 0x34 ∷ 0x0D ∷ []; says = Ok (line.From 44) }
    -- '44 80#56'
    ∷ record { text = 0x34 ∷ 0x34 ∷ 0x20 ∷ 0x38 ∷ 0x30 ∷ 0x23 ∷ 0x35 ∷ 0x36 ∷ []; says = Ok (line.Route 2) }
    -- ' 7  007' and a carriage return
    ∷ record { text = 0x20 ∷ 0x37 ∷ 0x20 ∷ 0x20 ∷ 0x30 ∷ 0x30 ∷ 0x37 ∷ 0x0D ∷ []; says = Ok (line.Route 2) }
    -- '0 65535'
    ∷ record { text = 0x30 ∷ 0x20 ∷ 0x36 ∷ 0x35 ∷ 0x35 ∷ 0x33 ∷ 0x35 ∷ []; says = Ok (line.Route 2) }
    -- 'from'
    ∷ record { text = 0x66 ∷ 0x72 ∷ 0x6F ∷ 0x6D ∷ []; says = Err slip.From }
    -- 'from 44 80'
    ∷ record { text = 0x66 ∷ 0x72 ∷ 0x6F ∷ 0x6D ∷ 0x20 ∷ 0x34 ∷ 0x34 ∷ 0x20 ∷ 0x38 ∷ 0x30 ∷ []; says = Err slip.From }
    -- 'from 8o'
    ∷ record { text = 0x66 ∷ 0x72 ∷ 0x6F ∷ 0x6D ∷ 0x20 ∷ 0x38 ∷ 0x6F ∷ []; says = Err slip.From }
    -- '44 8o'
    ∷ record { text = 0x34 ∷ 0x34 ∷ 0x20 ∷ 0x38 ∷ 0x6F ∷ []; says = Err slip.Word }
    -- '44 65536'
    ∷ record { text = 0x34 ∷ 0x34 ∷ 0x20 ∷ 0x36 ∷ 0x35 ∷ 0x35 ∷ 0x33 ∷ 0x36 ∷ []; says = Err slip.Word }
    -- '44 from'
    ∷ record { text = 0x34 ∷ 0x34 ∷ 0x20 ∷ 0x66 ∷ 0x72 ∷ 0x6F ∷ 0x6D ∷ []; says = Err slip.Word }
    -- '44'
    ∷ record { text = 0x34 ∷ 0x34 ∷ []; says = Err slip.Few }
    ∷ []

examples_read : map (λ (e : Example). line_of e.text) examples ≡ map (λ (e : Example). e.says) examples
unfolding front words_after all_offsets is_from from_by route_of route_by line_by is_number number_in all_digits value_after
examples_read = refl

-- so many offsets
abbrev zeros : ℕ → List ℕ
zeros zero = []
zeros (suc n) = 0x30 ∷ 0x20 ∷ zeros n

most_read : line_of (zeros 512) ≡ Ok (line.Route 512)
unfolding front words_after all_offsets is_from from_by route_of route_by line_by is_number all_digits value_after
most_read = refl

many_read : line_of (zeros 513) ≡ Err slip.Many
unfolding front words_after all_offsets is_from from_by route_of route_by line_by is_number all_digits value_after
many_read = refl

-- ---- what is left of the memory lent: '44 80 56' where there is room for four offsets, and for two

abbrev route : List ℕ
route = 0x34 ∷ 0x34 ∷ 0x20 ∷ 0x38 ∷ 0x30 ∷ 0x20 ∷ 0x35 ∷ 0x36 ∷ []

route_left : left_by route (9 ∷ 9 ∷ 9 ∷ 9 ∷ []) ≡ 44 ∷ 80 ∷ 56 ∷ 9 ∷ []
unfolding front words_after all_offsets offsets_of is_from route_of route_by line_by leaves is_number number_in all_digits value_after
route_left = refl

no_room : left_by route (9 ∷ 9 ∷ []) ≡ 9 ∷ 9 ∷ []
unfolding front words_after all_offsets offsets_of is_from route_of route_by line_by leaves is_number number_in all_digits value_after
no_room = refl
