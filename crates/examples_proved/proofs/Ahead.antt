-- What lies ahead in 01's yard Y, by computation: from each side of its turnout, with each lie; and which questions are in range there.
use Prim.Native.Nat.{ℕ}
use mathlib.Core.Path.{◌≡◌, refl}
use mathlib.Core.Bool.{true, false}
use mathlib.Core.List.{List, [], ◌∷◌}
use lib.ListN.{replicate}
use Rattle.octets.specs.Octets.{num_at}
use Rattle.verdict.specs.Walk.{walk, starts_from}
use Rattle.x2_layout.specs.Layout.{layout_of}
use Rattle.x2_layout.specs.Groups.{made_of, groups_from, next_start, group_end, group_ends, balise_bytes}
use Rattle.x2_layout.specs.Records.{kind_at, size_of}
use Rattle.x2_links.specs.Links.{is_target, may_name}
use Rattle.route_graph.specs.Objects.{view_at, object_at}
use Rattle.route_graph.specs.Ways.{onward_of}
use Rattle.route_walks.specs.Walks.{has}
use Rattle.ahead.specs.declared.Stop.TheVariants as stop
use Rattle.ahead.specs.Lies.{lie_of, all_lies, are_lies}
use Rattle.ahead.specs.Ways.{front_of, trail_of, leg_of, way_of}
use Rattle.ahead.specs.Seen.{ends, ahead_from}
use Rattle.ahead.specs.Asked.{in_range, seen_in}
use Rattle.examples_proved.specs.Judged.{y}

-- the same lie for every turnout
abbrev all : ℕ → List ℕ
all lie = replicate 256 lie

pub record Cases : Type 0 where
  -- entered at the front: by the lie, or no further
  pub normal : seen_in y (layout_of y) 44 0 (all 0) ≡ ends (80 ∷ 56 ∷ []) stop.Boundary
  pub reverse : seen_in y (layout_of y) 44 0 (all 1) ≡ ends (80 ∷ 68 ∷ []) stop.Boundary
  pub unknown : seen_in y (layout_of y) 44 0 (all 2) ≡ ends (80 ∷ []) stop.UnknownLie
  -- entered at a leg: against the lie, with it, and with the lie unknown
  pub normal_leg_against : seen_in y (layout_of y) 56 0 (all 1) ≡ ends (80 ∷ []) stop.AgainstLie
  pub reverse_leg_against : seen_in y (layout_of y) 68 0 (all 0) ≡ ends (80 ∷ []) stop.AgainstLie
  pub reverse_leg : seen_in y (layout_of y) 68 0 (all 1) ≡ ends (80 ∷ 44 ∷ []) stop.Boundary
  pub leg_unknown : seen_in y (layout_of y) 68 0 (all 2) ≡ ends (80 ∷ 44 ∷ []) stop.Boundary
  -- the lie of the object last passed is not asked
  pub own_lie : seen_in y (layout_of y) 80 2 (all 0) ≡ ends (68 ∷ []) stop.Boundary
  -- a question in range, a link that a boundary hasn't, an offset inside a record, and a lie outside the three
  pub in_range_lem : in_range y (layout_of y) 44 0 (all 0) ≡ true
  pub second_link : in_range y (layout_of y) 44 1 (all 0) ≡ false
  pub inside : in_range y (layout_of y) 45 0 (all 0) ≡ false
  pub lie_of_three : in_range y (layout_of y) 44 0 (all 3) ≡ false

pub cases : Cases
unfolding num_at walk starts_from layout_of made_of groups_from next_start group_end group_ends balise_bytes kind_at size_of is_target may_name view_at object_at onward_of has lie_of all_lies are_lies front_of trail_of leg_of
    way_of ahead_from in_range seen_in
cases = record {
  normal = refl;
  reverse = refl;
  unknown = refl;
  normal_leg_against = refl;
  reverse_leg_against = refl;
  reverse_leg = refl;
  leg_unknown = refl;
  own_lie = refl;
  in_range_lem = refl;
  second_link = refl;
  inside = refl;
  lie_of_three = refl;
}
