-- What the rows come to, in the numbers of the page: the tie of the tables to today's readings.
use Prim.Native.Nat.{ℕ, ◌+◌, ◌/◌, ◌%◌}
use mathlib.Core.Path.{◌≡◌, refl}
use mathlib.Core.List.{List, [], ◌∷◌}
use Rattle.octets.specs.Octets.{num_at}
use Rattle.x2_records.specs.declared.Kind.TheVariants as kind
use Rattle.x2_records.specs.Tables.{direction_of, turnout_at, facing_bits, duty_bits}
use Rattle.x2_records.specs.Records.{link_places}

module _ (f : List ℕ) (at : ℕ) where
  turnout_is : turnout_at f at ≡ record {
    number = num_at 1 f (at + 1);
    direction = direction_of (num_at 1 f (at + 2));
    tip_position = num_at 4 f (at + 3);
    normal_position = num_at 4 f (at + 7);
    reverse_position = num_at 4 f (at + 11);
    front = num_at 2 f (at + 15);
    normal = num_at 2 f (at + 17);
    reverse = num_at 2 f (at + 19);
    front_track = num_at 1 f (at + 21);
    normal_track = num_at 1 f (at + 22);
    reverse_track = num_at 1 f (at + 23);
  }
  unfolding turnout_at
  turnout_is = refl

  links_are : link_places kind.Turnout at ≡ (at + 15) ∷ (at + 17) ∷ (at + 19) ∷ []
  links_are = refl

facing_is : (b : ℕ) → facing_bits b ≡ b / 64 % 4
facing_is b = refl

duty_is : (b : ℕ) → duty_bits b ≡ b / 1 % 16
duty_is b = refl
