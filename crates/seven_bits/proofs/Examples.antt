-- Numbers of the ticket's form, worked.
use mathlib.Core.Path.{◌≡◌, refl}
use mathlib.Core.List.{[], ◌∷◌}
use Rattle.seven_bits.specs.Numbers.{bad, found, joined, groups_at, number_at, groups_of, written, put_in, put_next}

-- ---- reading

one_group : number_at (0x7f ∷ []) 0 ≡ found 127 1
unfolding number_at groups_at joined
one_group = refl

two_groups : number_at (0x80 ∷ 0x01 ∷ []) 0 ≡ found 128 2
unfolding number_at groups_at joined
two_groups = refl

-- behind other bytes
further_on : number_at (0xa5 ∷ 0xac ∷ 0x02 ∷ 0xa5 ∷ []) 1 ≡ found 300 3
unfolding number_at groups_at joined
further_on = refl

most : number_at (0xff ∷ 0xff ∷ 0xff ∷ 0xff ∷ 0x0f ∷ []) 0 ≡ found 4294967295 5
unfolding number_at groups_at joined
most = refl

-- 2 ^ 32 does not fit
over : number_at (0x80 ∷ 0x80 ∷ 0x80 ∷ 0x80 ∷ 0x10 ∷ []) 0 ≡ bad 0
unfolding number_at groups_at joined
over = refl

-- 1 in two groups, which is no shortest form
long : number_at (0x81 ∷ 0x00 ∷ []) 0 ≡ bad 0
unfolding number_at groups_at joined
long = refl

cut : number_at (0x81 ∷ []) 0 ≡ bad 0
unfolding number_at groups_at joined
cut = refl

six_groups : number_at (0x81 ∷ 0x80 ∷ 0x80 ∷ 0x80 ∷ 0x80 ∷ 0x01 ∷ []) 0 ≡ bad 0
unfolding number_at groups_at joined
six_groups = refl

-- ---- writing

writes_one : written 127 ≡ 0x7f ∷ []
unfolding written groups_of
writes_one = refl

writes_two : written 128 ≡ 0x80 ∷ 0x01 ∷ []
unfolding written groups_of
writes_two = refl

writes_more : written 300 ≡ 0xac ∷ 0x02 ∷ []
unfolding written groups_of
writes_more = refl

writes_most : written 4294967295 ≡ 0xff ∷ 0xff ∷ 0xff ∷ 0xff ∷ 0x0f ∷ []
unfolding written groups_of
writes_most = refl

-- into a list, with room for five groups and with room for four
put_in_lem : put_in (9 ∷ 9 ∷ 9 ∷ 9 ∷ 9 ∷ 9 ∷ []) 1 300 ≡ 9 ∷ 0xac ∷ 0x02 ∷ 9 ∷ 9 ∷ 9 ∷ []
unfolding put_in written groups_of
put_in_lem = refl

put_behind : put_next (9 ∷ 9 ∷ 9 ∷ 9 ∷ 9 ∷ 9 ∷ []) 1 300 ≡ 3
unfolding put_next written groups_of
put_behind = refl

no_room : put_in (9 ∷ 9 ∷ 9 ∷ 9 ∷ 9 ∷ 9 ∷ []) 2 300 ≡ 9 ∷ 9 ∷ 9 ∷ 9 ∷ 9 ∷ 9 ∷ []
unfolding put_in written groups_of
no_room = refl

no_room_stays : put_next (9 ∷ 9 ∷ 9 ∷ 9 ∷ 9 ∷ 9 ∷ []) 2 300 ≡ 2
unfolding put_next written groups_of
no_room_stays = refl
