-- Numbers in groups of seven bits, low group first, the top bit set on all groups but the last, shortest form only. Each number fits 32 bits
-- (02, ticket 6). Each definition is total: a number that is cut off, not in shortest form or too large is bad.
use Rattle.std.specs.Prelude.{ℕ, zero, suc, ◌+◌, ◌-◌, ◌*◌, ◌/◌, ◌%◌, ◌^◌, ◌<◌, ◌≡◌, Bool, true, false, cond, ◌&&◌, List, [], ◌∷◌, ◌++◌, length, get_or, drop, leb, ltb}
use Rattle.std.proofs.Math.Seq.{paste}
use Rattle.seven_bits.specs.declared.Number.{Number}

-- how many values a group has
abbrev pub group_values : ℕ
group_values = 2 ^ 7

-- the first number that does not fit 32 bits
-- 02: Ticket6.7
abbrev pub number_limit : ℕ
number_limit = 2 ^ 32

-- how many groups a number has at most
abbrev pub groups_most : ℕ
groups_most = 5

-- the first number that the groups after the first may not make: with any first group the whole would not fit 32 bits
abbrev pub rest_limit : ℕ
rest_limit = number_limit / group_values

-- ---- reading

-- a bad number at a place: 0, and the place itself
abbrev pub bad : ℕ → Number
bad at = record { good = false; value = 0; next = at }

-- a number, and the place behind its groups
abbrev pub found : ℕ → ℕ → Number
found v next = record { good = true; value = v; next = next }

-- the groups after a first one may follow it: they make a number, not 0, for that would be no shortest form, and not so large that the
-- whole does not fit 32 bits
abbrev pub may_follow : Number → Bool
may_follow r = r.good && (ltb 0 r.value && ltb r.value rest_limit)

-- the number that a first group and the groups after it make
-- 02: Ticket6.7
unfoldable pub joined : ℕ → ℕ → Number → Number
joined at low r = cond (may_follow r) (found (low + group_values * r.value) r.next) (bad at)

-- the number at a place, of at most n groups
unfoldable pub groups_at : ℕ → List ℕ → ℕ → Number
groups_at zero s at = bad at
groups_at (suc n) s at =
    cond (ltb at (length s))
    (cond (ltb (get_or s at 0) group_values)
    (found (get_or s at 0) (at + 1))
    (joined at (get_or s at 0 - group_values) (groups_at n s (at + 1))))
    (bad at)

-- the number at a place
-- 02: Ticket6.3
unfoldable pub number_at : List ℕ → ℕ → Number
number_at s at = groups_at groups_most s at

-- ---- writing

-- the groups of a number, the lowest n at most
unfoldable pub groups_of : ℕ → ℕ → List ℕ
groups_of zero v = []
groups_of (suc n) v = cond (ltb v group_values) (v ∷ []) ((group_values + v % group_values) ∷ groups_of n (v / group_values))

-- what is written for a number
-- 02: Ticket6.3
unfoldable pub written : ℕ → List ℕ
written v = groups_of groups_most v

-- what a number leaves that is written into a list from a place on: nothing else changes, and nothing at all where there is no room for
-- as many groups as a number may have
unfoldable pub put_in : List ℕ → ℕ → ℕ → List ℕ
put_in out at v = cond (leb (at + groups_most) (length out)) (paste out at (written v) (length (written v))) out

-- the place behind it
unfoldable pub put_next : List ℕ → ℕ → ℕ → ℕ
put_next out at v = cond (leb (at + groups_most) (length out)) (at + length (written v)) at

-- ---- the form

-- the bytes are the number in groups: low group first, the top bit set on all groups but the last, and shortest form only: the groups after a
-- first one do not make 0
-- 02: Ticket6.3
pub data InGroups : List ℕ → ℕ → Type 0 where
  last : (low : ℕ) → low < group_values → InGroups (low ∷ []) low
  more : (low rest : ℕ) (bs : List ℕ) → low < group_values → 0 < rest → InGroups bs rest
      → InGroups ((group_values + low) ∷ bs) (low + group_values * rest)

-- the number v stands at a place, and ends before `next`: its bytes are those that are written for it, and it fits 32 bits
-- 02: Ticket6.3
pub record Form (s : List ℕ) (at v next : ℕ) : Type 0 where
  pub stands : drop at s ≡ written v ++ drop next s
  pub ends : next ≡ at + length (written v)
  pub fits : v < number_limit
