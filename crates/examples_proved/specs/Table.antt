-- The worked examples that 01 marks P, as one table under one statement: each case is what is asked and what the paper answers.
use Rattle.std.specs.Prelude.{ℕ, ◌-◌, ◌≡◌, refl, List, [], ◌∷◌, ◌++◌, ℤ, pos, neg_ℤ, length}
use Rattle.checksum.specs.Checksum.{checksum_of, checksum_from, byte_step, bit_steps, bit_step, step}
use Rattle.octets.specs.Octets.{num_at, signed, signed_at}
use Rattle.rounding.specs.Nearest.{nearest_of, exact_of, coordinate_of}
use Rattle.x2_layout.specs.Layout.{layout_of}
use Rattle.x2_layout.specs.Groups.{groups_from, next_start, group_end, group_ends}
use Rattle.x2_layout.specs.Records.{kind_at}
use Rattle.route_graph.specs.declared.Object.{Object}
use Rattle.route_graph.specs.Objects.{view_at, object_at}
use Rattle.route_graph.specs.Ways.{onward_of, legs_of, exits_of}
use Rattle.route_walks.specs.Legal.{last_object}
use Rattle.route_walks.specs.Walks.{has, each, walks, all_walks, is_route, routes_among, all_routes, words_of}
use Rattle.route_lister.specs.Answered.{tally_of}

pub data Case : Type 0 where
  -- the checksum of some bytes
  -- 01: Case.1, Case.2
  sum : List ℕ → ℕ → Case
  -- three bytes as an increment
  -- 01: Case.3, Case.4, Case.5
  increment : List ℕ → ℤ → Case
  -- two points, each a position and a coordinate, and a position between them
  -- 01: Case.6, Case.7, Case.8
  between : ℕ × ℤ → ℕ × ℤ → ℕ → ℤ → Case
  -- a file, a boundary and a limit: how many routes, how many walks, and the words
  -- 01: Case.9, Case.10, Case.11
  routes : List ℕ → ℕ → ℕ → ℕ → ℕ → List ℕ → Case

-- what stands at a place of a file
abbrev pub objects : List ℕ → ℕ → Object
objects f at = object_at f (layout_of f) at

-- what a case says
abbrev pub Says : Case → Type 0
Says (sum s n) = checksum_of s ≡ n
Says (increment s z) = signed_at 3 s 0 ≡ z
Says (between a b x z) = coordinate_of a.1 b.1 (x - a.0) (b.0 - a.0) ≡ z
Says (routes f start limit n m ws) =
    (tally_of (objects f) start limit ≡ record { walks = m; routes = n; words = length ws })
    × (words_of (all_routes (objects f) start limit) ≡ ws)

-- 01: Account.7
abbrev pub All : List Case → Type 0
All [] = Unit {0}
All (c ∷ cs) = Says c × All cs

-- a boundary of yard Y, with its type
-- 01: Yard.3, Yard.4
abbrev pub boundary : ℕ → List ℕ
boundary kind = kind ∷ 80 ∷ 0 ∷ 0 ∷ 0 ∷ 0x55 ∷ 0 ∷ 0 ∷ 0 ∷ 0 ∷ 0 ∷ 1 ∷ []

-- yard Y: the header (opening, name, start boundary, end boundaries, group offsets), the records, the checksum
-- 01: Yard.1, Yard.2, Yard.3, Yard.4, Yard.5
abbrev pub y : List ℕ
y =
    (2 ∷ 1 ∷ 0 ∷ 1 ∷ 0 ∷ 1 ∷ 0 ∷ [])
    ++ (0xB1 ∷ 0xB1 ∷ 0 ∷ 0 ∷ 0 ∷ 0 ∷ 0 ∷ 0 ∷ 0 ∷ 0 ∷ 0 ∷ 0 ∷ 0 ∷ 0 ∷ 0 ∷ 0 ∷ [])
    ++ (1 ∷ 1 ∷ 44 ∷ 0 ∷ [])
    ++ (2 ∷ 1 ∷ 56 ∷ 0 ∷ 1 ∷ 68 ∷ 0 ∷ [])
    ++ (80 ∷ 0 ∷ 0 ∷ 0 ∷ 0 ∷ 0 ∷ 0 ∷ 0 ∷ 0 ∷ 0 ∷ [])
    ++ boundary 0x01
    ++ boundary 0xFE
    ++ boundary 0xFE
    ++ (0x06 ∷ 1 ∷ 1 ∷ 0 ∷ 0 ∷ 0 ∷ 0 ∷ 0 ∷ 0 ∷ 0 ∷ 0 ∷ 0 ∷ 0 ∷ 0 ∷ 0 ∷ 44 ∷ 0 ∷ 56 ∷ 0 ∷ 68 ∷ 0 ∷ 1 ∷ 1 ∷ 1 ∷ [])
    ++ (0x5D ∷ 0xC8 ∷ 0x1A ∷ 0x1A ∷ [])

-- the table, in 01's order; for the last two cases 01 gives the counts alone, and the words follow
-- 01: Case.1, Case.2, Case.3, Case.4, Case.5, Case.6, Case.7, Case.8, Case.9, Case.10, Case.11, Account.7
abbrev pub table : List Case
table =
    sum (0xFF ∷ []) 0xFFFFFF00
    ∷ sum (0xFF ∷ 0xFF ∷ 0xFF ∷ 0xFF ∷ []) 0
    ∷ increment (0xFF ∷ 0xFF ∷ 0xFF ∷ []) (neg_ℤ (pos 1))
    ∷ increment (0x00 ∷ 0x00 ∷ 0x80 ∷ []) (neg_ℤ (pos 8388608))
    ∷ increment (0xFF ∷ 0xFF ∷ 0x7F ∷ []) (pos 8388607)
    ∷ between (0, pos 0) (3, pos 1) 1 (pos 0)
    ∷ between (0, pos 0) (3, pos 1) 2 (pos 1)
    ∷ between (0, pos 0) (2, pos 1) 1 (pos 1)
    ∷ between (0, pos 0) (2, neg_ℤ (pos 1)) 1 (pos 0)
    ∷ routes y 44 8 2 4 (3 ∷ 44 ∷ 80 ∷ 56 ∷ 3 ∷ 44 ∷ 80 ∷ 68 ∷ [])
    ∷ routes y 68 8 1 3 (3 ∷ 68 ∷ 80 ∷ 44 ∷ [])
    ∷ routes y 44 2 0 2 []
    ∷ []

-- THEOREM: every case of the table holds.
pub worked : All table
unfolding checksum_of checksum_from byte_step bit_steps bit_step step num_at signed signed_at coordinate_of exact_of nearest_of layout_of groups_from
    next_start group_end group_ends kind_at view_at object_at onward_of legs_of exits_of last_object has each walks all_walks is_route routes_among
    words_of tally_of
worked = (refl, (refl, (refl, (refl, (refl, (refl, (refl, (refl, (refl, ((refl, refl), ((refl, refl), ((refl, refl), tt))))))))))))
