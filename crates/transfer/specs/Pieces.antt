-- What a piece is (02, ticket 6): the numbers of its identity, its start and its byte count, each in groups of seven bits, and then its bytes.
use Rattle.std.specs.Prelude.{ℕ, ◌<◌, ◌≡◌, List, ◌++◌, length}
use Rattle.seven_bits.specs.Numbers.{number_limit, written}
use Rattle.transfer.specs.declared.Identity.{Identity}

-- the five numbers of an identity
-- 02: Ticket6.2
unfoldable pub identity_bytes : Identity → List ℕ
identity_bytes i = written i.station ++ (written i.kind ++ (written i.version ++ (written i.total ++ written i.trailer)))

-- all seven
-- 02: Ticket6.2
unfoldable pub head_of : Identity → ℕ → ℕ → List ℕ
head_of i start count = identity_bytes i ++ (written start ++ written count)

-- 02: Ticket6.2
unfoldable pub piece_of : Identity → ℕ → List ℕ → List ℕ
piece_of i start bytes = head_of i start (length bytes) ++ bytes

-- each number of an identity fits 32 bits
-- 02: Ticket6.7
pub record Fits (i : Identity) : Type 0 where
  pub station : i.station < number_limit
  pub kind : i.kind < number_limit
  pub version : i.version < number_limit
  pub total : i.total < number_limit
  pub trailer : i.trailer < number_limit

-- s is a piece of the file of an identity: it has these bytes, one at least, which start there
-- 02: Ticket6.2
pub record IsPiece (i : Identity) (start : ℕ) (bytes s : List ℕ) : Type 0 where
  pub laid : s ≡ piece_of i start bytes
  pub some : 0 < length bytes
  pub fits : Fits i
  pub starts : start < number_limit
  pub counts : length bytes < number_limit
