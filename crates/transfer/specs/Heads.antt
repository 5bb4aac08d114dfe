-- The numbers of a piece as they are laid out to be sent.
use Rattle.std.specs.Prelude.{ℕ, ◌-◌, ◌++◌, length, replicate}
use Rattle.transfer.specs.declared.Identity.{Identity}
use Rattle.transfer.specs.declared.heads.Head.{Head}
use Rattle.transfer.specs.Pieces.{head_of}

-- seven numbers of five groups at most
abbrev pub head_most : ℕ
head_most = 35

-- they stand in front, and the bytes after them are 0
-- 02: Ticket6.2
unfoldable pub head_in : Identity → ℕ → ℕ → Head
head_in i start count = record {
  bytes = head_of i start count ++ replicate (head_most - length (head_of i start count)) 0;
  length = length (head_of i start count);
}
