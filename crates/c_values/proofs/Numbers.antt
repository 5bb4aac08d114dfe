-- The number that is returned has its three parts in it, each of which comes back; every number of the paper is one byte. A value as four
-- bytes; the two values of a height.
use Prim.Native.Nat.{ℕ, suc, ◌+◌, ◌-◌, ◌*◌, ◌%◌, ◌^◌, ◌<◌}
use native.Mathlib.Omega.{arith}
use mathlib.Core.Path.{◌≡◌, refl, ap, ◌∙◌}
use mathlib.Core.List.{List, [], ◌∷◌}
use lib.ListN.{get_or}
use lib.IntN.{ℤ}
use lib.Signed.{mag}
use Rattle.verdict.specs.declared.Reason.{Reason}
use Rattle.verdict.specs.declared.Reason.TheVariants as reason
use Rattle.verdict.specs.declared.File.{File}
use Rattle.verdict.specs.declared.File.TheVariants as file
use Rattle.verdict.specs.Reasons.{number_of, file_of}
use Rattle.x1_records.specs.Tracks.{height_values}
use Rattle.std.specs.Prelude.{Option, Some, None}
use Rattle.octets.proofs.Signs.{read, kept}
use Rattle.c_values.specs.Words.{over_byte, over_word, answer_word, number_part, file_part, place_part, word_of, value_words}

-- ---- the parts come back

module _ (number file place : ℕ) (n : number < over_byte) (f : file < over_byte) (p : place < over_word) where
  whole : answer_word number file place ≡ number + 256 * file + 65536 * place
  unfolding answer_word
  whole = omega arith

  pub number_back : number_part (answer_word number file place) ≡ number
  number_back = rw whole (omega arith)

  pub file_back : file_part (answer_word number file place) ≡ file
  file_back = rw whole (omega arith)

  pub place-back : place_part (answer_word number file place) ≡ place
  place-back = rw whole (omega arith)

-- every number of the paper is one byte
pub number_fits : (r : Reason) → number_of r < over_byte
number_fits reason.Length = omega arith
number_fits reason.Checksum = omega arith
number_fits reason.FileType = omega arith
number_fits reason.Structure = omega arith
number_fits reason.Layout = omega arith
number_fits reason.Field = omega arith
number_fits reason.Agreement = omega arith
number_fits reason.Target = omega arith
number_fits reason.Return = omega arith
number_fits reason.Station = omega arith
number_fits reason.Track = omega arith
number_fits reason.Position = omega arith
number_fits reason.Question = omega arith
number_fits reason.Steps = omega arith
number_fits reason.Room = omega arith
number_fits reason.Kinds = omega arith
number_fits reason.Identity = omega arith
number_fits reason.Order = omega arith
number_fits reason.Piece = omega arith

pub file_fits : (d : File) → file_of d < over_byte
file_fits file.First = omega arith
file_fits file.Second = omega arith

-- ---- a value

-- a signed field as the machine reads it back
pub value_read : (z : ℤ) → mag z < 2 ^ 63 → (r : ℕ) → r ≡ word_of (read z) → r ≡ word_of z
value_read z h r e = e ∙ ap word_of (kept z h)

-- ---- a height

-- its two values one after the other
pub height_two : (h : Option ℤ) (w : List ℕ) → w ≡ value_words (height_values h) → (get_or w 0 0 ∷ get_or w 1 0 ∷ []) ≡ value_words (height_values h)
height_two (Some z) w e = rw e refl
height_two None w e = rw e refl
