-- The facts of a record that no table says: a balise's message, its rank, and that it is in sequence. What is so of each of them.
use Prim.Native.Nat.{ℕ, ◌+◌, ◌-◌}
use mathlib.Core.List.{List, [], ◌∷◌}
use lib.Dec.{ltb}
use Rattle.verdict.specs.declared.Mark.{Mark}
use Rattle.verdict.specs.Facts.{Claim}
use Rattle.refusals.proofs.Sections.{Each, each_if}
use Rattle.x2_records.specs.declared.Kind.{Kind}
use Rattle.x2_records.specs.declared.Kind.TheVariants as kind
use Rattle.x2_records.specs.Places as place
use Rattle.x2_kinds.specs.KindFields.{message_end, last_byte, size_byte_of, message_fields, message_of}
use Rattle.x2_layout.specs.declared.Layout.{Layout}
use Rattle.x2_fields.specs.Agreement.{rank_in_count, in_sequence, kind_agrees}

-- ---- the message and the rank, which only a balise has

module _ (f : List ℕ) (P : Claim → Mark → Type 0) (at : ℕ) where
  pub message_each : Each P (last_byte f at (at + place.balise_message) (size_byte_of f at - place.balise_size) message_end ∷ []) → (k : Kind) → Each P (message_of f k at)
  unfolding message_fields
  message_each so kind.StartBoundary = tt
  message_each so kind.EndBoundary = tt
  message_each so kind.Turnout = tt
  message_each so kind.Balise = each_if P (ltb place.balise_size (size_byte_of f at)) _ [] so tt
  message_each so kind.Signal = tt
  message_each so kind.Joint = tt
  message_each so kind.Siding = tt

  pub rank_each : (l : Layout) (b : ℕ) → Each P (rank_in_count f at ∷ in_sequence f l b at ∷ []) → (k : Kind) → Each P (kind_agrees f l b k at)
  unfolding kind_agrees
  rank_each l b so kind.StartBoundary = tt
  rank_each l b so kind.EndBoundary = tt
  rank_each l b so kind.Turnout = tt
  rank_each l b so kind.Balise = so
  rank_each l b so kind.Signal = tt
  rank_each l b so kind.Joint = tt
  rank_each l b so kind.Siding = tt
