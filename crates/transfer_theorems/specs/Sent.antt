-- A file that is sent in pieces (02, ticket 6): its bytes are cut into parts, and there is a piece for each part, in order.
use Rattle.std.specs.Prelude.{ℕ, ◌+◌, ◌<◌, ◌≡◌, List, [], ◌∷◌, ◌++◌, length, take}
use Rattle.std.specs.Prelude.{Ok, Err}
use Rattle.transfer.specs.declared.Identity.{Identity}
use Rattle.transfer.specs.Calls.{identity_of}
use Rattle.transfer.specs.Pieces.{piece_of}
use Rattle.transfer_theorems.specs.Runs.{Call, opening, piece, finishing, World, answer, after, run, run_since}

-- the parts, one after the other
unfoldable pub together : List (List ℕ) → List ℕ
together [] = []
together (b ∷ bs) = b ++ together bs

-- none of them is empty
pub data EachSome : List (List ℕ) → Type 0 where
  none : EachSome []
  next : {b : List ℕ} {bs : List (List ℕ)} → 0 < length b → EachSome bs → EachSome (b ∷ bs)

-- a piece for each part, the first of which starts there
unfoldable pub sent : ℕ → Identity → ℕ → List (List ℕ) → List Call
sent n i start [] = []
sent n i start (b ∷ bs) = piece n (piece_of i start b) ∷ sent n i (start + length b) bs

-- every call is accepted
pub data EachAccepted : World → List Call → Type 0 where
  none : {w : World} → EachAccepted w []
  next : {w : World} {c : Call} {cs : List Call} → answer w c ≡ Ok tt → EachAccepted (after w c) cs → EachAccepted w (c ∷ cs)

-- the calls of a file that is sent whole
abbrev pub sending : ℕ → List ℕ → List (List ℕ) → List Call
sending n f parts = sent n (identity_of f) 0 parts

-- The file arrives: its identity is opened, every piece is taken, finishing accepts it, and its bytes stand in the room.
-- 02: Ticket6.4
pub record Arrives (w : World) (n : ℕ) (f : List ℕ) (parts : List (List ℕ)) : Type 0 where
  pub granted : answer w (opening n (identity_of f)) ≡ Ok tt
  pub each : EachAccepted (after w (opening n (identity_of f))) (sending n f parts)
  pub finished : answer (run_since w n (identity_of f) (sending n f parts)) (finishing n) ≡ Ok tt
  pub stands : take (length f) (run_since w n (identity_of f) (sending n f parts)).room ≡ f
