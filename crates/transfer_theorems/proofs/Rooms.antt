-- The room: what an accepted piece leaves in it.
use Prim.Native.Nat.{ℕ, ◌+◌, ◌-◌, ◌≤◌, ◌<◌}
use mathlib.Core.Path.{◌≡◌, refl, sym, ap, ap₂, ◌∙◌}
use mathlib.Core.List.{List, [], ◌∷◌, ◌++◌, append_assoc}
use lib.ListN.{length, take, drop, length-take, take-append-drop}
use lib.Seq.{paste, take-take, drop-append-le, take-length, take-paste, drop-paste, length-paste}
use native.Mathlib.Omega.{arith}

-- so much of the room lent as the bytes need: the same as in the whole room
pub paste_lent : (room b : List ℕ) (at n : ℕ) → at + length b ≤ length (take n room)
    → paste (take n room) at b (length b) ++ drop n room ≡ paste room at b (length b)
paste_lent room b at n h =
    let m : at ≤ n = omega (arith, length-take n room) in
    append_assoc (take at (take n room) ++ take (length b) b) (drop (at + length b) (take n room)) (drop n room)
    ∙ ap₂ (λ (x y : List ℕ). x ++ take (length b) b ++ y) (take-take at n room m)
    (sym (drop-append-le (at + length b) (take n room) (drop n room) h) ∙ ap (drop (at + length b)) (take-append-drop n room))

pub take_laid : (room b : List ℕ) (at : ℕ) → at ≤ length room → take (at + length b) (paste room at b (length b)) ≡ take at room ++ b
take_laid room b at h = take-paste room at b (length b) h (omega arith) ∙ ap (λ (x : List ℕ). take at room ++ x) (take-length b)

pub drop_laid : (room b : List ℕ) (at : ℕ) → at ≤ length room → drop (at + length b) (paste room at b (length b)) ≡ drop (at + length b) room
drop_laid room b at h = drop-paste room at b (length b) h (omega arith)

pub length_laid : (room b : List ℕ) (at : ℕ) → at + length b ≤ length room → length (paste room at b (length b)) ≡ length room
length_laid room b at h = length-paste room at b (length b) h (omega arith)
