-- What each question on an X.2 file asks of its own, after the file's own fault (01: 'A question ..'), of the bytes alone: an offset that
-- names nothing is 13, with place 0.
use Rattle.std.specs.Prelude.{ℕ, ◌≡◌}
use mathlib.Core.List.{List, [], ◌∷◌, Memᴰ}
use Rattle.verdict.specs.Order.{Check, check}
use Rattle.x2_layout.specs.Layout.{layout_of}
use Rattle.x2_layout.specs.Records.{starts}

-- the header: none
abbrev pub header_checks : List Check
header_checks = []

-- the record at x: a record starts there
-- 01: No.13, Ask.2
abbrev pub record_checks : List ℕ → ℕ → List Check
record_checks f x = check 13 (Memᴰ x (starts f (layout_of f))) (λ p. p ≡ 0) ∷ []
