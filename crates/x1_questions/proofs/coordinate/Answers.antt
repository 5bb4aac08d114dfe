-- `x1_questions::coordinate` meets its contract. An accepted file obeys, and so does the track that is found in it.
use Prim.Native.Nat.{ℕ, ◌<◌}
use mathlib.Core.Path.{◌≡◌, sym, subst, ◌∙◌}
use mathlib.Core.List.{List}
use native.Mathlib.Omega.{arith}
use Rattle.x1_records.proofs.Whole.{size_positive}
use Rattle.x1_layout.specs.Layout.{structure_of, size_of}
use Rattle.x1_lookup.proofs.Lookup.{verdict_obeys}
use Rattle.verdict.proofs.Questions.{own_fault}
use Rattle.std.specs.Prelude.{Err}
use Rattle.x1_questions.specs.Questions.{coordinate_asked}
use Rattle.x1_questions.specs.inner.Requires.{TrackObeys}
use Rattle.x1_questions.proofs.Stretches.{found_obeys}
use Rattle.x1_questions.proofs.Questions.{no_track, along_track}
use Rattle.x1_questions.proofs.coordinate.Goals as goal

-- the size as it is read
sized : (f : List ℕ) (e size : ℕ) → size ≡ size_of f → TrackObeys f (size_of f) e → (0 < size) × TrackObeys f size e
sized f e size z o = let p = size_positive (structure_of f) in (omega arith, subst (λ (k : ℕ). TrackObeys f k e) (sym z) o)

pub returns-in_default : goal.returns-in_default
unfolding coordinate_asked
returns-in_default c = own_fault Err _ _ _ c.verdict_of-v.ensures c.unwrap_err.ensures _

pub returns-in_default-found : goal.returns-in_default-found
returns-in_default-found c = no_track c.args.f.now c.args.number _ c.verdict_of-v.ensures c.in-Ok.is c.find_track-found.ensures c.in_default-found.is c.refusal.ensures

pub coordinate_at-requires : goal.coordinate_at-requires
coordinate_at-requires c = let a = c.args in
    let o = (verdict_obeys a.f.now).0 (sym c.verdict_of-v.ensures ∙ c.in-Ok.is) in
    sized _ _ _ c.size_of.ensures (found_obeys a.f.now o a.number _ (sym c.find_track-found.ensures ∙ c.in-Some.is))

pub returns : goal.returns
returns c = along_track c.args.f.now c.args.number _ c.verdict_of-v.ensures c.in-Ok.is c.find_track-found.ensures c.in-Some.is c.size_of.ensures c.coordinate_at.ensures
