-- The open choices in their two arrays: they are told by the entries below their number, so that a choice put above them leaves them as they were.
use Prim.Native.Nat.{ℕ, zero, suc, ◌+◌, ◌≤◌, ◌<◌}
use native.Mathlib.Numerals.{add-one}
use native.Mathlib.Omega.{arith}
use mathlib.Core.Path.{◌≡◌, refl, ap, ◌∙◌}
use mathlib.Core.List.{List, [], ◌∷◌}
use lib.ListN.{set, length-set}
use lib.Seq.{get_or-set_same, get_or-set_other}
use Rattle.route_walks.specs.Range.{limit_most}
use Rattle.route_lister.specs.declared.choices.Choice.{Choice}
use Rattle.route_lister.specs.inner.Choices.{open_of, choices_of, Sized, Put}

module _ (objects links : List ℕ) (k n link : ℕ) where
  -- a store at k leaves the first m choices
  below_kept : (m : ℕ) → m ≤ k → open_of (set objects k n) (set links k link) m ≡ open_of objects links m
  unfolding open_of
  below_kept zero h = refl
  below_kept (suc m) h = rw (get_or-set_other objects k m n 0 (λ e. omega arith), get_or-set_other links k m link 0 (λ e. omega arith), below_kept m (omega arith)) refl

  pub one_put : k < limit_most → Sized objects links → Put n (link ∷ []) k (k + 1) objects links (set objects k n) (set links k link)
  unfolding open_of choices_of
  one_put h s = record {
    sized = record { objects_are = length-set objects k n ∙ s.objects_are; links_are = length-set links k link ∙ s.links_are };
    number = refl;
    choices = rw (add-one k, get_or-set_same objects k n 0 (omega (arith, s.objects_are)), get_or-set_same links k link 0 (omega (arith, s.links_are)), below_kept k (omega arith)) refl;
  }

-- one more above others
pub put_more : (n x : ℕ) (xs : List ℕ) (k m r : ℕ) (objects links objects₁ links₁ objects₂ links₂ : List ℕ) → Put n xs k m objects links objects₁ links₁ → Put n (x ∷ []) m r objects₁ links₁ objects₂ links₂
    → Put n (x ∷ xs) k r objects links objects₂ links₂
unfolding choices_of
put_more n x xs k m r objects links objects₁ links₁ objects₂ links₂ p q = record {
  sized = q.sized;
  number = omega (arith, p.number, q.number);
  choices = q.choices ∙ ap (λ (cs : List Choice). record { objects = n; link = x } ∷ cs) p.choices;
}

pub none_put : (n k : ℕ) (objects links : List ℕ) → Sized objects links → Put n [] k k objects links objects links
unfolding choices_of
none_put n k objects links s = record { sized = s; number = omega arith; choices = refl }
