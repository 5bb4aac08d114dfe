-- The laws of facts, each proved once: a claim's test says whether it holds; accepted is 'every fact holds'; a refusal is the first
-- fact that fails, and its mark is the true reason; a list is judged part by part.
use Prim.Native.Nat.{ℕ, ◌≤◌}
use mathlib.Core.Path.{◌≡◌, refl, ap, ap₂, sym, subst, ◌∙◌}
use mathlib.Core.Bool.{Bool, true, false, cond, not, ◌&&◌, ◌||◌, true≢false, and_assoc}
use mathlib.Core.List.Memᴰ
use mathlib.Core.List.{List, [], ◌∷◌, ◌++◌, flat_map, Memᴰ}
use mathlib.Core.Logic.{◌⊎◌, inl, inr, ⊎_elim, ◌↔◌}
use lib.Dec.{eqb, leb}
use native.Mathlib.Nat.{not-le_of_lt}
use native.Mathlib.Omega.{arith}
use borrow.Author.Tests.{eqb-true, eqb-false, leb-true, leb-false}
use Rattle.verdict.specs.declared.Mark.{Mark}
use Rattle.verdict.specs.Verdicts.{Judged}
use Rattle.std.specs.Prelude.{Ok, Err, is_ok}
use Rattle.verdict.specs.Facts.{Claim, always, same, at_most, both, either, denied, some, every, any_of, all_of, test, Holds, Fact, fact, first_fault, AllHold, all_tests, alone, Marked, TrueReason}

-- ---- one fact

pub never : (m : Mark) → ◌≡◌ {A = Judged} (Err m) (Ok tt) → ⊥
never m e = let z : ◌≡◌ {A = ℕ} 0 1 = cc in omega arith

-- ---- a claim's test says whether it holds

abbrev pub Agrees : Bool → Type 0 → Type 0
Agrees true A = A
Agrees false A = A → ⊥

same_agrees : (a b : ℕ) (t : Bool) → eqb a b ≡ t → Agrees t (a ≡ b)
same_agrees a b true e = eqb-true a b e
same_agrees a b false e = eqb-false a b e

most_agrees : (a b : ℕ) (t : Bool) → leb a b ≡ t → Agrees t (a ≤ b)
most_agrees a b true e = leb-true a b e
most_agrees a b false e = λ h. not-le_of_lt (leb-false a b e) h

both_agrees : (A B : Type 0) (s t : Bool) → Agrees s A → Agrees t B → Agrees (s && t) (A × B)
both_agrees A B true true a b = (a, b)
both_agrees A B true false a b = λ h. b h.1
both_agrees A B false t a b = λ h. a h.0

either_agrees : (A B : Type 0) (s t : Bool) → Agrees s A → Agrees t B → Agrees (s || t) (A ⊎ B)
either_agrees A B true t a b = inl a
either_agrees A B false true a b = inr b
either_agrees A B false false a b = ⊎_elim a b

denied_agrees : (A : Type 0) (t : Bool) → Agrees t A → Agrees (not t) (A → ⊥)
denied_agrees A true a = λ h. h a
denied_agrees A false a = a

some_agrees : (c : ℕ → Claim) → ((x : ℕ) → Agrees (test (c x)) (Holds (c x))) → (xs : List ℕ) → Agrees (any_of (λ x. test (c x)) xs) ((x : ℕ) × Memᴰ x xs × Holds (c x))
some_agrees c a [] = λ h. Memᴰ.not-nil h.1
some_agrees c a (y ∷ ys) = go (test (c y)) (any_of (λ x. test (c x)) ys) (a y) (some_agrees c a ys)
  where
    go : (s t : Bool) → Agrees s (Holds (c y)) → Agrees t ((x : ℕ) × Memᴰ x ys × Holds (c x)) → Agrees (s || t) ((x : ℕ) × Memᴰ x (y ∷ ys) × Holds (c x))
    go true t h r = (y, Memᴰ.head refl, h)
    go false true h r = (r.0, Memᴰ.tail r.1, r.2)
    go false false h r = λ w. ⊎_elim (λ (e : w.0 ≡ y). h (subst (λ (x : ℕ). Holds (c x)) e w.2)) (λ (m : Memᴰ w.0 ys). r (w.0, m, w.2)) (Memᴰ.cases_cons w.1)

every_agrees : (c : ℕ → Claim) → ((x : ℕ) → Agrees (test (c x)) (Holds (c x))) → (xs : List ℕ) → Agrees (all_of (λ x. test (c x)) xs) ((x : ℕ) → Memᴰ x xs → Holds (c x))
every_agrees c a [] = λ x m. absurd (Memᴰ.not-nil m)
every_agrees c a (y ∷ ys) = go (test (c y)) (all_of (λ x. test (c x)) ys) (a y) (every_agrees c a ys)
  where
    go : (s t : Bool) → Agrees s (Holds (c y)) → Agrees t ((x : ℕ) → Memᴰ x ys → Holds (c x)) → Agrees (s && t) ((x : ℕ) → Memᴰ x (y ∷ ys) → Holds (c x))
    go true true h r = λ x m. ⊎_elim (λ (e : x ≡ y). subst (λ (z : ℕ). Holds (c z)) (sym e) h) (λ (m' : Memᴰ x ys). r x m') (Memᴰ.cases_cons m)
    go true false h r = λ w. r (λ x m. w x (Memᴰ.tail m))
    go false t h r = λ w. h (w y (Memᴰ.head refl))

pub agrees : (c : Claim) → Agrees (test c) (Holds c)
agrees always = tt
agrees (same a b) = same_agrees a b (eqb a b) refl
agrees (at_most a b) = most_agrees a b (leb a b) refl
agrees (both c d) = both_agrees (Holds c) (Holds d) (test c) (test d) (agrees c) (agrees d)
agrees (either c d) = either_agrees (Holds c) (Holds d) (test c) (test d) (agrees c) (agrees d)
agrees (denied c) = denied_agrees (Holds c) (test c) (agrees c)
agrees (some xs c) = some_agrees c (λ x. agrees (c x)) xs
agrees (every xs c) = every_agrees c (λ x. agrees (c x)) xs

pub tested : (c : Claim) → (test c ≡ true) ↔ Holds c
tested c = by_test (test c) (agrees c)
  where
    by_test : (t : Bool) → Agrees t (Holds c) → (t ≡ true) ↔ Holds c
    by_test true a = (λ e. a, λ h. refl)
    by_test false a = (λ e. absurd (true≢false (sym e)), λ h. absurd (a h))

-- ---- one fact alone, as a list

pub one_fact : (c : Claim) (m : Mark) → alone (test c) m ≡ first_fault (fact c m ∷ [])
unfolding first_fault
one_fact c m = refl

-- ---- a list part by part: a refusal is answered at once, and after an acceptance the next part counts

pub refused_first : (m : Mark) (a b : List Fact) → first_fault a ≡ Err m → first_fault (a ++ b) ≡ Err m
unfolding first_fault
refused_first m [] b e = absurd (never m (sym e))
refused_first m (fact c n ∷ fs) b e = go (test c) e (refused_first m fs b)
  where
    go : (t : Bool) → cond t (first_fault fs) (Err n) ≡ Err m → (first_fault fs ≡ Err m → first_fault (fs ++ b) ≡ Err m) → cond t (first_fault (fs ++ b)) (Err n) ≡ Err m
    go true e ih = ih e
    go false e ih = e

pub accepted_first : (a b : List Fact) → first_fault a ≡ Ok tt → first_fault (a ++ b) ≡ first_fault b
unfolding first_fault
accepted_first [] b e = refl
accepted_first (fact c n ∷ fs) b e = go (test c) e (accepted_first fs b)
  where
    go : (t : Bool) → cond t (first_fault fs) (Err n) ≡ Ok tt → (first_fault fs ≡ Ok tt → first_fault (fs ++ b) ≡ first_fault b) → cond t (first_fault (fs ++ b)) (Err n) ≡ first_fault b
    go true e ih = ih e
    go false e ih = absurd (never n e)

-- a check that refuses, before others
pub stops : (v : Judged) (m : Mark) (a b : List Fact) → v ≡ first_fault a → v ≡ Err m → Err m ≡ first_fault (a ++ b)
stops v m a b p e = sym (refused_first m a b (sym p ∙ e))

-- a check that accepts, before others
pub goes_on : (v r : Judged) (a b : List Fact) → v ≡ first_fault a → v ≡ Ok tt → r ≡ first_fault b → r ≡ first_fault (a ++ b)
goes_on v r a b p e q = q ∙ sym (accepted_first a b (sym p ∙ e))

-- ---- tests alone, without marks: where all pass, none refuses; where one fails, what follows does not count

pub tests_hold : (fs : List Fact) → all_tests fs ≡ true → first_fault fs ≡ Ok tt
unfolding first_fault
tests_hold [] h = refl
tests_hold (fact c m ∷ fs) h = go (test c) h (tests_hold fs)
  where
    go : (t : Bool) → (t && all_tests fs) ≡ true → (all_tests fs ≡ true → first_fault fs ≡ Ok tt) → cond t (first_fault fs) (Err m) ≡ Ok tt
    go true e ih = ih e
    go false e ih = absurd (true≢false (sym e))

pub tests_fail : (a b : List Fact) → all_tests a ≡ false → first_fault (a ++ b) ≡ first_fault a
unfolding first_fault
tests_fail [] b h = absurd (true≢false h)
tests_fail (fact c m ∷ fs) b h = go (test c) h (tests_fail fs b)
  where
    go : (t : Bool) → (t && all_tests fs) ≡ false → (all_tests fs ≡ false → first_fault (fs ++ b) ≡ first_fault fs) → cond t (first_fault (fs ++ b)) (Err m) ≡ cond t (first_fault fs) (Err m)
    go true e ih = ih e
    go false e ih = refl

pub tests_append : (a b : List Fact) → all_tests (a ++ b) ≡ (all_tests a && all_tests b)
tests_append [] b = refl
tests_append (fact c m ∷ fs) b = ap (λ (t : Bool). test c && t) (tests_append fs b) ∙ sym (and_assoc (test c) (all_tests fs) (all_tests b))

pub tests_then : (x y : Bool) (a b : List Fact) → x ≡ all_tests a → y ≡ all_tests b → (x && y) ≡ all_tests (a ++ b)
tests_then x y a b p q = ap₂ ◌&&◌ p q ∙ sym (tests_append a b)

-- the same of a test that a check makes first
pub tests_passed : (t : Bool) (fs : List Fact) → t ≡ all_tests fs → t ≡ true → Ok tt ≡ first_fault fs
tests_passed t fs e h = sym (tests_hold fs (sym e ∙ h))

-- the facts are accepted exactly where all tests pass
accepted_tests : (fs : List Fact) → is_ok (first_fault fs) ≡ all_tests fs
unfolding first_fault
accepted_tests [] = refl
accepted_tests (fact c m ∷ fs) = go (test c) (accepted_tests fs)
  where
    go : (t : Bool) → is_ok (first_fault fs) ≡ all_tests fs → is_ok (cond t (first_fault fs) (Err m)) ≡ (t && all_tests fs)
    go true ih = ih
    go false ih = refl

pub tests_judged : (v : Judged) (r : Bool) (fs : List Fact) → v ≡ first_fault fs → r ≡ is_ok v → r ≡ all_tests fs
tests_judged v r fs p q = q ∙ ap is_ok p ∙ accepted_tests fs

-- ---- accepted is 'every fact holds'

pub accepted_iff : (fs : List Fact) → (first_fault fs ≡ Ok tt) ↔ AllHold fs
unfolding first_fault AllHold
accepted_iff [] = (λ e. tt, λ h. refl)
accepted_iff (fact c m ∷ fs) = go (test c) (agrees c) (accepted_iff fs)
  where
    go : (t : Bool) → Agrees t (Holds c) → (first_fault fs ≡ Ok tt) ↔ AllHold fs → (cond t (first_fault fs) (Err m) ≡ Ok tt) ↔ (Holds c × AllHold fs)
    go true a ih = (λ e. (a, ih.0 e), λ h. ih.1 h.1)
    go false a ih = (λ e. absurd (never m e), λ h. absurd (a h.0))

pub all_append : (a b : List Fact) → AllHold (a ++ b) ↔ (AllHold a × AllHold b)
unfolding AllHold
all_append [] b = (λ h. (tt, h), λ h. h.1)
all_append (fact c m ∷ fs) b = let ih = all_append fs b in (λ h. ((h.0, (ih.0 h.1).0), (ih.0 h.1).1), λ h. (h.0.0, ih.1 (h.0.1, h.1)))

pub all_each : (g : ℕ → List Fact) (xs : List ℕ) → AllHold (flat_map g xs) ↔ ((x : ℕ) → Memᴰ x xs → AllHold (g x))
unfolding flat_map AllHold
all_each g [] = (λ h x m. absurd (Memᴰ.not-nil m), λ h. tt)
all_each g (y ∷ ys) =
    let ih = all_each g ys in
    let cut = all_append (g y) (flat_map g ys) in (
      λ h x m. ⊎_elim (λ (e : x ≡ y). subst (λ (z : ℕ). AllHold (g z)) (sym e) (cut.0 h).0) (λ (m' : Memᴰ x ys). ih.0 (cut.0 h).1 x m') (Memᴰ.cases_cons m),
      λ h. cut.1 (h y (Memᴰ.head refl), ih.1 (λ x m. h x (Memᴰ.tail m))),
    )

-- ---- a refusal is the first fact that fails, and its mark is the true reason

pub record FirstFails (fs : List Fact) (m : Mark) : Type 0 where
  pub before : List Fact
  pub claim : Claim
  pub after : List Fact
  pub there : fs ≡ before ++ (fact claim m ∷ after)
  pub held : AllHold before
  pub fails : Holds claim → ⊥

pub first_fails : (fs : List Fact) (m : Mark) → first_fault fs ≡ Err m → FirstFails fs m
unfolding first_fault AllHold
first_fails [] m e = absurd (never m (sym e))
first_fails (fact c n ∷ fs) m e = go (test c) (agrees c) e (first_fails fs m)
  where
    go : (t : Bool) → Agrees t (Holds c) → cond t (first_fault fs) (Err n) ≡ Err m → (first_fault fs ≡ Err m → FirstFails fs m) → FirstFails (fact c n ∷ fs) m
    go true a e ih =
        let r = ih e in
        record { before = fact c n ∷ r.before; claim = r.claim; after = r.after; there = ap (λ (l : List Fact). fact c n ∷ l) r.there; held = (a, r.held); fails = r.fails }
    go false a e ih =
        let x : n ≡ m = cc in
        record { before = []; claim = c; after = fs; there = ap (λ (i : Mark). fact c i ∷ fs) x; held = tt; fails = a }

pub marked_append : (says : Mark → Claim) (a b : List Fact) → Marked says a → Marked says b → Marked says (a ++ b)
marked_append says [] b h g = g
marked_append says (fact c m ∷ fs) b h g = (h.0, marked_append says fs b h.1 g)

pub marked_each : (says : Mark → Claim) (g : ℕ → List Fact) (xs : List ℕ) → ((x : ℕ) → Marked says (g x)) → Marked says (flat_map g xs)
unfolding flat_map
marked_each says g [] h = tt
marked_each says g (x ∷ xs) h = marked_append says (g x) (flat_map g xs) (h x) (marked_each says g xs h)

marked_there : (says : Mark → Claim) (a b : List Fact) (c : Claim) (m : Mark) → Marked says (a ++ (fact c m ∷ b)) → c ≡ says m
marked_there says [] b c m h = h.0
marked_there says (fact d n ∷ fs) b c m h = marked_there says fs b c m h.1

pub true_reason : (says : Mark → Claim) (fs : List Fact) (m : Mark) → Marked says fs → first_fault fs ≡ Err m → TrueReason says fs m
true_reason says fs m k e =
    let r = first_fails fs m e in
    let is : r.claim ≡ says m = marked_there says r.before r.after r.claim m (subst (Marked says) r.there k) in
    record {
      before = r.before;
      after = r.after;
      there = r.there ∙ ap (λ (d : Claim). r.before ++ (fact d m ∷ r.after)) is;
      held = r.held;
      fails = subst (λ (d : Claim). Holds d → ⊥) is r.fails;
    }
