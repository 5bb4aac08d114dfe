-- The ways out of a question with an output, once for every kind of answer.
use Prim.Native.Nat.{ℕ, ◌≤◌, ◌<◌}
use mathlib.Core.Path.{◌≡◌, refl, sym, ap, subst, ◌∙◌}
use mathlib.Core.Bool.{Bool, true, false}
use mathlib.Core.List.{List}
use lib.IntN.{ℤ}
use lib.ListN.{length}
use borrow.Author.Tests.{lt-ltb, le-ltb}
use Rattle.verdict.specs.declared.Reason.TheVariants.{Room}
use Rattle.verdict.specs.Reasons.{number_of}
use Rattle.verdict.specs.Verdicts.{Verdict}
use Rattle.std.specs.Prelude.{Ok, Err}
use Rattle.verdict.specs.declared.Fault.{Fault}
use Rattle.verdict.specs.Answers.{Answer, answered, refused, after_verdict}
use Rattle.x2_verdict.specs.Facts.{verdict_of}
use Rattle.route_walks.specs.declared.Tally.{Tally}
use Rattle.std.specs.Prelude.{Ok, Err}
use Rattle.route_lister.specs.Answered.{RoutesAnswer, refused_for, judged, answer_at, routes_answer}
use Rattle.route_question.specs.Routes.{routes_asked}
use Rattle.transfer.specs.declared.Identity.{Identity}
use Rattle.transfer.specs.declared.State.{State}
use Rattle.transfer.specs.declared.Step.{Step}
use Rattle.transfer.specs.Calls.{open_verdict, opened, open_step, piece_verdict, moved, piece_step, piece_room}
use Rattle.c_values.specs.Words.{answer_word, value_words}
use Rattle.c_values.specs.Shown.{words_shown, words_leave, shown, leaves, counts_size, words_left}
use Rattle.c_values.specs.Load.{state_in, state_answer, open_shown, open_leaves, piece_shown, piece_leaves}
use Rattle.c_values.proofs.Stored.{after_call, piece_shown_lem}

-- ---- a question: an answer of any kind, which `shape` makes the one shape. `asked` is the answer that is due, `got` the one that a function gave,
-- and `way` the case that it was found to be

module _ {A : Type 0} (shape : A → Answer) {asked got way : A} (p : got ≡ asked) (e : got ≡ way) where
  same : shape way ≡ shape asked
  same = ap shape (sym e ∙ p)

  pub values_shown :
      (out : List ℕ) {values : List ℤ} → shape way ≡ answered values → {words : List ℕ} → words ≡ value_words values
      → {r : ℕ} {out' : List ℕ} → (r ≡ words_shown words out) × (out' ≡ words_leave words out)
      → (r ≡ shown (shape asked) out) × (out' ≡ leaves (shape asked) out)
  values_shown out {values} v w s =
      let a : answered values ≡ shape asked = sym v ∙ same in (
        s.0 ∙ ap (λ (ws : List ℕ). words_shown ws out) w ∙ ap (λ (x : Answer). shown x out) a,
        s.1 ∙ ap (λ (ws : List ℕ). words_leave ws out) w ∙ ap (λ (x : Answer). leaves x out) a,
      )

  pub fault_shown :
      (out : List ℕ) {n : ℕ} {t : Fault} → shape way ≡ refused n t → {r : ℕ} → r ≡ answer_word (number_of t.reason) 0 t.place
      → (r ≡ shown (shape asked) out) × (out ≡ leaves (shape asked) out)
  fault_shown out {n} {t} v s =
      let a : refused n t ≡ shape asked = sym v ∙ same in
      (s ∙ ap (λ (x : Answer). shown x out) a, ap (λ (x : Answer). leaves x out) a)

-- the same where another function shows the answer that was given
pub given_shown :
    {A : Type 0} (shape : A → Answer) {asked got : A} → got ≡ asked → (out : List ℕ) {r : ℕ} {out' : List ℕ}
    → (r ≡ shown (shape got) out) × (out' ≡ leaves (shape got) out) → (r ≡ shown (shape asked) out) × (out' ≡ leaves (shape asked) out)
given_shown {A} shape p out {r} {out'} s = subst (λ (x : A). (r ≡ shown (shape x) out) × (out' ≡ leaves (shape x) out)) p s

-- ---- routes

module _ (counts : List ℕ) (h : length counts < counts_size) where
  short_room : (t : Tally) → shown (routes_answer (refused_for Room)) counts ≡ shown (routes_answer (Ok t)) counts
  unfolding words_shown
  short_room t = sym (rw (lt-ltb _ _ h) refl)

  -- the room has no say
  rooms : (inside steps a b : Bool) (t : Tally) → shown (routes_answer (judged inside steps a t)) counts ≡ shown (routes_answer (judged inside steps b t)) counts
  unfolding judged
  rooms false steps a b t = refl
  rooms true true a b t = refl
  rooms true false true true t = refl
  rooms true false true false t = short_room t
  rooms true false false true t = sym (short_room t)
  rooms true false false false t = refl

  after_same : (v : Verdict) (a b : RoutesAnswer) → shown (routes_answer a) counts ≡ shown (routes_answer b) counts → shown (routes_answer (after_verdict Err v a)) counts ≡ shown (routes_answer (after_verdict Err v b)) counts
  after_same (Err t) a b e = refl
  after_same (Ok tt) a b e = e

  pub scrap_shown : (f : List ℕ) (start limit budget a b : ℕ) → shown (routes_answer (routes_asked f start limit budget a)) counts ≡ shown (routes_answer (routes_asked f start limit budget b)) counts
  unfolding routes_asked answer_at
  scrap_shown f start limit budget a b = after_same (verdict_of f) _ _ (rooms _ _ _ _ _)

  kept_anyhow : (a : RoutesAnswer) → leaves (routes_answer a) counts ≡ counts
  unfolding words_leave
  kept_anyhow (Ok t) = rw (lt-ltb _ _ h) refl
  kept_anyhow (Err t) = refl

  pub scrap_leaves : (a b : RoutesAnswer) → leaves (routes_answer a) counts ≡ leaves (routes_answer b) counts
  scrap_leaves a b = kept_anyhow a ∙ sym (kept_anyhow b)

  pub scrap_words : (words listed : List ℕ) → words ≡ words_left counts words listed
  unfolding words_left
  scrap_words words listed = sym (rw (lt-ltb _ _ h) refl)

pub listed_words : (counts words listed : List ℕ) → counts_size ≤ length counts → listed ≡ words_left counts words listed
unfolding words_left
listed_words counts words listed h = sym (rw (le-ltb _ _ h) refl)

-- ---- the loader: `p` is the step that a call gave, and the state after it is what is put in the bytes

abbrev step_answer : Step → Answer
step_answer p = state_answer p.verdict p.state

pub opening_shown :
    (b : List ℕ) (t : State) (i : Identity) (n : ℕ) {p : Step} → p ≡ open_step t i n → {r : ℕ} {b' : List ℕ}
    → (r ≡ shown (step_answer p) b) × (b' ≡ leaves (step_answer p) b) → (r ≡ open_shown b i n) × (b' ≡ open_leaves b i n)
unfolding open_step
opening_shown b t i n e = given_shown (λ (a : Answer). a) (ap step_answer e ∙ after_call (open_verdict i n) (opened i) t) b

module _ (b s room : List ℕ) (t : State) (is : t ≡ state_in b) where
  step_is : (p : Step) → p ≡ piece_step t s (length room) → step_answer p ≡ state_answer (piece_verdict (state_in b) s (length room)) (moved (state_in b) s)
  unfolding piece_step
  step_is p e =
      ap step_answer e
      ∙ after_call (piece_verdict t s (length room)) (moved t s) t
      ∙ ap (λ (u : State). state_answer (piece_verdict u s (length room)) (moved u s)) is

  pub taking_shown :
      {p : Step} → p ≡ piece_step t s (length room) → {r : ℕ} {b' : List ℕ} → (r ≡ shown (step_answer p) b) × (b' ≡ leaves (step_answer p) b)
      → (r ≡ piece_shown b s (length room)) × (b' ≡ piece_leaves b s (length room))
  taking_shown {p} e h = let a = given_shown (λ (x : Answer). x) (step_is p e) b h in (a.0 ∙ piece_shown_lem b s (length room), a.1)

  pub taking_room : {room' : List ℕ} → room' ≡ piece_room t s room → room' ≡ piece_room (state_in b) s room
  taking_room e = e ∙ ap (λ (u : State). piece_room u s room) is

-- ---- two clauses, by their names

pub named_value_out_after : {T0 T1 : Type 0} → T0 × T1 → record { value : T0; out_after : T1 }
named_value_out_after p = record { value = p.0; out_after = p.1 }

pub named_value_state_after : {T0 T1 : Type 0} → T0 × T1 → record { value : T0; state_after : T1 }
named_value_state_after p = record { value = p.0; state_after = p.1 }
