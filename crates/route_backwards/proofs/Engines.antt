-- Routes read backwards (02, ticket 13), of what is seen by whoever calls a function that lists them: from the contracts alone, by either engine
-- each.
use Prim.Native.Nat.{ℕ, ◌*◌}
use native.Mathlib.Omega.{arith}
use mathlib.Core.Path.{◌≡◌, refl, sym, ap, ap₂, ◌∙◌}
use mathlib.Core.Bool.{Bool, true, false, cond}
use mathlib.Core.List.{List}
use lib.IntN.{pos}
use lib.ListN.{get_or}
use Rattle.octets.specs.Octets.{num_at}
use Rattle.verdict.specs.declared.Reason.TheVariants.{Room}
use Rattle.verdict.specs.Reasons.{number_of}
use Rattle.verdict.specs.Answers.{answer_values}
use Rattle.verdict.proofs.Questions.{some_number}
use Rattle.c_values.specs.Words.{number_part, value_size, value_words}
use Rattle.c_values.specs.Shown.{short, shown, leaves, words_left}
use Rattle.route_walks.specs.declared.Tally.{Tally}
use Rattle.route_walks.specs.Lent.{room_of}
use Rattle.std.specs.Prelude.{Ok, Err}
use Rattle.route_lister.specs.Answered.{RoutesAnswer, limit_of, tally_values, routes_answer}
use Rattle.route_question.specs.declared.Engine.{Engine}
use Rattle.route_question.specs.declared.Engine.TheVariants.{First, Second}
use Rattle.route_question.specs.Routes.{routes_asked, left_asked}
use Rattle.export_theorems.specs.TakenApart.{number_shown}
use Rattle.export_theorems.proofs.TakenApart.{routes_parts}
use Rattle.export_theorems.proofs.Fit as fit
use Rattle.route_backwards.specs.Backwards.{Seen, Backwards, NotRefused, seen_of}
use Rattle.route_backwards.specs.Calls.{AskedBy, seen_asking, CalledBy, seen_calling}
use Rattle.route_backwards.proofs.Backwards.{lists_back}

-- what is seen is what is seen of a question that is not refused
record Known (s : Seen) : Type 0 where
  pub question : NotRefused
  pub same : seen_of question ≡ s

-- so two that are seen read backwards
known_back : (s z : Seen) → Known s → Known z → Backwards s z
known_back s z k l = rw (← k.same, ← l.same) (lists_back k.question l.question)

-- ---- the question

asked_known : (f : List ℕ) (start limit budget : ℕ) (lent left : List ℕ) (t : Tally) → Ok t ≡ routes_asked f start limit budget (room_of lent) → left ≡ left_asked f start limit budget lent
    → Known (record { file = f; start = start; limit = limit_of limit; words = t.words; memory = left })
asked_known f start limit budget lent left t a l = record {
  question = record { file = f; start = start; limit = limit; budget = budget; lent = lent; tally = t; listed = sym a };
  same = ap (λ (m : List ℕ). record { file = f; start = start; limit = limit_of limit; words = t.words; memory = m }) (sym l);
}

asked : (e : Engine) (q : AskedBy e) → Known (seen_asking e q)
asked First q = asked_known _ _ _ _ _ _ q.tally (sym q.not_refused ∙ q.call.allowed.0) q.call.allowed.1
asked Second q = asked_known _ _ _ _ _ _ q.tally (sym q.not_refused ∙ q.call.allowed.0) q.call.allowed.1

-- THEOREM (02, ticket 13): the question asked twice, by either engine each
pub questions_back : (e e' : Engine) (p : AskedBy e) (q : AskedBy e') → Backwards (seen_asking e p) (seen_asking e' q)
questions_back e e' p q = known_back (seen_asking e p) (seen_asking e' q) (asked e p) (asked e' q)

-- ---- as C calls it

-- a call whose number is 0 lists, says how many words, and leaves them
record Told (a : RoutesAnswer) (counts words listed : List ℕ) : Type 0 where
  pub tally : Tally
  pub listed_is : a ≡ Ok tally
  pub left_is : words_left counts words listed ≡ listed

told : (a : RoutesAnswer) (counts words listed : List ℕ) → number_shown (routes_answer a) counts ≡ 0 → Told a counts words listed
unfolding words_left
told (Err u) counts words listed e = absurd (some_number u.reason e)
told (Ok t) counts words listed e = record { tally = t; listed_is = refl; left_is = by_test (short (value_words (tally_values t)) counts) refl e }
  where
    by_test : (b : Bool) → short (value_words (tally_values t)) counts ≡ b → cond b (number_of Room) 0 ≡ 0 → words_left counts words listed ≡ listed
    by_test true s z = absurd (omega arith)
    by_test false s z = rw s refl

called_known :
    (f : List ℕ) (start limit budget : ℕ) (counts counts' lent left : List ℕ) (x : ℕ)
    → x ≡ shown (routes_answer (routes_asked f start limit budget (room_of lent))) counts
    → counts' ≡ leaves (routes_answer (routes_asked f start limit budget (room_of lent))) counts
    → left ≡ words_left counts lent (left_asked f start limit budget lent)
    → number_part x ≡ 0
    → Known (record { file = f; start = start; limit = limit_of limit; words = num_at value_size counts' (value_size * 1); memory = left })
called_known f start limit budget counts counts' lent left x returned counted written z = record {
  question = record { file = f; start = start; limit = limit; budget = budget; lent = lent; tally = t.tally; listed = t.listed_is };
  same = ap₂ (λ (n : ℕ) (m : List ℕ). record { file = f; start = start; limit = limit_of limit; words = n; memory = m }) (sym words) (sym (written ∙ t.left_is));
}
  where
    none : number_part (shown (routes_answer (routes_asked f start limit budget (room_of lent))) counts) ≡ 0
    none = sym (ap number_part returned) ∙ z

    t : Told (routes_asked f start limit budget (room_of lent)) counts lent (left_asked f start limit budget lent)
    t = told _ counts lent _ (sym (routes_parts counts f start limit budget (room_of lent)).number_is ∙ none)

    back : pos (num_at value_size (leaves (routes_answer (routes_asked f start limit budget (room_of lent))) counts) (value_size * 1)) ≡ pos t.tally.words
    back = fit.routes_back counts f start limit budget (room_of lent) none 1 (omega arith) ∙ ap (λ (a : RoutesAnswer). get_or (answer_values (routes_answer a)) 1 (pos 0)) t.listed_is

    words : num_at value_size counts' (value_size * 1) ≡ t.tally.words
    words = ap (λ (l : List ℕ). num_at value_size l (value_size * 1)) counted ∙ (let b = back in cc)

called : (e : Engine) (q : CalledBy e) → Known (seen_calling e q)
called First q = called_known _ _ _ _ _ _ _ _ _ q.call.allowed.0 q.call.allowed.1.0 q.call.allowed.1.1 q.not_refused
called Second q = called_known _ _ _ _ _ _ _ _ _ q.call.allowed.0 q.call.allowed.1.0 q.call.allowed.1.1 q.not_refused

-- THEOREM (02, ticket 13): two calls from C, by either engine each
pub calls_back : (e e' : Engine) (p : CalledBy e) (q : CalledBy e') → Backwards (seen_calling e p) (seen_calling e' q)
calls_back e e' p q = known_back (seen_calling e p) (seen_calling e' q) (called e p) (called e' q)
