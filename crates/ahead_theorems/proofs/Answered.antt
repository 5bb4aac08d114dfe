-- THEOREMS: what is answered, for every input: the pair's own fault, or what the question's own checks say; and what an answer is that is not refused.
use Prim.Native.Nat.{ℕ, ◌+◌, ◌*◌, ◌≤◌}
use native.Mathlib.Omega.{arith}
use mathlib.Core.Path.{◌≡◌, refl, sym, ap, subst, ◌∙◌}
use mathlib.Core.Bool.{Bool, true, false, true≢false}
use mathlib.Core.Logic.{◌↔◌}
use mathlib.Core.List.{List, [], ◌∷◌, ◌++◌}
use lib.ListN.{length, drop, length-append, length-drop}
use lib.Seq.{drop_at}
use lib.Dec.{ltb}
use borrow.Author.Tests.{ltb-true, ltb-false}
use Rattle.verdict.specs.declared.File.{File}
use Rattle.verdict.specs.declared.File.TheVariants.{First, Second}
use Rattle.verdict.specs.declared.Reason.TheVariants as reason
use Rattle.std.specs.Prelude.{Ok, Err}
use Rattle.verdict.specs.Verdicts.{PairVerdict}
use Rattle.verdict.specs.Reasons.{shown_of, file_of, pair_number_in, pair_place_in, pair_file_in}
use Rattle.verdict.specs.Answers.{refused, answer_number, answer_place, refusal}
use Rattle.verdict.specs.Order.{Check, check, Answered}
use Rattle.verdict.proofs.Questions.{AnswerIs, all_passed, passed, failed, some_number}
use Rattle.x2_layout.specs.Layout.{layout_of}
use Rattle.x2_obeys.specs.Links.{Target}
use Rattle.x2_verdict.specs.Facts as application
use Rattle.x2_verdict.proofs.Obeys.{accepted_obeys}
use Rattle.pair.specs.Pair.{pair_of}
use Rattle.pair_theorems.specs.Obeys.{PairObeys}
use Rattle.pair_theorems.proofs.Obeys.{pair_accepted}
use Rattle.pair_theorems.proofs.Whole.{pair_is}
use Rattle.route_graph.specs.Objects.{object_at, links_of}
use Rattle.route_walks.specs.Legal.{last_object}
use Rattle.route_walks.specs.Lent.{word_size, octets_of}
use Rattle.route_walks.proofs.Lent.{octets_length, read_back}
use Rattle.route_theorems.proofs.Listed.{linked}
use Rattle.ahead.specs.declared.Sight.{Sight}
use Rattle.ahead.specs.declared.Stop.{Stop}
use Rattle.ahead.specs.Results.{AheadAnswer}
use Rattle.ahead.specs.declared.AheadFault.TheVariants.{OfPair, OfQuestion}
use Rattle.ahead.specs.Ahead.{seen_bytes}
use Rattle.ahead.specs.Seen.{Seen, sight_of}
use Rattle.ahead.specs.Asked.{in_range, seen_in, judged, answer_in, leaves, after_pair, ahead_asked, left_asked, ahead_answer, ahead_file}
use Rattle.ahead.proofs.Answering.{list_few}
use Rattle.ahead_theorems.specs.Asked as asked
use Rattle.ahead_theorems.specs.Asked.{InRange, ahead_checks, AheadAnswered, objects_of, link_of, LiesAhead, Listed}
use Rattle.ahead_theorems.specs.Stops.{EndsFor}
use Rattle.ahead_theorems.proofs.Exactly.{ahead_there, ahead_one}
use Rattle.ahead_theorems.proofs.Ends.{ahead_stops}
use Rattle.ahead_theorems.proofs.Range.{lies_iff, in_links, range_iff}

-- ---- the question's own checks

module _ (g : List ℕ) (e : application.verdict_of g ≡ Ok tt) (offset link : ℕ) (lies : List ℕ) (room : ℕ) where
  abbrev last : List Check
  last = check 15 (128 ≤ room) (λ p. p ≡ 0) ∷ []

  own : (r s : Bool) → in_range g (layout_of g) offset link lies ≡ r → ltb room seen_bytes ≡ s
      → AnswerIs (ahead_answer (judged r s (seen_in g (layout_of g) offset link lies))) (ahead_checks g offset link lies room)
  unfolding judged
  own false s p q =
      failed (InRange g offset link lies) last reason.Question 2 (λ h. true≢false (sym ((range_iff g e offset link lies).1 h) ∙ p))
  own true true p q =
      let short = ltb-true room seen_bytes q in
      passed (InRange g offset link lies) last 13 (refused 2 (refusal reason.Room)) ((range_iff g e offset link lies).0 p) (λ z. omega arith)
      (failed (128 ≤ room) [] reason.Room 2 (λ h. omega arith))
  own true false p q =
      let enough = ltb-false room seen_bytes q in
      let seen = ahead_answer (Ok (sight_of (seen_in g (layout_of g) offset link lies))) in
      passed (InRange g offset link lies) last 13 seen ((range_iff g e offset link lies).0 p) (λ z. omega arith)
      (passed (128 ≤ room) [] 15 seen (omega arith) (λ z. omega arith) (all_passed _))

  own_is : AnswerIs (ahead_answer (answer_in g (layout_of g) offset link lies room)) (ahead_checks g offset link lies room)
  unfolding answer_in
  own_is = own (in_range g (layout_of g) offset link lies) (ltb room seen_bytes) refl refl

-- ---- the whole answer

-- the answer a shows the file d, the number n and the place p
abbrev pub Shows : AheadAnswer → ℕ → ℕ → ℕ → Type 0
Shows a d n p = (ahead_file a ≡ d) × ((answer_number (ahead_answer a) ≡ n) × (answer_place (ahead_answer a) ≡ p))

-- the question's own refusals, and an answer, are of file 0
no_file : (r s : Bool) (x : Seen) → ahead_file (judged r s x) ≡ 0
unfolding judged
no_file false s x = refl
no_file true true x = refl
no_file true false x = refl

some_file : (d : File) → ¬ (file_of d ≡ 0)
some_file First e = omega arith
some_file Second e = omega arith

-- of a pair that obeys the X.2 is accepted
pub second_accepted : (f g : List ℕ) → PairObeys f g → application.verdict_of g ≡ Ok tt
second_accepted f g o = ap shown_of ((accepted_obeys g).1 o.second)

module _ (f g : List ℕ) (offset link : ℕ) (lies : List ℕ) (room : ℕ) where
  by_pair : (v : PairVerdict) → pair_of f g ≡ v → (d n p : ℕ)
      → Shows (after_pair v (answer_in g (layout_of g) offset link lies room)) d n p ↔ AheadAnswered f g offset link lies room d n p
  unfolding answer_in
  by_pair (Ok tt) e d n p =
      let o = (pair_accepted f g).0 e in
      let file = no_file (in_range g (layout_of g) offset link lies) (ltb room seen_bytes) (seen_in g (layout_of g) offset link lies) in
      let is = (own_is g (second_accepted f g o) offset link lies room).exactly n p in
      ((λ h. asked.of_question o (sym h.0 ∙ file) (is.0 h.1)), back is file)
    where
      back : (((answer_number (ahead_answer (answer_in g (layout_of g) offset link lies room)) ≡ n) × (answer_place (ahead_answer (answer_in g (layout_of g) offset link lies room)) ≡ p)) ↔ Answered (ahead_checks g offset link lies room) n p)
          → ahead_file (answer_in g (layout_of g) offset link lies room) ≡ 0
          → AheadAnswered f g offset link lies room d n p → Shows (answer_in g (layout_of g) offset link lies room) d n p
      back is file (asked.fault_of_pair z y w) = absurd (y (sym ((pair_is f g d n p).1 w).0 ∙ ap pair_file_in e))
      back is file (asked.of_question o i w) = (file ∙ sym i, is.1 w)
  by_pair (Err q) e d n p = (there, back)
    where
      there : Shows (Err (OfPair q)) d n p → AheadAnswered f g offset link lies room d n p
      there h =
          asked.fault_of_pair (λ z. some_number q.fault.reason (h.1.0 ∙ z)) (λ z. some_file q.file (h.0 ∙ z))
          ((pair_is f g d n p).0 (ap pair_file_in e ∙ h.0, (ap pair_number_in e ∙ h.1.0, ap pair_place_in e ∙ h.1.1)))

      back : AheadAnswered f g offset link lies room d n p → Shows (Err (OfPair q)) d n p
      back (asked.fault_of_pair z y w) =
          let s = (pair_is f g d n p).1 w in
          (sym (ap pair_file_in e) ∙ s.0, (sym (ap pair_number_in e) ∙ s.1.0, sym (ap pair_place_in e) ∙ s.1.1))
      back (asked.of_question o i w) = absurd (some_file q.file (sym (ap pair_file_in e) ∙ ap pair_file_in ((pair_accepted f g).1 o)))

  -- THEOREM: which file, number and place are answered, for every input
  pub which : (d n p : ℕ) → Shows (ahead_asked f g offset link lies room) d n p ↔ AheadAnswered f g offset link lies room d n p
  unfolding ahead_asked
  which d n p = by_pair (pair_of f g) refl d n p

-- ---- an answer that is not refused

-- what it says of the pair and of the two tests
record Told (v : PairVerdict) (r s : Bool) (x : Seen) (u : Sight) : Type 0 where
  pub pair_is : v ≡ Ok tt
  pub in_range_lem : r ≡ true
  pub enough : s ≡ false
  pub same : sight_of x ≡ u

told_by : (v : PairVerdict) (r s : Bool) (x : Seen) (u : Sight) → after_pair v (judged r s x) ≡ Ok u → Told v r s x u
unfolding judged
told_by (Err q) r s x u e = let z = ap ahead_file e in absurd (some_file q.file z)
told_by (Ok tt) false s x u e = let z : ◌≡◌ {A = ℕ} 13 0 = ap answer_number (ap ahead_answer e) in absurd (omega arith)
told_by (Ok tt) true true x u e = let z : ◌≡◌ {A = ℕ} 15 0 = ap answer_number (ap ahead_answer e) in absurd (omega arith)
told_by (Ok tt) true false x u e = record { pair_is = refl; in_range_lem = refl; enough = refl; same = cc }

-- the bytes of some objects that find room, with what stands after them
front_whole : (xs out : List ℕ) → word_size * length xs ≤ length out → length (octets_of xs ++ drop (word_size * length xs) out) ≡ length out
front_whole xs out h = omega (arith, length-append (octets_of xs) (drop (word_size * length xs) out), length-drop (word_size * length xs) out, octets_length xs)

module _ (f g : List ℕ) (offset link : ℕ) (lies : List ℕ) where
  module _ (s : Sight) (room : ℕ) (e : ahead_asked f g offset link lies room ≡ Ok s) where
    told : Told (pair_of f g) (in_range g (layout_of g) offset link lies) (ltb room seen_bytes) (seen_in g (layout_of g) offset link lies) s
    unfolding ahead_asked answer_in
    told = told_by (pair_of f g) _ _ _ s e

    -- the pair obeys, and the question is in range
    pub obeys : PairObeys f g
    obeys = (pair_accepted f g).0 told.pair_is

    pub in_range_lem : InRange g offset link lies
    in_range_lem = (range_iff g (second_accepted f g obeys) offset link lies).0 told.in_range_lem

  -- in range, what is computed lies ahead
  pub computed : PairObeys f g → InRange g offset link lies → LiesAhead g offset link lies (seen_in g (layout_of g) offset link lies).objects (seen_in g (layout_of g) offset link lies).stop
  unfolding seen_in
  computed o r =
      ahead_there (object_at g (layout_of g)) (Target g (layout_of g)) (linked g (second_accepted f g o)) lies ((lies_iff lies).1 (r.count, r.each)) offset
      (link_of g offset link) r.object (in_links (links_of (object_at g (layout_of g) offset)) link r.has_link)

  -- THEOREM: there is no second list
  pub one_list : PairObeys f g → InRange g offset link lies → (objects objects' : List ℕ) (s s' : Stop)
      → LiesAhead g offset link lies objects s → LiesAhead g offset link lies objects' s' → (objects ≡ objects') × (s ≡ s')
  one_list o r =
      ahead_one (object_at g (layout_of g)) (Target g (layout_of g)) (linked g (second_accepted f g o)) lies ((lies_iff lies).1 (r.count, r.each)) offset
      (link_of g offset link) r.object (in_links (links_of (object_at g (layout_of g) offset)) link r.has_link)

  -- THEOREM: why it stops, where objects are listed and x is the last of them
  pub stops : PairObeys f g → InRange g offset link lies → (w : List ℕ) (x : ℕ) (s : Stop) → LiesAhead g offset link lies (w ++ (x ∷ [])) s
      → (s' : Stop) → (s ≡ s') ↔ EndsFor (objects_of g x) (last_object (offset ∷ w)) lies offset (w ++ (x ∷ [])) s'
  stops o r =
      ahead_stops (object_at g (layout_of g)) (Target g (layout_of g)) (linked g (second_accepted f g o)) lies ((lies_iff lies).1 (r.count, r.each)) offset
      (link_of g offset link) r.object (in_links (links_of (object_at g (layout_of g) offset)) link r.has_link)

  module _ (out : List ℕ) where
    -- THEOREM: what is answered is the list that lies ahead, in the bytes lent, and nothing else is changed
    pub listed : (s : Sight) → ahead_asked f g offset link lies (length out) ≡ Ok s → Listed g offset link lies s out (left_asked f g offset link lies out)
    unfolding left_asked
    listed s e =
        let t = told s (length out) e in
        let x = seen_in g (layout_of g) offset link lies in
        let enough = ltb-false (length out) seen_bytes t.enough in
        let few = list_few g (layout_of g) offset link lies out in
        let count : s.objects ≡ length x.objects = ap (λ (u : Sight). u.objects) (sym t.same) in
        let stop : x.stop ≡ s.stop = ap (λ (u : Sight). u.stop) t.same in
        let left : leaves (ahead_asked f g offset link lies (length out)) x.objects out ≡ octets_of x.objects ++ drop (word_size * length x.objects) out = rw e refl in
        record {
          objects = x.objects;
          lies_ahead = subst (λ (u : Stop). LiesAhead g offset link lies x.objects u) stop (computed (obeys s (length out) e) (in_range_lem s (length out) e));
          count = count;
          held = λ i h. rw left (read_back x.objects (drop (word_size * length x.objects) out) i (omega arith));
          whole = rw left (front_whole x.objects out (omega arith));
          untouched = rw (left, count) (drop_at (octets_of x.objects) (drop (word_size * length x.objects) out) (word_size * length x.objects) (octets_length x.objects));
        }

    -- THEOREM: a refusal leaves every byte lent as it was
    pub refused_keeps : (answer_number (ahead_answer (ahead_asked f g offset link lies (length out))) ≡ 0 → ⊥) → left_asked f g offset link lies out ≡ out
    unfolding left_asked
    refused_keeps n = keeps (ahead_asked f g offset link lies (length out)) n
      where
        keeps : (a : AheadAnswer) → (answer_number (ahead_answer a) ≡ 0 → ⊥) → leaves a (seen_in g (layout_of g) offset link lies).objects out ≡ out
        keeps (Ok s) n = absurd (n refl)
        keeps (Err (OfPair p)) n = refl
        keeps (Err (OfQuestion t)) n = refl
