-- What each way through `look` and `ahead` shows, over plain variables: what is answered, and what is left in the bytes lent.
use Prim.Native.Nat.{ℕ, zero, suc, ◌+◌, ◌≤◌, ◌<◌}
use native.Mathlib.Omega.{arith}
use mathlib.Core.Path.{◌≡◌, refl, sym, ap, ◌∙◌}
use mathlib.Core.Bool.{Bool, true, false, cond, not, ◌&&◌}
use mathlib.Core.List.{List, [], ◌∷◌, ◌++◌}
use lib.ListN.{length, get_or, length-append}
use lib.Dec.{eqb, ltb}
use borrow.Author.Tests.{lt-ltb, le-ltb, not-true, not-false}
use Rattle.verdict.specs.declared.Reason.TheVariants.{Question, Room}
use Rattle.verdict.specs.declared.PairFault.{PairFault}
use Rattle.verdict.specs.Verdicts.{PairVerdict}
use Rattle.std.specs.Prelude.{Ok, Err}
use Rattle.x2_layout.specs.declared.Layout.{Layout}
use Rattle.x2_layout.specs.Layout.{layout_of}
use Rattle.x2_links.specs.Links.{may_name}
use Rattle.x2_links.proofs.Seeking.{may_name_lem}
use Rattle.pair.specs.Pair.{pair_of}
use Rattle.route_graph.specs.declared.Object.{Object}
use Rattle.route_graph.specs.Objects.{object_at, links_of, offset_most}
use Rattle.route_walks.specs.Walks.{has}
use Rattle.route_walks.specs.Lent.{lays}
use Rattle.route_walks.proofs.Lent.{lays_front}
use Rattle.ahead.specs.declared.Stop.TheVariants as stop
use Rattle.ahead.specs.declared.Sight.{Sight}
use Rattle.ahead.specs.Results.{AheadAnswer}
use Rattle.ahead.specs.declared.AheadFault.TheVariants.{OfPair, OfQuestion}
use Rattle.ahead.specs.Lies.{are_lies}
use Rattle.ahead.specs.Ways.{Way, way_of}
use Rattle.ahead.specs.Ahead.{objects_most, seen_bytes}
use Rattle.ahead.specs.Seen.{Seen, ends, goes_on, ahead_from, sight_of}
use Rattle.ahead.specs.Asked.{in_range, seen_in, refused_for, judged, answer_in, left_in, ahead_asked, left_asked}

-- ---- no more are listed than may be

module _ (v : ℕ → Object) (lies : List ℕ) (passed : ℕ) where
  -- so many at the most
  abbrev Few : ℕ → Seen → Type 0
  Few n s = length s.objects ≤ n

  longer : (listed : List ℕ) (to : ℕ) → length (listed ++ (to ∷ [])) ≡ length listed + 1
  longer listed to = length-append listed (to ∷ [])

  pub seen_few : (k : ℕ) (listed : List ℕ) (from to : ℕ) → Few (length listed + k) (ahead_from v lies passed k listed from to)
  unfolding ahead_from
  seen_few zero listed from to = three (eqb to 0) (has (passed ∷ listed) to)
    where
      three : (a b : Bool) → Few (length listed + 0) (cond a (ends listed stop.NoLink) (cond b (ends listed stop.Repeated) (ends listed stop.Full)))
      three true b = omega arith
      three false true = omega arith
      three false false = omega arith
  seen_few (suc k) listed from to = three (eqb to 0) (has (passed ∷ listed) to) (way_of (v to) from lies) (λ x. seen_few k (listed ++ (to ∷ [])) to x)
    where
      three : (a b : Bool) (w : Way) → ((x : ℕ) → Few (length (listed ++ (to ∷ [])) + k) (ahead_from v lies passed k (listed ++ (to ∷ [])) to x))
          → Few (length listed + suc k)
          (cond a (ends listed stop.NoLink) (cond b (ends listed stop.Repeated) (goes_on w (λ x. ahead_from v lies passed k (listed ++ (to ∷ [])) to x) (listed ++ (to ∷ [])))))
      three true b w ih = omega arith
      three false true w ih = omega arith
      three false false (Ok x) ih = let h = ih x in omega (arith, longer listed to)
      three false false (Err s) ih = omega (arith, longer listed to)

-- ---- of an X.2 and its layout

-- the list, by the object that is read and its link
pub seen-is : (g : List ℕ) (l : Layout) (offset link : ℕ) (lies : List ℕ) (o : Object) (first : ℕ) → o ≡ object_at g l offset → first ≡ get_or (links_of o) link 0
    → ahead_from (object_at g l) lies offset objects_most [] offset first ≡ seen_in g l offset link lies
unfolding seen_in
seen-is g l offset link lies o first e h = rw (h, e) refl

-- the test of the link and of the lies, as it is made
pub asked_is : (g : List ℕ) (l : Layout) (offset link : ℕ) (lies : List ℕ) (o : Object) (n : ℕ) (b : Bool) → o ≡ object_at g l offset → n ≡ length (links_of o) → b ≡ are_lies lies
    → (ltb link n && b) ≡ (ltb link (length (links_of (object_at g l offset))) && are_lies lies)
asked_is g l offset link lies o n b e h q = rw (h, e, q) refl

module _ (g : List ℕ) (l : Layout) (offset link : ℕ) (lies out : List ℕ) where
  -- the answer, and the bytes lent after it
  pub record Told (a : AheadAnswer) (o : List ℕ) : Type 0 where
    pub answered : a ≡ answer_in g l offset link lies (length out)
    pub left : o ≡ left_in g l offset link lies out

  range_is : (m t : Bool) → m ≡ may_name g l offset → t ≡ (ltb link (length (links_of (object_at g l offset))) && are_lies lies) → in_range g l offset link lies ≡ (m && t)
  unfolding in_range
  range_is m t e h = rw (← e, ← h) refl

  outside : in_range g l offset link lies ≡ false → Told (refused_for Question) out
  unfolding answer_in left_in judged
  outside e = record { answered = rw e refl; left = rw e refl }

  short : in_range g l offset link lies ≡ true → length out < seen_bytes → Told (refused_for Room) out
  unfolding answer_in left_in judged
  short e h = record { answered = rw (e, lt-ltb (length out) seen_bytes h) refl; left = rw (e, lt-ltb (length out) seen_bytes h) refl }

  pub list_few : length (seen_in g l offset link lies).objects ≤ objects_most
  unfolding seen_in
  list_few = seen_few (object_at g l) lies offset objects_most [] offset (get_or (links_of (object_at g l offset)) link 0)

  inside : (s : Sight) (o : List ℕ) → in_range g l offset link lies ≡ true → seen_bytes ≤ length out → s ≡ sight_of (seen_in g l offset link lies)
      → o ≡ lays out 0 (seen_in g l offset link lies).objects → Told (Ok s) o
  unfolding answer_in left_in judged
  inside s o e h q r =
      let few = list_few in
      record {
        answered = rw (e, le-ltb (length out) seen_bytes h) (ap Ok q);
        left = rw (e, le-ltb (length out) seen_bytes h) (r ∙ lays_front (seen_in g l offset link lies).objects out (omega arith));
      }

  module _ (m : Bool) (is : m ≡ may_name g l offset) where
    pub not_named : not m ≡ true → Told (refused_for Question) out
    not_named e = outside (range_is false _ (sym (not-true m e) ∙ is) refl)

    -- what a link may name is an offset in a file
    pub is_offset : not m ≡ false → offset ≤ offset_most
    is_offset e = ((may_name_lem g l offset).0 (sym is ∙ not-false m e)).0

    module _ (named : not m ≡ false) (t : Bool) (so : t ≡ (ltb link (length (links_of (object_at g l offset))) && are_lies lies)) where
      both : in_range g l offset link lies ≡ t
      both = range_is true t (sym (not-false m named) ∙ is) so

      pub not_asked : not t ≡ true → Told (refused_for Question) out
      not_asked e = outside (both ∙ not-true t e)

      module _ (asked : not t ≡ false) where
        ranged : in_range g l offset link lies ≡ true
        ranged = both ∙ not-false t asked

        pub no_room : length out < seen_bytes → Told (refused_for Room) out
        no_room h = short ranged h

        pub listed : (s : Sight) (o : List ℕ) → seen_bytes ≤ length out → s ≡ sight_of (seen_in g l offset link lies) → o ≡ lays out 0 (seen_in g l offset link lies).objects
            → Told (Ok s) o
        listed s o h q r = inside s o ranged h q r

-- ---- of a pair

module _ (f g : List ℕ) (offset link : ℕ) (lies out : List ℕ) (v : PairVerdict) (is : v ≡ pair_of f g) where
  pub pair_refused : (p : PairFault) (a : AheadAnswer) → v ≡ Err p → a ≡ Err (OfPair p)
      → (a ≡ ahead_asked f g offset link lies (length out)) × (out ≡ left_asked f g offset link lies out)
  unfolding ahead_asked left_asked
  pair_refused p a e q = (q ∙ rw (← is, e) refl, rw (← is, e) refl)

  pub pair_accepted : (a : AheadAnswer) (o : List ℕ) → v ≡ Ok tt → a ≡ answer_in g (layout_of g) offset link lies (length out) → o ≡ left_in g (layout_of g) offset link lies out
      → (a ≡ ahead_asked f g offset link lies (length out)) × (o ≡ left_asked f g offset link lies out)
  unfolding ahead_asked left_asked left_in
  pair_accepted a o e q r = (rw (← is, e) q, rw (← is, e) r)
