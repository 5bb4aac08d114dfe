-- What is listed in the memory after a listing: the words there are those of one list of routes, and this list has every route, and nothing
-- else.
use Prim.Native.Nat.{ℕ}
use native.Mathlib.Omega.{arith}
use mathlib.Core.Path.{◌≡◌, sym, subst, ◌∙◌}
use mathlib.Core.Logic.{◌↔◌}
use mathlib.Core.List.{List, Memᴰ}
use lib.Seq.{ext_get_or}
use Rattle.route_graph.specs.declared.Object.{Object}
use Rattle.route_walks.specs.declared.Tally.{Tally}
use Rattle.route_walks.specs.Legal.{Route}
use Rattle.route_walks.specs.Walks.{words_of}
use Rattle.route_lister.specs.Listing.{Listing}
use Rattle.plan_routes.proofs.Listed.{words_one_way}
use Rattle.route_backwards.specs.Backwards.{Holds, ListedIn}

module _ (n : ℕ) (memory : List ℕ) (rs qs : List (List ℕ)) (h : Holds n memory rs) (k : Holds n memory qs) where
  same_words : words_of rs ≡ words_of qs
  same_words =
      let l = h.words_are in
      ext_get_or 0 (words_of rs) (words_of qs) (sym l ∙ k.words_are) (λ i b. sym (h.held i (omega arith)) ∙ k.held i (omega arith))

  -- THEOREM: the words in the memory are read back in one way
  pub one_reading : rs ≡ qs
  one_reading = words_one_way rs qs same_words

module _ (v : ℕ → Object) (start limit budget : ℕ) (t : Tally) (before after : List ℕ) (l : Listing v start limit budget t before after) where
  -- THEOREM: what a listing leaves is a list of words, of all its routes
  pub holds : Holds t.words after l.routes
  holds = record { words_are = l.words_are; held = l.held }

  -- THEOREM: and what is listed there are the routes
  pub listed_iff : (w : List ℕ) → ListedIn t.words after w ↔ Route v start limit w
  listed_iff w = (
    λ h. l.all.exactly.sound w (subst (λ (rs : List (List ℕ)). Memᴰ w rs) (one_reading t.words after h.routes l.routes h.holds holds) h.one_of_them),
    λ r. record { routes = l.routes; holds = holds; one_of_them = l.all.exactly.complete w r },
  )
