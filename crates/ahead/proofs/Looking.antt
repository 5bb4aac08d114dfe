-- The loop of `follow`: what follows by the link that is judged next is what follows at all. One law for each way through a turn.
use mathlib.Core.Path.{◌≡◌, refl, sym, ap, ap₂, ◌∙◌}
use mathlib.Core.Bool.{Bool, true, false, ◌||◌}
use Prim.Native.Nat.{ℕ, zero, suc, ◌+◌, ◌-◌, ◌≤◌}
use native.Mathlib.Numerals.{add-one}
use native.Mathlib.Omega.{arith}
use mathlib.Core.List.{List, [], ◌∷◌, ◌++◌}
use lib.ListN.{length, take, set, length-set}
use lib.Seq.{take-suc-set, length-take-le}
use lib.Dec.{eqb}
use borrow.Author.Tests.{eq-eqb, ne_eqb}
use Rattle.route_graph.specs.declared.Object.{Object}
use Rattle.route_walks.specs.Walks.{has}
use Rattle.ahead.specs.declared.Stop.{Stop}
use Rattle.ahead.specs.declared.Stop.TheVariants.{NoLink, Repeated, Full}
use Rattle.ahead.specs.declared.Sight.{Sight}
use Rattle.std.specs.Prelude.{Ok, Err}
use Rattle.ahead.specs.Ways.{Way, way_of}
use Rattle.ahead.specs.Ahead.{objects_most}
use Rattle.ahead.specs.Seen.{Seen, ends, goes_on, ahead_from, sight_of}
use Rattle.ahead.specs.inner.Followed.{Followed}

-- ---- one step of the definition

module _ (v : ℕ → Object) (lies : List ℕ) (passed : ℕ) (listed : List ℕ) (from to : ℕ) where
  pub from_none : (k : ℕ) → to ≡ 0 → ahead_from v lies passed k listed from to ≡ ends listed NoLink
  unfolding ahead_from
  from_none zero e = rw (ahead_from, eq-eqb to 0 e) refl
  from_none (suc k) e = rw (ahead_from, eq-eqb to 0 e) refl

  module _ (n : to ≡ 0 → ⊥) where
    pub from_again : (k : ℕ) → has (passed ∷ listed) to ≡ true → ahead_from v lies passed k listed from to ≡ ends listed Repeated
    unfolding ahead_from
    from_again zero e = rw (ahead_from, ne_eqb to 0 n, e) refl
    from_again (suc k) e = rw (ahead_from, ne_eqb to 0 n, e) refl

    pub from_full : (k : ℕ) → k ≡ 0 → has (passed ∷ listed) to ≡ false → ahead_from v lies passed k listed from to ≡ ends listed Full
    unfolding ahead_from
    from_full k z e = rw (z, ahead_from, ne_eqb to 0 n, e) refl

    pub from_more : (k : ℕ) → has (passed ∷ listed) to ≡ false
        → ahead_from v lies passed (suc k) listed from to ≡ goes_on (way_of (v to) from lies) (λ x. ahead_from v lies passed k (listed ++ (to ∷ [])) to x) (listed ++ (to ∷ []))
    unfolding ahead_from
    from_more k e = rw (ahead_from, ne_eqb to 0 n, e) refl

-- the test for a repeat, of the object last passed and of those listed
pub stood : (passed to : ℕ) (listed : List ℕ) (b : Bool) → b ≡ has listed to → (eqb passed to || b) ≡ has (passed ∷ listed) to
unfolding has
stood passed to listed b e = rw e refl

-- ---- the loop

pub record Looking (v : ℕ → Object) (lies : List ℕ) (passed first : ℕ) (path : List ℕ) (n from to : ℕ) : Type 0 where
  pub small : n ≤ objects_most
  pub room : length path ≡ objects_most
  pub is : ahead_from v lies passed (objects_most - n) (take n path) from to ≡ ahead_from v lies passed objects_most [] passed first

pub begins : (v : ℕ → Object) (lies : List ℕ) (passed first : ℕ) (path : List ℕ) → length path ≡ objects_most → Looking v lies passed first path 0 passed first
begins v lies passed first path h = record { small = omega arith; room = h; is = refl }

followed : (s : Seen) (path : List ℕ) (n : ℕ) (r : Stop) → length path ≡ objects_most → n ≤ objects_most → s ≡ ends (take n path) r → Followed s path (record { objects = n; stop = r })
followed s path n r h g e = record { room = h; few = g; listed = ap (λ (x : Seen). x.objects) (sym e); ended = ap (λ (x : Seen). x.stop) (sym e) }

module _ (v : ℕ → Object) (lies : List ℕ) (passed first : ℕ) (path : List ℕ) (n from to : ℕ) (g : Looking v lies passed first path n from to) where
  -- all that follows
  abbrev all : Seen
  all = ahead_from v lies passed objects_most [] passed first

  pub no_link : to ≡ 0 → Followed all path (record { objects = n; stop = NoLink })
  no_link e = followed all path n NoLink g.room g.small (sym g.is ∙ from_none v lies passed (take n path) from to (objects_most - n) e)

  module _ (z : to ≡ 0 → ⊥) (b : Bool) (q : b ≡ has (passed ∷ take n path) to) where
    pub repeated : b ≡ true → Followed all path (record { objects = n; stop = Repeated })
    repeated e = followed all path n Repeated g.room g.small (sym g.is ∙ from_again v lies passed (take n path) from to z (objects_most - n) (sym q ∙ e))

    module _ (f : b ≡ false) where
      pub full : n ≡ objects_most → Followed all path (record { objects = n; stop = Full })
      full e = followed all path n Full g.room g.small (sym g.is ∙ from_full v lies passed (take n path) from to z (objects_most - n) (omega arith) (sym q ∙ f))

      module _ (m : n ≡ objects_most → ⊥) (w : Way) (y : w ≡ way_of (v to) from lies) where
        fewer : n + 1 ≤ objects_most
        fewer = let h = g.small in omega arith

        kept : length (set path n to) ≡ objects_most
        kept = length-set path n to ∙ g.room

        further : ahead_from v lies passed (objects_most - n) (take n path) from to
            ≡ goes_on w (λ x. ahead_from v lies passed (objects_most - (n + 1)) (take (n + 1) (set path n to)) to x) (take (n + 1) (set path n to))
        further =
            let small = fewer in
            let room = g.room in
            let k : objects_most - n ≡ suc (objects_most - (n + 1)) = omega arith in
            let at : take (n + 1) (set path n to) ≡ take n path ++ (to ∷ []) = rw add-one (take-suc-set path n to (omega arith)) in
            rw (k, at, y) (from_more v lies passed (take n path) from to z (objects_most - (n + 1)) (sym q ∙ f))

        pub stops : (r : Stop) → w ≡ Err r → Followed all (set path n to) (record { objects = n + 1; stop = r })
        stops r e = followed all (set path n to) (n + 1) r kept fewer (sym g.is ∙ further ∙ rw e refl)

        pub goes_on_lem : (x : ℕ) → w ≡ Ok x → Looking v lies passed first (set path n to) (n + 1) to x
        goes_on_lem x e = record { small = fewer; room = kept; is = sym (further ∙ rw e refl) ∙ g.is }

-- ---- what was followed

-- what is answered is what the list ends with
pub ended_so : (s : Seen) (path : List ℕ) (q r : Sight) → r ≡ q → Followed s path q → Followed s path r
ended_so s path q r e f = rw e f

-- how many were listed, and why no more
pub sight_is : (s : Seen) (path : List ℕ) (r : Sight) → Followed s path r → r ≡ sight_of s
sight_is s path r f =
    let small = f.few in
    let room = f.room in
    let n : r.objects ≡ length s.objects = sym (length-take-le r.objects path (omega arith)) ∙ ap length f.listed in
    ap₂ (λ (k : ℕ) (x : Stop). record { objects = k; stop = x }) n f.ended
