-- What each way through `follow` and `branch` shows, over plain numbers and lists.
use Prim.Native.Nat.{ℕ, ◌+◌, ◌-◌, ◌≤◌}
use native.Mathlib.Omega.{arith}
use mathlib.Core.Path.{◌≡◌, refl, ap, sym, ◌∙◌}
use mathlib.Core.Bool.{false}
use mathlib.Core.Logic.{⊎_elim}
use mathlib.Core.List.{List, [], ◌∷◌, ◌++◌}
use lib.ListN.{length, take, set, length-append, length-set}
use lib.Seq.{length-take-le, take-take, take-set-le}
use Rattle.route_graph.specs.declared.TurnoutLinks.{TurnoutLinks}
use Rattle.route_graph.specs.declared.Object.{Object}
use Rattle.route_graph.specs.Objects.{is_boundary}
use Rattle.route_walks.specs.Walks.{walks, branches}
use Rattle.route_walks.specs.declared.Tally.{Tally}
use Rattle.route_walks.specs.Lent.{lays}
use Rattle.route_walks.specs.inner.Grown.{Sane, Counted, Grown}
use Rattle.route_lister.specs.declared.ways.Way.TheVariants.{Arrives, Forks, On}
use Rattle.route_lister.specs.inner.Ready.{Ready, Held}
use Rattle.route_lister.specs.inner.Steps.{Opens, Shut}
use Rattle.route_lister.specs.inner.Ways.{way_of}
use Rattle.route_lister.specs.inner.Marks.{Marked}
use Rattle.route_lister.proofs.Stores.{path_more}
use Rattle.route_lister.proofs.Marking.{marked_less}
use Rattle.route_lister.proofs.By.{arrives_by, on_by, forks_by}
use Rattle.route_walks.proofs.Grow.{grown_none, grown_over, grown_open, grown_route, grown_seq}
use Rattle.route_walks.proofs.Unfold.{walks_none, walks_end, walks_passed, turnout_legs, route_at}

-- a call after another
pub ready_again : (budget n left : ℕ) (marks marks₁ path path₁ : List ℕ) (t u : Tally) → Ready budget marks path n left t → length path₁ ≡ length path → Held n path path₁ marks₁ → Sane budget u → Ready budget marks₁ path₁ n left u
ready_again budget n left marks marks₁ path path₁ t u h e k s = record { sane = s; few = h.few; begun = h.begun; room = omega arith; small = h.small; marked = k.marked }

-- ---- one link: what the walks that it opens make of t and out. `path₁` is the path with the object `to` more.

module _ (v : ℕ → Object) (from to budget n left : ℕ) (marks path out : List ℕ) (t : Tally) (ready : Ready budget marks path n left t) where
  pub opens_none : Shut (take n path) to left t.walks budget → Grown v (walks v left (take n path) from to) budget t t out out
  opens_none =
      ⊎_elim (λ e. none (walks_none v (take n path) from to left e))
      (⊎_elim (λ e. none (walks_end v (take n path) from to left e))
      (⊎_elim (λ h. grown_over v budget (walks v left (take n path) from to) t out ready.sane h) (λ e. none (walks_passed v (take n path) from to left e))))
    where
      none : walks v left (take n path) from to ≡ [] → Grown v (walks v left (take n path) from to) budget t t out out
      none e = rw e (grown_none v budget t out ready.sane)

  module _ (open_to : Opens (take n path) to left t.walks budget) (path₁ : List ℕ) (put : path₁ ≡ set path n to) where
    at_path : take (n + 1) path₁ ≡ take n path ++ (to ∷ [])
    at_path = ap (take (n + 1)) put ∙ path_more path n to (omega (arith, open_to.allowed))

    begun : 1 ≤ length (take n path)
    begun = omega (arith, length-take-le n path (omega arith))

    one_longer : length (take n path ++ (to ∷ [])) ≡ n + 1
    one_longer = length-append (take n path) (to ∷ []) ∙ ap (λ (k : ℕ). k + 1) (length-take-le n path (omega arith))

    pub arrives : (u : Tally) (out' : List ℕ) → way_of (v to) from ≡ Arrives → Counted 1 1 (n + 1 + 1) t u → out' ≡ lays out t.words ((n + 1) ∷ take (n + 1) path₁)
        → Grown v (walks v left (take n path) from to) budget t u out out'
    arrives u out' e c q =
        let a = arrives_by v (take n path) from to open_to.named open_to.fresh left open_to.allowed e in
        rw a.1
        (grown_route v budget (take n path ++ (to ∷ [])) t u out out' ready.sane open_to.within (route_at v (take n path) to begun ∙ a.0)
        (rw one_longer (omega (arith, open_to.allowed))) (rw one_longer c) (q ∙ rw (at_path, one_longer) refl))

    opened_walk : (u : Tally) → is_boundary (v to) ≡ false → Counted 1 0 0 t u → Grown v ((take n path ++ (to ∷ [])) ∷ []) budget t u out out
    opened_walk u e c = grown_open v budget (take n path ++ (to ∷ [])) t u out ready.sane open_to.within (route_at v (take n path) to begun ∙ e) c

    module _ (u r : Tally) (out' : List ℕ) (c : Counted 1 0 0 t u) where
      pub goes_on : (next : ℕ) → way_of (v to) from ≡ On next → Grown v (walks v (left - 1) (take (n + 1) path₁) to next) budget u r out out' → Grown v (walks v left (take n path) from to) budget t r out out'
      goes_on next e g =
          let a = on_by v (take n path) from to open_to.named open_to.fresh left open_to.allowed next e in
          rw a.1
          (grown_seq v budget ((take n path ++ (to ∷ [])) ∷ []) (walks v (left - 1) (take n path ++ (to ∷ [])) to next) t u r out out out' (opened_walk u a.0 c) (rw at_path at g))

      pub forks : (q : TurnoutLinks) → way_of (v to) from ≡ Forks q → Grown v (branches v (left - 1) (take (n + 1) path₁) q.front to q) budget u r out out' → Grown v (walks v left (take n path) from to) budget t r out out'
      forks q e g =
          let a = forks_by v (take n path) from to open_to.named open_to.fresh left open_to.allowed q e in
          rw a.1
          (grown_seq v budget ((take n path ++ (to ∷ [])) ∷ []) (branches v (left - 1) (take n path ++ (to ∷ [])) q.front to q) t u r out out out' (opened_walk u a.0 c) (rw at_path at g))

-- the two legs of a turnout that was entered at the front
pub takes_legs : (v : ℕ → Object) (at budget n left : ℕ) (path : List ℕ) (q : TurnoutLinks) (path₁ out out₁ out₂ : List ℕ) (t u r : Tally) → take n path₁ ≡ take n path
    → Grown v (walks v left (take n path) at q.normal) budget t u out out₁ → Grown v (walks v left (take n path₁) at q.reverse) budget u r out₁ out₂
    → Grown v (branches v left (take n path) q.front at q) budget t r out out₂
takes_legs v at budget n left path q path₁ out out₁ out₂ t u r k g h =
    rw (turnout_legs v (take n path) left q.front at q refl)
    (grown_seq v budget (walks v left (take n path) at q.normal) (walks v left (take n path) at q.reverse) t u r out out₁ out₂ g (rw k at h))

pub held_twice : (n : ℕ) (path path₁ path₂ marks₁ marks₂ : List ℕ) → Held n path path₁ marks₁ → Held n path₁ path₂ marks₂ → Held n path path₂ marks₂
held_twice n path path₁ path₂ marks₁ marks₂ h k = record { same = k.same ∙ h.same; marked = k.marked }

-- ---- the line: from the link that was to be followed, at first, to where the loop has come

-- `gives`: what remains to be followed from here gives what following the first link gives
pub record Line (v : ℕ → Object) (budget from₀ to₀ n₀ left₀ : ℕ) (path₀ out₀ : List ℕ) (t₀ : Tally) (from to n left : ℕ) (marks path out : List ℕ) (t : Tally) : Type 0 where
  pub ready : Ready budget marks path n left t
  pub longer : n₀ ≤ n
  pub fewer : left ≤ left₀
  pub same_path : length path ≡ length path₀
  pub same_out : length out ≡ length out₀
  pub kept : take n₀ path ≡ take n₀ path₀
  pub gives : (r : Tally) (out' : List ℕ) → Grown v (walks v left (take n path) from to) budget t r out out' → Grown v (walks v left₀ (take n₀ path₀) from₀ to₀) budget t₀ r out₀ out'

pub line_starts : (v : ℕ → Object) (budget from to n left : ℕ) (marks path out : List ℕ) (t : Tally) → Ready budget marks path n left t → Line v budget from to n left path out t from to n left marks path out t
line_starts v budget from to n left marks path out t h =
    record { ready = h; longer = omega arith; fewer = omega arith; same_path = refl; same_out = refl; kept = refl; gives = λ r out' g. g }

module _ (v : ℕ → Object) (budget from₀ to₀ n₀ left₀ : ℕ) (path₀ out₀ : List ℕ) (t₀ : Tally) (from to n left : ℕ) (marks path out : List ℕ) (t : Tally)
    (line : Line v budget from₀ to₀ n₀ left₀ path₀ out₀ t₀ from to n left marks path out t) where
  pub line_ends : Shut (take n path) to left t.walks budget → Held n₀ path₀ path marks × Grown v (walks v left₀ (take n₀ path₀) from₀ to₀) budget t₀ t out₀ out
  line_ends h = (
    record { same = line.kept; marked = marked_less marks path n₀ n line.longer line.ready.marked },
    line.gives t out (opens_none v from to budget n left marks path out t line.ready h),
  )

  -- with the object `to` more
  module _ (open_to : Opens (take n path) to left t.walks budget) (marks₁ path₁ : List ℕ) (put : path₁ ≡ set path n to) (marked : Marked marks₁ path₁ (n + 1)) where
    pub as_long : length path₁ ≡ length path₀
    as_long = ap length put ∙ length-set path n to ∙ line.same_path

    held_there : Held n₀ path₀ path₁ marks₁
    held_there = record {
      same = ap (take n₀) put ∙ take-set-le n₀ path n to line.longer ∙ line.kept;
      marked = marked_less marks₁ path₁ n₀ (n + 1) (omega (arith, line.longer)) marked;
    }

    -- a call that keeps what lies below n + 1 keeps what lies below n₀
    held_after : (marks₂ path₂ : List ℕ) → Held (n + 1) path₁ path₂ marks₂ → Held n₀ path₀ path₂ marks₂
    held_after marks₂ path₂ h =
        let below : n₀ ≤ n + 1 = omega (arith, line.longer) in
        record {
          same = sym (take-take n₀ (n + 1) path₂ below) ∙ ap (take n₀) h.same ∙ take-take n₀ (n + 1) path₁ below ∙ held_there.same;
          marked = marked_less marks₂ path₂ n₀ (n + 1) below h.marked;
        }

    pub line_arrives : (u : Tally) (out' : List ℕ) → way_of (v to) from ≡ Arrives → Counted 1 1 (n + 1 + 1) t u → out' ≡ lays out t.words ((n + 1) ∷ take (n + 1) path₁)
        → Held n₀ path₀ path₁ marks₁ × Grown v (walks v left₀ (take n₀ path₀) from₀ to₀) budget t₀ u out₀ out'
    line_arrives u out' e c q = (held_there, line.gives u out' (arrives v from to budget n left marks path out t line.ready open_to path₁ put u out' e c q))

    pub line_forks : (u r : Tally) (marks₂ path₂ out' : List ℕ) (q : TurnoutLinks) → Counted 1 0 0 t u → way_of (v to) from ≡ Forks q → Held (n + 1) path₁ path₂ marks₂
        → Grown v (branches v (left - 1) (take (n + 1) path₁) q.front to q) budget u r out out' → Held n₀ path₀ path₂ marks₂ × Grown v (walks v left₀ (take n₀ path₀) from₀ to₀) budget t₀ r out₀ out'
    line_forks u r marks₂ path₂ out' q c e h g = (held_after marks₂ path₂ h, line.gives r out' (forks v from to budget n left marks path out t line.ready open_to path₁ put u r out' c q e g))

    pub ready_there : (u : Tally) → Counted 1 0 0 t u → Ready budget marks₁ path₁ (n + 1) (left - 1) u
    ready_there u c =
        let h = line.ready in
        let w = open_to.within in
        let e = ap length put ∙ length-set path n to in
        record {
          sane = record { capped = omega arith; fewer = omega arith; short = omega arith };
          few = h.few;
          begun = omega arith;
          room = omega (arith, open_to.allowed);
          small = omega (arith, open_to.allowed);
          marked = marked;
        }

    pub line_on : (u : Tally) (next : ℕ) → Counted 1 0 0 t u → way_of (v to) from ≡ On next → Line v budget from₀ to₀ n₀ left₀ path₀ out₀ t₀ to next (n + 1) (left - 1) marks₁ path₁ out u
    line_on u next c e = record {
      ready = ready_there u c;
      longer = omega (arith, line.longer);
      fewer = omega (arith, line.fewer);
      same_path = as_long;
      same_out = line.same_out;
      kept = held_there.same;
      gives = λ r out' g. line.gives r out' (goes_on v from to budget n left marks path out t line.ready open_to path₁ put u r out' c next e g);
    }
