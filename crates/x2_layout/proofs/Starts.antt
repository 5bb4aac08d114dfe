-- The records of a file with regions of whole records: the kind and the size in each region, what is reached, where a record starts, and
-- where it ends.
use Prim.Native.Nat.{ℕ, ◌+◌, ◌-◌, ◌*◌, ◌%◌, ◌≤◌, ◌<◌}
use mathlib.Core.Path.{◌≡◌, ◌∙◌, refl, sym, subst}
use mathlib.Core.Bool.{true, and-true}
use mathlib.Core.Logic.{⊎_elim, ◌↔◌}
use mathlib.Core.List.{List, Memᴰ}
use lib.Dec.{eqb}
use native.Mathlib.Omega.{arith}
use borrow.Author.Tests.{lt-ltb, le-ltb, eq-eqb, ne_eqb}
use Rattle.x2_records.specs.declared.Kind.TheVariants.{StartBoundary, EndBoundary, Turnout, Balise, Signal, Joint, Siding}
use Rattle.x2_records.specs.Places.{boundary_size, turnout_size, signal_size, joint_size, siding_size}
use Rattle.verdict.specs.Facts.{Holds, test}
use Rattle.verdict.specs.Walk.{starts_from, Reach, here}
use Rattle.verdict.proofs.Facts.{tested}
use Rattle.verdict.proofs.Walk.{reach_le, reach_join, reach_fixed, reach_region, reach_walk, find_fixed}
use Rattle.verdict.proofs.Orders.{le-or-lt}
use Rattle.x2_layout.specs.declared.Layout.{Layout}
use Rattle.x2_layout.specs.Facts.{balise_bytes}
use Rattle.x2_layout.specs.Records.{kind_at, size_of, size_at, starts, is_start}
use Rattle.x2_layout.specs.inner.Regions.{Regions}
use Rattle.x2_layout.proofs.Records.{balise_bytes_pos, size_at_pos}
use Rattle.x2_layout.proofs.Walks.{starts_between, starts_reached, reach_rest, reach_alike, reach_ends}

-- a record starts at x: x is one of the starts
pub start_iff : (f : List ℕ) (l : Layout) (x : ℕ) → Holds (is_start f l x) ↔ Memᴰ x (starts f l)
unfolding is_start
start_iff f l x = (λ h. subst (λ (s : ℕ). Memᴰ s (starts f l)) h.2 h.1, λ m. (x, m, refl))

pub start_tested : (f : List ℕ) (l : Layout) (x : ℕ) → (test (is_start f l x) ≡ true) ↔ Memᴰ x (starts f l)
start_tested f l x =
    let t = tested (is_start f l x) in
    let s = start_iff f l x in
    (λ e. s.0 (t.0 e), λ m. t.1 (s.1 m))

module _ (f : List ℕ) (l : Layout) (r : Regions f l) where
  pub header_least : 41 ≤ l.starts
  header_least = omega arith

  -- ---- the kind in each region

  module _ (y : ℕ) where
    pub kind_start : y < l.ends → kind_at l y ≡ StartBoundary
    unfolding kind_at
    kind_start h = rw (lt-ltb y l.ends h)

    pub kind_end : l.ends ≤ y → y < l.turnouts → kind_at l y ≡ EndBoundary
    unfolding kind_at
    kind_end g h = rw (le-ltb y l.ends g, lt-ltb y l.turnouts h)

    pub kind_turnout : l.turnouts ≤ y → y < l.balises → kind_at l y ≡ Turnout
    unfolding kind_at
    kind_turnout g h = rw (le-ltb y l.ends (omega arith), le-ltb y l.turnouts g, lt-ltb y l.balises h)

    pub kind_balise : l.balises ≤ y → y < l.signals → kind_at l y ≡ Balise
    unfolding kind_at
    kind_balise g h = rw (le-ltb y l.ends (omega arith), le-ltb y l.turnouts (omega arith), le-ltb y l.balises g, lt-ltb y l.signals h)

    pub kind_signal : l.signals ≤ y → y < l.joints → kind_at l y ≡ Signal
    unfolding kind_at
    kind_signal g h =
        rw (le-ltb y l.ends (omega arith), le-ltb y l.turnouts (omega arith), le-ltb y l.balises (omega arith), le-ltb y l.signals g, lt-ltb y l.joints h)

    pub kind_joint : l.joints ≤ y → y < l.sidings → kind_at l y ≡ Joint
    unfolding kind_at
    kind_joint g h =
        rw (le-ltb y l.ends (omega arith), le-ltb y l.turnouts (omega arith), le-ltb y l.balises (omega arith), le-ltb y l.signals (omega arith), le-ltb y l.joints g, lt-ltb y l.sidings h)

    pub kind_siding : l.sidings ≤ y → kind_at l y ≡ Siding
    unfolding kind_at
    kind_siding g =
        rw (le-ltb y l.ends (omega arith), le-ltb y l.turnouts (omega arith), le-ltb y l.balises (omega arith), le-ltb y l.signals (omega arith), le-ltb y l.joints (omega arith), le-ltb y l.sidings g)

    -- ---- the size in each region

    pub size_boundary : y < l.turnouts → size_at f l y ≡ boundary_size
    unfolding size_of
    size_boundary h = ⊎_elim (λ (g : l.ends ≤ y). rw (kind_end g h)) (λ (g : y < l.ends). rw (kind_start g)) (le-or-lt l.ends y)

    pub size_turnout : l.turnouts ≤ y → y < l.balises → size_at f l y ≡ turnout_size
    unfolding size_of
    size_turnout g h = rw (kind_turnout g h)

    pub size_balise : l.balises ≤ y → y < l.signals → size_at f l y ≡ balise_bytes f y
    unfolding size_of
    size_balise g h = rw (kind_balise g h)

    pub size_signal : l.signals ≤ y → y < l.joints → size_at f l y ≡ signal_size
    unfolding size_of
    size_signal g h = rw (kind_signal g h)

    pub size_joint : l.joints ≤ y → y < l.sidings → size_at f l y ≡ joint_size
    unfolding size_of
    size_joint g h = rw (kind_joint g h)

    pub size_siding : l.sidings ≤ y → size_at f l y ≡ siding_size
    unfolding size_of
    size_siding g = rw (kind_siding g)

  -- ---- each region's start is reached by whole records

  pub reach_middle : Reach (size_at f l) l.starts l.ends
  reach_middle = reach_region (size_at f l) boundary_size l.starts l.ends (omega arith) (omega arith) (omega arith) (λ y p q. size_boundary y (omega arith))

  pub reach_bounds : Reach (size_at f l) l.starts l.turnouts
  reach_bounds = reach_region (size_at f l) boundary_size l.starts l.turnouts (omega arith) (omega arith) (omega arith) (λ y p q. size_boundary y q)

  pub reach_turnouts : Reach (size_at f l) l.starts l.balises
  reach_turnouts = reach_join reach_bounds (reach_region (size_at f l) turnout_size l.turnouts l.balises (omega arith) r.turnouts.order r.turnouts.whole size_turnout)

  pub reach_balises : Reach (size_at f l) l.starts l.signals
  reach_balises =
      reach_join reach_turnouts (reach_walk (size_at f l) (balise_bytes f) l.balises l.signals size_balise r.balises.order (balise_bytes_pos f) r.balises.ends)

  pub reach_signals : Reach (size_at f l) l.starts l.joints
  reach_signals = reach_join reach_balises (reach_region (size_at f l) signal_size l.signals l.joints (omega arith) r.signals.order r.signals.whole size_signal)

  pub reach_joints : Reach (size_at f l) l.starts l.sidings
  reach_joints = reach_join reach_signals (reach_region (size_at f l) joint_size l.joints l.sidings (omega arith) r.joints.order r.joints.whole size_joint)

  pub reach_stop : Reach (size_at f l) l.starts l.end
  reach_stop =
      reach_join reach_joints (reach_region (size_at f l) siding_size l.sidings l.end (omega arith) r.sidings.order r.sidings.whole (λ y g h. size_siding y g))

  -- ---- where a record starts, in a region of one size

  module _ (x : ℕ) where
    -- from a to b all records have the size s
    pub found_fixed :
        (a b s : ℕ) → Reach (size_at f l) l.starts a → 0 < s → ((y : ℕ) → a ≤ y → y < b → size_at f l y ≡ s) → a ≤ x → x < b → b ≤ l.end
        → eqb ((x - a) % s) 0 ≡ test (is_start f l x)
    unfolding is_start
    found_fixed a b s q z sz g h e =
        sym (find_fixed (size_at f l) l.end x (λ y. eqb y x) (λ y n. ne_eqb y x n) (size_at_pos f l) l.starts a b s q z sz g h e ∙ rw (eq-eqb x x refl) (and-true (eqb ((x - a) % s) 0)))

    pub found_boundary : l.starts ≤ x → x < l.turnouts → eqb ((x - l.starts) % boundary_size) 0 ≡ test (is_start f l x)
    found_boundary g h = found_fixed l.starts l.turnouts boundary_size here (omega arith) (λ y p q. size_boundary y q) g h (omega arith)

    -- ---- where a record ends

    module _ (m : Memᴰ x (starts f l)) where
      pub start_least : l.starts ≤ x
      start_least = reach_le (starts_between (size_at f l) l.end x l.starts m).reached

      pub start_below : x < l.end
      start_below = (starts_between (size_at f l) l.end x l.starts m).below

      -- in its region, whose end is b
      pub start_ends : (b : ℕ) → Reach (size_at f l) l.starts b → x < b → x + size_at f l x ≤ b
      start_ends b q h = reach_ends (size_at_pos f l) (starts_between (size_at f l) l.end x l.starts m).reached q h

      -- among the balises it is a start of their walk
      pub balise_walked : l.balises ≤ x → x < l.signals → Memᴰ x (starts_from (balise_bytes f) l.signals l.balises)
      balise_walked g h =
          starts_reached (balise_bytes f) l.signals x (balise_bytes_pos f) l.balises
          (reach_alike (size_at_pos f l) (balise_bytes f) l.signals size_balise
          (reach_rest (size_at_pos f l) reach_turnouts (starts_between (size_at f l) l.end x l.starts m).reached g) (omega arith)) h

      -- in the file
      pub start_fits : x + size_at f l x ≤ l.end
      start_fits = start_ends l.end reach_stop start_below

  -- ---- the boundaries are records

  boundary_reached : (i : ℕ) → l.starts + boundary_size * i < l.turnouts → Memᴰ (l.starts + boundary_size * i) (starts f l)
  boundary_reached i h =
      let e : l.starts + i * boundary_size ≡ l.starts + boundary_size * i = omega arith in
      starts_reached (size_at f l) l.end (l.starts + boundary_size * i) (size_at_pos f l) l.starts
      (subst (Reach (size_at f l) l.starts) e (reach_fixed (size_at f l) boundary_size i l.starts (omega arith) (λ y p q. size_boundary y (omega arith)))) (omega arith)

  pub start_boundary : (i : ℕ) → i < l.n → Memᴰ (l.starts + boundary_size * i) (starts f l) × (kind_at l (l.starts + boundary_size * i) ≡ StartBoundary)
  start_boundary i h = (boundary_reached i (omega arith), kind_start (l.starts + boundary_size * i) (omega arith))

  pub end_boundary : (j : ℕ) → j < l.k → Memᴰ (l.ends + boundary_size * j) (starts f l) × (kind_at l (l.ends + boundary_size * j) ≡ EndBoundary)
  end_boundary j h =
      let e : l.starts + boundary_size * (l.n + j) ≡ l.ends + boundary_size * j = omega arith in (
        subst (λ (x : ℕ). Memᴰ x (starts f l)) e (boundary_reached (l.n + j) (omega arith)),
        kind_end (l.ends + boundary_size * j) (omega arith) (omega arith),
      )
