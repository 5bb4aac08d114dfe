-- A name by itself and the field that holds it. What is written for a right name is a name by the rule, of as many bytes, and is read back as it
-- was; and whatever is a name by the rule was written so for the name that is read from it. Both ways go byte by byte.
use Prim.Native.Nat.{ℕ, ◌+◌, ◌-◌, ◌≤◌, ◌<◌}
use mathlib.Core.Path.{◌≡◌, refl, sym, ap, ◌∙◌}
use mathlib.Core.List.{List}
use mathlib.Core.Logic.{⊎_elim}
use native.Mathlib.Omega.{arith}
use lib.ListN.{length, get_or, take, replicate, length-take, length-append, length-replicate, get_or-replicate, get_or-append, get_or-eq_default}
use lib.Seq.{get_or-take, take-append_seam, get_or-append-add, ext_get_or}
use Rattle.verdict.proofs.Orders.{le-or-lt}
use Rattle.names.specs.Names.{byte_after, IsName}
use Rattle.names.specs.Written.{RightName, written, field_at, HoldsName, read_name}
use Rattle.names.proofs.Names.{name_length_lem}
use Rattle.names.proofs.Spelling.{field_entry}

-- ---- what is written for a list of bytes

all_zero : (m k : ℕ) → ◌≡◌ {A = ℕ} (get_or (replicate m 0) k 0) 0
all_zero m k =
    ⊎_elim (λ (l : m ≤ k). get_or-eq_default (replicate m 0) 0 (omega (arith, length-replicate {A = ℕ} m 0))) (λ (l : k < m). get_or-replicate m k 0 0 l) (le-or-lt m k)

module _ (name : List ℕ) where
  its_own : (k : ℕ) → k < length name → get_or (written name) k 0 ≡ get_or name k 0
  unfolding written
  its_own k h = get_or-append name (replicate (8 - length name) 0) 0 k h

  after_it : (k : ℕ) → length name ≤ k → get_or (written name) k 0 ≡ 0
  unfolding written
  after_it k h =
      let e : k ≡ length name + (k - length name) = omega arith in
      rw e (get_or-append-add name (replicate (8 - length name) 0) (k - length name) 0 ∙ all_zero (8 - length name) (k - length name))

  written_length : length name ≤ 8 → length (written name) ≡ 8
  unfolding written
  written_length h = omega (arith, length-append name (replicate (8 - length name) 0), length-replicate {A = ℕ} (8 - length name) 0)

pub field_length : (f : List ℕ) (p : ℕ) → length (field_at f p) ≡ 8
unfolding field_at
field_length f p = refl

-- ---- from a name to its field

module _ (f : List ℕ) (p : ℕ) (name : List ℕ) (right : RightName name) (holds : HoldsName f p name) where
  entry : (k : ℕ) → k < 8 → byte_after f p k ≡ get_or (written name) k 0
  entry k h = sym (field_entry f p k h) ∙ ap (λ (l : List ℕ). get_or l k 0) holds

  inside : (k : ℕ) → k < length name → byte_after f p k ≡ get_or name k 0
  inside k h = entry k (omega (arith, right.room)) ∙ its_own name k h

  -- THEOREM (02, ticket 10): a field that holds a right name is a name by the rule, of as many bytes ..
  pub name_held : IsName f p (length name)
  name_held = record {
    room = right.room;
    bytes = λ k l. let e = inside k l in let b = right.bytes k l in (omega (arith, e, b.0), omega (arith, e, b.1));
    first = λ o e. right.first o (sym (inside 0 o) ∙ e);
    last = λ o e. right.last o (sym (inside (length name - 1) (omega arith)) ∙ e);
    rest = λ k l h. entry k h ∙ after_it name k l;
  }

  -- .. and that name is read from it.
  pub name_back : read_name f p ≡ name
  unfolding read_name written
  name_back = rw (← name_length_lem name_held, holds) (take-append_seam name (replicate (8 - length name) 0))

-- THEOREM (02, ticket 10): a field holds at most one right name.
pub one_name : (f : List ℕ) (p : ℕ) (a b : List ℕ) → RightName a → RightName b → HoldsName f p a → HoldsName f p b → a ≡ b
one_name f p a b ra rb ha hb = sym (name_back f p a ra ha) ∙ name_back f p b rb hb

-- ---- from a field to its name

module _ (f : List ℕ) (p count : ℕ) (r : IsName f p count) where
  read : read_name f p ≡ take count (field_at f p)
  unfolding read_name
  read = rw (← name_length_lem r) refl

  -- THEOREM (02, ticket 10): the name that is read from a field that is a name by the rule has as many bytes, ..
  pub read_length : length (read_name f p) ≡ count
  read_length = rw read (omega (arith, length-take count (field_at f p), field_length f p, r.room))

  read_entry : (k : ℕ) → k < count → get_or (read_name f p) k 0 ≡ byte_after f p k
  read_entry k h = rw read (get_or-take count (field_at f p) k 0 h ∙ field_entry f p k (omega (arith, r.room)))

  -- .. is right, ..
  pub read_right : RightName (read_name f p)
  read_right =
      let n = read_length in
      record {
        room = omega (arith, r.room);
        bytes = λ k l. let e = read_entry k (omega arith) in let b = r.bytes k (omega arith) in (omega (arith, e, b.0), omega (arith, e, b.1));
        first = λ o e. r.first (omega arith) (sym (read_entry 0 (omega arith)) ∙ e);
        last = λ o e. r.last (omega arith) (sym (read_entry (count - 1) (omega arith)) ∙ (rw n at e));
      }

  -- .. and the field holds it.
  pub read_held : HoldsName f p (read_name f p)
  read_held =
      let name = read_name f p in
      let n = read_length in
      let l = field_length f p in
      let w = written_length name (omega (arith, r.room)) in
      ext_get_or 0 (field_at f p) (written name) (l ∙ sym w) (
      λ k h.
      field_entry f p k (omega arith)
      ∙ ⊎_elim
      (λ (past : count ≤ k). r.rest k past (omega arith) ∙ sym (after_it name k (omega arith)))
      (λ (below : k < count). sym (its_own name k (omega arith) ∙ read_entry k below))
      (le-or-lt count k)
      )
