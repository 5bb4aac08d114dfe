-- What an accepted call says: it passed every test.
use Prim.Native.Nat.{ℕ, ◌+◌, ◌-◌, ◌≤◌, ◌<◌}
use mathlib.Core.Path.{◌≡◌, refl}
use mathlib.Core.Bool.{Bool, true, false, ◌&&◌, ◌||◌}
use mathlib.Core.List.{List}
use mathlib.Core.Logic.{◌⊎◌, inl, inr, ⊎_elim}
use lib.ListN.{length, take, length-drop}
use lib.Dec.{eqb, leb, ltb}
use native.Mathlib.Omega.{arith}
use borrow.Author.Tests.{eqb-true, leb-true, ltb-true}
use Rattle.verdict.specs.declared.Reason.{Reason}
use Rattle.verdict.specs.declared.Fault.{Fault}
use Rattle.verdict.specs.Verdicts.{Verdict}
use Rattle.std.specs.Prelude.{Ok, Err}
use Rattle.verdict.proofs.Orders.{and-true}
use Rattle.envelope.specs.Seal.{most_length}
use Rattle.seven_bits.specs.Numbers.{number_limit}
use Rattle.x1_verdict.specs.Facts as geography
use Rattle.x2_verdict.specs.Facts as application
use Rattle.transfer.specs.declared.Identity.{Identity}
use Rattle.transfer.specs.declared.State.{State}
use Rattle.transfer.specs.Calls.{ensure, and_then, least_of, is_askable, open_verdict, same, nth, stated_in, bytes_in, identity_of}
use Rattle.transfer.specs.Calls.{piece_judged, piece_verdict, ready_verdict, reader_of, finish_verdict}

pub never : (t : Fault) → ◌≡◌ {A = Verdict} (Err t) (Ok tt) → ⊥
never t e = let z : ◌≡◌ {A = ℕ} 0 1 = cc in omega arith

pub ensure_holds : (b : Bool) (r : Reason) (v : Verdict) → ensure b r v ≡ Ok tt → (b ≡ true) × (v ≡ Ok tt)
unfolding ensure
ensure_holds true r v e = (refl, e)
ensure_holds false r v e = absurd (never _ e)

then_holds : (a v : Verdict) → and_then a v ≡ Ok tt → (a ≡ Ok tt) × (v ≡ Ok tt)
unfolding and_then
then_holds (Ok tt) v e = (refl, e)
then_holds (Err t) v e = absurd (never t e)

pub same_is : (i j : Identity) → same i j ≡ true → i ≡ j
unfolding same
same_is i j e =
    let a = and-true _ _ e in
    let b = and-true _ _ a.1 in
    let c = and-true _ _ b.1 in
    let d = and-true _ _ c.1 in
    let p = eqb-true _ _ a.0 in
    let q = eqb-true _ _ b.0 in
    let r = eqb-true _ _ c.0 in
    let s = eqb-true _ _ d.0 in
    let t = eqb-true _ _ d.1 in
    λ k. record { station = p k; kind = q k; version = r k; total = s k; trailer = t k }

-- ---- a granted opening

pub record Opens (i : Identity) (room : ℕ) : Type 0 where
  pub kind : (i.kind ≡ geography.file_type) ⊎ (i.kind ≡ application.file_type)
  pub station : i.station < number_limit
  pub version : i.version < number_limit
  pub trailer : i.trailer < number_limit
  pub least : least_of i.kind ≤ i.total
  pub most : i.total ≤ most_length
  pub roomy : i.total ≤ room

or-true : (a b : Bool) → (a || b) ≡ true → (a ≡ true) ⊎ (b ≡ true)
or-true true b e = inl refl
or-true false b e = inr e

pub opens : (i : Identity) (room : ℕ) → open_verdict i room ≡ Ok tt → Opens i room
unfolding open_verdict is_askable
opens i room e =
    let a = ensure_holds _ _ _ e in
    let asked = and-true _ _ a.0 in
    let station = and-true (ltb i.station number_limit) _ asked.1 in
    let version = and-true (ltb i.version number_limit) _ station.1 in
    let b = and-true (leb (least_of i.kind) i.total) _ (ensure_holds _ _ _ a.1).0 in
    let c = and-true (leb i.total most_length) _ b.1 in
    record {
      kind =
          ⊎_elim (λ h. inl (eqb-true _ _ h)) (λ h. inr (eqb-true _ _ h))
          (or-true (eqb i.kind geography.file_type) (eqb i.kind application.file_type) asked.0);
      station = ltb-true _ _ station.0;
      version = ltb-true _ _ version.0;
      trailer = ltb-true _ _ version.1;
      least = leb-true _ _ b.0;
      most = leb-true _ _ c.0;
      roomy = leb-true _ _ c.1;
    }

-- ---- an accepted piece

pub record Passed (t : State) (s : List ℕ) (room : ℕ) : Type 0 where
  pub good : (stated_in s).good ≡ true
  pub opened : t.opened ≡ true
  pub same : (stated_in s).identity ≡ t.identity
  pub start : (stated_in s).start ≡ t.due
  pub some : 0 < length (bytes_in s)
  pub count : (stated_in s).count ≡ length (bytes_in s)
  pub within : t.due + length (bytes_in s) ≤ t.identity.total
  pub roomy : t.identity.total ≤ room

-- the last two of nine tests
last_two : (a b c d e f g x y : Bool) → (a && (b && (c && (d && (e && (f && (g && (x && y)))))))) ≡ true → (x ≡ true) × (y ≡ true)
last_two a b c d e f g x y h =
    let rest : (p q : Bool) → (p && q) ≡ true → q ≡ true = λ p q k. (and-true p q k).1 in
    and-true x y (rest g _ (rest f _ (rest e _ (rest d _ (rest c _ (rest b _ (rest a _ h)))))))

good_says : (s : List ℕ) → (stated_in s).good ≡ true
    → (ltb (stated_in s).from (length s) ≡ true) × (eqb (stated_in s).count (length s - (stated_in s).from) ≡ true)
unfolding stated_in
good_says s e = last_two (nth s 0).good (nth s 1).good (nth s 2).good (nth s 3).good (nth s 4).good (nth s 5).good (nth s 6).good _ _ e

pub counted : (s : List ℕ) → (stated_in s).good ≡ true → (0 < length (bytes_in s)) × ((stated_in s).count ≡ length (bytes_in s))
unfolding bytes_in
counted s e =
    let j : (stated_in s).from < length s = ltb-true _ _ (good_says s e).0 in
    let k : (stated_in s).count ≡ length s - (stated_in s).from = eqb-true _ _ (good_says s e).1 in
    (simp length-drop (omega arith), simp length-drop k)

pub passed : (t : State) (s : List ℕ) (room : ℕ) → piece_verdict t s room ≡ Ok tt → Passed t s room
unfolding piece_judged
passed t s room e =
    let a = ensure_holds _ _ _ e in
    let b = ensure_holds _ _ _ a.1 in
    let c = ensure_holds _ _ _ b.1 in
    let d = ensure_holds _ _ _ c.1 in
    let f = ensure_holds _ _ _ d.1 in
    let g = and-true _ _ b.0 in
    let n = counted s a.0 in
    let start : (stated_in s).start ≡ t.due = eqb-true _ _ c.0 in
    let within : (stated_in s).start + (stated_in s).count ≤ t.identity.total = leb-true _ _ d.0 in
    record {
      good = a.0;
      opened = g.0;
      same = same_is _ _ g.1;
      start = start;
      some = n.0;
      count = n.1;
      within = omega (arith, n.1);
      roomy = leb-true _ _ f.0;
    }

-- ---- an accepted finishing

pub record Ended (t : State) (room : List ℕ) : Type 0 where
  pub opened : t.opened ≡ true
  pub whole : t.due ≡ t.identity.total
  pub roomy : t.identity.total ≤ length room
  pub accepted : reader_of t.identity.kind (take t.identity.total room) ≡ Ok tt
  pub same : identity_of (take t.identity.total room) ≡ t.identity

pub is_ready : (t : State) (room : ℕ) → ready_verdict t room ≡ Ok tt → (t.opened ≡ true) × (t.due ≡ t.identity.total) × (t.identity.total ≤ room)
unfolding ready_verdict
is_ready t room e =
    let a = ensure_holds _ _ _ e in
    let b = ensure_holds _ _ _ a.1 in
    let g = and-true t.opened _ a.0 in
    (g.0, eqb-true _ _ g.1, leb-true _ _ b.0)

pub ended : (t : State) (room : List ℕ) → finish_verdict t room ≡ Ok tt → Ended t room
unfolding finish_verdict
ended t room e =
    let c = then_holds _ _ e in
    let r = is_ready t (length room) c.0 in
    let d = then_holds _ _ c.1 in
    record {
      opened = r.0;
      whole = r.1;
      roomy = r.2;
      accepted = d.0;
      same = same_is _ _ (ensure_holds _ _ _ d.1).0;
    }
