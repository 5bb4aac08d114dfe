-- THEOREM: a file that the reader accepts, sent in pieces, arrives. So the loader refuses no one who keeps to the ticket.
use Prim.Native.Nat.{ℕ, zero, suc, ◌+◌, ◌*◌, ◌^◌, ◌≤◌, ◌<◌}
use mathlib.Core.Path.{◌≡◌, refl, sym, ap, ap₂, subst, ◌∙◌}
use mathlib.Core.Bool.{Bool, true, false, cond}
use mathlib.Core.Logic.{◌⊎◌, inl, inr, ⊎_elim}
use mathlib.Core.List.{List, [], ◌∷◌, ◌++◌, append_assoc, append-nil}
use lib.ListN.{length, take, drop, get_or, length-append, length-take}
use lib.Seq.{paste, take-take, take-length}
use lib.Dec.{eqb, leb}
use native.Mathlib.Omega.{arith}
use native.Mathlib.Nat.{pow-suc}
use borrow.Author.Tests.{eqb-true, eqb-false, le-leb, eq-eqb}
use Rattle.verdict.specs.Verdicts.{Verdict}
use Rattle.std.specs.Prelude.{Ok, Err}
use Rattle.verdict.proofs.Questions.{shown_accepted}
use Rattle.octets.specs.Octets.{num_at}
use Rattle.envelope.specs.Seal.{most_length}
use Rattle.x1_verdict.specs.Facts as geography
use Rattle.x1_obeys.proofs.Obeys as geography-obeys
use Rattle.x2_verdict.specs.Facts as application
use Rattle.x2_verdict.proofs.Obeys as application-obeys
use Rattle.seven_bits.specs.Numbers.{number_limit}
use Rattle.transfer.specs.declared.Identity.{Identity}
use Rattle.transfer.specs.declared.State.{State}
use Rattle.transfer.specs.declared.pieces.Stated.{Stated}
use Rattle.transfer.specs.Calls.{ensure, and_then, changed, same, identity_of, least_of, opened, open_verdict, open_step, stated_in, bytes_in, piece_judged}
use Rattle.transfer.specs.Calls.{piece_verdict, piece_step, piece_room, ready_verdict, reader_of, finish_verdict}
use Rattle.transfer.specs.Pieces.{piece_of, Fits, IsPiece}
use Rattle.transfer_theorems.specs.Checks.{Askable, Lengthy}
use Rattle.transfer_theorems.specs.Runs.{Call, opening, piece, finishing, World, lent, answer, after, run, accepted_in, run_since}
use Rattle.transfer_theorems.specs.Sent as sending
use Rattle.transfer_theorems.specs.Sent.{together, EachSome, sent, EachAccepted, Arrives}
use Rattle.transfer_theorems.proofs.Rooms.{paste_lent, take_laid, length_laid}
use Rattle.transfer_theorems.proofs.Forms.{states, Told, piece_told}
use Rattle.transfer_theorems.proofs.Runs.{granted, resumes}
use Rattle.transfer_theorems.proofs.Which.{same_self, same_so, askable_back, lengthy_back}

-- ---- what an accepted file's identity is

num_below : (n : ℕ) (f : List ℕ) (i : ℕ) → ((k : ℕ) → get_or f k 0 < 256) → num_at n f i < 256 ^ n
unfolding num_at
num_below zero f i bytes = omega arith
num_below (suc n) f i bytes = let h = num_below n f (i + 1) bytes in let b = bytes i in omega (arith, pow-suc 256 n)

-- a file that the reader of its type accepts: it is of type 1 or 2, and as long as a file of that type may be
record Right (f : List ℕ) : Type 0 where
  pub kind : ((identity_of f).kind ≡ 1) ⊎ ((identity_of f).kind ≡ 2)
  pub first : (identity_of f).kind ≡ 1 → 68 ≤ length f
  pub second : (identity_of f).kind ≡ 2 → 69 ≤ length f
  pub most : length f ≤ 65535

right : (f : List ℕ) → reader_of (identity_of f).kind f ≡ Ok tt → Right f
unfolding reader_of identity_of
right f e = by_type (eqb (num_at 1 f 0) 1) refl e
  where
    by_type : (t : Bool) → eqb (num_at 1 f 0) 1 ≡ t → cond t (geography.verdict_of f) (application.verdict_of f) ≡ Ok tt → Right f
    by_type true k v =
        let o = (geography-obeys.accepted_obeys f).0 ((shown_accepted _).0 v) in
        let is = eqb-true _ _ k in
        record { kind = inl is; first = λ h. o.least; second = λ h. absurd (omega arith); most = o.most }
    by_type false k v =
        let o = (application-obeys.accepted_obeys f).0 ((shown_accepted _).0 v) in
        let is = o.file_type in
        record { kind = inr is; first = λ h. absurd (omega arith); second = λ h. o.least; most = o.most }

fits : (f : List ℕ) → ((k : ℕ) → get_or f k 0 < 256) → length f ≤ 65535 → Fits (identity_of f)
unfolding identity_of
fits f bytes most = record {
  station = omega (arith, num_below 2 f 5 bytes);
  kind = omega (arith, num_below 1 f 0 bytes);
  version = omega (arith, num_below 2 f 3 bytes);
  total = omega arith;
  trailer = num_below 4 f _ bytes;
}

total-is : (f : List ℕ) → (identity_of f).total ≡ length f
unfolding identity_of
total-is f = refl

-- ---- a piece that is due is taken

abbrev loading : Identity → ℕ → State
loading i due = record { opened = true; identity = i; due = due }

module _ (i : Identity) (due n : ℕ) (b : List ℕ) (room : List ℕ) (p : IsPiece i due b (piece_of i due b))
    (inside : due + length b ≤ i.total) (roomy : i.total ≤ length (take n room)) where
  abbrev s : List ℕ
  s = piece_of i due b

  told : Told i due b s
  told = piece_told i due b s p

  bytes_are : bytes_in s ≡ b
  unfolding bytes_in
  bytes_are = ap (λ (q : Stated). drop q.from s) told.is ∙ told.behind

  accepted : piece_verdict (loading i due) s (length (take n room)) ≡ Ok tt
  unfolding piece_judged ensure
  accepted =
      rw (told.is, same_self i, eq-eqb due due refl, le-leb (due + length b) i.total inside, le-leb i.total (length (take n room)) roomy)

  after_is : after (record { state = loading i due; room = room }) (piece n s) ≡ record { state = loading i (due + length b); room = paste room due b (length b) }
  unfolding after piece_step piece_room changed
  after_is =
      let fits : due + length b ≤ length (take n room) = omega arith in
      rw accepted
      (ap₂ (λ (k : ℕ) (r : List ℕ). record { state = loading i k; room = r })
      (ap₂ (λ (k : ℕ) (l : List ℕ). k + length l) (ap (λ (q : Stated). q.start) told.is) bytes_are)
      (ap₂ (λ (k : ℕ) (l : List ℕ). paste (take n room) k l (length l) ++ drop n room) (ap (λ (q : Stated). q.start) told.is) bytes_are
      ∙ paste_lent room b due n fits))

-- ---- all pieces, one after the other

-- every call is accepted, and then all bytes have come: those of `file` stand in the room
record Went (i : Identity) (w : World) (cs : List Call) (file : List ℕ) : Type 0 where
  pub each : EachAccepted w cs
  pub state : (run w cs).state ≡ loading i i.total
  pub held : take i.total (run w cs).room ≡ file
  pub whole : length (run w cs).room ≡ length w.room

one_more : (i : Identity) (w u : World) (c : Call) (cs : List Call) (file : List ℕ) → answer w c ≡ Ok tt → after w c ≡ u → length u.room ≡ length w.room
    → Went i u cs file → Went i w (c ∷ cs) file
unfolding run
one_more i w u c cs file a e l g = record {
  each = sending.next a (subst (λ (x : World). EachAccepted x cs) (sym e) g.each);
  state = ap (λ (x : World). (run x cs).state) e ∙ g.state;
  held = ap (λ (x : World). take i.total (run x cs).room) e ∙ g.held;
  whole = ap (λ (x : World). length (run x cs).room) e ∙ g.whole ∙ l;
}

module _ (i : Identity) (n : ℕ) (small : Fits i) where
  goes_on : (parts : List (List ℕ)) → EachSome parts → (due : ℕ) (done room : List ℕ) → take due room ≡ done
      → due + length (together parts) ≡ i.total → i.total ≤ length (take n room)
      → Went i (record { state = loading i due; room = room }) (sent n i due parts) (done ++ together parts)
  unfolding sent together run answer
  goes_on [] sending.none due done room held all roomy =
      let total : i.total ≡ due = omega arith in
      record {
        each = sending.none;
        state = ap (loading i) (sym total);
        held = ap (λ (k : ℕ). take k room) total ∙ held ∙ sym (append-nil done);
        whole = refl;
      }
  goes_on (b ∷ bs) (sending.next some rest) due done room held all roomy =
      let lengths = length-append b (together bs) in
      let inside : due + length b ≤ i.total = omega arith in
      let fit = small.total in
      let p : IsPiece i due b (piece_of i due b) = record { laid = refl; some = some; fits = small; starts = omega arith; counts = omega arith } in
      let room' = paste room due b (length b) in
      let fits : due + length b ≤ length room = omega (arith, length-take n room) in
      let size : length room' ≡ length room = length_laid room b due fits in
      let roomy' : i.total ≤ length (take n room') = omega (arith, length-take n room, length-take n room') in
      let held' : take (due + length b) room' ≡ done ++ b = take_laid room b due (omega arith) ∙ ap (λ (l : List ℕ). l ++ b) held in
      let went = goes_on bs rest (due + length b) (done ++ b) room' held' (omega arith) roomy' in
      one_more i _ _ (piece n (piece_of i due b)) (sent n i (due + length b) bs) (done ++ (b ++ together bs))
      (accepted i due n b room p inside roomy) (after_is i due n b room p inside roomy) size
      (subst (λ (l : List ℕ). Went i (record { state = loading i (due + length b); room = room' }) (sent n i (due + length b) bs) l) (append_assoc done b (together bs)) went)

-- ---- the whole

opening_accepted : (f : List ℕ) (room : ℕ) → Right f → Fits (identity_of f) → length f ≤ room → open_verdict (identity_of f) room ≡ Ok tt
unfolding open_verdict ensure
opening_accepted f room r small h =
    let i = identity_of f in
    let total = total-is f in
    let asked : Askable i = record { kind = r.kind; station = small.station; version = small.version; trailer = small.trailer } in
    let long : Lengthy i room = record {
      first = λ k. subst (λ (m : ℕ). 68 ≤ m) (sym total) (r.first k);
      second = λ k. subst (λ (m : ℕ). 69 ≤ m) (sym total) (r.second k);
      most = subst (λ (m : ℕ). m ≤ 65535) (sym total) r.most;
      roomy = subst (λ (m : ℕ). m ≤ room) (sym total) h;
    } in
    rw (askable_back i room asked, lengthy_back i room asked long)

finishing_accepted : (t : State) (room f : List ℕ) → t.opened ≡ true → t.due ≡ t.identity.total → t.identity.total ≤ length room
    → take t.identity.total room ≡ f → reader_of t.identity.kind f ≡ Ok tt → identity_of f ≡ t.identity → finish_verdict t room ≡ Ok tt
unfolding finish_verdict ready_verdict and_then ensure
finishing_accepted t room f o come roomy held v e =
    rw (o, eq-eqb t.due t.identity.total come, le-leb t.identity.total (length room) roomy, held, v, same_so (identity_of f) t.identity e)

-- A file that the reader accepts, opened with its own identity in a room that holds it, and sent in pieces of any sizes, arrives.
pub arrives : (f : List ℕ) → ((k : ℕ) → get_or f k 0 < 256) → reader_of (identity_of f).kind f ≡ Ok tt
    → (parts : List (List ℕ)) → EachSome parts → together parts ≡ f
    → (w : World) (n : ℕ) → length f ≤ length (lent n w) → Arrives w n f parts
unfolding run_since answer
arrives f bytes v parts some all w n roomy =
    let r = right f v in
    let i = identity_of f in
    let small = fits f bytes r.most in
    let opens = opening_accepted f (length (lent n w)) r small roomy in
    let total = total-is f in
    let lengths = ap length all in
    let holds : i.total ≤ length (lent n w) = omega arith in
    let went = goes_on i n small parts some 0 [] w.room refl (omega arith) holds in
    let here = granted w n i opens in
    let cs = sent n i 0 parts in
    let end = run (after w (opening n i)) cs in
    let state : end.state ≡ loading i i.total = ap (λ (u : World). (run u cs).state) here ∙ went.state in
    let held : take i.total end.room ≡ f = ap (λ (u : World). take i.total (run u cs).room) here ∙ went.held ∙ all in
    let size : length end.room ≡ length w.room = ap (λ (u : World). length (run u cs).room) here ∙ went.whole in
    let inside : i.total ≤ length (take n end.room) = omega (arith, length-take n w.room, length-take n end.room) in
    let n_more : i.total ≤ n = omega (arith, length-take n w.room) in
    record {
      granted = opens;
      each = subst (λ (u : World). EachAccepted u cs) (sym here) went.each;
      finished =
          subst (λ (t : State). finish_verdict t (take n end.room) ≡ Ok tt) (sym state)
          (finishing_accepted (loading i i.total) (take n end.room) f refl refl inside (take-take i.total n end.room n_more ∙ held) v refl);
      stands = ap (λ (k : ℕ). take k end.room) (sym total) ∙ held;
    }

-- Broken off and resumed, it arrives too: whatever other calls are made between, if these are refused.
pub arrives_resumed : (f : List ℕ) → ((k : ℕ) → get_or f k 0 < 256) → reader_of (identity_of f).kind f ≡ Ok tt
    → (parts : List (List ℕ)) → EachSome parts → together parts ≡ f
    → (w : World) (n : ℕ) → length f ≤ length (lent n w)
    → (cs : List Call) → accepted_in (after w (opening n (identity_of f))) cs ≡ sending.sending n f parts
    → (answer (run_since w n (identity_of f) cs) (finishing n) ≡ Ok tt) × (take (length f) (run_since w n (identity_of f) cs).room ≡ f)
unfolding run_since
arrives_resumed f bytes v parts some all w n roomy cs e =
    let a = arrives f bytes v parts some all w n roomy in
    let u = after w (opening n (identity_of f)) in
    let same : run u (sending.sending n f parts) ≡ run u cs = sym (resumes u cs ∙ ap (λ (l : List Call). run u l) e) in
    (ap (λ (x : World). answer x (finishing n)) (sym same) ∙ a.finished, ap (λ (x : World). take (length f) x.room) (sym same) ∙ a.stands)
