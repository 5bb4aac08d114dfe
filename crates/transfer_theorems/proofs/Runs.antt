-- THEOREMS over any sequence of calls (02, ticket 6): what the room holds since a granted opening; that a refused call changes nothing; and what an
-- accepted finishing says of the bytes.
use Prim.Native.Nat.{ℕ, ◌+◌, ◌≤◌}
use mathlib.Core.Path.{◌≡◌, refl, sym, ap, ◌∙◌, subst}
use mathlib.Core.Bool.{true}
use mathlib.Core.Logic.{⊎_elim}
use mathlib.Core.List.Memᴰ
use mathlib.Core.List.{List, [], ◌∷◌, ◌++◌, append_assoc, append-nil, Memᴰ}
use lib.ListN.{length, take, drop, length-append, length-take, take-append-drop}
use lib.Seq.{paste, take-take, drop-drop}
use native.Mathlib.Omega.{arith}
use native.Mathlib.Nat.{add-zero}
use Rattle.verdict.specs.declared.Fault.{Fault}
use Rattle.verdict.specs.Verdicts.{Verdict}
use Rattle.std.specs.Prelude.{Ok, Err}
use Rattle.octets.specs.Octets.{num_at}
use Rattle.envelope.specs.Seal.{data_at}
use Rattle.transfer.specs.declared.Identity.{Identity}
use Rattle.transfer.specs.declared.State.{State}
use Rattle.transfer.specs.Calls.{changed, opened, moved, open_verdict, open_step, stated_in, bytes_in, piece_verdict, piece_step, piece_room, finish_verdict}
use Rattle.transfer.specs.Calls.{reader_of, identity_of}
use Rattle.transfer.proofs.Answers.{never, Passed, passed, Ended, ended}
use Rattle.transfer_theorems.specs.Runs.{Call, opening, piece, finishing, World, lent, answer, after, run, accepted_in, Taken, fresh, more, note, taken}
use Rattle.transfer_theorems.specs.Runs.{taken_since, run_since, joined, counts, Placed, none, next, Gathered, Finished, OneVersion}
use Rattle.transfer_theorems.proofs.Rooms.{paste_lent, take_laid, drop_laid, length_laid}

-- ---- joined pieces

joined-more : (ss : List (List ℕ)) (s : List ℕ) → joined (ss ++ (s ∷ [])) ≡ joined ss ++ bytes_in s
unfolding joined
joined-more [] s = append-nil (bytes_in s)
joined-more (x ∷ ss) s = ap (λ (y : List ℕ). bytes_in x ++ y) (joined-more ss s) ∙ sym (append_assoc (bytes_in x) (joined ss) (bytes_in s))

counts_more : (ss : List (List ℕ)) (s : List ℕ) → counts (ss ++ (s ∷ [])) ≡ counts ss + (stated_in s).count
unfolding counts
counts_more [] s = omega arith
counts_more (x ∷ ss) s = let h = counts_more ss s in omega arith

placed_more : (n m : ℕ) (ss : List (List ℕ)) (s : List ℕ) → Placed n ss → m ≡ n + length (joined ss) → (stated_in s).start ≡ m → Placed n (ss ++ (s ∷ []))
unfolding joined
placed_more n m [] s p e q = next (q ∙ e ∙ add-zero n) none
placed_more n m (x ∷ ss) s (next h p) e q =
    next h (placed_more (n + length (bytes_in x)) m ss s p (e ∙ omega (arith, length-append (bytes_in x) (joined ss))) q)

-- ---- one call

-- nothing has been taken since the opening
nothing_yet : (w : World) (i : Identity) → Gathered (fresh i w.room) (record { state = opened i; room = w.room })
unfolding joined counts
nothing_yet w i = record {
  opened = refl;
  identity = refl;
  held = refl;
  due = refl;
  sum = refl;
  stated = λ s m. absurd (Memᴰ.not-nil m);
  placed = none;
  behind = refl;
  whole = refl;
}

opening_keeps : (v : Verdict) (w : World) (l : Taken) (i : Identity) → Gathered l w
    → Gathered (changed v (fresh i w.room) l) (record { state = changed v (opened i) w.state; room = w.room })
unfolding changed
opening_keeps (Ok tt) w l i g = nothing_yet w i
opening_keeps (Err t) w l i g = g

-- what an accepted piece adds
piece_adds : (w : World) (l : Taken) (n : ℕ) (s : List ℕ) → Passed w.state s (length (lent n w)) → Gathered l w
    → Gathered (more l s)
    (record {
      state = moved w.state s;
      room = paste (lent n w) (stated_in s).start (bytes_in s) (length (bytes_in s)) ++ drop n w.room;
    })
piece_adds w l n s p g =
    let b = bytes_in s in
    let at = (stated_in s).start in
    let due : at ≡ w.state.due = p.start in
    let short : at + length b ≤ length (lent n w) = omega (arith, p.within, p.roomy) in
    let fits : at + length b ≤ length w.room = omega (arith, length-take n w.room) in
    let inside : at ≤ length w.room = omega arith in
    let held : take at w.room ≡ joined l.pieces = ap (λ (k : ℕ). take k w.room) due ∙ g.held in
    let behind : drop at w.room ≡ drop at l.base = rw (← due) at g.behind in
    let longer : joined (l.pieces ++ (s ∷ [])) ≡ joined l.pieces ++ b = joined-more l.pieces s in
    let laid = paste_lent w.room b at n short in
    record {
      opened = g.opened;
      identity = g.identity;
      held = ap (take (at + length b)) laid ∙ take_laid w.room b at inside ∙ ap (λ (x : List ℕ). x ++ b) held ∙ sym longer;
      due = ap (λ (k : ℕ). k + length b) (due ∙ g.due) ∙ sym (ap length longer ∙ length-append (joined l.pieces) b);
      sum = omega (arith, counts_more l.pieces s, p.count, g.sum, due);
      stated = λ x m. ⊎_elim (λ h. g.stated x h) (λ h. subst (λ (y : List ℕ). ((stated_in y).good ≡ true) × ((stated_in y).identity ≡ l.identity)) (sym (Memᴰ.eq_of_singleton h)) (p.good, p.same ∙ g.identity)) (Memᴰ.append_cases l.pieces m);
      placed = placed_more 0 w.state.due l.pieces s g.placed (omega (arith, g.due)) due;
      behind =
          ap (drop (at + length b)) laid
          ∙ drop_laid w.room b at inside
          ∙ sym (drop-drop (length b) at w.room)
          ∙ ap (drop (length b)) behind
          ∙ drop-drop (length b) at l.base;
      whole = ap length laid ∙ length_laid w.room b at fits ∙ g.whole;
    }

piece_keeps : (w : World) (l : Taken) (n : ℕ) (s : List ℕ) (v : Verdict) → piece_verdict w.state s (length (lent n w)) ≡ v → Gathered l w
    → Gathered (changed v (more l s) l)
    (record {
      state = changed v (moved w.state s) w.state;
      room = changed v (paste (lent n w) (stated_in s).start (bytes_in s) (length (bytes_in s))) (lent n w) ++ drop n w.room;
    })
unfolding changed
piece_keeps w l n s (Ok tt) e g = piece_adds w l n s (passed w.state s (length (lent n w)) e) g
piece_keeps w l n s (Err t) e g = subst (λ (r : List ℕ). Gathered l (record { state = w.state; room = r })) (sym (take-append-drop n w.room)) g

keeps : (w : World) (c : Call) (l : Taken) → Gathered l w → Gathered (note w c l) (after w c)
unfolding note after open_step piece_step piece_room
keeps w (opening n i) l g = opening_keeps (open_verdict i (length (lent n w))) w l i g
keeps w (piece n s) l g = piece_keeps w l n s (piece_verdict w.state s (length (lent n w))) refl g
keeps w (finishing n) l g = g

-- ---- a run of calls

gathers : (cs : List Call) (w : World) (l : Taken) → Gathered l w → Gathered (taken w cs l) (run w cs)
unfolding run taken
gathers [] w l g = g
gathers (c ∷ cs) w l g = gathers cs (after w c) (note w c l) (keeps w c l g)

-- A granted opening forgets all, and writes no byte.
pub granted : (w : World) (n : ℕ) (i : Identity) → answer w (opening n i) ≡ Ok tt
    → after w (opening n i) ≡ record { state = opened i; room = w.room }
unfolding answer after open_step changed
granted w n i e = rw e

-- After any run of calls since a granted opening, whatever the state was before: the room's first bytes up to the next byte due are those of the pieces
-- accepted since, joined in order without gap; every one of them stated the identity that was opened; and what lies behind is as it was.
pub since_opening : (w : World) (n : ℕ) (i : Identity) → answer w (opening n i) ≡ Ok tt → (cs : List Call)
    → Gathered (taken_since w n i cs) (run_since w n i cs)
unfolding taken_since run_since
since_opening w n i e cs =
    gathers cs (after w (opening n i)) (fresh i w.room)
    (subst (λ (u : World). Gathered (fresh i w.room) u) (sym (granted w n i e)) (nothing_yet w i))

-- ---- what changes nothing

-- A refused call changes neither state nor room.
pub refused_keeps : (w : World) (c : Call) (t : Fault) → answer w c ≡ Err t → after w c ≡ w
unfolding answer after open_step piece_step piece_room changed
refused_keeps w (opening n i) t e = rw e
refused_keeps w (piece n s) t e = rw e (ap (λ (r : List ℕ). record { state = w.state; room = r }) (take-append-drop n w.room))
refused_keeps w (finishing n) t e = refl

-- So the calls that are refused may as well not have been made: a transfer that broke off goes on where it stopped.
pub resumes : (w : World) (cs : List Call) → run w cs ≡ run w (accepted_in w cs)
unfolding run accepted_in changed
resumes w [] = refl
resumes w (c ∷ cs) = by_answer (answer w c) refl (resumes (after w c) cs)
  where
    by_answer : (v : Verdict) → answer w c ≡ v → run (after w c) cs ≡ run (after w c) (accepted_in (after w c) cs)
        → run (after w c) cs ≡ run w (changed v (c ∷ accepted_in (after w c) cs) (accepted_in (after w c) cs))
    by_answer (Ok tt) e rest = rest
    by_answer (Err t) e rest = rest ∙ ap (λ (u : World). run u (accepted_in (after w c) cs)) (refused_keeps w c t e)

-- Finishing changes nothing.
pub finishing_keeps : (w : World) (n : ℕ) → after w (finishing n) ≡ w
unfolding after
finishing_keeps w n = refl

-- Openings write no byte.
pub openings_write_nothing : (w : World) (n : ℕ) (i : Identity) → (after w (opening n i)).room ≡ w.room
unfolding after
openings_write_nothing w n i = refl

-- ---- an accepted finishing

finished_as : (f : List ℕ) (i : Identity) → reader_of i.kind f ≡ Ok tt → identity_of f ≡ i → Finished f i
unfolding identity_of
finished_as f i v e = record {
  accepted = v;
  station = ap (λ (j : Identity). j.station) e;
  kind = ap (λ (j : Identity). j.kind) e;
  version = ap (λ (j : Identity). j.version) e;
  total = ap (λ (j : Identity). j.total) e;
  trailer = ap (λ (j : Identity). j.trailer) e;
}

-- what is asked of the file is what the pieces brought
file_is : (l : Taken) (w : World) (n : ℕ) → Gathered l w → Ended w.state (lent n w)
    → take w.state.identity.total (lent n w) ≡ joined l.pieces
file_is l w n g e =
    let m : w.state.identity.total ≤ n = omega (arith, e.roomy, length-take n w.room) in
    take-take w.state.identity.total n w.room m ∙ ap (λ (k : ℕ). take k w.room) (sym e.whole) ∙ g.held

finished : (l : Taken) (w : World) (n : ℕ) → Gathered l w → answer w (finishing n) ≡ Ok tt → OneVersion l w.room
unfolding answer
finished l w n g e =
    let d = ended w.state (lent n w) e in
    let f = finished_as _ _ d.accepted d.same in
    let total : l.identity.total ≡ w.state.due = ap (λ (i : Identity). i.total) (sym g.identity) ∙ sym d.whole in
    record {
      stands = ap (λ (k : ℕ). take k w.room) total ∙ g.held;
      stated = λ s m. (g.stated s m).1;
      file =
          subst (λ (i : Identity). Finished (joined l.pieces) i) g.identity
          (subst (λ (b : List ℕ). Finished b w.state.identity) (file_is l w n g d) f);
    }

-- A finishing that is accepted, after any run of calls since a granted opening, means: the reader accepts exactly the bytes of the pieces accepted
-- since the last granted opening, and their header, length and trailer are the identity's, which every one of these pieces stated.
pub one_version : (w : World) (n : ℕ) (i : Identity) → answer w (opening n i) ≡ Ok tt → (cs : List Call) (m : ℕ)
    → answer (run_since w n i cs) (finishing m) ≡ Ok tt → OneVersion (taken_since w n i cs) (run_since w n i cs).room
one_version w n i o cs m e = finished (taken_since w n i cs) (run_since w n i cs) m (since_opening w n i o cs) e

-- The incident: the head of one data version and the tail of the next. No accepted file holds bytes of pieces with two identities, and each of its
-- pieces stated the data version that stands in its header.
pub never_joined : (w : World) (n : ℕ) (i : Identity) → answer w (opening n i) ≡ Ok tt → (cs : List Call) (m : ℕ)
    → answer (run_since w n i cs) (finishing m) ≡ Ok tt
    → (head tail : List ℕ) → Memᴰ head (taken_since w n i cs).pieces → Memᴰ tail (taken_since w n i cs).pieces
    → ((stated_in head).identity ≡ (stated_in tail).identity) × ((stated_in tail).identity.version ≡ num_at 2 (take (taken_since w n i cs).identity.total (run_since w n i cs).room) data_at)
never_joined w n i o cs m e head tail p q =
    let h = one_version w n i o cs m e in (
      h.stated head p ∙ sym (h.stated tail q),
      ap (λ (j : Identity). j.version) (h.stated tail q) ∙ sym h.file.version ∙ ap (λ (f : List ℕ). num_at 2 f data_at) (sym h.stands),
    )
