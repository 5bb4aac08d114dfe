-- THEOREMS over any sequence of calls of a C host of the loader (02, ticket 6): it goes through the loader's own states and rooms and is answered the
-- loader's own numbers and places. So what crate transfer_theorems proves of any sequence of calls holds of it, and since an opening that returned 0
-- it holds whatever the bytes of the state were before.
use Prim.Native.Nat.{ℕ, ◌≤◌}
use native.Mathlib.Omega.{arith}
use mathlib.Core.Path.{◌≡◌, refl, sym, ap, subst, ◌∙◌}
use mathlib.Core.List.{List, [], ◌∷◌, ◌++◌, Memᴰ}
use lib.ListN.{length, take, drop}
use lib.Dec.{leb}
use borrow.Author.Tests.{leb-true, le-leb}
use Rattle.verdict.specs.declared.Reason.TheVariants.{Room}
use Rattle.verdict.specs.Verdicts.{Verdict}
use Rattle.std.specs.Prelude.{Ok, Err}
use Rattle.verdict.specs.Reasons.{number_in, place_in}
use Rattle.verdict.proofs.Questions.{some_number}
use Rattle.octets.specs.Octets.{num_at}
use Rattle.envelope.specs.Seal.{data_at}
use Rattle.transfer.specs.declared.Identity.{Identity}
use Rattle.transfer.specs.declared.State.{State}
use Rattle.transfer.specs.Calls.{ensure, and_then, changed, open_verdict, opened, open_step, stated_in, piece_verdict, moved, piece_step, piece_room}
use Rattle.transfer.proofs.Answers.{never, ensure_holds}
use Rattle.transfer_theorems.specs.Runs.{Call, opening, piece, finishing, World, answer, after, run, taken_since, run_since, Gathered, OneVersion}
use Rattle.transfer_theorems.proofs.Runs.{since_opening, one_version, never_joined}
use Rattle.c_values.specs.Words.{number_part}
use Rattle.c_values.specs.Shown.{words_leave, leaves}
use Rattle.c_values.specs.Load.{state_size, state_in, state_words, state_answer, open_leaves, piece_leaves}
use Rattle.export_theorems.specs.TakenApart.{TakenApart}
use Rattle.export_theorems.specs.Load.{Host, world_in, room_lent, Lent, returned, host_after, host_run, called}
use Rattle.export_theorems.proofs.Load.{Small, granted_small, moved_small, opened_back, moved_back, opening_kept, read_small, state_length, call_parts}

-- ---- one call

-- the state is as long as one is, and each number in it fits
record Sound (b : List ℕ) : Type 0 where
  pub long : state_size ≤ length b
  pub small : Small (state_in b)

lent_sound : (b : List ℕ) → Lent b → Sound b
lent_sound b l = record { long = l.long; small = read_small b l.bytes }

-- what the bytes hold after a call is what the call makes of the state that they held
same_state : (v : Verdict) (new : State) (b : List ℕ) → (v ≡ Ok tt → state_in (words_leave (state_words new) b) ≡ new)
    → state_in (leaves (state_answer v new) b) ≡ changed v new (state_in b)
unfolding changed
same_state (Ok tt) new b back = back refl
same_state (Err f) new b back = refl

opened_same : (b : List ℕ) (i : Identity) (n : ℕ) → state_size ≤ length b → state_in (open_leaves b i n) ≡ (open_step (state_in b) i n).state
unfolding open_step
opened_same b i n long = same_state (open_verdict i n) (opened i) b (opened_back b i n long)

moved_same : (b s : List ℕ) (n : ℕ) → Small (state_in b) → state_in (piece_leaves b s n) ≡ (piece_step (state_in b) s n).state
unfolding piece_step
moved_same b s n small = same_state (piece_verdict (state_in b) s n) (moved (state_in b) s) b (moved_back b s n small)

-- after it the bytes hold what the loader goes on with
same_world : (h : Host) (c : Call) → Sound h.state → world_in (host_after h c) ≡ after (world_in h) c
unfolding host_after after
same_world h (opening n i) s =
    ap (λ (t : State). record { state = t; room = h.room }) (opened_same h.state i (length (room_lent n h)) s.long)
same_world h (piece n p) s =
    ap (λ (t : State). record { state = t; room = piece_room (state_in h.state) p (room_lent n h) ++ drop n h.room })
    (moved_same h.state p (length (room_lent n h)) s.small)
same_world h (finishing n) s = refl

-- where the state is long enough its length has no say
then_enough : (v : Verdict) (b : List ℕ) → state_size ≤ length b → and_then v (ensure (leb state_size (length b)) Room (Ok tt)) ≡ v
unfolding and_then ensure
then_enough (Ok tt) b long = rw (le-leb state_size (length b) long)
then_enough (Err f) b long = refl

same_answer : (h : Host) (c : Call) → state_size ≤ length h.state → called h c ≡ answer (world_in h) c
unfolding called answer
same_answer h (opening n i) long = then_enough (open_verdict i (length (room_lent n h))) h.state long
same_answer h (piece n s) long = refl
same_answer h (finishing n) long = refl

small_changed : (v : Verdict) (new old : State) → (v ≡ Ok tt → Small new) → Small old → Small (changed v new old)
unfolding changed
small_changed (Ok tt) new old m k = m refl
small_changed (Err f) new old m k = k

small_after : (h : Host) (c : Call) → Small (state_in h.state) → Small (after (world_in h) c).state
unfolding after open_step piece_step
small_after h (opening n i) m = small_changed (open_verdict i (length (room_lent n h))) (opened i) (state_in h.state) (granted_small i _) m
small_after h (piece n s) m =
    let t = state_in h.state in
    small_changed (piece_verdict t s (length (room_lent n h))) (moved t s) t (λ e. moved_small t s _ e m) m
small_after h (finishing n) m = m

sound_after : (h : Host) (c : Call) → Sound h.state → Sound (host_after h c).state
sound_after h c s = record {
  long = omega (arith, state_length h c, s.long);
  small = subst Small (sym (ap (λ (w : World). w.state) (same_world h c s))) (small_after h c s.small);
}

-- ---- a run of calls

sound_run : (cs : List Call) (h : Host) → Sound h.state → Sound (host_run h cs).state
unfolding host_run
sound_run [] h s = s
sound_run (c ∷ cs) h s = sound_run cs (host_after h c) (sound_after h c s)

same_run : (cs : List Call) (h : Host) → Sound h.state → world_in (host_run h cs) ≡ run (world_in h) cs
unfolding host_run run
same_run [] h s = refl
same_run (c ∷ cs) h s = same_run cs (host_after h c) (sound_after h c s) ∙ ap (λ (w : World). run w cs) (same_world h c s)

-- THEOREM: after any run of calls the host holds the state and the room that the loader has
pub c_runs : (h : Host) → Lent h.state → (cs : List Call) → world_in (host_run h cs) ≡ run (world_in h) cs
c_runs h l cs = same_run cs h (lent_sound h.state l)

answers_as : (h : Host) (c : Call) (v : Verdict) → called h c ≡ v → TakenApart (returned h c) (number_in v) 0 (place_in v)
answers_as h c v e = subst (λ (x : Verdict). TakenApart (returned h c) (number_in x) 0 (place_in x)) e (call_parts h c)

-- THEOREM: at any call after any run it is returned the loader's number and place, and file 0
pub c_answers : (h : Host) → Lent h.state → (cs : List Call) (c : Call)
    → TakenApart (returned (host_run h cs) c) (number_in (answer (run (world_in h) cs) c)) 0 (place_in (answer (run (world_in h) cs) c))
c_answers h l cs c =
    let s = lent_sound h.state l in
    answers_as (host_run h cs) c (answer (run (world_in h) cs) c)
    (same_answer (host_run h cs) c (sound_run cs h s).long ∙ ap (λ (w : World). answer w c) (same_run cs h s))

-- ---- since an opening that returned 0, whatever the bytes were before

accepted_by : (v : Verdict) → number_in v ≡ 0 → v ≡ Ok tt
accepted_by (Ok tt) e = refl
accepted_by (Err f) e = absurd (some_number f.reason e)

called_accepted : (h : Host) (c : Call) → number_part (returned h c) ≡ 0 → called h c ≡ Ok tt
called_accepted h c e = accepted_by (called h c) (sym (call_parts h c).number_is ∙ e)

both : (v : Verdict) (b : List ℕ) → and_then v (ensure (leb state_size (length b)) Room (Ok tt)) ≡ Ok tt → (v ≡ Ok tt) × (state_size ≤ length b)
unfolding and_then
both (Ok tt) b e = (refl, leb-true _ _ (ensure_holds (leb state_size (length b)) Room (Ok tt) e).0)
both (Err f) b e = absurd (never f e)

module _ (h : Host) (n : ℕ) (i : Identity) (zero : number_part (returned h (opening n i)) ≡ 0) where
  granted : (open_verdict i (length (room_lent n h)) ≡ Ok tt) × (state_size ≤ length h.state)
  unfolding called
  granted = both (open_verdict i (length (room_lent n h))) h.state (called_accepted h (opening n i) zero)

  opened_sound : Sound (host_after h (opening n i)).state
  unfolding host_after
  opened_sound = record {
    long = omega (arith, state_length h (opening n i), granted.1);
    small = subst Small (sym (opening_kept h.state i _ granted.1 granted.0)) (granted_small i _ granted.0);
  }

  opened_world : world_in (host_after h (opening n i)) ≡ after (world_in h) (opening n i)
  unfolding host_after after
  opened_world = ap (λ (t : State). record { state = t; room = h.room }) (opened_same h.state i (length (room_lent n h)) granted.1)

  loader_opens : answer (world_in h) (opening n i) ≡ Ok tt
  unfolding answer
  loader_opens = granted.0

  module _ (cs : List Call) where
    since : world_in (host_run h (opening n i ∷ cs)) ≡ run_since (world_in h) n i cs
    unfolding host_run run_since
    since = same_run cs (host_after h (opening n i)) opened_sound ∙ ap (λ (w : World). run w cs) opened_world

    -- THEOREM: the room holds the pieces that were accepted since, and the state says so
    pub c_since_opening : Gathered (taken_since (world_in h) n i cs) (world_in (host_run h (opening n i ∷ cs)))
    c_since_opening = subst (λ (w : World). Gathered (taken_since (world_in h) n i cs) w) (sym since) (since_opening (world_in h) n i loader_opens cs)

    module _ (m : ℕ) (whole : number_part (returned (host_run h (opening n i ∷ cs)) (finishing m)) ≡ 0) where
      loader_finishes : answer (run_since (world_in h) n i cs) (finishing m) ≡ Ok tt
      unfolding called answer
      loader_finishes = ap (λ (w : World). answer w (finishing m)) (sym since) ∙ called_accepted (host_run h (opening n i ∷ cs)) (finishing m) whole

      -- THEOREM: a finishing that returns 0 then has one version in the room
      pub c_one_version : OneVersion (taken_since (world_in h) n i cs) (host_run h (opening n i ∷ cs)).room
      c_one_version =
          subst (λ (w : World). OneVersion (taken_since (world_in h) n i cs) w.room) (sym since)
          (one_version (world_in h) n i loader_opens cs m loader_finishes)

      -- THEOREM: the incident, the head of one data version and the tail of the next, does not happen to it
      pub c_never_joined :
          (head tail : List ℕ) → Memᴰ head (taken_since (world_in h) n i cs).pieces → Memᴰ tail (taken_since (world_in h) n i cs).pieces
          → ((stated_in head).identity ≡ (stated_in tail).identity)
          × ((stated_in tail).identity.version
          ≡ num_at 2 (take (taken_since (world_in h) n i cs).identity.total (host_run h (opening n i ∷ cs)).room) data_at)
      c_never_joined head tail p q =
          let e = never_joined (world_in h) n i loader_opens cs m loader_finishes head tail p q in
          (e.0, e.1 ∙ ap (λ (w : World). num_at 2 (take (taken_since (world_in h) n i cs).identity.total w.room) data_at) (sym since))
