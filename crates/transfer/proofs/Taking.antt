-- The ways out of the functions that read a piece and take it.
use Prim.Native.Nat.{ℕ, suc, ◌+◌, ◌-◌, ◌≤◌}
use mathlib.Core.Path.{◌≡◌, sym, ap, ap₂, ◌∙◌}
use mathlib.Core.Bool.{Bool, ◌&&◌}
use mathlib.Core.List.{List}
use lib.ListN.{length, take, drop, length-drop}
use lib.Seq.{paste, take_all}
use native.Mathlib.Omega.{arith}
use Rattle.verdict.specs.declared.Fault.{Fault}
use Rattle.verdict.specs.Verdicts.{Verdict}
use Rattle.std.specs.Prelude.{Ok, Err}
use Rattle.seven_bits.specs.declared.Number.{Number}
use Rattle.transfer.specs.declared.State.{State}
use Rattle.transfer.specs.declared.pieces.Stated.{Stated}
use Rattle.seven_bits.specs.Numbers.{number_at}
use Rattle.transfer.specs.Calls.{changed, nth, follows, stated_in, bytes_in, piece_judged, piece_step, piece_room}
use Rattle.transfer.proofs.Answers.{Passed, passed}

-- ---- reading

nth_first : (s : List ℕ) (a : Number) → a ≡ number_at s 0 → a ≡ nth s 0
unfolding nth
nth_first s a e = e

nth_next : (s : List ℕ) (k : ℕ) (a b : Number) → a ≡ nth s k → b ≡ number_at s a.next → b ≡ nth s (suc k)
unfolding nth
nth_next s k a b p e = e ∙ ap (λ (x : Number). number_at s x.next) p

abbrev told : Number → Number → Number → Number → Number → Number → Number → Bool → Stated
told a b c d e f g w = record {
  good = a.good && (b.good && (c.good && (d.good && (e.good && (f.good && (g.good && w))))));
  identity = record { station = a.value; kind = b.value; version = c.value; total = d.value; trailer = e.value };
  start = f.value;
  count = g.value;
  from = g.next;
}

told_is : (s : List ℕ) (a b c d e f g : Number) (w : Bool)
    → a ≡ nth s 0 → b ≡ nth s 1 → c ≡ nth s 2 → d ≡ nth s 3 → e ≡ nth s 4 → f ≡ nth s 5 → g ≡ nth s 6 → w ≡ follows s g.next g.value
    → told a b c d e f g w ≡ stated_in s
unfolding stated_in
told_is s a b c d e f g w pa pb pc pd pe pf pg pw = simp (pw, pa, pb, pc, pd, pe, pf, pg)

pub read_is : (s : List ℕ) (a b c d e f g : Number) (w : Bool)
    → a ≡ number_at s 0 → b ≡ number_at s a.next → c ≡ number_at s b.next → d ≡ number_at s c.next → e ≡ number_at s d.next
    → f ≡ number_at s e.next → g ≡ number_at s f.next → w ≡ follows s g.next g.value
    → told a b c d e f g w ≡ stated_in s
read_is s a b c d e f g w pa pb pc pd pe pf pg pw =
    let qa = nth_first s a pa in
    let qb = nth_next s 0 a b qa pb in
    let qc = nth_next s 1 b c qb pc in
    let qd = nth_next s 2 c d qc pd in
    let qe = nth_next s 3 d e qd pe in
    let qf = nth_next s 4 e f qe pf in
    let qg = nth_next s 5 f g qf pg in
    told_is s a b c d e f g w qa qb qc qd qe qf qg pw

-- ---- taking

-- the part of a slice from a place to its end
abbrev behind : List ℕ → ℕ → List ℕ
behind s from = take (length s - from) (drop from s)

behind_is : (s : List ℕ) (from : ℕ) → behind s from ≡ drop from s
behind_is s from = take_all (length s - from) (drop from s) (omega (arith, length-drop from s))

module _ (t : State) (s room : List ℕ) (p : Stated) (v : Verdict) (read : p ≡ stated_in s) (judged : v ≡ piece_judged t p (length room)) where
  verdict_is : v ≡ piece_judged t (stated_in s) (length room)
  verdict_is = judged ∙ ap (λ (q : Stated). piece_judged t q (length room)) read

  pub refused_step : (f : Fault) → v ≡ Err f → record { verdict = v; state = t } ≡ piece_step t s (length room)
  unfolding piece_step changed
  refused_step f e = simp (← verdict_is, e)

  pub refused_room : (f : Fault) → v ≡ Err f → room ≡ piece_room t s room
  unfolding piece_room changed
  refused_room f e = simp (← verdict_is, e)

  module _ (ok : v ≡ Ok tt) where
    pass : Passed t s (length room)
    pass = passed t s (length room) (sym verdict_is ∙ ok)

    bytes_are : behind s p.from ≡ bytes_in s
    unfolding bytes_in
    bytes_are = behind_is s p.from ∙ ap (λ (q : Stated). drop q.from s) read

    count-is : p.count ≡ length (bytes_in s)
    count-is = ap (λ (q : Stated). q.count) read ∙ pass.count

    start_is : p.start ≡ (stated_in s).start
    start_is = ap (λ (q : Stated). q.start) read

    pub sum_fits : p.start + p.count ≤ length room
    sum_fits = let q = pass in omega (arith, start_is, q.start, count-is, q.within, q.roomy)

    pub starts_in : p.from ≤ length s
    starts_in = let q = pass in omega (arith, q.some, ap length (sym (behind_is s p.from) ∙ bytes_are), length-drop p.from s)

    pub bytes_fit : p.start + length (behind s p.from) ≤ length room
    bytes_fit = let q = pass in omega (arith, start_is, q.start, ap length bytes_are, q.within, q.roomy)

    pub taken_step :
        record { verdict = v; state = record { opened = t.opened; identity = t.identity; due = p.start + p.count } } ≡ piece_step t s (length room)
    unfolding piece_step changed
    taken_step = simp (← verdict_is, ok, count-is, start_is)

    pub taken_room : (out : List ℕ) → out ≡ paste room p.start (behind s p.from) (length (behind s p.from)) → out ≡ piece_room t s room
    unfolding piece_room changed
    taken_room out e = e ∙ ap₂ (λ (k : ℕ) (b : List ℕ). paste room k b (length b)) start_is bytes_are ∙ rw (← verdict_is, ok)
