-- THEOREMS: what is read as a piece is a piece, in the ticket's words, and what is a piece is read as what it states.
use Prim.Native.Nat.{ℕ, zero, suc, ◌+◌, ◌-◌, ◌<◌}
use mathlib.Core.Path.{◌≡◌, refl, sym, ap, ◌∙◌}
use mathlib.Core.Bool.{Bool, true, false, ◌&&◌}
use mathlib.Core.List.{List, ◌++◌, append_assoc}
use lib.ListN.{length, take, drop, get_or, replicate, length-drop}
use lib.Seq.{drop-drop, drop_at, take_at}
use lib.Dec.{eqb, ltb}
use native.Mathlib.Omega.{arith}
use borrow.Author.Tests.{ltb-true, lt-ltb, eq-eqb}
use Rattle.verdict.proofs.Orders.{and-true}
use Rattle.seven_bits.specs.declared.Number.{Number}
use Rattle.seven_bits.specs.Numbers.{number_limit, found, number_at, written, Form}
use Rattle.seven_bits.proofs.Forms.{reads_back, good_form}
use Rattle.transfer.specs.declared.Identity.{Identity}
use Rattle.transfer.specs.declared.pieces.Stated.{Stated}
use Rattle.transfer.specs.Calls.{nth, follows, stated_in, bytes_in}
use Rattle.transfer.specs.Pieces.{identity_bytes, head_of, piece_of, Fits, IsPiece}
use Rattle.transfer.specs.Heads.{head_most, head_in}
use Rattle.transfer.proofs.Answers.{counted}

-- ---- one number before others

-- where a written number stands it is read, and what stands behind it comes next
record Reads (s : List ℕ) (at v : ℕ) (rest : List ℕ) : Type 0 where
  pub is : number_at s at ≡ found v (at + length (written v))
  pub behind : drop (at + length (written v)) s ≡ rest

reads : (s : List ℕ) (at v : ℕ) (rest : List ℕ) → v < number_limit → drop at s ≡ written v ++ rest → Reads s at v rest
reads s at v rest small e = record {
  is = reads_back v s rest at small e;
  behind = sym (drop-drop (length (written v)) at s) ∙ ap (drop (length (written v))) e ∙ drop_at (written v) rest (length (written v)) refl;
}

nth_0 : (s : List ℕ) (n : Number) → number_at s 0 ≡ n → nth s 0 ≡ n
unfolding nth
nth_0 s n e = e

nth_suc : (s : List ℕ) (k v at : ℕ) (n : Number) → nth s k ≡ found v at → number_at s at ≡ n → nth s (suc k) ≡ n
unfolding nth
nth_suc s k v at n e d = ap (λ (m : Number). number_at s m.next) e ∙ d

-- ---- a piece is read as what it states

one_after_other : (a b c d e f g x : List ℕ)
    → ((a ++ (b ++ (c ++ (d ++ e)))) ++ (f ++ g)) ++ x ≡ a ++ (b ++ (c ++ (d ++ (e ++ (f ++ (g ++ x))))))
one_after_other a b c d e f g x = simp append_assoc

abbrev pub states : Identity → ℕ → ℕ → ℕ → Stated
states i start count from = record { good = true; identity = i; start = start; count = count; from = from }

follows_so : (s : List ℕ) (from count : ℕ) → from < length s → count ≡ length s - from → follows s from count ≡ true
follows_so s from count h e = rw (lt-ltb from (length s) h, eq-eqb count (length s - from) e)

-- seven numbers, read one after the other
told_is : (s : List ℕ) (a b c d e f g h k l m n o q : ℕ)
    → nth s 0 ≡ found a h → nth s 1 ≡ found b k → nth s 2 ≡ found c l → nth s 3 ≡ found d m → nth s 4 ≡ found e n → nth s 5 ≡ found f o
    → nth s 6 ≡ found g q → follows s q g ≡ true
    → stated_in s ≡ states (record { station = a; kind = b; version = c; total = d; trailer = e }) f g q
unfolding stated_in
told_is s a b c d e f g h k l m n o q pa pb pc pd pe pf pg w = simp (pa, pb, pc, pd, pe, pf, pg) (ap (λ (t : Bool). states_if t) w)
  where
    states_if : Bool → Stated
    states_if t = record { good = t; identity = record { station = a; kind = b; version = c; total = d; trailer = e }; start = f; count = g; from = q }

-- What is a piece is read as what it states, and its bytes are its bytes.
pub record Told (i : Identity) (start : ℕ) (bytes s : List ℕ) : Type 0 where
  pub from : ℕ
  pub is : stated_in s ≡ states i start (length bytes) from
  pub behind : drop from s ≡ bytes

pub piece_told : (i : Identity) (start : ℕ) (bytes s : List ℕ) → IsPiece i start bytes s → Told i start bytes s
unfolding piece_of head_of identity_bytes
piece_told i start bytes s p =
    let laid = p.laid ∙ one_after_other (written i.station) (written i.kind) (written i.version) (written i.total) (written i.trailer) (written start) (written (length bytes)) bytes in
    let a = reads s 0 i.station _ p.fits.station laid in
    let b = reads s _ i.kind _ p.fits.kind a.behind in
    let c = reads s _ i.version _ p.fits.version b.behind in
    let d = reads s _ i.total _ p.fits.total c.behind in
    let e = reads s _ i.trailer _ p.fits.trailer d.behind in
    let f = reads s _ start _ p.starts e.behind in
    let g = reads s _ (length bytes) _ p.counts f.behind in
    let na = nth_0 s _ a.is in
    let nb = nth_suc s 0 _ _ _ na b.is in
    let nc = nth_suc s 1 _ _ _ nb c.is in
    let nd = nth_suc s 2 _ _ _ nc d.is in
    let ne = nth_suc s 3 _ _ _ nd e.is in
    let nf = nth_suc s 4 _ _ _ ne f.is in
    let ng = nth_suc s 5 _ _ _ nf g.is in
    let some = p.some in
    let count = sym (ap length g.behind) ∙ length-drop _ s in
    record {
      from = _;
      is = told_is s _ _ _ _ _ _ _ _ _ _ _ _ _ _ na nb nc nd ne nf ng (follows_so s _ _ (omega arith) count);
      behind = g.behind;
    }

-- ---- what is read as a piece is one

goods : (a b c d e f g w : Bool) → (a && (b && (c && (d && (e && (f && (g && w))))))) ≡ true
    → (a ≡ true) × (b ≡ true) × (c ≡ true) × (d ≡ true) × (e ≡ true) × (f ≡ true) × (g ≡ true)
goods a b c d e f g w h =
    let pa = and-true a _ h in
    let pb = and-true b _ pa.1 in
    let pc = and-true c _ pb.1 in
    let pd = and-true d _ pc.1 in
    let pe = and-true e _ pd.1 in
    let pf = and-true f _ pe.1 in
    (pa.0, pb.0, pc.0, pd.0, pe.0, pf.0, (and-true g _ pf.1).0)

first_form : (s : List ℕ) → ((i : ℕ) → get_or s i 0 < 256) → (nth s 0).good ≡ true → Form s 0 (nth s 0).value (nth s 0).next
unfolding nth
first_form s bytes g = good_form (number_at s 0) s 0 bytes refl g

next_form : (s : List ℕ) → ((i : ℕ) → get_or s i 0 < 256) → (k : ℕ) → (nth s (suc k)).good ≡ true
    → Form s (nth s k).next (nth s (suc k)).value (nth s (suc k)).next
unfolding nth
next_form s bytes k g = good_form (number_at s (nth s k).next) s (nth s k).next bytes refl g

-- What is read as a piece is one, of the identity, the start and the bytes that are read.
pub is_piece : (s : List ℕ) → ((i : ℕ) → get_or s i 0 < 256) → (stated_in s).good ≡ true → IsPiece (stated_in s).identity (stated_in s).start (bytes_in s) s
unfolding stated_in bytes_in piece_of head_of identity_bytes
is_piece s bytes e =
    let n = counted s e in
    let g = goods (nth s 0).good (nth s 1).good (nth s 2).good (nth s 3).good (nth s 4).good (nth s 5).good (nth s 6).good _ e in
    let a = first_form s bytes g.0 in
    let b = next_form s bytes 0 g.1 in
    let c = next_form s bytes 1 g.2 in
    let d = next_form s bytes 2 g.3 in
    let f = next_form s bytes 3 g.4 in
    let h = next_form s bytes 4 g.5 in
    let k = next_form s bytes 5 g.6 in
    let rest = drop (nth s 6).next s in
    let count : (nth s 6).value ≡ length rest = n.1 in
    record {
      laid =
          a.stands
          ∙ ap (λ (l : List ℕ). written (nth s 0).value ++ l) (b.stands
          ∙ ap (λ (l : List ℕ). written (nth s 1).value ++ l) (c.stands
          ∙ ap (λ (l : List ℕ). written (nth s 2).value ++ l) (d.stands
          ∙ ap (λ (l : List ℕ). written (nth s 3).value ++ l) (f.stands
          ∙ ap (λ (l : List ℕ). written (nth s 4).value ++ l) (h.stands
          ∙ ap (λ (l : List ℕ). written (nth s 5).value ++ l) (k.stands
          ∙ ap (λ (v : ℕ). written v ++ rest) count))))))
          ∙ sym (one_after_other (written (nth s 0).value) (written (nth s 1).value) (written (nth s 2).value) (written (nth s 3).value) (written (nth s 4).value) (written (nth s 5).value) (written (length rest)) rest);
      some = n.0;
      fits = record { station = a.fits; kind = b.fits; version = c.fits; total = d.fits; trailer = f.fits };
      starts = h.fits;
      counts = let fits = k.fits in omega arith;
    }

-- The numbers as they are laid out to be sent, and the bytes behind them, are a piece.
pub head_laid : (i : Identity) (start : ℕ) (bytes : List ℕ)
    → take (head_in i start (length bytes)).length (head_in i start (length bytes)).bytes ++ bytes ≡ piece_of i start bytes
unfolding head_in piece_of
head_laid i start bytes =
    let head = head_of i start (length bytes) in
    ap (λ (l : List ℕ). l ++ bytes) (take_at head (replicate (head_most - length head) 0) (length head) refl)
