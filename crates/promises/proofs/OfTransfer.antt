-- Each public function of crate transfer: what its own contract allows is one answer.
use mathlib.Core.Path.{refl, sym, ap, ◌∙◌}
use mathlib.Core.List.{List}
use Prim.Native.Nat.{ℕ}
use Rattle.promises.specs.Determined.{Determined}
use Rattle.promises.proofs.Equations.{by_equation}
use Rattle.transfer.proofs.identity_of.Kinds as identity-of-kinds
use Rattle.transfer.proofs.identity_of.Reads as identity-of-reads
use Rattle.transfer.proofs.opening.nothing_opened.Kinds as nothing-opened-kinds
use Rattle.transfer.proofs.opening.nothing_opened.Reads as nothing-opened-reads
use Rattle.transfer.proofs.opening.opening.Kinds as opening-kinds
use Rattle.transfer.proofs.opening.opening.Reads as opening-reads
use Rattle.transfer.proofs.pieces.stated_in.Kinds as stated-in-kinds
use Rattle.transfer.proofs.pieces.stated_in.Reads as stated-in-reads
use Rattle.transfer.proofs.pieces.piece.Kinds as piece-kinds
use Rattle.transfer.proofs.pieces.piece.Reads as piece-reads
use Rattle.transfer.proofs.finishing.finish.Kinds as finish-kinds
use Rattle.transfer.proofs.finishing.finish.Reads as finish-reads
use Rattle.transfer.proofs.heads.head_of.Kinds as head-of-kinds
use Rattle.transfer.proofs.heads.head_of.Reads as head-of-reads
use Rattle.transfer.proofs.IdentityPartialEq.eq.Kinds as identitypartialeq-eq-kinds
use Rattle.transfer.proofs.IdentityPartialEq.eq.Reads as identitypartialeq-eq-reads

pub identity_of_determined : Determined 1 identity-of-kinds.ps identity-of-kinds.r identity-of-reads.Pre identity-of-reads.Post
identity_of_determined κs a = by_equation (λ v w. refl)

pub nothing_opened_determined : Determined 0 nothing-opened-kinds.ps nothing-opened-kinds.r nothing-opened-reads.Pre nothing-opened-reads.Post
nothing_opened_determined κs a = by_equation (λ v w. refl)

pub opening_determined : Determined 0 opening-kinds.ps opening-kinds.r opening-reads.Pre opening-reads.Post
opening_determined κs a = by_equation (λ v w. refl)

pub stated_in_determined : Determined 1 stated-in-kinds.ps stated-in-kinds.r stated-in-reads.Pre stated-in-reads.Post
stated_in_determined κs a = by_equation (λ v w. refl)

pub piece_determined : Determined 2 piece-kinds.ps piece-kinds.r piece-reads.Pre piece-reads.Post
piece_determined κs a = (tt, λ x y v w p q. (p.0 ∙ sym q.0, ap (λ (l : List ℕ). (tt, (tt, (l, tt)))) (p.1 ∙ sym q.1)))

pub finish_determined : Determined 1 finish-kinds.ps finish-kinds.r finish-reads.Pre finish-reads.Post
finish_determined κs a = by_equation (λ v w. refl)

pub head_of_determined : Determined 0 head-of-kinds.ps head-of-kinds.r head-of-reads.Pre head-of-reads.Post
head_of_determined κs a = by_equation (λ v w. refl)

pub identitypartialeq_eq_determined : Determined 2 identitypartialeq-eq-kinds.ps identitypartialeq-eq-kinds.r identitypartialeq-eq-reads.Pre identitypartialeq-eq-reads.Post
identitypartialeq_eq_determined κs a = by_equation (λ v w. refl)
