-- Each public function of crate x1_layout: what its own contract allows is one answer.
use mathlib.Core.Path.{refl}
use Rattle.promises.specs.Determined.{Determined}
use Rattle.promises.proofs.Equations.{by_equation, by_part}
use Rattle.x1_layout.proofs.size_of.Kinds as size-of-kinds
use Rattle.x1_layout.proofs.size_of.Reads as size-of-reads
use Rattle.x1_layout.proofs.points_at.Kinds as points-at-kinds
use Rattle.x1_layout.proofs.points_at.Reads as points-at-reads
use Rattle.x1_layout.proofs.is_first.Kinds as is-first-kinds
use Rattle.x1_layout.proofs.is_first.Reads as is-first-reads
use Rattle.x1_layout.proofs.entry_before.Kinds as entry-before-kinds
use Rattle.x1_layout.proofs.entry_before.Reads as entry-before-reads
use Rattle.x1_layout.proofs.check_layout.Kinds as check-layout-kinds
use Rattle.x1_layout.proofs.check_layout.Reads as check-layout-reads

pub size_of_determined : Determined 1 size-of-kinds.ps size-of-kinds.r size-of-reads.Pre size-of-reads.Post
size_of_determined κs a = by_equation (λ v w. refl)

pub points_at_determined : Determined 1 points-at-kinds.ps points-at-kinds.r points-at-reads.Pre points-at-reads.Post
points_at_determined κs a = by_part (λ x p. p.0) (λ v w. refl)

pub is_first_determined : Determined 0 is-first-kinds.ps is-first-kinds.r is-first-reads.Pre is-first-reads.Post
is_first_determined κs a = by_equation (λ v w. refl)

pub entry_before_determined : Determined 0 entry-before-kinds.ps entry-before-kinds.r entry-before-reads.Pre entry-before-reads.Post
entry_before_determined κs a = by_equation (λ v w. refl)

pub check_layout_determined : Determined 1 check-layout-kinds.ps check-layout-kinds.r check-layout-reads.Pre check-layout-reads.Post
check_layout_determined κs a = by_equation (λ v w. refl)
