-- Each public function of crate x2_layout: what its own contract allows is one answer.
use mathlib.Core.Path.{refl}
use Rattle.promises.specs.Determined.{Determined}
use Rattle.promises.proofs.Equations.{by_equation, by_part}
use Rattle.x2_layout.proofs.find_layout.Kinds as find-layout-kinds
use Rattle.x2_layout.proofs.find_layout.Reads as find-layout-reads
use Rattle.x2_layout.proofs.is_bounded.Kinds as is-bounded-kinds
use Rattle.x2_layout.proofs.is_bounded.Reads as is-bounded-reads
use Rattle.x2_layout.proofs.kind_at.Kinds as kind-at-kinds
use Rattle.x2_layout.proofs.kind_at.Reads as kind-at-reads
use Rattle.x2_layout.proofs.layout_of.Kinds as layout-of-kinds
use Rattle.x2_layout.proofs.layout_of.Reads as layout-of-reads
use Rattle.x2_layout.proofs.size_of.Kinds as size-of-kinds
use Rattle.x2_layout.proofs.size_of.Reads as size-of-reads

pub find_layout_determined : Determined 1 find-layout-kinds.ps find-layout-kinds.r find-layout-reads.Pre find-layout-reads.Post
find_layout_determined κs a = by_equation (λ v w. refl)

pub is_bounded_determined : Determined 0 is-bounded-kinds.ps is-bounded-kinds.r is-bounded-reads.Pre is-bounded-reads.Post
is_bounded_determined κs a = by_equation (λ v w. refl)

pub kind_at_determined : Determined 0 kind-at-kinds.ps kind-at-kinds.r kind-at-reads.Pre kind-at-reads.Post
kind_at_determined κs a = by_equation (λ v w. refl)

pub size_of_determined : Determined 1 size-of-kinds.ps size-of-kinds.r size-of-reads.Pre size-of-reads.Post
size_of_determined κs a = by_part (λ x p. p.is) (λ v w. refl)

pub layout_of_determined : Determined 1 layout-of-kinds.ps layout-of-kinds.r layout-of-reads.Pre layout-of-reads.Post
layout_of_determined κs a = by_part (λ x p. p.0) (λ v w. refl)
