-- Each public function of crate x2_links: what its own contract allows is one answer.
use mathlib.Core.Path.{refl}
use Rattle.promises.specs.Determined.{Determined}
use Rattle.promises.proofs.Equations.{by_equation}
use Rattle.x2_links.proofs.is_target.Kinds as is-target-kinds
use Rattle.x2_links.proofs.is_target.Reads as is-target-reads
use Rattle.x2_links.proofs.mark_if.Kinds as mark-if-kinds
use Rattle.x2_links.proofs.mark_if.Reads as mark-if-reads
use Rattle.x2_links.proofs.may_link.Kinds as may-link-kinds
use Rattle.x2_links.proofs.may_link.Reads as may-link-reads
use Rattle.x2_links.proofs.may_name.Kinds as may-name-kinds
use Rattle.x2_links.proofs.may_name.Reads as may-name-reads
use Rattle.x2_links.proofs.check_targets.Kinds as check-targets-kinds
use Rattle.x2_links.proofs.check_targets.Reads as check-targets-reads

pub check_targets_determined : Determined 1 check-targets-kinds.ps check-targets-kinds.r check-targets-reads.Pre check-targets-reads.Post
check_targets_determined κs a = by_equation (λ v w. refl)

pub is_target_determined : Determined 1 is-target-kinds.ps is-target-kinds.r is-target-reads.Pre is-target-reads.Post
is_target_determined κs a = by_equation (λ v w. refl)

pub mark_if_determined : Determined 0 mark-if-kinds.ps mark-if-kinds.r mark-if-reads.Pre mark-if-reads.Post
mark_if_determined κs a = by_equation (λ v w. refl)

pub may_link_determined : Determined 1 may-link-kinds.ps may-link-kinds.r may-link-reads.Pre may-link-reads.Post
may_link_determined κs a = by_equation (λ v w. refl)

pub may_name_determined : Determined 1 may-name-kinds.ps may-name-kinds.r may-name-reads.Pre may-name-reads.Post
may_name_determined κs a = by_equation (λ v w. refl)
