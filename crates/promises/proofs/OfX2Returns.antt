-- Each public function of crate x2_returns: what its own contract allows is one answer.
use mathlib.Core.Path.{refl}
use Rattle.promises.specs.Determined.{Determined}
use Rattle.promises.proofs.Equations.{by_equation}
use Rattle.x2_returns.proofs.is_member.Kinds as is-member-kinds
use Rattle.x2_returns.proofs.is_member.Reads as is-member-reads
use Rattle.x2_returns.proofs.same_links_obey.Kinds as same-links-obey-kinds
use Rattle.x2_returns.proofs.same_links_obey.Reads as same-links-obey-reads
use Rattle.x2_returns.proofs.check_returns.Kinds as check-returns-kinds
use Rattle.x2_returns.proofs.check_returns.Reads as check-returns-reads

pub check_returns_determined : Determined 1 check-returns-kinds.ps check-returns-kinds.r check-returns-reads.Pre check-returns-reads.Post
check_returns_determined κs a = by_equation (λ v w. refl)

pub is_member_determined : Determined 1 is-member-kinds.ps is-member-kinds.r is-member-reads.Pre is-member-reads.Post
is_member_determined κs a = by_equation (λ v w. refl)

pub same_links_obey_determined : Determined 1 same-links-obey-kinds.ps same-links-obey-kinds.r same-links-obey-reads.Pre same-links-obey-reads.Post
same_links_obey_determined κs a = by_equation (λ v w. refl)
