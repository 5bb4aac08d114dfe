-- Each public function of crate x2_kinds: what its own contract allows is one answer.
use mathlib.Core.Path.{refl}
use Rattle.promises.specs.Determined.{Determined}
use Rattle.promises.proofs.Equations.{by_equation}
use Rattle.x2_kinds.proofs.balise_obeys.Kinds as balise-obeys-kinds
use Rattle.x2_kinds.proofs.balise_obeys.Reads as balise-obeys-reads
use Rattle.x2_kinds.proofs.kind_obeys.Kinds as kind-obeys-kinds
use Rattle.x2_kinds.proofs.kind_obeys.Reads as kind-obeys-reads
use Rattle.x2_kinds.proofs.kind_fields.Kinds as kind-fields-kinds
use Rattle.x2_kinds.proofs.kind_fields.Reads as kind-fields-reads

pub kind_obeys_determined : Determined 1 kind-obeys-kinds.ps kind-obeys-kinds.r kind-obeys-reads.Pre kind-obeys-reads.Post
kind_obeys_determined κs a = by_equation (λ v w. refl)

pub kind_fields_determined : Determined 1 kind-fields-kinds.ps kind-fields-kinds.r kind-fields-reads.Pre kind-fields-reads.Post
kind_fields_determined κs a = by_equation (λ v w. refl)

pub balise_obeys_determined : Determined 1 balise-obeys-kinds.ps balise-obeys-kinds.r balise-obeys-reads.Pre balise-obeys-reads.Post
balise_obeys_determined κs a = by_equation (λ v w. refl)
