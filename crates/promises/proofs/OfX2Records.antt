-- Each public function of crate x2_records: what its own contract allows is one answer.
use mathlib.Core.Path.{refl}
use Rattle.promises.specs.Determined.{Determined}
use Rattle.promises.proofs.Equations.{by_equation}
use Rattle.x2_records.proofs.Kind.size.Kinds as kind-size-kinds
use Rattle.x2_records.proofs.Kind.size.Reads as kind-size-reads
use Rattle.x2_records.proofs.Record.read.Kinds as record-read-kinds
use Rattle.x2_records.proofs.Record.read.Reads as record-read-reads
use Rattle.x2_records.proofs.balises.Nature.of.Kinds as nature-of-kinds
use Rattle.x2_records.proofs.balises.Nature.of.Reads as nature-of-reads
use Rattle.x2_records.proofs.balises.Nature.number.Kinds as nature-number-kinds
use Rattle.x2_records.proofs.balises.Nature.number.Reads as nature-number-reads
use Rattle.x2_records.proofs.balises.GroupDirection.of.Kinds as groupdirection-of-kinds
use Rattle.x2_records.proofs.balises.GroupDirection.of.Reads as groupdirection-of-reads
use Rattle.x2_records.proofs.balises.GroupDirection.number.Kinds as groupdirection-number-kinds
use Rattle.x2_records.proofs.balises.GroupDirection.number.Reads as groupdirection-number-reads
use Rattle.x2_records.proofs.balises.Balise.rank_of.Kinds as balise-rank-of-kinds
use Rattle.x2_records.proofs.balises.Balise.rank_of.Reads as balise-rank-of-reads
use Rattle.x2_records.proofs.balises.Balise.count_of.Kinds as balise-count-of-kinds
use Rattle.x2_records.proofs.balises.Balise.count_of.Reads as balise-count-of-reads
use Rattle.x2_records.proofs.balises.Balise.read.Kinds as balise-read-kinds
use Rattle.x2_records.proofs.balises.Balise.read.Reads as balise-read-reads
use Rattle.x2_records.proofs.boundaries.Boundary.read.Kinds as boundary-read-kinds
use Rattle.x2_records.proofs.boundaries.Boundary.read.Reads as boundary-read-reads
use Rattle.x2_records.proofs.joints.Joint.read.Kinds as joint-read-kinds
use Rattle.x2_records.proofs.joints.Joint.read.Reads as joint-read-reads
use Rattle.x2_records.proofs.sidings.Siding.read.Kinds as siding-read-kinds
use Rattle.x2_records.proofs.sidings.Siding.read.Reads as siding-read-reads
use Rattle.x2_records.proofs.signals.Facing.of.Kinds as facing-of-kinds
use Rattle.x2_records.proofs.signals.Facing.of.Reads as facing-of-reads
use Rattle.x2_records.proofs.signals.Facing.number.Kinds as facing-number-kinds
use Rattle.x2_records.proofs.signals.Facing.number.Reads as facing-number-reads
use Rattle.x2_records.proofs.signals.Duty.of.Kinds as duty-of-kinds
use Rattle.x2_records.proofs.signals.Duty.of.Reads as duty-of-reads
use Rattle.x2_records.proofs.signals.Duty.number.Kinds as duty-number-kinds
use Rattle.x2_records.proofs.signals.Duty.number.Reads as duty-number-reads
use Rattle.x2_records.proofs.signals.Signal.read.Kinds as signal-read-kinds
use Rattle.x2_records.proofs.signals.Signal.read.Reads as signal-read-reads
use Rattle.x2_records.proofs.turnouts.Direction.of.Kinds as direction-of-kinds
use Rattle.x2_records.proofs.turnouts.Direction.of.Reads as direction-of-reads
use Rattle.x2_records.proofs.turnouts.Direction.number.Kinds as direction-number-kinds
use Rattle.x2_records.proofs.turnouts.Direction.number.Reads as direction-number-reads
use Rattle.x2_records.proofs.turnouts.Turnout.read.Kinds as turnout-read-kinds
use Rattle.x2_records.proofs.turnouts.Turnout.read.Reads as turnout-read-reads
use Rattle.x2_records.proofs.Kind.links.Kinds as kind-links-kinds
use Rattle.x2_records.proofs.Kind.links.Reads as kind-links-reads

pub kind_size_determined : Determined 0 kind-size-kinds.ps kind-size-kinds.r kind-size-reads.Pre kind-size-reads.Post
kind_size_determined κs a = by_equation (λ v w. refl)

pub record_read_determined : Determined 1 record-read-kinds.ps record-read-kinds.r record-read-reads.Pre record-read-reads.Post
record_read_determined κs a = by_equation (λ v w. refl)

pub nature_of_determined : Determined 0 nature-of-kinds.ps nature-of-kinds.r nature-of-reads.Pre nature-of-reads.Post
nature_of_determined κs a = by_equation (λ v w. refl)

pub nature_number_determined : Determined 0 nature-number-kinds.ps nature-number-kinds.r nature-number-reads.Pre nature-number-reads.Post
nature_number_determined κs a = by_equation (λ v w. refl)

pub groupdirection_of_determined : Determined 0 groupdirection-of-kinds.ps groupdirection-of-kinds.r groupdirection-of-reads.Pre groupdirection-of-reads.Post
groupdirection_of_determined κs a = by_equation (λ v w. refl)

pub groupdirection_number_determined : Determined 0 groupdirection-number-kinds.ps groupdirection-number-kinds.r groupdirection-number-reads.Pre groupdirection-number-reads.Post
groupdirection_number_determined κs a = by_equation (λ v w. refl)

pub balise_rank_of_determined : Determined 0 balise-rank-of-kinds.ps balise-rank-of-kinds.r balise-rank-of-reads.Pre balise-rank-of-reads.Post
balise_rank_of_determined κs a = by_equation (λ v w. refl)

pub balise_count_of_determined : Determined 0 balise-count-of-kinds.ps balise-count-of-kinds.r balise-count-of-reads.Pre balise-count-of-reads.Post
balise_count_of_determined κs a = by_equation (λ v w. refl)

pub balise_read_determined : Determined 1 balise-read-kinds.ps balise-read-kinds.r balise-read-reads.Pre balise-read-reads.Post
balise_read_determined κs a = by_equation (λ v w. refl)

pub boundary_read_determined : Determined 1 boundary-read-kinds.ps boundary-read-kinds.r boundary-read-reads.Pre boundary-read-reads.Post
boundary_read_determined κs a = by_equation (λ v w. refl)

pub joint_read_determined : Determined 1 joint-read-kinds.ps joint-read-kinds.r joint-read-reads.Pre joint-read-reads.Post
joint_read_determined κs a = by_equation (λ v w. refl)

pub siding_read_determined : Determined 1 siding-read-kinds.ps siding-read-kinds.r siding-read-reads.Pre siding-read-reads.Post
siding_read_determined κs a = by_equation (λ v w. refl)

pub facing_of_determined : Determined 0 facing-of-kinds.ps facing-of-kinds.r facing-of-reads.Pre facing-of-reads.Post
facing_of_determined κs a = by_equation (λ v w. refl)

pub facing_number_determined : Determined 0 facing-number-kinds.ps facing-number-kinds.r facing-number-reads.Pre facing-number-reads.Post
facing_number_determined κs a = by_equation (λ v w. refl)

pub duty_of_determined : Determined 0 duty-of-kinds.ps duty-of-kinds.r duty-of-reads.Pre duty-of-reads.Post
duty_of_determined κs a = by_equation (λ v w. refl)

pub duty_number_determined : Determined 0 duty-number-kinds.ps duty-number-kinds.r duty-number-reads.Pre duty-number-reads.Post
duty_number_determined κs a = by_equation (λ v w. refl)

pub signal_read_determined : Determined 1 signal-read-kinds.ps signal-read-kinds.r signal-read-reads.Pre signal-read-reads.Post
signal_read_determined κs a = by_equation (λ v w. refl)

pub direction_of_determined : Determined 0 direction-of-kinds.ps direction-of-kinds.r direction-of-reads.Pre direction-of-reads.Post
direction_of_determined κs a = by_equation (λ v w. refl)

pub direction_number_determined : Determined 0 direction-number-kinds.ps direction-number-kinds.r direction-number-reads.Pre direction-number-reads.Post
direction_number_determined κs a = by_equation (λ v w. refl)

pub turnout_read_determined : Determined 1 turnout-read-kinds.ps turnout-read-kinds.r turnout-read-reads.Pre turnout-read-reads.Post
turnout_read_determined κs a = by_equation (λ v w. refl)

pub kind_links_determined : Determined 0 kind-links-kinds.ps kind-links-kinds.r kind-links-reads.Pre kind-links-reads.Post
kind_links_determined κs a = by_equation (λ v w. refl)
