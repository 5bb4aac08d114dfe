-- Each public function of crate octets: what its own contract allows is one answer.
use mathlib.Core.Path.{refl}
use Rattle.promises.specs.Determined.{Determined}
use Rattle.promises.proofs.Equations.{by_equation, by_part}
use Rattle.octets.proofs.Width.bytes.Kinds as width-bytes-kinds
use Rattle.octets.proofs.Width.bytes.Reads as width-bytes-reads
use Rattle.octets.proofs.Width.half.Kinds as width-half-kinds
use Rattle.octets.proofs.Width.half.Reads as width-half-reads
use Rattle.octets.proofs.byte_at.Kinds as byte-at-kinds
use Rattle.octets.proofs.byte_at.Reads as byte-at-reads
use Rattle.octets.proofs.byte_after.Kinds as byte-after-kinds
use Rattle.octets.proofs.byte_after.Reads as byte-after-reads
use Rattle.octets.proofs.u16_at.Kinds as u16-at-kinds
use Rattle.octets.proofs.u16_at.Reads as u16-at-reads
use Rattle.octets.proofs.u24_at.Kinds as u24-at-kinds
use Rattle.octets.proofs.u24_at.Reads as u24-at-reads
use Rattle.octets.proofs.u32_at.Kinds as u32-at-kinds
use Rattle.octets.proofs.u32_at.Reads as u32-at-reads
use Rattle.octets.proofs.num_at.Kinds as num-at-kinds
use Rattle.octets.proofs.num_at.Reads as num-at-reads
use Rattle.octets.proofs.signed_at.Kinds as signed-at-kinds
use Rattle.octets.proofs.signed_at.Reads as signed-at-reads
use Rattle.octets.proofs.i16_at.Kinds as i16-at-kinds
use Rattle.octets.proofs.i16_at.Reads as i16-at-reads
use Rattle.octets.proofs.i24_at.Kinds as i24-at-kinds
use Rattle.octets.proofs.i24_at.Reads as i24-at-reads
use Rattle.octets.proofs.i32_at.Kinds as i32-at-kinds
use Rattle.octets.proofs.i32_at.Reads as i32-at-reads
use Rattle.octets.proofs.distance_at.Kinds as distance-at-kinds
use Rattle.octets.proofs.distance_at.Reads as distance-at-reads
use Rattle.octets.proofs.distance.Kinds as distance-kinds
use Rattle.octets.proofs.distance.Reads as distance-reads
use Rattle.octets.proofs.least.Kinds as least-kinds
use Rattle.octets.proofs.least.Reads as least-reads
use Rattle.octets.proofs.less.Kinds as less-kinds
use Rattle.octets.proofs.less.Reads as less-reads

pub width_bytes_determined : Determined 0 width-bytes-kinds.ps width-bytes-kinds.r width-bytes-reads.Pre width-bytes-reads.Post
width_bytes_determined κs a = by_equation (λ v w. refl)

pub width_half_determined : Determined 0 width-half-kinds.ps width-half-kinds.r width-half-reads.Pre width-half-reads.Post
width_half_determined κs a = by_equation (λ v w. refl)

pub byte_at_determined : Determined 1 byte-at-kinds.ps byte-at-kinds.r byte-at-reads.Pre byte-at-reads.Post
byte_at_determined κs a = by_part (λ x p. p.is) (λ v w. refl)

pub byte_after_determined : Determined 1 byte-after-kinds.ps byte-after-kinds.r byte-after-reads.Pre byte-after-reads.Post
byte_after_determined κs a = by_part (λ x p. p.is) (λ v w. refl)

pub u16_at_determined : Determined 1 u16-at-kinds.ps u16-at-kinds.r u16-at-reads.Pre u16-at-reads.Post
u16_at_determined κs a = by_part (λ x p. p.is) (λ v w. refl)

pub u24_at_determined : Determined 1 u24-at-kinds.ps u24-at-kinds.r u24-at-reads.Pre u24-at-reads.Post
u24_at_determined κs a = by_part (λ x p. p.is) (λ v w. refl)

pub u32_at_determined : Determined 1 u32-at-kinds.ps u32-at-kinds.r u32-at-reads.Pre u32-at-reads.Post
u32_at_determined κs a = by_part (λ x p. p.is) (λ v w. refl)

pub num_at_determined : Determined 1 num-at-kinds.ps num-at-kinds.r num-at-reads.Pre num-at-reads.Post
num_at_determined κs a = by_part (λ x p. p.is) (λ v w. refl)

pub signed_at_determined : Determined 1 signed-at-kinds.ps signed-at-kinds.r signed-at-reads.Pre signed-at-reads.Post
signed_at_determined κs a = by_part (λ x p. p.is) (λ v w. refl)

pub i16_at_determined : Determined 1 i16-at-kinds.ps i16-at-kinds.r i16-at-reads.Pre i16-at-reads.Post
i16_at_determined κs a = by_part (λ x p. p.is) (λ v w. refl)

pub i24_at_determined : Determined 1 i24-at-kinds.ps i24-at-kinds.r i24-at-reads.Pre i24-at-reads.Post
i24_at_determined κs a = by_part (λ x p. p.is) (λ v w. refl)

pub i32_at_determined : Determined 1 i32-at-kinds.ps i32-at-kinds.r i32-at-reads.Pre i32-at-reads.Post
i32_at_determined κs a = by_part (λ x p. p.is) (λ v w. refl)

pub distance_at_determined : Determined 1 distance-at-kinds.ps distance-at-kinds.r distance-at-reads.Pre distance-at-reads.Post
distance_at_determined κs a = by_equation (λ v w. refl)

pub distance_determined : Determined 0 distance-kinds.ps distance-kinds.r distance-reads.Pre distance-reads.Post
distance_determined κs a = by_equation (λ v w. refl)

pub least_determined : Determined 0 least-kinds.ps least-kinds.r least-reads.Pre least-reads.Post
least_determined κs a = by_equation (λ v w. refl)

pub less_determined : Determined 0 less-kinds.ps less-kinds.r less-reads.Pre less-reads.Post
less_determined κs a = by_equation (λ v w. refl)
