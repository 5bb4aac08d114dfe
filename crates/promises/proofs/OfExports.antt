-- Each public function of crate exports: what its own contract allows is one answer.
use mathlib.Core.Path.{refl, sym, ap, ap₂, ◌∙◌}
use mathlib.Core.List.{List}
use Prim.Native.Nat.{ℕ}
use Rattle.promises.specs.Determined.{Determined}
use Rattle.promises.proofs.Equations.{by_equation}
use Rattle.exports.proofs.yard_checksum.Kinds as yard-checksum-kinds
use Rattle.exports.proofs.yard_checksum.Reads as yard-checksum-reads
use Rattle.exports.proofs.yard_x1.Kinds as yard-x1-kinds
use Rattle.exports.proofs.yard_x1.Reads as yard-x1-reads
use Rattle.exports.proofs.yard_x1_version_1.Kinds as yard-x1-version-1-kinds
use Rattle.exports.proofs.yard_x1_version_1.Reads as yard-x1-version-1-reads
use Rattle.exports.proofs.yard_x2.Kinds as yard-x2-kinds
use Rattle.exports.proofs.yard_x2.Reads as yard-x2-reads
use Rattle.exports.proofs.yard_pair.Kinds as yard-pair-kinds
use Rattle.exports.proofs.yard_pair.Reads as yard-pair-reads
use Rattle.exports.proofs.yard_track.Kinds as yard-track-kinds
use Rattle.exports.proofs.yard_track.Reads as yard-track-reads
use Rattle.exports.proofs.yard_point.Kinds as yard-point-kinds
use Rattle.exports.proofs.yard_point.Reads as yard-point-reads
use Rattle.exports.proofs.yard_coordinate.Kinds as yard-coordinate-kinds
use Rattle.exports.proofs.yard_coordinate.Reads as yard-coordinate-reads
use Rattle.exports.proofs.yard_degrees.Kinds as yard-degrees-kinds
use Rattle.exports.proofs.yard_degrees.Reads as yard-degrees-reads
use Rattle.exports.proofs.yard_point_degrees.Kinds as yard-point-degrees-kinds
use Rattle.exports.proofs.yard_point_degrees.Reads as yard-point-degrees-reads
use Rattle.exports.proofs.yard_record.Kinds as yard-record-kinds
use Rattle.exports.proofs.yard_record.Reads as yard-record-reads
use Rattle.exports.proofs.yard_routes.Kinds as yard-routes-kinds
use Rattle.exports.proofs.yard_routes.Reads as yard-routes-reads
use Rattle.exports.proofs.yard_routes_flat.Kinds as yard-routes-flat-kinds
use Rattle.exports.proofs.yard_routes_flat.Reads as yard-routes-flat-reads
use Rattle.exports.proofs.yard_header1.Kinds as yard-header1-kinds
use Rattle.exports.proofs.yard_header1.Reads as yard-header1-reads
use Rattle.exports.proofs.yard_header2.Kinds as yard-header2-kinds
use Rattle.exports.proofs.yard_header2.Reads as yard-header2-reads
use Rattle.exports.proofs.yard_ahead.Kinds as yard-ahead-kinds
use Rattle.exports.proofs.yard_ahead.Reads as yard-ahead-reads
use Rattle.exports.proofs.yard_load_open.Kinds as yard-load-open-kinds
use Rattle.exports.proofs.yard_load_open.Reads as yard-load-open-reads
use Rattle.exports.proofs.yard_load_piece.Kinds as yard-load-piece-kinds
use Rattle.exports.proofs.yard_load_piece.Reads as yard-load-piece-reads
use Rattle.exports.proofs.yard_load_finish.Kinds as yard-load-finish-kinds
use Rattle.exports.proofs.yard_load_finish.Reads as yard-load-finish-reads

pub yard_checksum_determined : Determined 1 yard-checksum-kinds.ps yard-checksum-kinds.r yard-checksum-reads.Pre yard-checksum-reads.Post
yard_checksum_determined κs a = by_equation (λ v w. refl)

pub yard_x1_determined : Determined 1 yard-x1-kinds.ps yard-x1-kinds.r yard-x1-reads.Pre yard-x1-reads.Post
yard_x1_determined κs a = by_equation (λ v w. refl)

pub yard_x1_version_1_determined : Determined 1 yard-x1-version-1-kinds.ps yard-x1-version-1-kinds.r yard-x1-version-1-reads.Pre yard-x1-version-1-reads.Post
yard_x1_version_1_determined κs a = by_equation (λ v w. refl)

pub yard_x2_determined : Determined 1 yard-x2-kinds.ps yard-x2-kinds.r yard-x2-reads.Pre yard-x2-reads.Post
yard_x2_determined κs a = by_equation (λ v w. refl)

pub yard_pair_determined : Determined 2 yard-pair-kinds.ps yard-pair-kinds.r yard-pair-reads.Pre yard-pair-reads.Post
yard_pair_determined κs a = by_equation (λ v w. refl)

pub yard_track_determined : Determined 2 yard-track-kinds.ps yard-track-kinds.r yard-track-reads.Pre yard-track-reads.Post
yard_track_determined κs a = (tt, λ x y v w p q. (p.0 ∙ sym q.0, ap (λ (l : List ℕ). (tt, (tt, (l, tt)))) (p.1 ∙ sym q.1)))

pub yard_point_determined : Determined 2 yard-point-kinds.ps yard-point-kinds.r yard-point-reads.Pre yard-point-reads.Post
yard_point_determined κs a = (tt, λ x y v w p q. (p.0 ∙ sym q.0, ap (λ (l : List ℕ). (tt, (tt, (tt, (l, tt))))) (p.1 ∙ sym q.1)))

pub yard_coordinate_determined : Determined 2 yard-coordinate-kinds.ps yard-coordinate-kinds.r yard-coordinate-reads.Pre yard-coordinate-reads.Post
yard_coordinate_determined κs a = (tt, λ x y v w p q. (p.0 ∙ sym q.0, ap (λ (l : List ℕ). (tt, (tt, (tt, (l, tt))))) (p.1 ∙ sym q.1)))

pub yard_degrees_determined : Determined 2 yard-degrees-kinds.ps yard-degrees-kinds.r yard-degrees-reads.Pre yard-degrees-reads.Post
yard_degrees_determined κs a = (tt, λ x y v w p q. (p.0 ∙ sym q.0, ap (λ (l : List ℕ). (tt, (tt, (tt, (l, tt))))) (p.1 ∙ sym q.1)))

pub yard_point_degrees_determined : Determined 2 yard-point-degrees-kinds.ps yard-point-degrees-kinds.r yard-point-degrees-reads.Pre yard-point-degrees-reads.Post
yard_point_degrees_determined κs a = (tt, λ x y v w p q. (p.0 ∙ sym q.0, ap (λ (l : List ℕ). (tt, (tt, (tt, (l, tt))))) (p.1 ∙ sym q.1)))

pub yard_record_determined : Determined 2 yard-record-kinds.ps yard-record-kinds.r yard-record-reads.Pre yard-record-reads.Post
yard_record_determined κs a = (tt, λ x y v w p q. (p.0 ∙ sym q.0, ap (λ (l : List ℕ). (tt, (tt, (l, tt)))) (p.1 ∙ sym q.1)))

pub yard_routes_determined : Determined 3 yard-routes-kinds.ps yard-routes-kinds.r yard-routes-reads.Pre yard-routes-reads.Post
yard_routes_determined κs a = (tt, λ x y v w p q. (p.0 ∙ sym q.0, ap₂ (λ (l m : List ℕ). (tt, (tt, (tt, (tt, (l, (m, tt))))))) (p.1.0 ∙ sym q.1.0) (p.1.1 ∙ sym q.1.1)))

pub yard_routes_flat_determined : Determined 3 yard-routes-flat-kinds.ps yard-routes-flat-kinds.r yard-routes-flat-reads.Pre yard-routes-flat-reads.Post
yard_routes_flat_determined κs a = (tt, λ x y v w p q. (p.0 ∙ sym q.0, ap₂ (λ (l m : List ℕ). (tt, (tt, (tt, (tt, (l, (m, tt))))))) (p.1.0 ∙ sym q.1.0) (p.1.1 ∙ sym q.1.1)))

pub yard_header1_determined : Determined 2 yard-header1-kinds.ps yard-header1-kinds.r yard-header1-reads.Pre yard-header1-reads.Post
yard_header1_determined κs a = (tt, λ x y v w p q. (p.0 ∙ sym q.0, ap (λ (l : List ℕ). (tt, (l, tt))) (p.1 ∙ sym q.1)))

pub yard_header2_determined : Determined 2 yard-header2-kinds.ps yard-header2-kinds.r yard-header2-reads.Pre yard-header2-reads.Post
yard_header2_determined κs a = (tt, λ x y v w p q. (p.0 ∙ sym q.0, ap (λ (l : List ℕ). (tt, (l, tt))) (p.1 ∙ sym q.1)))

pub yard_ahead_determined : Determined 4 yard-ahead-kinds.ps yard-ahead-kinds.r yard-ahead-reads.Pre yard-ahead-reads.Post
yard_ahead_determined κs a = (tt, λ x y v w p q. (p.0 ∙ sym q.0, ap (λ (l : List ℕ). (tt, (tt, (tt, (tt, (tt, (l, tt))))))) (p.1 ∙ sym q.1)))

pub yard_load_open_determined : Determined 2 yard-load-open-kinds.ps yard-load-open-kinds.r yard-load-open-reads.Pre yard-load-open-reads.Post
yard_load_open_determined κs a = (tt, λ x y v w p q. (p.0 ∙ sym q.0, ap (λ (l : List ℕ). (l, (tt, (tt, (tt, (tt, (tt, (tt, tt)))))))) (p.1 ∙ sym q.1)))

pub yard_load_piece_determined : Determined 3 yard-load-piece-kinds.ps yard-load-piece-kinds.r yard-load-piece-reads.Pre yard-load-piece-reads.Post
yard_load_piece_determined κs a = (tt, λ x y v w p q. (p.0 ∙ sym q.0, ap₂ (λ (l m : List ℕ). (l, (tt, (m, tt)))) (p.1.0 ∙ sym q.1.0) (p.1.1 ∙ sym q.1.1)))

pub yard_load_finish_determined : Determined 2 yard-load-finish-kinds.ps yard-load-finish-kinds.r yard-load-finish-reads.Pre yard-load-finish-reads.Post
yard_load_finish_determined κs a = by_equation (λ v w. refl)
