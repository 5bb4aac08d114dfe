-- A signed number as a record holds it, and the records from their fields.
use Prim.Native.Nat.{ℕ, ◌^◌, ◌≤◌}
use mathlib.Core.Path.{◌≡◌, ◌∙◌}
use mathlib.Core.List.{List}
use native.Mathlib.Omega.{arith}
use lib.IntN.{ℤ}
use Rattle.octets.specs.Octets.{half_of, signed_at, IsSigned}
use Rattle.octets.proofs.Signs.{read, kept}
use Rattle.tables.specs.Table.{value_of, signed_of}
use Rattle.x1_records.specs.Rows as rows
use Rattle.x1_records.specs.Tracks.{track_at, height_at, point_at}
use Rattle.x1_records.specs.declared.Track.{Track}
use Rattle.x1_records.specs.declared.Point.{Point}
use Rattle.std.specs.Prelude.{Option}

pub held : (n : ℕ) (s : List ℕ) (i : ℕ) (r : ℤ) → half_of n ≤ 2 ^ 63 → IsSigned n s i r → read r ≡ signed_at n s i
held n s i r h p = let q = p.small in kept r (omega arith) ∙ p.is

module _ (f : List ℕ) (size at : ℕ) where
  pub point_made : (p : ℕ) (la lo h : ℤ) (n : ℕ) (t : Option ℤ)
      → p ≡ value_of f at rows.position
      → la ≡ signed_of f at rows.latitude_increment
      → lo ≡ signed_of f at rows.longitude_increment
      → h ≡ signed_of f at rows.heading
      → n ≡ value_of f at rows.near
      → t ≡ height_at f size at
      → ◌≡◌ {A = Point} (record { position = p; latitude_increment = la; longitude_increment = lo; heading = h; near = n; height = t }) (point_at f size at)
  unfolding point_at
  point_made p la lo h n t a b c d e g = rw (a, b, c, d, e, g)

  pub track_made : (n pr sp : ℕ) (sa so : ℤ) (ep : ℕ) (ea eo : ℤ) (x y : ℕ)
      → n ≡ value_of f at rows.number
      → pr ≡ value_of f at rows.property
      → sp ≡ value_of f at rows.start_position
      → sa ≡ signed_of f at rows.start_latitude
      → so ≡ signed_of f at rows.start_longitude
      → ep ≡ value_of f at rows.end_position
      → ea ≡ signed_of f at rows.end_latitude
      → eo ≡ signed_of f at rows.end_longitude
      → x ≡ value_of f at rows.first
      → y ≡ value_of f at rows.last
      → ◌≡◌ {A = Track}
      (record { number = n; property = pr; start_position = sp; start_latitude = sa; start_longitude = so; end_position = ep; end_latitude = ea; end_longitude = eo; first = x; last = y; point_size = size })
      (track_at f size at)
  unfolding track_at
  track_made n pr sp sa so ep ea eo x y a b c d e g h i j k = rw (a, b, c, d, e, g, h, i, j, k)
