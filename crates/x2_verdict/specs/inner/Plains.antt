-- The kinds of records that all have one size: each has the size of its table, and agrees whatever stands in it.
use mathlib.Core.Path.{refl}
use mathlib.Core.Bool.{true, false}
use mathlib.Core.List.{List}
use Prim.Native.Nat.{ℕ}
use native.Mathlib.Omega.{arith}
use Rattle.x2_records.specs.declared.Kind.TheVariants.{StartBoundary, EndBoundary, Turnout, Signal, Joint, Siding}
use Rattle.x2_records.specs.Places.{boundary_size, turnout_size, signal_size, joint_size, siding_size}
use Rattle.x2_layout.specs.declared.Layout.{Layout}
use Rattle.x2_layout.specs.Records.{size_of}
use Rattle.x2_fields.specs.Agreement.{kind_agrees}
use Rattle.x2_verdict.specs.inner.Passes.{PlainKind}

module _ {f : List ℕ} {l : Layout} where
  pub start_plain : PlainKind f l StartBoundary boundary_size true
  unfolding kind_agrees size_of
  start_plain = record { size = λ at. record { is = refl; least = omega arith; most = omega arith }; agrees = λ before at. refl; may = λ at. refl }

  pub end_plain : PlainKind f l EndBoundary boundary_size true
  unfolding kind_agrees size_of
  end_plain = record { size = λ at. record { is = refl; least = omega arith; most = omega arith }; agrees = λ before at. refl; may = λ at. refl }

  pub turnout_plain : PlainKind f l Turnout turnout_size true
  unfolding kind_agrees size_of
  turnout_plain = record { size = λ at. record { is = refl; least = omega arith; most = omega arith }; agrees = λ before at. refl; may = λ at. refl }

  pub signal_plain : PlainKind f l Signal signal_size true
  unfolding kind_agrees size_of
  signal_plain = record { size = λ at. record { is = refl; least = omega arith; most = omega arith }; agrees = λ before at. refl; may = λ at. refl }

  pub joint_plain : PlainKind f l Joint joint_size true
  unfolding kind_agrees size_of
  joint_plain = record { size = λ at. record { is = refl; least = omega arith; most = omega arith }; agrees = λ before at. refl; may = λ at. refl }

  pub siding_plain : PlainKind f l Siding siding_size false
  unfolding kind_agrees size_of
  siding_plain = record { size = λ at. record { is = refl; least = omega arith; most = omega arith }; agrees = λ before at. refl; may = λ at. refl }
