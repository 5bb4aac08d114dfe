-- The layout of a file, or the mark of its first fault.
use Rattle.std.specs.Prelude.{Result}
use Rattle.verdict.specs.declared.Mark.{Mark}
use Rattle.x2_layout.specs.declared.Layout.{Layout}

abbrev pub Shape : Type 0
Shape = Result Layout Mark
