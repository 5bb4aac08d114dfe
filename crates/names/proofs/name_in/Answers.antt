-- `names::name_in` meets its contract: the bytes that were taken out are those of the file, with 0 past its end.
use Rattle.names.proofs.Spelling.{cut_naming}
use Rattle.names.proofs.name_in.Goals as goal

pub returns-then-inside-lt-OBJECT_BYTES : goal.returns-then-inside-lt-OBJECT_BYTES
returns-then-inside-lt-OBJECT_BYTES c = cut_naming _ _ _ _ c.cut_field-field.ensures c.spelt.ensures
