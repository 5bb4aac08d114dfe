-- `names::cut_field` meets its contract. Each element is what `octet` ensures.
use Rattle.names.specs.Written.{field_at}
use Rattle.names.proofs.cut_field.Goals as goal

pub returns : goal.returns
unfolding field_at
returns c = simp (c.octet-8.ensures, c.octet-7.ensures, c.octet-6.ensures, c.octet-5.ensures, c.octet-4.ensures, c.octet-3.ensures, c.octet-2.ensures, c.octet.ensures)
