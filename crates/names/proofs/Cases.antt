-- THEOREM (02, ticket 10): every case of the table holds, by computation.
use mathlib.Core.Path.{refl}
use Rattle.octets.specs.Octets.{num_at}
use Rattle.verdict.specs.Walk.{walk, starts_from}
use Rattle.names.specs.Names.{bytes_between, lead, name_length, is_name, naming_of, object_name}
use Rattle.names.specs.Cases.{All, table}

pub cases : All table
unfolding num_at walk starts_from bytes_between lead name_length is_name naming_of object_name
cases = (refl, (refl, (refl, (refl, (refl, ((refl, refl), (refl, (refl, (refl, (refl, (refl, (refl, (refl, (refl, tt))))))))))))))
