-- `exports::show_counts` meets its contract.
use mathlib.Core.Path.{refl}
use Rattle.route_lister.specs.Answered.{routes_answer}
use Rattle.exports.proofs.Ways.{values_shown, fault_shown}
use borrow.Author.Rules.{rules}
use Rattle.exports.proofs.show_counts.Goals as goal

named_value_counts_after : {T0 T1 : Type 0} → T0 × T1 → record { value : T0; counts_after : T1 }
named_value_counts_after p = record { value = p.0; counts_after = p.1 }

pub returns-in-Ok : goal.returns-in-Ok
returns-in-Ok c = named_value_counts_after (values_shown routes_answer refl c.in-Ok.is _ refl c.routes_words.ensures (c.show.ensures.value, c.show.ensures.out_after))

pub returns-in-Err : goal.returns-in-Err
returns-in-Err c = named_value_counts_after (fault_shown routes_answer refl c.in-Err.is _ refl c.refused.ensures)
