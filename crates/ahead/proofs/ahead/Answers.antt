-- `ahead::ahead` meets its contract: the pair's own fault, or what `look` answers.
use Rattle.ahead.proofs.Answering.{pair_refused, pair_accepted}
use mathlib.Core.Path.{refl}
use Rattle.ahead.proofs.ahead.Goals as goal

named_value_out_after : {T0 T1 : Type 0} → T0 × T1 → record { value : T0; out_after : T1 }
named_value_out_after p = record { value = p.0; out_after = p.1 }

pub returns-in_default : goal.returns-in_default
returns-in_default c = let a = c.args in
    named_value_out_after (pair_refused a.first.now a.second.now a.offset a.link a.lies.now a.out.now _ c.pair_verdict-v.ensures _ _ c.unwrap_err.ensures refl)

pub returns : goal.returns
returns c = let a = c.args in
    let i = c.layout_of.ensures.value in
    named_value_out_after (pair_accepted a.first.now a.second.now a.offset a.link a.lies.now a.out.now _ c.pair_verdict-v.ensures _ _
    c.in-Ok.is (rw i at c.look.ensures.value) (rw i at c.look.ensures.out_after))
