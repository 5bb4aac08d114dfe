-- `transfer::heads::head_of` meets its contract: a number is laid behind the other.
use mathlib.Core.Path.{refl}
use Rattle.transfer.proofs.Laying.{none_laid, one_more, all_laid}
use Rattle.transfer.proofs.heads.head_of.Goals as goal

pub returns : goal.returns
returns c = all_laid _ _ _ _ _
    (one_more _ _ _ (one_more _ _ _ (one_more _ _ _ (one_more _ _ _ (one_more _ _ _ (one_more _ _ _ (one_more _ _ _ (none_laid _ refl)
    c.put_number-kind.ensures.next c.put_number-kind.ensures.stored) c.put_number-version.ensures.next c.put_number-version.ensures.stored)
    c.put_number-total.ensures.next c.put_number-total.ensures.stored) c.put_number-trailer.ensures.next c.put_number-trailer.ensures.stored)
    c.put_number-place.ensures.next c.put_number-place.ensures.stored) c.put_number-number.ensures.next c.put_number-number.ensures.stored)
    c.put_number-length.ensures.next c.put_number-length.ensures.stored)
