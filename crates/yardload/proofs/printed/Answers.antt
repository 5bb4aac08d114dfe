-- `yardload::printed` is safe: a room whose finishing is accepted has all bytes of the file.
use Rattle.std.proofs.Common.{sym, ◌∙◌, length-take-le}
use Rattle.transfer.proofs.Answers.{ended}
use Rattle.yardload.proofs.printed.Goals as goal

pub slice_bounds-write_all-end : goal.slice_bounds-write_all-end
slice_bounds-write_all-end c =
    let is_whole = ended _ _ (sym c.finish-verdict.ensures ∙ c.in-Ok.is) in
    sym (length-take-le _ _ is_whole.roomy)
