-- `x2_verdict::all_obey` meets its contract.
use Prim.Native.Nat.{ℕ}
use lib.ListN.{length-replicate}
use Rattle.std.proofs.lemmas.Option.{IfSome_then}
use Rattle.x2_links.specs.inner.Marks.{cells}
use Rattle.x2_links.proofs.Marking.{blank_zeros}
use Rattle.x2_verdict.proofs.Passes.{no_mark, all_accepted}
use Rattle.x2_verdict.proofs.all_obey.Goals as goal

pub records_pass-requires : goal.records_pass-requires
records_pass-requires c = (c.requires.0, c.requires.1, length-replicate {A = ℕ} cells 0, blank_zeros cells)

pub returns : goal.returns
returns c = let a = c.args in
    IfSome_then _ c.links_pass.ensures (λ u linked. all_accepted a.f.now a.l c.requires.0 _ c.check_header.ensures (no_mark _ c.in_ok-ok.ensures.variant) _ c.in_ok-records_pass.ensures linked)
