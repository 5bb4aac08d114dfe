-- `route_lister::list_by` meets its contract: each way out is one law of Whole. The counting pass is lent no byte.
use borrow.Author.Rules.{rules}
use Rattle.std.proofs.lemmas.Result.{err_from_is_err_and}
use Rattle.route_lister.proofs.Whole.{within, start_fits, out_of_range, refuses, lists}
use Rattle.route_lister.proofs.asked.list_by.Goals as goal

named_answered_written : {T0 T1 : Type 0} → T0 × T1 → record { answered : T0; written : T1 }
named_answered_written p = record { answered = p.0; written = p.1 }

pub returns-then-not-in_range : goal.returns-then-not-in_range
returns-then-not-in_range g c = named_answered_written (out_of_range _ _ _ _ _ _ _ _ _ c.boundary_at-asked.ensures c.limit_of-most.ensures c.in_range.ensures _ c.refusal.ensures c.if-not-in_range.true)

pub overflow_cast-at : goal.overflow_cast-at
overflow_cast-at g c =
    let h = start_fits c.args.l c.args.start c.limit_of-most.result c.args.budget c.boundary_at-asked.result _ c.boundary_at-asked.ensures c.in_range.ensures c.if-not-in_range.false in
    search rules

pub pass-counted-requires : goal.pass-counted-requires
pass-counted-requires g c = (within c.boundary_at-asked.result _ c.limit_of-most.result c.args.budget c.in_range.ensures c.if-not-in_range.false).bounds

pub returns-in_err-settled : goal.returns-in_err-settled
returns-in_err-settled g c =
    let p = err_from_is_err_and c.from_residual.result c.from_residual.ensures.1 in
    rw (p.1, p.2)
    (named_answered_written (refuses _ _ _ _ _ _ _ _ _ c.boundary_at-asked.ensures c.limit_of-most.ensures c.in_range.ensures c.if-not-in_range.false _ _ _ c.pass-counted.auto.out c.pass-counted.ensures _
    c.settled.ensures _ c.in_err-settled.was))

pub pass-requires : goal.pass-requires
pass-requires g c = (within c.boundary_at-asked.result _ c.limit_of-most.result c.args.budget c.in_range.ensures c.if-not-in_range.false).bounds

pub returns : goal.returns
returns g c = named_answered_written (lists _ _ _ _ _ _ _ _ _ c.boundary_at-asked.ensures c.limit_of-most.ensures c.in_range.ensures c.if-not-in_range.false _ _ _ c.pass-counted.auto.out c.pass-counted.ensures _
    c.settled.ensures _ _ _ c.in_ok-settled.was c.pass.ensures)
