-- Routes read backwards, of what is seen by whoever calls a function that lists them (02, ticket 13): by either engine, as the question
-- 'routes' and as C calls it. A function is given by its contract, as in crate promises (Determined).
use Rattle.std.specs.Prelude.{◌≡◌, List, ℕ, ◌*◌}
use contract.Lifetimes.{Lfts}
use borrow.Fn.Kinds.{ParamKind, ResultKind, Out, Dens, res_t, ended_of}
use denote.Triple.Clauses.{Lasts, at_exit}
use Rattle.octets.specs.Octets.{num_at}
use Rattle.c_values.specs.Words.{number_part, value_size}
use Rattle.route_walks.specs.declared.Tally.{Tally}
use Rattle.std.specs.Prelude.{Ok}
use Rattle.route_lister.specs.Answered.{limit_of}
use Rattle.route_question.specs.declared.Engine.{Engine}
use Rattle.route_question.specs.declared.Engine.TheVariants.{First, Second}
use Rattle.route_question.proofs.routes.Kinds as routes-kinds
use Rattle.route_question.proofs.routes.Reads as routes-reads
use Rattle.route_question.proofs.routes_flat.Reads as routes-flat-reads
use Rattle.exports.proofs.yard_routes.Kinds as yard-routes-kinds
use Rattle.exports.proofs.yard_routes.Reads as yard-routes-reads
use Rattle.exports.proofs.yard_routes_flat.Reads as yard-routes-flat-reads
use Rattle.route_backwards.specs.Backwards.{Seen}

-- a call of a function: what it was given, what it returned, and what it left in each `&mut`, as its contract allows them
pub record Call (n : ℕ) (ps : List (ParamKind n)) (r : ResultKind n) (Ensures : Out n ps r) : Type 0 where
  pub lifetimes : Lfts n
  pub given : Dens lifetimes ps
  pub returned : (res_t r lifetimes).Denot
  pub left : Lasts (ended_of n ps r) lifetimes given
  pub allowed : Ensures lifetimes given returned (at_exit (ended_of n ps r) lifetimes given left)

-- ---- the question 'routes' by an engine: it is given the file, the start, the limit, the budget and the memory

abbrev pub asked_of : Engine → Out 2 routes-kinds.ps routes-kinds.r
asked_of First = routes-reads.Post
asked_of Second = routes-flat-reads.Post

-- 02: Ticket13.2
pub record AskedBy (e : Engine) : Type 0 where
  pub call : Call 2 routes-kinds.ps routes-kinds.r (asked_of e)
  pub tally : Tally
  pub not_refused : call.returned ≡ Ok tally

abbrev pub seen_asking : (e : Engine) → AskedBy e → Seen
seen_asking e q = record {
  file = q.call.given.0.now;
  start = q.call.given.1.0;
  limit = limit_of q.call.given.1.1.0;
  words = q.tally.words;
  memory = q.call.left.1.1.1.1.0;
}

-- ---- the same as C calls it: it is given the file, the start, the limit, the budget, the memory for the counts and that for the words, and it
-- is refused where the number that it returns is not 0

abbrev pub called_of : Engine → Out 3 yard-routes-kinds.ps yard-routes-kinds.r
called_of First = yard-routes-reads.Post
called_of Second = yard-routes-flat-reads.Post

-- 02: Ticket13.2
pub record CalledBy (e : Engine) : Type 0 where
  pub call : Call 3 yard-routes-kinds.ps yard-routes-kinds.r (called_of e)
  pub not_refused : number_part call.returned ≡ 0

-- how many words the list has is the second of the counts, which have four bytes each
abbrev pub seen_calling : (e : Engine) → CalledBy e → Seen
seen_calling e q = record {
  file = q.call.given.0.now;
  start = q.call.given.1.0;
  limit = limit_of q.call.given.1.1.0;
  words = num_at value_size q.call.left.1.1.1.1.0 (value_size * 1);
  memory = q.call.left.1.1.1.1.1.0;
}
