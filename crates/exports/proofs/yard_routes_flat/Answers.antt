-- `exports::yard_routes_flat` meets its contract.
use mathlib.Core.Path.{ap, ◌∙◌}
use Rattle.route_walks.specs.Lent.{room_of}
use Rattle.route_lister.specs.Answered.{RoutesAnswer, routes_answer}
use Rattle.route_question.specs.Routes.{routes_asked}
use Rattle.c_values.specs.Shown.{shown, leaves}
use Rattle.exports.proofs.Ways.{scrap_shown, scrap_leaves, scrap_words, listed_words}
use borrow.Author.Rules.{rules}
use Rattle.exports.proofs.yard_routes_flat.Goals as goal

pub returns-then-counts-lt-COUNTS_SIZE : goal.returns-then-counts-lt-COUNTS_SIZE
returns-then-counts-lt-COUNTS_SIZE c = let a = c.args in
    let h = c.if-counts-lt-COUNTS_SIZE.true in
    let due = routes_asked a.file.now a.start a.limit a.budget (room_of a.words.now) in
    let e = c.routes_flat-a.ensures.value in
    let counts = a.counts.now in
    record { value = c.show_counts.ensures.value ∙ ap (λ (x : RoutesAnswer). shown (routes_answer x) counts) e ∙ scrap_shown counts h _ _ _ _ _ _; counts_after = c.show_counts.ensures.counts_after ∙ scrap_leaves counts h c.routes_flat-a.result due; words_after = scrap_words counts h _ _ }

pub returns : goal.returns
returns c = let a = c.args in
    let counts = a.counts.now in
    record { value = c.show_counts-2.ensures.value ∙ ap (λ (x : RoutesAnswer). shown (routes_answer x) counts) c.routes_flat-a-2.ensures.value; counts_after = c.show_counts-2.ensures.counts_after ∙ ap (λ (x : RoutesAnswer). leaves (routes_answer x) counts) c.routes_flat-a-2.ensures.value; words_after = c.routes_flat-a-2.ensures.out_after ∙ listed_words counts _ _ c.if-counts-lt-COUNTS_SIZE.false }
