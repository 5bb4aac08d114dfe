-- `x1_lookup::presence::Presence::entry` meets its contract.
use Rattle.x1_lookup.proofs.Present.{not_there, in_words, there}
use Rattle.x1_lookup.proofs.presence.Presence.entry.Goals as goal

pub returns-then-word-k-eq0 : goal.returns-then-word-k-eq0
returns-then-word-k-eq0 c = let a = c.args in
    let word = c.word_of-word in
    not_there a.self a.number word.result word.ensures c.if-word-k-eq0.true

pub ones_before-requires : goal.ones_before-requires
ones_before-requires c = let a = c.args in
    let word = c.word_of-word in
    in_words a.self a.number word.result word.ensures c.if-word-k-eq0.false

pub returns : goal.returns
returns c = let a = c.args in
    let word = c.word_of-word in
    let before = c.ones_before in
    there a.self a.number word.result word.ensures c.if-word-k-eq0.false before.result c.ones_below.result before.ensures.is c.ones_below.ensures.is
