-- `pair::pass::turnout_obeys` meets its contract.
use Rattle.x2_records.specs.Rows as row
use Rattle.tables.specs.Table.{field_place}
use Rattle.pair.specs.Pair.{lies}
use Rattle.pair.proofs.Passing.{three_pass}
use borrow.Author.Rules.{rules}
use Rattle.pair.proofs.pass.turnout_obeys.Goals as goal

pub returns : goal.returns
returns c = let a = c.args in
    λ e.
    three_pass a.f.now a.g.now a.at
    (lies (field_place a.at row.turnout_front_track) (field_place a.at row.turnout_tip_position))
    (lies (field_place a.at row.turnout_normal_track) (field_place a.at row.turnout_normal_position))
    (lies (field_place a.at row.turnout_reverse_track) (field_place a.at row.turnout_reverse_position))
    c.lies_obeys-tip.ensures c.lies_obeys-normal.ensures c.lies_obeys-reverse.ensures e
