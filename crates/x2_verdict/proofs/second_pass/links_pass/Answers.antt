-- `x2_verdict::second_pass::links_pass` meets its contract: the links of each sort of records obey where those of the one before it do.
use Rattle.x2_verdict.proofs.Passes.{start_sort, starts_whole, ends_whole, end_sort, turnout_sort, balise_sort, signal_sort, joint_sort, linking_start, linking_all}
use Rattle.x2_verdict.proofs.second_pass.links_pass.Goals as goal

pub kind_links-requires : goal.kind_links-requires
kind_links-requires c = let m = c.args.m.now in (start_sort _ _ m.regions, starts_whole _ _ m.regions, linking_start m.f.now m.l)

pub kind_links-requires-2 : goal.kind_links-requires-2
kind_links-requires-2 c = (end_sort _ _ c.args.m.now.regions, ends_whole _ _ c.args.m.now.regions, c.in_ok-starts.ensures)

pub kind_links-requires-3 : goal.kind_links-requires-3
kind_links-requires-3 c = (turnout_sort _ _ c.args.m.now.regions, c.args.m.now.regions.turnouts, c.in_ok-ends.ensures)

pub balise_links-requires : goal.balise_links-requires
balise_links-requires c = (balise_sort _ _ c.args.m.now.regions, c.in_ok-turnouts.ensures)

pub kind_links-requires-4 : goal.kind_links-requires-4
kind_links-requires-4 c = (signal_sort _ _ c.args.m.now.regions, c.args.m.now.regions.signals, c.in_ok-balises.ensures)

pub kind_links-requires-5 : goal.kind_links-requires-5
kind_links-requires-5 c = (joint_sort _ _ c.args.m.now.regions, c.args.m.now.regions.joints, c.in_ok-signals.ensures)

pub returns : goal.returns
returns c = let m = c.args.m.now in linking_all m.f.now m.l m.regions _ c.in_ok-kind_links.ensures
