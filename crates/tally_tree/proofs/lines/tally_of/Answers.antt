use Rattle.tally_tree.specs.Tallies.{counts_of_tally}
use Rattle.tally_tree.proofs.Counting.{sorted_on_beds, tally_sorted}
use Rattle.tally_tree.proofs.lines.tally_of.Goals as goal

pub returns-clause-tally : goal.returns-clause-tally
returns-clause-tally g c =
    tally_sorted c.args.setting.now.profile c.args.setting.now.declared c.args.text.now (counts_of_tally c.in_ok-tally.tally) c.sort_needles.new.needles.items c.in_ok-tally.ensures.lines
    c.sort_needles.ensures.rising c.sort_needles.ensures.same

pub returns-clause-on_beds : goal.returns-clause-on_beds
returns-clause-on_beds g c =
    sorted_on_beds c.args.setting.now.profile c.args.setting.now.declared c.args.text.now (counts_of_tally c.in_ok-tally.tally) c.sort_needles.new.needles.items c.in_ok-tally.ensures.lines
    c.sort_needles.ensures.same
