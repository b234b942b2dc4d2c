use Rattle.std.proofs.Common.{ap, ◌∙◌}
use Rattle.face_data.specs.Segments.{change_at}
use Rattle.block_summary.proofs.KnitSteps.{bare_asked}
use Rattle.block_summary.proofs.draft.Draft.ask_untouched.Goals as goal

pub returns : goal.returns
returns c =
    bare_asked c.args.self.now c.ask_entries.new.self c.args.n c.own_slider.result c.in_ok-goes.goes c.reason_unless.result c.own_slider.ensures
    (ap (change_at c.args.self.now.changes) c.own_slider.ensures ∙ c.requires) c.in_ok-goes.ensures c.reason_unless.ensures
