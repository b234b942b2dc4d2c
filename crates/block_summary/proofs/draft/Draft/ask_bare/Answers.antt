use Rattle.std.proofs.Common.{ap, sym, ◌∙◌}
use Rattle.face_data.specs.Segments.{change_at}
use Rattle.block_summary.proofs.draft.Draft.ask_bare.Goals as goal

pub ask_untouched-requires : goal.ask_untouched-requires
ask_untouched-requires c = ap (change_at c.args.self.now.changes) (sym c.own_slider.ensures) ∙ c.is_untouched.ensures c.if-is_untouched.true
