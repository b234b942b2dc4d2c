use Rattle.face_data.specs.Conditions.Ask.{size_at_most}
use Rattle.face_data.specs.Summaries.{AskedCondition}
use Rattle.block_summary.proofs.DraftSteps.{kept_more}
use Rattle.block_summary.proofs.draft.Draft.ask_entries.Goals as goal

pub invariant_of-self-2 : goal.invariant_of-self-2
invariant_of-self-2 c =
    let inside = c.self.inside in
    let more : AskedCondition = record { fault = record { line = inside.lines; reason = c.args.reason }; ask = size_at_most c.args.entries.now c.args.most } in
    kept_more inside.lines inside.made inside.kept c.keep_size.new.self inside.effect inside.lasts.lasts inside.symbols inside.bare more c.in_ok-keep_size.ensures.ok c.self.invariant
