use Rattle.std.proofs.Common.{[]}
use Rattle.face_data.specs.Conditions.{ask_of}
use Rattle.face_data.specs.Summaries.{AskedCondition}
use Rattle.block_summary.proofs.DraftSteps.{kept_more, left_to_ask}
use Rattle.block_summary.proofs.draft.Draft.keep_if_silent.Goals as goal

pub keep-requires-clause-silent : goal.keep-requires-clause-silent
keep-requires-clause-silent c =
    let inside = c.self.inside in
    left_to_ask c.args.self.now inside.kept inside.effect inside.lasts.lasts inside.symbols inside.lines inside.made (ask_of [] c.args.cond) c.args.bearing c.self.view_is c.requires.known c.in-Silent.is

pub invariant_of-self-in-Silent : goal.invariant_of-self-in-Silent
invariant_of-self-in-Silent c =
    let inside = c.self.inside in
    let more : AskedCondition = record { fault = record { line = inside.lines; reason = c.args.reason }; ask = ask_of [] c.args.cond } in
    kept_more inside.lines inside.made inside.kept c.keep.new.self inside.effect inside.lasts.lasts inside.symbols inside.bare more c.in_ok-keep-in-Silent.ensures.ok c.self.invariant
