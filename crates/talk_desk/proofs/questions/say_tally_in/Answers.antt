use Rattle.std.proofs.Common.{◌≡◌, ◌++◌, Bool, subst, sym}
use Rattle.std.specs.Prelude.{OnOk}
use Rattle.reply_report.specs.TallyJson.{tally_members}
use Rattle.reply_report.specs.TallyText.{tally_text}
use Rattle.tally_tree.specs.Tallies.{counts_of_tally}
use Rattle.talk_desk.specs.Styles.{reply_in}
use Rattle.talk_desk.proofs.questions.say_tally_in.Goals as goal

pub returns-then-json-clause-ok : goal.returns-then-json-clause-ok
returns-then-json-clause-ok c =
    subst (λ (b : Bool). OnOk c.json_tally.result (c.json_tally.new.out.items ≡ c.args.out.now.items ++ reply_in b c.args.inquiry.frame
    (tally_text c.args.range.from c.args.range.to c.args.declared.now (counts_of_tally c.args.tally.now)) (tally_members c.args.inquiry.frame c.args.range.from c.args.range.to c.args.declared.now (counts_of_tally c.args.tally.now))))
    (sym c.if-json.true) c.json_tally.ensures.ok
