use Rattle.std.proofs.Common.{◌∙◌, ◌++◌, ap, false}
use Rattle.serde_json.specs.Written.{members_text}
use Rattle.reply_report.specs.TalkText.{broken_place}
use Rattle.reply_report.specs.TalkJson.{final_members}
use Rattle.reply_report.proofs.whole_json.final_of.Goals as goal

pub returns : goal.returns
returns c =
    c.in_ok-append_final.ensures
    ∙ ((λ i. c.in_ok-text.ensures i
    ++ members_text false (final_members (c.setting.ensures.setting i).declared (c.version-version.ensures.version i) ((c.broken_place-place.ensures ∙ ap (broken_place c.args.book.now.opening c.args.book.now.entries) c.line_of_verdict.ensures) i)
    (c.as_str.ensures.text i) c.args.ending.now.verdict)))
