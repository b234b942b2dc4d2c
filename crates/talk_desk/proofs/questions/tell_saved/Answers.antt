use Rattle.std.proofs.Common.{List, ℕ, subst, ◌≡◌, ◌++◌}
use Rattle.std.specs.Prelude.{OnOk}
use Rattle.reply_report.specs.TalkJson.{saved_members}
use Rattle.reply_report.specs.TalkText.{saved_said}
use Rattle.talk_desk.specs.Styles.{reply_in}
use Rattle.talk_desk.proofs.questions.tell_saved.Goals as goal

pub returns-clause-ok : goal.returns-clause-ok
returns-clause-ok g c =
    subst (λ (p : ℕ × List ℕ). OnOk c.say_saved_in.result (c.say_saved_in.new.out.items ≡ c.args.out.now.items ++ reply_in c.args.style.now.json c.args.inquiry.frame (saved_said p.0 p.1) (saved_members c.args.inquiry.frame p.0 p.1)))
    (λ i. (c.version.ensures.version i, c.in_ok-saved.ensures i)) c.say_saved_in.ensures.ok
