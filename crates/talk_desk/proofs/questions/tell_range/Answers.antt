use Rattle.std.proofs.Common.{◌∙◌, List, ℕ, length, ap, subst, sym, ◌≡◌, ◌++◌}
use Rattle.reply_report.specs.TallyJson.{tally_members}
use Rattle.reply_report.specs.TallyText.{tally_text}
use Rattle.tally_tree.specs.Laws.{with_each_long}
use Rattle.tally_tree.specs.Tallies.{counts_of_tally}
use Rattle.talk_desk.specs.Styles.{reply_in}
use Rattle.talk_desk.proofs.Said.{on-ok}
use Rattle.talk_desk.proofs.questions.tell_range.Goals as goal

pub say_tally_in-requires : goal.say_tally_in-requires
say_tally_in-requires g c = with_each_long _ _ _ c.in_ok-tally.ensures.tally.2 ∙ ap (λ s. length s.declared) (sym c.setting.ensures)

pub returns-clause-ok : goal.returns-clause-ok
returns-clause-ok g c =
    on-ok c.say_tally_in.result
    (λ said. (
      counts_of_tally c.in_ok-tally.tally,
      c.in_ok-tally.ensures.tally,
      subst (λ (names : List (List ℕ)). c.say_tally_in.new.out.items ≡ c.args.out.now.items ++ reply_in c.args.json c.args.inquiry.frame (tally_text c.args.range.from c.args.range.to names (counts_of_tally c.in_ok-tally.tally)) (tally_members c.args.inquiry.frame c.args.range.from c.args.range.to names (counts_of_tally c.in_ok-tally.tally)))
          (ap (λ s. s.declared) c.setting.ensures) said,
    )) c.say_tally_in.ensures.ok
