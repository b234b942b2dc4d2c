use Rattle.std.proofs.Common.{◌∙◌, ◌++◌, Some, ap, codes, true}
use Rattle.std.proofs.lemmas.Result.{on_ok_weaker}
use Rattle.serde_json.specs.Data.{Members, array, member, no_members}
use Rattle.serde_json.specs.View.{items_of}
use Rattle.serde_json.specs.Written.{members_text}
use Rattle.pass_grouping.specs.declared.operation.Class.TheVariants as class
use Rattle.tally_tree.specs.Tallies.{TallyCounts, counts_of_tally}
use Rattle.verdict_report.specs.VerdictJson.{list_value}
use Rattle.reply_report.specs.TalkJson.{count_member, frame_members}
use Rattle.reply_report.specs.TallyJson.{carrier_values, class_count, needle_value}
use Rattle.reply_report.proofs.tally_json.append_tally.Goals as goal

pub returns : goal.returns
returns c =
    let v : TallyCounts = counts_of_tally c.args.tally.now in
    let r9 : Members = member (codes "with") (array (items_of (carrier_values c.args.declared.now v.with_each))) no_members in
    let r8 : Members = count_member (codes "to") c.args.to r9 in
    let r7 : Members = count_member (codes "split") (class_count v class.Split) r8 in
    let r6 : Members = frame_members (Some c.args.frame) (codes "tally") r7 in
    let r5 : Members = member (codes "needles") (list_value needle_value v.needles) r6 in
    let r4 : Members = count_member (codes "move") (class_count v class.Move) r5 in
    let r3 : Members = count_member (codes "lines") v.lines r4 in
    let r2 : Members = count_member (codes "from") c.args.from r3 in
    let r1 : Members = count_member (codes "form") (class_count v class.Form) r2 in
    on_ok_weaker c.close.result
    (λ told. told
    ∙ (c.in_ok-append_with.ensures no_members
    ∙ (ap (λ numbers. c.append_count-7.new.out.items ++ members_text true (member (codes "with") (array (items_of (carrier_values c.args.declared.now numbers))) no_members)) c.deref-2.ensures.value
    ∙ (c.in_ok-append_count-7.ensures r9
    ∙ (c.in_ok-append_count-6.ensures r8
    ∙ (c.in_ok-append_frame.ensures r7
    ∙ (c.in_ok-append_needles.ensures r6
    ∙ (ap (λ needles. c.append_count-5.new.out.items ++ members_text true (member (codes "needles") (list_value needle_value needles) r6)) c.deref.ensures.value
    ∙ (c.in_ok-append_count-5.ensures r5
    ∙ (c.in_ok-append_count-4.ensures r4
    ∙ (c.in_ok-append_count-3.ensures r3
    ∙ (c.in_ok-append_count-2.ensures r2
    ∙ c.in_ok-append_count.ensures r1)))))))))))) c.close.ensures
