use Rattle.reply_report.proofs.TallyValues.{needle-quoted}
use Rattle.reply_report.proofs.tally_json.append_quoted.Goals as goal

pub returns : goal.returns
returns c =
    needle-quoted c.args.needle c.args.out.now.items c.extend_from_slice.new.self.items c.append_needle.new.out.items c.extend_from_slice-2.new.self.items
    c.in_ok-extend_from_slice.ensures.items c.in_ok-append_needle.ensures.ok c.in_ok-extend_from_slice-2.ensures.items
