use Rattle.std.proofs.Common.{rules, ◌≡◌, ◌∙◌, ◌++◌, ap, codes, decimal}
use Rattle.verdict_report.specs.JsonText.{list_member, needle_member, stack_json}
use Rattle.knit_base.proofs.Chain.{after_three}
use Rattle.verdict_report.proofs.json_items.StackListItem.append.Goals as goal

pub returns : goal.returns
unfolding stack_json
returns c =
    let end : c.extend_from_slice.new.self.items ≡ c.append_needle_member.new.out.items ++ codes "}" = search rules in
    after_three c.args.out.now.items c.append_list_member.new.out.items c.append_needle_member.new.out.items c.extend_from_slice.new.self.items
    (list_member (codes "{\"loops\":") decimal c.args.self.now.loops) (needle_member c.args.self.now.needle) (codes "}")
    (c.in_ok-append_list_member.ensures ∙ ap (λ loops. c.args.out.now.items ++ list_member (codes "{\"loops\":") decimal loops) c.as_slice.ensures.items)
    c.in_ok-append_needle_member.ensures end
