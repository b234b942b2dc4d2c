use Rattle.std.proofs.Common.{rules, ◌≡◌, ◌∙◌, ◌++◌, ap, codes}
use Rattle.knit_base.specs.Spelling.{rack_text}
use Rattle.verdict_report.specs.JsonText.{list_member, stack_json}
use Rattle.knit_base.proofs.Chain.{after_four}
use Rattle.verdict_report.proofs.as_json.append_sound_back.Goals as goal

pub returns : goal.returns
returns c =
    let key : c.extend_from_slice.new.self.items ≡ c.append_list_member.new.out.items ++ codes ",\"rack\":\"" = search rules in
    let rack : c.append_rack.new.out.items ≡ c.extend_from_slice.new.self.items ++ rack_text c.args.sound.now.rack.0 = search rules in
    let end : c.extend_from_slice-2.new.self.items ≡ c.append_rack.new.out.items ++ codes "\",\"verdict\":\"sound\"}" = search rules in
    after_four c.args.out.now.items c.append_list_member.new.out.items c.extend_from_slice.new.self.items c.append_rack.new.out.items c.extend_from_slice-2.new.self.items
    (list_member (codes ",\"needles\":") stack_json c.args.sound.now.stacks) (codes ",\"rack\":\"") (rack_text c.args.sound.now.rack.0) (codes "\",\"verdict\":\"sound\"}")
    (c.in_ok-append_list_member.ensures ∙ ap (λ stacks. c.args.out.now.items ++ list_member (codes ",\"needles\":") stack_json stacks) c.as_slice.ensures.items)
    key rack end
