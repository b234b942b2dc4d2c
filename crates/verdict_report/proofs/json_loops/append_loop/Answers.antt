use Rattle.std.proofs.Common.{rules, ◌≡◌, ◌++◌, codes, decimal, map, string_bytes}
use Rattle.carriage_model.specs.FactList.{lent_fact}
use Rattle.verdict_report.specs.JsonText.{list_member, loop_json, loop_place, string_of}
use Rattle.knit_base.proofs.Chain.{after_four}
use Rattle.verdict_report.proofs.json_loops.append_loop.Goals as goal

pub returns : goal.returns
unfolding loop_json
returns c =
    let end : c.extend_from_slice.new.self.items ≡ c.append_list_member.new.out.items ++ codes "}" = search rules in
    after_four c.args.out.now.items c.append_place.new.out.items c.append_through.new.out.items c.append_list_member.new.out.items c.extend_from_slice.new.self.items
    (loop_place (lent_fact c.args.fact.now)) (list_member (codes ",\"through\":") decimal c.args.fact.now.through.now)
    (list_member (codes ",\"yarns\":") (string_of (map string_bytes c.args.strings.now)) c.args.fact.now.yarns.now) (codes "}")
    c.in_ok-append_place.ensures c.in_ok-append_through.ensures c.in_ok-append_list_member.ensures end
