use Rattle.std.proofs.Common.{◌≡◌, drop, map}
use Rattle.face_data.specs.Lasts.{lasts_of_both}
use Rattle.carrier_rules.specs.Carriers.{carrier_last}
use Rattle.block_summary.specs.DraftKnowledge.{IsDraft}
use Rattle.block_summary.proofs.draft.Draft.put_last_of_each.Given as goal

abbrev pub invariant-loop-c : goal.invariant-loop-c
invariant-loop-c l = record {
  rest_stays : l.self-inside ≡ record l.initial.self-inside { lasts = l.self-inside.lasts };
  so_far : lasts_of_both l.self-inside.lasts.lasts (map (carrier_last l.at) (drop l.c-index l.carriers)) ≡ lasts_of_both l.initial.self-inside.lasts.lasts (map (carrier_last l.at) l.carriers);
  draft : IsDraft l.self-inside.lines l.self-inside.made l.self-inside.kept l.self-inside.effect l.self-inside.lasts.lasts l.self-inside.symbols l.self-inside.bare;
}
