use Rattle.std.proofs.Common.{◌≡◌, drop}
use Rattle.face_data.specs.Lasts.{lasts_of_both}
use Rattle.block_summary.specs.DraftKnowledge.{IsDraft}
use Rattle.block_summary.proofs.draft.Draft.put_lasts.Given as goal

abbrev pub invariant-loop-last : goal.invariant-loop-last
invariant-loop-last l = record {
  rest_stays : l.self-inside ≡ record l.initial.self-inside { lasts = l.self-inside.lasts };
  so_far : lasts_of_both l.self-inside.lasts.lasts (drop l.last-index l.lasts) ≡ lasts_of_both l.initial.self-inside.lasts.lasts l.lasts;
  draft : IsDraft l.self-inside.lines l.self-inside.made l.self-inside.kept l.self-inside.effect l.self-inside.lasts.lasts l.self-inside.symbols l.self-inside.bare;
}
