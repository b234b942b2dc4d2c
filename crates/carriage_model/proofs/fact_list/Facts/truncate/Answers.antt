use Rattle.std.proofs.Common.{◌∙◌, take, map, ap, sym}
use Rattle.std.proofs.lemmas.List.{take-map}
use Rattle.carriage_model.specs.FactList.{fact_with}
use Rattle.carriage_model.proofs.fact_list.Facts.truncate.Goals as goal

pub returns : goal.returns
returns c =
    ap (map (fact_with c.self.inside.yarns.items c.self.inside.through.items)) c.truncate.ensures.items
    ∙ sym (take-map (fact_with c.self.inside.yarns.items c.self.inside.through.items) c.args.count c.self.inside.heads.items)
    ∙ ap (take c.args.count) c.self.view_is
