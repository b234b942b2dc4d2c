use Rattle.std.proofs.Common.{arith, rules, ◌≡◌, [], ◌∷◌, ◌++◌, List, length, ap, ◌∙◌}
use Rattle.std.proofs.lemmas.Grind.{common_steps}
use Rattle.face_data.specs.Segments.{Changed}
use Rattle.block_summary.proofs.LaidChanges.{change_laid}
use Rattle.block_summary.proofs.laid.DraftChanges.push.Goals as goal

pub invariant_of-self-2 : goal.invariant_of-self-2
invariant_of-self-2 c =
    let inside = c.self.inside in
    let more = c.args.segs.now in
    let begins : c.len.result ≡ length inside.segs.items = grind (arith, common_steps) in
    let segs : c.extend_from_slice.new.self.items ≡ inside.segs.items ++ more = search rules in
    let items : c.push_reserved.new.self.items ≡ inside.changes.items ++ record { needle = c.args.needle; part = record { start = c.len.result; len = length more } } ∷ [] = search rules in
    (change_laid inside.segs.items c.extend_from_slice.new.self.items inside.changes.items c.push_reserved.new.self.items c.args.needle more c.len.result (length more) segs begins (λ i. length more) items c.self.invariant).packed

pub returns-clause-ok : goal.returns-clause-ok
returns-clause-ok c =
    let inside = c.self.inside in
    let more = c.args.segs.now in
    let begins : c.len.result ≡ length inside.segs.items = grind (arith, common_steps) in
    let segs : c.extend_from_slice.new.self.items ≡ inside.segs.items ++ more = search rules in
    let items : c.push_reserved.new.self.items ≡ inside.changes.items ++ record { needle = c.args.needle; part = record { start = c.len.result; len = length more } } ∷ [] = search rules in
    (change_laid inside.segs.items c.extend_from_slice.new.self.items inside.changes.items c.push_reserved.new.self.items c.args.needle more c.len.result (length more) segs begins (λ i. length more) items c.self.invariant).laid
    ∙ ap (λ (laid : List Changed). laid ++ (c.args.needle, more) ∷ []) c.self.view_is
