-- The condition kept last has its needles last.
use Rattle.std.proofs.Common.{◌∙◌, ap, refl, arith, ◌++◌, ◌∷◌, [], ℕ}
use Rattle.std.proofs.lemmas.Grind.{common_steps}
use Rattle.face_data.specs.Segments.{names_through}
use Rattle.face_data.specs.Conditions.Ask.{size_at_most}
use Rattle.summary_compose.specs.Changes.{changes_in}
use Rattle.summary_compose.specs.Known.{KeptView, names_count}
use Rattle.summary_compose.proofs.Checks.{size_kept, size_named, named_size, asks_same}
use Rattle.summary_compose.proofs.kept.KeptFaceConditions.ask_size.Goals as goal

pub read_names-new-requires-clause-room : goal.read_names-new-requires-clause-room
read_names-new-requires-clause-room c =
    let size = named_size c.self.inside.names.items c.self.inside.checks.items c.self.invariant in
    let seen = ap (λ (v : KeptView). names_count v.checks) c.self.view_is in
    let room = ap (λ (v : KeptView). v.name_room) c.self.view_is in
    grind (arith, common_steps)

pub invariant_of-self-in-Asks : goal.invariant_of-self-in-Asks
invariant_of-self-in-Asks c =
    size_named c.self.inside.checks.items c.push_reserved.new.self.items c.self.inside.names.items (names_through (changes_in c.args.a.now) c.args.needles.now) c.read_names-new.new.names.items _ _ c.in-Asks.left c.self.invariant c.read_names-new.ensures.items
    refl (grind (arith, common_steps)) (grind (arith, common_steps)) c.push_reserved.ensures.items

pub returns-in-Asks-clause-asks : goal.returns-in-Asks-clause-asks
returns-in-Asks-clause-asks c = λ left e.
    size_kept c.self.inside.checks.items c.push_reserved.new.self.items c.self.inside.names.items (names_through (changes_in c.args.a.now) c.args.needles.now) c.read_names-new.new.names.items _ _ c.in-Asks.left c.self.invariant c.read_names-new.ensures.items
    refl (grind (arith, common_steps)) (grind (arith, common_steps)) c.push_reserved.ensures.items
    ∙ ap (λ (v : KeptView). v.checks ++ record { fault = c.args.fault; ask = size_at_most (names_through (changes_in c.args.a.now) c.args.needles.now) c.in-Asks.left } ∷ []) c.self.view_is
    ∙ ap (λ (most : ℕ). c.args.self.now.checks ++ record { fault = c.args.fault; ask = size_at_most (names_through (changes_in c.args.a.now) c.args.needles.now) most } ∷ []) (asks_same c.in-Asks.left left e)
