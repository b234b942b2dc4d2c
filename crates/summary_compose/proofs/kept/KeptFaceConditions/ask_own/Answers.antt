-- The condition kept last has its needle last.
use Rattle.std.proofs.Common.{◌≡◌, ◌∙◌, ap, refl, sym, arith, ◌++◌, ◌∷◌, [], map}
use Rattle.std.proofs.lemmas.Grind.{common_steps}
use Rattle.face_data.specs.Conditions.Ask.{size_at_most}
use Rattle.face_data.specs.View.{asked_of_check}
use Rattle.summary_compose.specs.Known.{KeptView, names_count}
use Rattle.summary_compose.proofs.Checks.{size_kept, size_named, named_size}
use Rattle.summary_compose.proofs.Steps.{knows_size, step_own}
use Rattle.summary_compose.proofs.kept.KeptFaceConditions.ask_own.Goals as goal

pub push_reserved-requires : goal.push_reserved-requires
push_reserved-requires c =
    let size = named_size c.self.inside.names.items c.self.inside.checks.items c.self.invariant in
    let seen = ap (λ (v : KeptView). names_count v.checks) c.self.view_is in
    let room = ap (λ (v : KeptView). v.name_room) c.self.view_is in
    grind (arith, common_steps)

pub invariant_of-self : goal.invariant_of-self
invariant_of-self c =
    size_named c.self.inside.checks.items c.push_reserved-2.new.self.items c.self.inside.names.items (c.args.needle ∷ []) c.push_reserved.new.self.items _ _ c.args.most c.self.invariant c.push_reserved.ensures.items
    refl (grind (arith, common_steps)) refl c.push_reserved-2.ensures.items

now_kept : (c : goal.After-push_reserved-2) →
    map (asked_of_check c.push_reserved.new.self.items) c.push_reserved-2.new.self.items ≡ c.args.self.now.checks ++ record { fault = c.args.fault; ask = size_at_most (c.args.needle ∷ []) c.args.most } ∷ []
now_kept c =
    size_kept c.self.inside.checks.items c.push_reserved-2.new.self.items c.self.inside.names.items (c.args.needle ∷ []) c.push_reserved.new.self.items _ _ c.args.most c.self.invariant c.push_reserved.ensures.items
    refl (grind (arith, common_steps)) refl c.push_reserved-2.ensures.items
    ∙ ap (λ (v : KeptView). v.checks ++ record { fault = c.args.fault; ask = size_at_most (c.args.needle ∷ []) c.args.most } ∷ []) c.self.view_is

pub returns-clause-step : goal.returns-clause-step
returns-clause-step c =
    step_own c.args.index.now.notes c.args.self.now.checks _ c.args.fault c.args.needle c.args.most (sym c.covers.ensures ∙ c.if-covers.false) (now_kept c)

pub returns-clause-knows : goal.returns-clause-knows
returns-clause-knows c = λ digest known.
    knows_size digest c.args.index.now.notes c.note.new.self.notes c.args.self.now.checks _ c.args.fault (c.args.needle ∷ []) c.args.most c.note.ensures.notes (now_kept c) known
