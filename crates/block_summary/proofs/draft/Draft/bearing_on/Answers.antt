use Rattle.std.proofs.Common.{◌≡◌, [], sym, ◌∙◌, subst}
use Rattle.face_data.specs.declared.bearing.Bearing.TheVariants.{Implied, Refuted}
use Rattle.face_data.specs.Answers.{read_answer}
use Rattle.face_data.specs.Answers.ConditionAnswer.{yes_it_does, no_it_does_not, asks}
use Rattle.face_data.specs.Composition.{against_kept, from_bearing}
use Rattle.face_data.specs.Conditions.{ask_of}
use Rattle.face_data.specs.Summaries.{Summary}
use Rattle.block_summary.specs.DraftKnowledge.{effect_in}
use Rattle.block_summary.proofs.DraftSteps.{effect_known, digest_known}
use Rattle.block_summary.proofs.draft.Draft.bearing_on.Goals as goal

pub returns-in-Implied : goal.returns-in-Implied
returns-in-Implied c =
    let inside = c.self.inside in
    subst (λ (s : Summary). against_kept s.checks (read_answer (effect_in s.ending) s.lasts s.changes (ask_of [] c.args.cond)) ≡ yes_it_does) c.self.view_is
    (effect_known inside.kept inside.effect inside.lasts.lasts inside.symbols (ask_of [] c.args.cond) Implied c.requires.plain (sym c.in-Implied.is ∙ c.bearing_on.ensures []) (λ e. cc))

pub returns-in-Refuted : goal.returns-in-Refuted
returns-in-Refuted c =
    let inside = c.self.inside in
    subst (λ (s : Summary). against_kept s.checks (read_answer (effect_in s.ending) s.lasts s.changes (ask_of [] c.args.cond)) ≡ no_it_does_not) c.self.view_is
    (effect_known inside.kept inside.effect inside.lasts.lasts inside.symbols (ask_of [] c.args.cond) Refuted c.requires.plain (sym c.in-Refuted.is ∙ c.bearing_on.ensures []) (λ e. cc))

pub returns-in-Silent : goal.returns-in-Silent
returns-in-Silent c =
    let inside = c.self.inside in
    subst (λ (s : Summary). against_kept s.checks (read_answer (effect_in s.ending) s.lasts s.changes (ask_of [] c.args.cond)) ≡ from_bearing c.bearing_on-in-Silent.result (asks (ask_of [] c.args.cond))) c.self.view_is
    (digest_known inside.kept inside.effect inside.lasts.lasts inside.symbols c.digest.result (ask_of [] c.args.cond) c.bearing_on-in-Silent.result c.requires.plain
    (sym c.in-Silent.is ∙ c.bearing_on.ensures []) c.digest.ensures.digest c.digest.ensures.irredundant (c.bearing_on-in-Silent.ensures []))
