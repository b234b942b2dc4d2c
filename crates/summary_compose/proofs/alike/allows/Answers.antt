-- The condition names this needle alone.
use Rattle.std.proofs.Common.{◌∙◌, ◌∷◌, [], ap, sym}
use Rattle.face_data.specs.Conditions.{ask_of}
use Rattle.face_data.specs.Conditions.Ask.{size_at_most}
use Rattle.face_data.specs.View.{asked_of_check}
use Rattle.face_data.proofs.Members.{contains_mapped}
use Rattle.summary_compose.specs.Known.{checks_in}
use Rattle.summary_compose.proofs.ImpliedChecks.{note_there}
use Rattle.summary_compose.proofs.Readings.{check_at, first_check}
use Rattle.summary_compose.proofs.alike.allows.Goals as goal

pub returns-in-Some : goal.returns-in-Some
returns-in-Some c = λ yes.
    let a = c.args.a.now in
    let there = contains_mapped (asked_of_check a.names.now) a.checks.now c.args.at first_check c.requires.there in
    let same = c.in-Some.ensures ∙ ap (λ n. n ∷ []) (sym ((c.is_same.ensures).0 yes)) in
    let asked = ap (ask_of a.names.now) c.in-SizeAtMost.is ∙ ap (λ ns. size_at_most ns c.in-SizeAtMost.least) same in
    note_there c.args.needle c.in-SizeAtMost.least c.args.most (checks_in a) (check_at a c.args.at first_check) there asked c.if-least-most.false
