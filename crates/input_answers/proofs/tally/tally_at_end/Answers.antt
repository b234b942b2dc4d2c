use Rattle.std.proofs.Common.{◌≡◌, ℕ, List, true, subst, sym}
use Rattle.std.proofs.lemmas.Result.{IfOk-weaker}
use Rattle.verdict_report.specs.declared.refusal.Refusal.TheVariants.{BadRange}
use Rattle.verdict_report.specs.Refusals.{refusal_text}
use Rattle.tally_tree.specs.Docs.{DocView, HasBlocks, IsRange, doc_view, setting_now}
use Rattle.tally_tree.specs.Tallies.{TallyCounts}
use Rattle.input_answers.specs.declared.outcome.Status.{Status}
use Rattle.input_answers.specs.declared.outcome.Status.TheVariants.{Done}
use Rattle.input_answers.specs.DueTally.{IsDueRange, bad_range, tallied}
use Rattle.reply_report.specs.TallyText.{tally_text}
use Rattle.input_answers.proofs.tally.tally_at_end.Goals as goal

pub returns-then-not-has_blocks : goal.returns-then-not-has_blocks
returns-then-not-has_blocks g c =
    let doc = doc_view c.args.outline in
    let none : HasBlocks doc c.args.from c.args.to → ⊥ = λ has. let there : c.has_blocks.result ≡ true = c.has_blocks.ensures.1 has in cc (there, c.if-not-has_blocks.true) in
    IfOk-weaker c.refusal.result _ _
    (λ ending is.
    subst (λ (t : List ℕ). IsDueRange doc c.args.from c.args.to t ending.status) (sym is.0)
    (subst (λ (s : Status). IsDueRange doc c.args.from c.args.to (refusal_text BadRange) s) (sym is.1) (bad_range none)))
    c.refusal.ensures

-- what is due for the document that was made is due for that of the outline
due : (doc : DocView) (from to : ℕ) (text : List ℕ) → HasBlocks doc from to → (v : TallyCounts) × IsRange doc from to v × (text ≡ tally_text from to (setting_now doc).declared v) → IsDueRange doc from to text Done
due doc from to text has told = subst (λ (t : List ℕ). IsDueRange doc from to t Done) (sym told.2) (tallied told.0 has told.1)

pub returns : goal.returns
returns g c =
    let there : c.has_blocks.result ≡ true = c.if-not-has_blocks.false in
    due (doc_view c.args.outline) c.args.from c.args.to c.in_ok-text.text.items (c.has_blocks.ensures.0 there)
    (subst (λ (d : DocView). (v : TallyCounts) × IsRange d c.args.from c.args.to v × (c.in_ok-text.text.items ≡ tally_text c.args.from c.args.to (setting_now d).declared v))
    (λ i. record { opening = c.in_ok-doc.ensures.opening i; entries = c.in_ok-doc.ensures.entries i }) c.in_ok-text.ensures)
