-- What an opening comes to: a document, or a refusal.
use Rattle.std.proofs.Common.{◌≡◌, ◌∙◌, ℕ, ◌+◌, ◌<◌, ◌≤◌, List, [], ◌∷◌, ◌++◌, length, flat_map, drop, IfOk, ap, subst, sym, refl, arith, length-append}
use Rattle.std.specs.Prelude.{Result, Ok, Err}
use Rattle.knit_ports.specs.WholeLines.{with_feed}
use Rattle.edit_journal.specs.declared.opening.Opening.{Opening}
use Rattle.input_answers.specs.Asked.{as_json}
use Rattle.file_run.specs.Bodies.{body_of}
use Rattle.input_answers.specs.Due.{BodyFits}
use Rattle.input_answers.specs.DueLive.{IsScriptOpening}
use Rattle.input_answers.specs.DueReplay.{journal_refusal}
use Rattle.input_answers.specs.declared.outcome.Status.TheVariants as status
use Rattle.input_answers.specs.declared.plan.Plan.{Plan}
use Rattle.journal_file.specs.Faults.{HasNoSpelling, IsBadJournal}
use Rattle.journal_file.specs.SavedParts.{IsLawfulSaved, opening_of_saved}
use Rattle.journal_file.specs.Spelling.{saved_spelling}
use Rattle.journal_file.specs.declared.fault.JournalCause.{JournalCause}
use Rattle.journal_file.specs.declared.fault.JournalFault.TheVariants.{At}
use Rattle.journal_file.specs.declared.saved.Saved.{Saved}
use Rattle.knitout_reader.specs.Head.{IsHead, head_of}
use Rattle.knitout_reader.specs.declared.head.Head.{Head}
use Rattle.opening_reader.specs.Openings as openings
use Rattle.opening_reader.specs.declared.front.TheConstants.{OPENING_LIMIT}
use Rattle.opening_reader.specs.declared.opening.OpeningKind.{OpeningKind}
use Rattle.opening_reader.specs.declared.opening.OpeningKind.TheVariants as kind
use Rattle.opening_reader.specs.declared.opening.OpeningText.{OpeningText}
use Rattle.live_talk.specs.Begins.{BeginsBy, HasBegun, RefusesText, bad_journal}
use Rattle.live_talk.specs.Served.{IsDocumentOf, again, anew}
use Rattle.live_talk.specs.declared.begin.Begun.{Begun}

-- what follows of a value, where there is one
pub if-ok : {T E : Type 0} {P Q : T → Type 0} (r : Result T E) → ((x : T) → P x → Q x) → IfOk r P → IfOk r Q
if-ok (Ok x) f p = f x p
if-ok (Err e) f p = tt

-- a document begins with the text
pub begins-anew : (plan : Plan) (told : OpeningText) (text : List (List ℕ)) (head : Head) (opening : Opening) (begun : Begun) → told.kind ≡ kind.Text → text ≡ told.text → IsHead text head
    → BodyFits plan.chosen.block (length (body_of text)) → IsScriptOpening plan.chosen head text opening → HasBegun (as_json plan.command) (head_of text) opening [] begun → BeginsBy plan told begun
begins-anew plan told text head opening begun is same has fits opens begins = record {
  head = head_of text;
  opening = opening;
  entries = [];
  document = subst (λ (p : OpeningKind × List (List ℕ)). IsDocumentOf plan.chosen p.0 p.1 (head_of text) opening []) (λ i. (sym is i, same i)) (anew text head opening has fits opens);
  begun = begins;
}

-- one goes on from the saved text
pub begins-again : (plan : Plan) (told : OpeningText) (lines : List (List ℕ)) (saved : Saved) (begun : Begun) → told.kind ≡ kind.Saved → told.text ≡ lines
    → flat_map with_feed lines ≡ saved_spelling saved.head saved.profile saved.blocks saved.journal.entries → IsLawfulSaved saved.head saved.profile saved.blocks saved.journal.entries
    → HasBegun (as_json plan.command) saved.head (opening_of_saved saved.head saved.profile saved.blocks) saved.journal.entries begun → BeginsBy plan told begun
begins-again plan told lines saved begun is same spelt lawful begins = record {
  head = saved.head;
  opening = opening_of_saved saved.head saved.profile saved.blocks;
  entries = saved.journal.entries;
  document = subst (λ (p : OpeningKind × List (List ℕ)). IsDocumentOf plan.chosen p.0 p.1 saved.head (opening_of_saved saved.head saved.profile saved.blocks) saved.journal.entries) (λ i. (sym is i, sym same i))
      (again lines saved.head saved.profile saved.blocks saved.journal.entries spelt lawful);
  begun = begins;
}

-- the lines are no saved text
pub refused-again : (plan : Plan) (told : OpeningText) (lines : List (List ℕ)) (bytes : List ℕ) (line : ℕ) (why : JournalCause) → told.kind ≡ kind.Saved → told.text ≡ lines → bytes ≡ flat_map with_feed lines
    → IsBadJournal bytes (At line why) → HasNoSpelling bytes → RefusesText plan told (journal_refusal line why) status.BadInput
refused-again plan told lines bytes line why is same are bad none =
    let here : bytes ≡ flat_map with_feed told.text = are ∙ ap (λ (l : List (List ℕ)). flat_map with_feed l) (sym same) in
    bad_journal line why is (subst (λ (b : List ℕ). IsBadJournal b (At line why)) here bad) (subst HasNoSpelling here none)

-- the lines of a saved text aren't too long together
pub saved-few : (lines text : List (List ℕ)) (which : OpeningKind) → which ≡ kind.Saved → openings.AreOpeningLines lines which text → length (flat_map with_feed text) ≤ OPENING_LIMIT
saved-few lines text kind.Text is o = absurd (cc)
saved-few lines text kind.Saved is o =
    let w = o.whole in
    let others : text ≡ w.others = o.text_is ∙ ap (λ (l : List (List ℕ)). drop 1 l) w.lines_are in
    let few = o.good.few in
    let all : length (flat_map with_feed lines) ≡ length (with_feed w.first) + length (flat_map with_feed w.others) =
    ap (λ (l : List (List ℕ)). length (flat_map with_feed l)) w.lines_are ∙ length-append (with_feed w.first) (flat_map with_feed w.others) in
    omega (arith, few, all, ap (λ (l : List (List ℕ)). length (flat_map with_feed l)) others)
