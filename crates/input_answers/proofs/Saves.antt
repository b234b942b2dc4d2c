-- What `save` writes is the spelling of parts that a saved text may tell, so it is replayed.
use Rattle.std.proofs.Common.{◌≡◌, ℕ, ◌≤◌, List, [], ◌∷◌, ◌++◌, length, sym, refl, subst, arith}
use Rattle.std.specs.List.{AllByRecursion}
use Rattle.std.proofs.lemmas.List.{length-take}
use Rattle.std.proofs.lemmas.List.Elements.{All-from_recursion}
use Rattle.std.proofs.lemmas.Option.{slice_get_within}
use Rattle.knit_base.specs.Lines.{lines_of}
use Rattle.knit_base.specs.declared.profile.Profile.{Profile}
use Rattle.knitout_reader.specs.declared.head.Head.{Head}
use Rattle.knitout_reader.specs.Head.{head_len, head_of}
use Rattle.machine_profile.specs.declared.Chosen.{Chosen}
use Rattle.edit_journal.specs.declared.edit.BlockAt.{BlockAt}
use Rattle.edit_journal.specs.declared.edit.Edit.{Edit}
use Rattle.edit_journal.specs.declared.edit.Edit.TheVariants as edit
use Rattle.edit_journal.specs.declared.edit.Entry.{Entry}
use Rattle.edit_journal.specs.declared.opening.Opening.{Opening}
use Rattle.edit_journal.specs.Documents.{document_of}
use Rattle.script_reader.specs.declared.command.Command.{Command}
use Rattle.turn_book.specs.Legal.{EachEntry}
use Rattle.edit_sessions.specs.Laws.{ComesAsked, IsLegal}
use Rattle.edit_sessions.proofs.Comings.{entries_come}
use Rattle.journal_file.specs.SavedParts.{IsLawfulSaved, IsWritable, IsSpelledEntry, MayAllCome, opening_of_saved, first_blocks}
use Rattle.journal_file.specs.Spelling.{saved_spelling}
use Rattle.journal_file.proofs.JournalReadings.{one_spelling}
use Rattle.verdict_report.specs.LiveText.{IsFinalReport}
use Rattle.input_answers.specs.declared.live_text.LiveOutput.TheVariants.{SavedText}
use Rattle.input_answers.specs.declared.outcome.Status.{Status}
use Rattle.input_answers.specs.declared.outcome.Status.TheVariants.{Done}
use Rattle.input_answers.specs.Asked.{IsLawfulChosen}
use Rattle.file_run.specs.Bodies.{body_of}
use Rattle.input_answers.specs.Due.{BodyFits}
use Rattle.input_answers.specs.DueLive.{DueLive, HasScript, IsScriptOpening, bad_line, bad_script, bad_head, too_large, edited}
use Rattle.input_answers.specs.DueReplay.{DueReplay, bad_journal, replayed}
use Rattle.input_answers.specs.Played.{Played}
use Rattle.input_answers.specs.SavedLaws.{TellsEnd}
use Rattle.input_answers.proofs.EntryNumbers.{AreDrawn, HasNumbers, drawn_behind, drawn_first, numbers_fit}
use Rattle.input_answers.proofs.PlainTexts.{lines_count, short_lines}
use Rattle.input_answers.proofs.SavedOpenings.{first_few, first_fit, first_lines_few, first_numbered, head_fit, keeps_limits, opens_again, profile_lawful, whole_head}
use Rattle.input_answers.proofs.SavedScripts.{GivesFit, IsFitCommand, asked_fit, at_place, script_fit, text_count}
use Rattle.input_answers.proofs.ScriptTexts.{few_sessions}

writable : (e : Edit) → HasNumbers e → GivesFit e → IsWritable e
writable (edit.Put block seen text) numbers given = (numbers.0, numbers.1, given)
writable (edit.Add anchor block text) numbers given = (numbers.0, numbers.1, given)
writable (edit.Cut block seen) numbers given = numbers
writable (edit.Head seen names) numbers given = (numbers, given)

module _ (o : Opening) (scripts : List (List Command)) (few : length scripts ≤ 64) (fit : AllByRecursion (AllByRecursion IsFitCommand) scripts) where
  -- an entry that comes and was asked for has a spelling
  written : (before : List Entry) (e : Entry) → AreDrawn (length before) (document_of o before) → ComesAsked o scripts before e → IsSpelledEntry e
  written before e are is = record {
    session = omega (arith, slice_get_within scripts e.session is.asked.script is.asked.session, few);
    given =
        writable e.edit (numbers_fit (length before) (document_of o before) e.edit are is.comes.room is.comes.fits)
        (asked_fit is.asked.script e.edit (at_place (AllByRecursion IsFitCommand) scripts e.session is.asked.script fit is.asked.session) is.asked.asked);
  }

  all_written : (before rest : List Entry) → AreDrawn (length before) (document_of o before) → EachEntry (ComesAsked o scripts) before rest → AllByRecursion IsSpelledEntry rest
  all_written before [] are each = tt
  all_written before (e ∷ rest) are each = (written before e are each.0, all_written (before ++ e ∷ []) rest (drawn_behind o before e are each.0.comes) each.1)

  all_come : (before rest : List Entry) → EachEntry (ComesAsked o scripts) before rest → MayAllCome o before rest
  all_come before [] each = tt
  all_come before (e ∷ rest) each = (each.0.comes, all_come (before ++ e ∷ []) rest each.1)

-- the parts that are saved
saved_lawful : (chosen : Chosen) (input : List ℕ) (played : Played) (head : Head) (o : Opening) → IsLawfulChosen chosen → length input ≤ 16777216 → HasScript input played.script head → BodyFits chosen.block (length (body_of played.script.text))
    → IsScriptOpening chosen head played.script.text o → IsLegal o played.script.sessions played.entries played.replies → IsLawfulSaved (head_of played.script.text) o.setting.profile (first_blocks o) played.entries
saved_lawful chosen input played head o lawful short has fits opens legal =
    let script = script_fit (lines_of input) played.script (short_lines input has.good) has.spelt in
    let few = few_sessions (lines_of input) played.script has.spelt in
    let limits = keeps_limits chosen head played.script.text o lawful fits opens in
    let each = entries_come o played.script.sessions played.entries played.replies legal limits in
    let blocks = limits.blocks in
    let is = whole_head played.script.text head has.head_is in
    record {
      bounds = record {
        limits = profile_lawful chosen head played.script.text o lawful fits opens;
        whole = is.whole;
        head_few = omega (arith, length-take (head_len played.script.text) played.script.text, text_count (lines_of input) played.script has.spelt, lines_count input, short);
        head_lines = head_fit chosen head played.script.text o lawful fits opens script.text;
        numbered = first_numbered o;
        blocks_few = first_few chosen head played.script.text o lawful fits opens;
        lines_few = first_lines_few chosen head played.script.text o lawful fits opens;
        texts = first_fit chosen head played.script.text o lawful fits opens script.text;
        written = All-from_recursion IsSpelledEntry played.entries (all_written o played.script.sessions few script.sessions [] played.entries (drawn_first o blocks) each);
      };
      come =
          subst (λ (x : Opening). MayAllCome x [] played.entries) (sym (opens_again chosen head played.script.text o lawful fits opens is))
          (all_come o played.script.sessions few script.sessions [] played.entries each);
    }

-- a replay of parts that a saved text may tell
read_back : (text said : List ℕ) (ends : Status) (head : List (List ℕ)) (profile : Profile) (blocks : List BlockAt) (entries : List Entry) → IsLawfulSaved head profile blocks entries → text ≡ saved_spelling head profile blocks entries
    → DueReplay text said ends → (ends ≡ Done) × IsFinalReport (opening_of_saved head profile blocks) entries said
read_back text said ends head profile blocks entries lawful spelt (bad_journal line cause bad none) = absurd (none head profile blocks entries lawful spelt)
read_back text said ends head profile blocks entries lawful spelt (replayed head' profile' blocks' entries' said' saved report) =
    let same = one_spelling text head' profile' blocks' entries' saved.lawful saved.spelt head profile blocks entries lawful spelt in
    (refl, subst (λ (p : Opening × List Entry). IsFinalReport p.0 p.1 said') (λ i. (opening_of_saved (same.0 i) (same.1 i) (same.2 i), same.3 i)) report)

pub saves_replay : (chosen : Chosen) (input : List ℕ) (played : Played) (text : List ℕ) (written_as : Status) → IsLawfulChosen chosen → length input ≤ 16777216 → written_as ≡ Done → DueLive SavedText chosen input played text written_as
    → (said : List ℕ) (ends : Status) → DueReplay text said ends → (ends ≡ Done) × TellsEnd chosen played said
saves_replay chosen input played text written_as lawful short done (bad_line fault refusal bad tells) said ends due = absurd (cc)
saves_replay chosen input played text written_as lawful short done (bad_script line cause good bad) said ends due = absurd (cc)
saves_replay chosen input played text written_as lawful short done (bad_head script fault refusal good spelt bad tells) said ends due = absurd (cc)
saves_replay chosen input played text written_as lawful short done (too_large script head refusal has large) said ends due = absurd (cc)
saves_replay chosen input played text written_as lawful short done (edited head o did told has fits opens legal none spelt) said ends due =
    let parts = saved_lawful chosen input did head o lawful short has fits opens legal in
    let back = read_back told said ends (head_of did.script.text) o.setting.profile (first_blocks o) did.entries parts spelt due in
    let is = whole_head did.script.text head has.head_is in (
      back.0,
      record {
        opening = o;
        head = head;
        has_head = has.head_is;
        opens = opens;
        reported = subst (λ (x : Opening). IsFinalReport x did.entries said) (opens_again chosen head did.script.text o lawful fits opens is) back.1;
      },
    )
