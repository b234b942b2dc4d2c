-- Where nothing hinders a run, each way to end ends well.
use Rattle.std.proofs.Common.{◌≡◌, inl, inr, ℕ, ◌+◌, ◌≤◌, Bool, true, false, ◌++◌, List, length, Option, None, Some, ap, sym, subst, ◌∙◌, refl, arith, append-nil, length-append}
use Rattle.std.specs.Io.KnownBytes.{Consumes, IsAtEnd}
use Rattle.knit_base.specs.Lines.{lines_of}
use Rattle.knit_maker.specs.Made.{made_lines}
use Rattle.knit_ports.specs.declared.limit.TheConstants.{INPUT_LIMIT}
use Rattle.knitout_reader.specs.declared.head.Head.{Head}
use Rattle.knitout_reader.specs.Head.{IsHead}
use Rattle.machine_profile.specs.declared.Chosen.{Chosen}
use Rattle.command_words.specs.declared.command.Command.{Command}
use Rattle.command_words.specs.declared.command.Command.TheVariants.{Check, Text, Passes, Live, Save, Groups, Serve, Replay, Tally, Make}
use Rattle.journal_file.proofs.JournalReadings.{one_spelling}
use Rattle.script_reader.specs.declared.command.Script.{Script}
use Rattle.script_reader.specs.declared.step.GroupScript.{GroupScript}
use Rattle.script_reader.proofs.GroupRuns as group_runs
use Rattle.script_reader.proofs.LiveRuns.{only_script, refused_none}
use Rattle.input_answers.specs.declared.live_text.LiveOutput.{LiveOutput}
use Rattle.input_answers.specs.declared.outcome.Status.{Status}
use Rattle.input_answers.specs.declared.outcome.Status.TheVariants.{Done}
use Rattle.input_answers.specs.Asked.{reads_file, reads_input, reads_script}
use Rattle.file_run.specs.Bodies.{body_of}
use Rattle.input_answers.specs.CheckReport.{IsCheckReport}
use Rattle.input_answers.specs.Due as due
use Rattle.input_answers.specs.Due.{Due, BodyFits, HasHead, checks_body}
use Rattle.input_answers.specs.DueGroups as due_groups
use Rattle.input_answers.specs.DueGroups.{DueGroups}
use Rattle.input_answers.specs.DueLive as due_live
use Rattle.input_answers.specs.DueLive.{DueLive, HasScript}
use Rattle.input_answers.specs.DueMade as due_made
use Rattle.input_answers.specs.DueMade.{DueMade}
use Rattle.input_answers.specs.DueReplay as due_replay
use Rattle.input_answers.specs.DueReplay.{DueReplay}
use Rattle.input_answers.specs.DueTally as due_tally
use Rattle.input_answers.specs.DueTally.{DueTally, IsDueRange, saved_doc}
use Rattle.input_answers.specs.LiveText.{output_of}
use Rattle.input_answers.specs.Played.{Played}
use Rattle.input_answers.proofs.Asks.{asked-chosen, asked-command, asked-lawful}
use Rattle.input_answers.proofs.Exclusions.{fits-not_large, good-not_bad, head-not_bad}
use Rattle.tally_tree.specs.Docs.{DocView, HasBlocks}
use Rattle.check_main.specs.Top as top
use Rattle.check_main.specs.Top.{Called, Ran, SinkUse, SourceUse}
use Rattle.check_main.specs.Complete.{EndsWell, Gives, IsFile, IsGroupScriptThatFits, IsSavedText, IsSavedTextWith, IsScriptThatFits, IsFileStatus, IsUnhindered, IsWithinLimits, WasDone}

-- a source at its end gave all that it had
gave_all : (had : List ℕ) (left : Option (List ℕ)) (input : List ℕ) → Consumes (Some had) left input → IsAtEnd left → input ≡ had
gave_all had None input gave end = absurd gave
gave_all had (Some rest) input gave end = sym (gave ∙ ap (λ (l : List ℕ). input ++ l) end ∙ append-nil input)

-- and it gives no more than it had
gave_few : (had : List ℕ) (left : Option (List ℕ)) (input : List ℕ) → Consumes (Some had) left input → length input ≤ length had
gave_few had None input gave = absurd gave
gave_few had (Some rest) input gave = omega (arith, ap length gave, length-append input rest)

-- a command that reads a file reads an input
file_input : (command : Command) → reads_file command ≡ true → reads_input command ≡ true
file_input (Check loops json) reads = refl
file_input Text reads = refl
file_input Passes reads = refl
file_input Live reads = absurd (cc)
file_input Save reads = absurd (cc)
file_input Groups reads = absurd (cc)
file_input (Serve json) reads = absurd (cc)
file_input Replay reads = absurd (cc)
file_input (Tally from to) reads = absurd (cc)
file_input (Make rows start) reads = absurd (cc)

-- a file within the limits has a head
file_head : (command : Command) (chosen : Chosen) (input : List ℕ) → reads_file command ≡ true → IsWithinLimits command chosen input → IsFile input
file_head (Check loops json) chosen input reads within = within.file
file_head Text chosen input reads within = within
file_head Passes chosen input reads within = within.file
file_head Live chosen input reads within = absurd (cc)
file_head Save chosen input reads within = absurd (cc)
file_head Groups chosen input reads within = absurd (cc)
file_head (Serve json) chosen input reads within = absurd (cc)
file_head Replay chosen input reads within = absurd (cc)
file_head (Tally from to) chosen input reads within = absurd (cc)
file_head (Make rows start) chosen input reads within = absurd (cc)

-- and a body that fits where it is checked
file_fits : (command : Command) (chosen : Chosen) (input : List ℕ) → checks_body command ≡ true → IsWithinLimits command chosen input
    → BodyFits chosen.block (length (body_of (lines_of input)))
file_fits (Check loops json) chosen input checks within = within.fits
file_fits Text chosen input checks within = absurd (cc)
file_fits Passes chosen input checks within = within.fits
file_fits Live chosen input checks within = absurd (cc)
file_fits Save chosen input checks within = absurd (cc)
file_fits Groups chosen input checks within = absurd (cc)
file_fits (Serve json) chosen input checks within = absurd (cc)
file_fits Replay chosen input checks within = absurd (cc)
file_fits (Tally from to) chosen input checks within = absurd (cc)
file_fits (Make rows start) chosen input checks within = absurd (cc)

-- a script within the limits has a text that fits
script_fits : (command : Command) (chosen : Chosen) (input : List ℕ) → reads_script command ≡ true → IsWithinLimits command chosen input → IsScriptThatFits chosen.block input
script_fits (Check loops json) chosen input reads within = absurd (cc)
script_fits Text chosen input reads within = absurd (cc)
script_fits Passes chosen input reads within = absurd (cc)
script_fits Live chosen input reads within = within
script_fits Save chosen input reads within = within
script_fits Groups chosen input reads within = absurd (cc)
script_fits (Serve json) chosen input reads within = absurd (cc)
script_fits Replay chosen input reads within = absurd (cc)
script_fits (Tally from to) chosen input reads within = absurd (cc)
script_fits (Make rows start) chosen input reads within = absurd (cc)

-- it is an input
script_input : (command : Command) → reads_script command ≡ true → reads_input command ≡ true
script_input (Check loops json) reads = refl
script_input Text reads = refl
script_input Passes reads = refl
script_input Live reads = refl
script_input Save reads = refl
script_input Groups reads = refl
script_input (Serve json) reads = absurd (cc)
script_input Replay reads = absurd (cc)
script_input (Tally from to) reads = absurd (cc)
script_input (Make rows start) reads = absurd (cc)

-- and what was asked for is done where the status says so
script_done : (command : Command) (chosen : Chosen) (input : List ℕ) (result : Status) → reads_script command ≡ true → result ≡ Done → WasDone command chosen input result
script_done (Check loops json) chosen input result reads is = absurd (cc)
script_done Text chosen input result reads is = absurd (cc)
script_done Passes chosen input result reads is = absurd (cc)
script_done Live chosen input result reads is = is
script_done Save chosen input result reads is = is
script_done Groups chosen input result reads is = absurd (cc)
script_done (Serve json) chosen input result reads is = absurd (cc)
script_done Replay chosen input result reads is = absurd (cc)
script_done (Tally from to) chosen input result reads is = absurd (cc)
script_done (Make rows start) chosen input result reads is = absurd (cc)

saved_fits : (command : Command) (chosen : Chosen) (input : List ℕ) → command ≡ Replay → IsWithinLimits command chosen input → IsSavedText input
saved_fits command chosen input is within = subst (λ (x : Command). IsWithinLimits x chosen input) is within

tally_fits : (command : Command) (from to : ℕ) (chosen : Chosen) (input : List ℕ) → command ≡ Tally from to → IsWithinLimits command chosen input → IsSavedTextWith from to input
tally_fits command from to chosen input is within = subst (λ (x : Command). IsWithinLimits x chosen input) is within

groups_fit : (command : Command) (chosen : Chosen) (input : List ℕ) → command ≡ Groups → IsWithinLimits command chosen input → IsGroupScriptThatFits chosen.block input
groups_fit command chosen input is within = subst (λ (x : Command). IsWithinLimits x chosen input) is within

-- the status is that of the verdict which is reported
checked : (chosen : Chosen) (input text : List ℕ) (loops json : Bool) (head : Head) (result : Status) → HasHead input head
    → IsCheckReport chosen.profile loops json head.declared (lines_of input) text result → IsFileStatus chosen input result
checked chosen input text loops json head result has report =
    record { head = head; has = has; verdict_given = report.verdict_given; made = report.made; judged = report.judged; ended = report.ended }

-- what was done stands for the command that was asked for
done_for : (command asked : Command) (chosen : Chosen) (input : List ℕ) (result : Status) → command ≡ asked → WasDone asked chosen input result → WasDone command chosen input result
done_for command asked chosen input result is done = subst (λ (x : Command). WasDone x chosen input result) (sym is) done

-- what is due for a file within the limits is that what was asked for is done
file_done : (command : Command) (chosen : Chosen) (input text : List ℕ) (result : Status) → reads_file command ≡ true → IsWithinLimits command chosen input
    → Due command chosen input text result → WasDone command chosen input result
file_done command chosen input text result reads within (due.bad_line fault said bad tells) =
    absurd (good-not_bad (lines_of input) fault said (file_head command chosen input reads within).has.good bad tells)
file_done command chosen input text result reads within (due.bad_head fault said good bad tells) =
    let file = file_head command chosen input reads within in
    absurd (head-not_bad (lines_of input) file.head fault said file.has.head_is bad tells)
file_done command chosen input text result reads within (due.too_large head said checks has large) =
    absurd (fits-not_large chosen.block (length (body_of (lines_of input))) said (file_fits command chosen input checks within) large)
file_done command chosen input text result reads within (due.judged loops json head told ends is has fits report) =
    done_for command (Check loops json) chosen input ends is (checked chosen input told loops json head ends has report)
file_done command chosen input text result reads within (due.canonical head told is has spelt) = done_for command Text chosen input Done is refl
file_done command chosen input text result reads within (due.broken head told is has fits report) =
    done_for command Passes chosen input _ is (checked chosen input told false false head _ has report)
file_done command chosen input text result reads within (due.grouped head told is has fits report) =
    done_for command Passes chosen input Done is
    (record { head = head; has = has; verdict_given = report.verdict_given; made = report.made; judged = report.judged; ended = sym report.sound })

-- of a script
live_done : (output : LiveOutput) (chosen : Chosen) (input : List ℕ) (played : Played) (text : List ℕ) (result : Status) → IsScriptThatFits chosen.block input → DueLive output chosen input played text result → result ≡ Done
live_done output chosen input played text result within (due_live.bad_line fault said bad tells) = absurd (good-not_bad (lines_of input) fault said within.has.good bad tells)
live_done output chosen input played text result within (due_live.bad_script line cause good bad) = absurd (refused_none (lines_of input) line cause within.script within.has.spelt bad)
live_done output chosen input played text result within (due_live.bad_head script fault said good spelt bad tells) =
    let same = only_script (lines_of input) script within.script spelt within.has.spelt in
    absurd (head-not_bad script.text within.head fault said (subst (λ (s : Script). IsHead s.text within.head) same within.has.head_is) bad tells)
live_done output chosen input played text result within (due_live.too_large script head said has large) =
    let same = only_script (lines_of input) script within.script has.spelt within.has.spelt in
    absurd (fits-not_large chosen.block (length (body_of script.text)) said (subst (λ (s : Script). BodyFits chosen.block (length (body_of s.text))) same within.fits) large)
live_done output chosen input played text result within (due_live.edited head opening _ _ has fits opens legal alone report) = refl

groups_done : (chosen : Chosen) (input : List ℕ) (played : Played) (text : List ℕ) (result : Status) → IsGroupScriptThatFits chosen.block input → DueGroups chosen input played text result → result ≡ Done
groups_done chosen input played text result within (due_groups.bad_line fault said bad tells) = absurd (good-not_bad (lines_of input) fault said within.has.good bad tells)
groups_done chosen input played text result within (due_groups.bad_script line cause good bad) = absurd (group_runs.refused_none (lines_of input) line cause within.script within.has.spelt bad)
groups_done chosen input played text result within (due_groups.bad_head script fault said good spelt bad tells) =
    let same = group_runs.only_groups (lines_of input) script within.script spelt within.has.spelt in
    absurd (head-not_bad script.text within.head fault said (subst (λ (s : GroupScript). IsHead s.text within.head) same within.has.head_is) bad tells)
groups_done chosen input played text result within (due_groups.too_large script head said has large) =
    let same = group_runs.only_groups (lines_of input) script within.script has.spelt within.has.spelt in
    absurd (fits-not_large chosen.block (length (body_of script.text)) said (subst (λ (s : GroupScript). BodyFits chosen.block (length (body_of s.text))) same within.fits) large)
groups_done chosen input played text result within (due_groups.edited head opening did _ has fits opens legal report) = refl

-- of a saved text
replay_done : (input text : List ℕ) (result : Status) → IsSavedText input → DueReplay input text result → result ≡ Done
replay_done input text result within (due_replay.bad_journal line cause bad none) = absurd (none within.head within.profile within.blocks within.entries within.saved.lawful within.saved.spelt)
replay_done input text result within (due_replay.replayed head profile blocks entries _ saved report) = refl

-- of blocks that are there
range_done : (doc : DocView) (from to : ℕ) (text : List ℕ) (result : Status) → HasBlocks doc from to → IsDueRange doc from to text result → result ≡ Done
range_done doc from to text result has (due_tally.bad_range none) = absurd (none has)
range_done doc from to text result has (due_tally.tallied v there is) = refl

tally_done : (from to : ℕ) (input text : List ℕ) (result : Status) → IsSavedTextWith from to input → DueTally from to input text result → result ≡ Done
tally_done from to input text result within (due_tally.bad_journal line cause bad none) =
    let t = within.text in
    absurd (none t.head t.profile t.blocks t.entries t.saved.lawful t.saved.spelt)
tally_done from to input text result within (due_tally.ended head profile blocks entries said end saved due_here) =
    let t = within.text in
    let same = one_spelling input t.head t.profile t.blocks t.entries t.saved.lawful t.saved.spelt head profile blocks entries saved.lawful saved.spelt in
    range_done (saved_doc head profile blocks entries) from to said end
    (subst (λ (d : DocView). HasBlocks d from to) (λ i. saved_doc (same.0 i) (same.1 i) (same.2 i) (same.3 i)) within.has) due_here

-- of a made program
made_done : (chosen : Chosen) (rows start : ℕ) (text : List ℕ) (result : Status) → BodyFits chosen.block (length (body_of (made_lines rows start))) → DueMade chosen rows start text result → result ≡ Done
made_done chosen rows start text result fits (due_made.too_large said large) = absurd (fits-not_large chosen.block (length (body_of (made_lines rows start))) said fits large)
made_done chosen rows start text result fits (due_made.summary head told is fit report) = refl

-- what the source gave where it was read to its end
whole_input : (source : SourceUse) (input read : List ℕ) → Gives source input → Consumes source.left_before source.left_after read → IsAtEnd source.left_after → read ≡ input
whole_input source input read gives consumed end =
    gave_all input source.left_after read (subst (λ (left : Option (List ℕ)). Consumes left source.left_after read) gives.left consumed) end

-- it has no byte past the limit
not_past : (source : SourceUse) (input read : List ℕ) → Gives source input → Consumes source.left_before source.left_after read → length read ≡ INPUT_LIMIT + 1 → ⊥
not_past source input read gives consumed past =
    omega (arith, gives.few, past, gave_few input source.left_after read (subst (λ (left : Option (List ℕ)). Consumes left source.left_after read) gives.left consumed))

-- what is due for a run that nothing hinders is that what was asked for is done
due_done : (words : List (List ℕ)) (command : Command) (chosen : Chosen) (input : List ℕ) (source : SourceUse) (sink : SinkUse) (played : Played) (text : List ℕ) (result : Status)
    → IsUnhindered words command chosen input source sink → Called words source played text result → WasDone command chosen input result
due_done words command chosen input source sink played text result free (top.usage refused untouched) = absurd (asked-lawful words command chosen free.asked refused)
due_done words command chosen input source sink played text result free (top.made rows start limits told ends ask untouched is_due) =
    let same = asked-command words command (Make rows start) chosen limits free.asked ask in
    let limits_same = asked-chosen words command (Make rows start) chosen limits free.asked ask in
    let fits = subst (λ (x : Command). IsWithinLimits x chosen input) (sym same) free.within in
    done_for command (Make rows start) chosen input ends (sym same)
    (made_done chosen rows start told ends fits (subst (λ (c : Chosen). DueMade c rows start told ends) limits_same is_due))
due_done words command chosen input source sink played text result free (top.whole other limits read told ends ask reads consumed end few is_due) =
    let same = asked-command words command other chosen limits free.asked ask in
    let limits_same = asked-chosen words command other chosen limits free.asked ask in
    let reads_it = sym (ap reads_file same) ∙ reads in
    let all = whole_input source input read (free.given (file_input command reads_it)) consumed end in
    file_done command chosen input told ends reads_it free.within
    (subst (λ (x : Command). Due x chosen input told ends) same
    (subst (λ (c : Chosen). Due other c input told ends) limits_same (subst (λ (l : List ℕ). Due other limits l told ends) all is_due)))
due_done words command chosen input source sink played text result free (top.live other limits read did told ends ask reads consumed end few is_due) =
    let same = asked-command words command other chosen limits free.asked ask in
    let limits_same = asked-chosen words command other chosen limits free.asked ask in
    let reads_it = sym (ap reads_script same) ∙ reads in
    let all = whole_input source input read (free.given (script_input command reads_it)) consumed end in
    script_done command chosen input ends reads_it
    (live_done (output_of other) chosen input did told ends (script_fits command chosen input reads_it free.within)
    (subst (λ (c : Chosen). DueLive (output_of other) c input did told ends) limits_same (subst (λ (l : List ℕ). DueLive (output_of other) limits l did told ends) all is_due)))
due_done words command chosen input source sink played text result free (top.groups limits read did told ends ask consumed end few is_due) =
    let same = asked-command words command Groups chosen limits free.asked ask in
    let limits_same = asked-chosen words command Groups chosen limits free.asked ask in
    let all = whole_input source input read (free.given (sym (ap reads_input same))) consumed end in
    done_for command Groups chosen input ends (sym same)
    (groups_done chosen input did told ends (groups_fit command chosen input (sym same) free.within)
    (subst (λ (c : Chosen). DueGroups c input did told ends) limits_same (subst (λ (l : List ℕ). DueGroups limits l did told ends) all is_due)))
due_done words command chosen input source sink played text result free (top.replay limits read told ends ask consumed end few is_due) =
    let same = asked-command words command Replay chosen limits free.asked ask in
    let all = whole_input source input read (free.given (sym (ap reads_input same))) consumed end in
    done_for command Replay chosen input ends (sym same)
    (replay_done input told ends (saved_fits command chosen input (sym same) free.within) (subst (λ (l : List ℕ). DueReplay l told ends) all is_due))
due_done words command chosen input source sink played text result free (top.tally from to limits read told ends ask consumed end few is_due) =
    let same = asked-command words command (Tally from to) chosen limits free.asked ask in
    let all = whole_input source input read (free.given (sym (ap reads_input same))) consumed end in
    done_for command (Tally from to) chosen input ends (sym same)
    (tally_done from to input told ends (tally_fits command from to chosen input (sym same) free.within) (subst (λ (l : List ℕ). DueTally from to l told ends) all is_due))
due_done words command chosen input source sink played text result free (top.large other limits read ask reads consumed past) =
    let same = asked-command words command other chosen limits free.asked ask in
    absurd (not_past source input read (free.given (sym (ap reads_input same) ∙ reads)) consumed past)
due_done words command chosen input source sink played text result free (top.broke other limits ask reads rose gave) =
    let same = asked-command words command other chosen limits free.asked ask in
    absurd ((free.given (sym (ap reads_input same) ∙ reads)).no_fault rose)

-- a run that nothing hinders ends well
pub ran-well : (words : List (List ℕ)) (command : Command) (chosen : Chosen) (input : List ℕ) (source : SourceUse) (sink : SinkUse) (played : Played) (result : Status)
    → Ran words source sink played result → IsUnhindered words command chosen input source sink → EndsWell command chosen input result
ran-well words command chosen input source sink played result (top.written text called took calm) free = inl (due_done words command chosen input source sink played text result free called)
ran-well words command chosen input source sink played result (top.cut_short text status called is rose front) free = absurd (free.no_fault rose)
ran-well words command chosen input source sink played result (top.stopped is none keeps few) free = inr is
ran-well words command chosen input source sink played result (top.conversed json limits pieces ask none served) free =
    let same = asked-command words command (Serve json) chosen limits free.asked ask in
    inl (done_for command (Serve json) chosen input result (sym same) tt)
