-- Runs that nothing hinders: for each command there are such.
use Rattle.std.proofs.Common.{◌≡◌, ℕ, ◌+◌, ◌<◌, ◌≤◌, ◌^◌, ◌++◌, true, false, ◌&&◌, nat_lt, List, [], ◌∷◌, Some, None, All, codes, refl, sym, subst, arith, length, length-append, pos, decimal, flat_map}
use Rattle.std.specs.Prelude.{◌-ℤ◌}
use Rattle.std.specs.List.{list_all}
use Rattle.std.proofs.lemmas.Bool.{ltb-true}
use Rattle.std.proofs.lemmas.Fmt.{length-decimal-le}
use Rattle.std.proofs.lemmas.Int.{ints}
use Rattle.std.proofs.lemmas.List.Elements.{All-cons, All-nil}
use Rattle.std.proofs.lemmas.Str.{is_utf8-from_IsUtf8}
use Rattle.knit_base.specs.Limits.{IsLawfulProfile}
use Rattle.knit_base.specs.Lines.{lines_of}
use Rattle.knit_base.specs.Spelling.{labelled_number}
use Rattle.edit_journal.specs.declared.edit.BlockAt.{BlockAt}
use Rattle.knit_maker.proofs.PlainLines.{is_printed, plain-text, plain-utf8}
use Rattle.knit_ports.specs.declared.limit.TheConstants.{INPUT_LIMIT}
use Rattle.line_cutter.specs.Cut.{IsGoodLine}
use Rattle.machine_profile.specs.declared.Chosen.{Chosen}
use Rattle.machine_profile.specs.declared.Options.{Options}
use Rattle.machine_profile.specs.Bounds.{IsChosen}
use Rattle.command_words.specs.declared.command.Command.{Command}
use Rattle.command_words.specs.declared.command.Command.TheVariants.{Check, Text, Passes, Live, Save, Groups, Replay, Tally, Make}
use Rattle.command_words.specs.Request.{words_request}
use Rattle.journal_file.proofs.PlainLines.{has_none, no_feed}
use Rattle.journal_file.specs.SavedParts.{IsFirstText, IsShortLine, IsSpelledEntry}
use Rattle.journal_file.specs.Spelling.{block_lines, blocks_lines, count_spelling, entries_lines, head_lines, needle_limits, other_limits, profile_line, profile_text, saved_spelling, text_lines}
use Rattle.script_reader.specs.declared.command.Command.TheVariants.{Verdict}
use Rattle.script_reader.specs.declared.command.Script.{Script}
use Rattle.script_reader.specs.declared.step.GroupScript.{GroupScript}
use Rattle.script_reader.specs.declared.step.Step.TheVariants.{One, Undo}
use Rattle.script_reader.specs.Groups.{IsGroupScript}
use Rattle.script_reader.specs.Script.{IsScript}
use Rattle.script_reader.proofs.Bools.{first_true, second_true}
use Rattle.input_answers.specs.Asked.{AsksCommand}
use Rattle.check_main.specs.Complete.{Gives, IsFile, IsFileThatFits, IsGroupScriptThatFits, IsSavedText, IsScriptThatFits, IsUnhindered}
use Rattle.check_main.specs.Top.{SinkUse, SourceUse}

abbrev no_options : Options
no_options = record { low = None; high = None; rack = None; hold = None; block = None; float = None }

-- the limits that are chosen where no option is given
abbrev usual : Chosen
usual = record { profile = record { low = pos 0 -ℤ pos 1024; high = pos 1023; rack = 8; hold = 16; float = None }; block = 64 }

usual_chosen : IsChosen no_options usual
usual_chosen = record { low = refl; high = refl; rack = refl; hold = refl; block = refl; float = refl }

abbrev file : List ℕ
file = codes ";!knitout-2\n;;Carriers: 1\ndrop f1\n"

-- a source that gave the bytes, and a sink that took some
abbrev giving : List ℕ → SourceUse
giving input = record { left_before = Some input; left_after = Some []; faults_before = 0; faults_after = 0 }

abbrev taking : List ℕ → SinkUse
taking text = record { taken_before = Some []; taken_after = Some text; faults_before = 0; faults_after = 0 }

-- lines of printed characters are good
all_good : (lines : List (List ℕ)) → list_all (λ (line : List ℕ). list_all is_printed line && nat_lt (length line) 4097) lines ≡ true → All IsGoodLine lines
all_good [] are = All-nil IsGoodLine
all_good (line ∷ lines) are =
    let here : (list_all is_printed line && nat_lt (length line) 4097) ≡ true = first_true _ _ are in
    let short : length line ≤ 4096 = omega (arith, ltb-true (length line) 4097 (second_true (list_all is_printed line) (nat_lt (length line) 4097) here)) in
    let plain = plain-text 4096 line (first_true (list_all is_printed line) (nat_lt (length line) 4097) here) short in
    All-cons IsGoodLine line lines (record { utf8 = is_utf8-from_IsUtf8 line (plain-utf8 4096 line plain); short = short })
    (all_good lines (second_true (list_all is_printed line && nat_lt (length line) 4097) _ are))

is_file : IsFile file
is_file = record { head = record { lines = 2; declared = codes "1" ∷ [] }; has = record { good = all_good (lines_of file) refl; head_is = record { len = refl; names = refl } } }

fits_file : IsFileThatFits 64 file
fits_file = record { file = is_file; fits = record { lines = omega arith; blocks = omega arith } }

gives : (input : List ℕ) → length input ≤ INPUT_LIMIT → Gives (giving input) input
gives input few = record { left = refl; few = few; no_fault = λ rose. omega (arith, rose) }

asks : (words : List (List ℕ)) (command : Command) → words_request words ≡ Some (record { command = command; options = no_options }) → AsksCommand words command usual
asks words command is = record { request = record { command = command; options = no_options }; in_grammar = is; commands = refl; within = refl; values = usual_chosen }

-- a program that drops a loop is checked, grouped, and written anew
free_check : (text : List ℕ) → IsUnhindered (codes "check" ∷ []) (Check false false) usual file (giving file) (taking text)
free_check text = record { asked = asks _ _ refl; within = fits_file; given = λ reads. gives file (omega arith); no_fault = λ rose. omega (arith, rose) }

free_passes : (text : List ℕ) → IsUnhindered (codes "passes" ∷ []) Passes usual file (giving file) (taking text)
free_passes text = record { asked = asks _ _ refl; within = fits_file; given = λ reads. gives file (omega arith); no_fault = λ rose. omega (arith, rose) }

free_text : (text : List ℕ) → IsUnhindered (codes "text" ∷ []) Text usual file (giving file) (taking text)
free_text text = record { asked = asks _ _ refl; within = is_file; given = λ reads. gives file (omega arith); no_fault = λ rose. omega (arith, rose) }

-- one session asks for the verdict on that program
abbrev live_file : List ℕ
live_file = codes "live 1\n|;!knitout-2\n|;;Carriers: 1\n|drop f1\nsession\nverdict\n"

abbrev live_lines : List (List ℕ)
live_lines = codes "live 1" ∷ codes "|;!knitout-2" ∷ codes "|;;Carriers: 1" ∷ codes "|drop f1" ∷ codes "session" ∷ codes "verdict" ∷ []

cut : lines_of live_file ≡ live_lines
cut = refl

abbrev script : Script
script = record { text = codes ";!knitout-2" ∷ codes ";;Carriers: 1" ∷ codes "drop f1" ∷ []; sessions = (Verdict ∷ []) ∷ [] }

spelt : IsScript live_lines script
spelt = record { live = refl; said = refl; few = omega arith; known = refl }

plays : IsScriptThatFits 64 live_file
plays = record {
  script = script;
  head = record { lines = 2; declared = codes "1" ∷ [] };
  has = record {
    good = subst (All IsGoodLine) (sym cut) (all_good live_lines refl);
    spelt = subst (λ (ls : List (List ℕ)). IsScript ls script) (sym cut) spelt;
    head_is = record { len = refl; names = refl };
  };
  fits = record { lines = omega arith; blocks = omega arith };
}

free_live : (text : List ℕ) → IsUnhindered (codes "live" ∷ []) Live usual live_file (giving live_file) (taking text)
free_live text = record { asked = asks _ _ refl; within = plays; given = λ reads. gives live_file (omega arith); no_fault = λ rose. omega (arith, rose) }

free_save : (text : List ℕ) → IsUnhindered (codes "save" ∷ []) Save usual live_file (giving live_file) (taking text)
free_save text = record { asked = asks _ _ refl; within = plays; given = λ reads. gives live_file (omega arith); no_fault = λ rose. omega (arith, rose) }

-- one session asks for the verdict and for an undo
abbrev groups_file : List ℕ
groups_file = codes "groups 1\n|;!knitout-2\n|;;Carriers: 1\n|drop f1\nsession\nverdict\nundo\n"

abbrev groups_lines : List (List ℕ)
groups_lines = codes "groups 1" ∷ codes "|;!knitout-2" ∷ codes "|;;Carriers: 1" ∷ codes "|drop f1" ∷ codes "session" ∷ codes "verdict" ∷ codes "undo" ∷ []

groups_cut : lines_of groups_file ≡ groups_lines
groups_cut = refl

abbrev groups_script : GroupScript
groups_script = record { text = codes ";!knitout-2" ∷ codes ";;Carriers: 1" ∷ codes "drop f1" ∷ []; sessions = (One Verdict ∷ Undo ∷ []) ∷ [] }

groups_spelt : IsGroupScript groups_lines groups_script
groups_spelt = record { begun = refl; said = refl; few = omega arith; known = refl; groups = refl }

groups_play : IsGroupScriptThatFits 64 groups_file
groups_play = record {
  script = groups_script;
  head = record { lines = 2; declared = codes "1" ∷ [] };
  has = record {
    good = subst (All IsGoodLine) (sym groups_cut) (all_good groups_lines refl);
    spelt = subst (λ (ls : List (List ℕ)). IsGroupScript ls groups_script) (sym groups_cut) groups_spelt;
    head_is = record { len = refl; names = refl };
  };
  fits = record { lines = omega arith; blocks = omega arith };
}

free_groups : (text : List ℕ) → IsUnhindered (codes "groups" ∷ []) Groups usual groups_file (giving groups_file) (taking text)
free_groups text = record { asked = asks _ _ refl; within = groups_play; given = λ reads. gives groups_file (omega arith); no_fault = λ rose. omega (arith, rose) }

-- lines of printed characters may stand in a saved text
all_short : (lines : List (List ℕ)) → list_all (λ (line : List ℕ). (list_all is_printed line && nat_lt (length line) 4097) && has_none line) lines ≡ true → All IsShortLine lines
all_short [] are = All-nil IsShortLine
all_short (line ∷ lines) are =
    let here : ((list_all is_printed line && nat_lt (length line) 4097) && has_none line) ≡ true = first_true _ _ are in
    let printed : (list_all is_printed line && nat_lt (length line) 4097) ≡ true = first_true (list_all is_printed line && nat_lt (length line) 4097) (has_none line) here in
    let short : length line ≤ 4096 = omega (arith, ltb-true (length line) 4097 (second_true (list_all is_printed line) (nat_lt (length line) 4097) printed)) in
    let plain = plain-text 4096 line (first_true (list_all is_printed line) (nat_lt (length line) 4097) printed) short in
    All-cons IsShortLine line lines (record {
      utf8 = is_utf8-from_IsUtf8 line (plain-utf8 4096 line plain);
      one = no_feed line (second_true (list_all is_printed line && nat_lt (length line) 4097) (has_none line) here);
      short = short;
    })
    (all_short lines (second_true ((list_all is_printed line && nat_lt (length line) 4097) && has_none line) _ are))

abbrev saved_head : List (List ℕ)
saved_head = codes ";!knitout-2" ∷ codes ";;Carriers: 1" ∷ []

abbrev saved_body : List (List ℕ)
saved_body = codes "drop f1" ∷ []

-- the beginning of that program, with no entry, as it is saved
abbrev saved_file : List ℕ
saved_file = saved_spelling saved_head usual.profile (record { block = 0; stamp = 0; text = saved_body } ∷ []) []

usual_lawful : IsLawfulProfile usual.profile
usual_lawful = record { lowest = omega (arith, ints); ordered = omega (arith, ints); highest = omega (arith, ints); rack = omega arith; some = omega arith; hold = omega arith; float = tt }

saved_text : IsSavedText saved_file
saved_text = record {
  head = saved_head;
  profile = usual.profile;
  blocks = record { block = 0; stamp = 0; text = saved_body } ∷ [];
  entries = [];
  saved = record {
    spelt = refl;
    lawful = record {
      bounds = record {
        limits = usual_lawful;
        whole = record { whole = refl; declared = refl };
        head_few = omega arith;
        head_lines = all_short saved_head refl;
        numbered = refl;
        blocks_few = omega arith;
        lines_few = omega arith;
        texts = All-cons IsFirstText saved_body [] (record { some = omega arith; few = omega arith; lines = all_short saved_body refl }) (All-nil IsFirstText);
        written = All-nil IsSpelledEntry;
      };
      come = tt;
    };
  };
}

-- it has few bytes: none of its numbers has more than 20 digits
both_few : (a b : List ℕ) (m n : ℕ) → length a ≤ m → length b ≤ n → length (a ++ b) ≤ m + n
both_few a b m n first second = omega (arith, first, second, length-append a b)

decimal_few : (n : ℕ) → n < 2 ^ 64 → length (decimal n) ≤ 20
decimal_few n fits = length-decimal-le 20 n (omega arith) (omega (arith, fits)) fits

labelled_few : (label : List ℕ) (n : ℕ) → length label ≤ 20 → n < 2 ^ 64 → length (labelled_number label n) ≤ 20 + 20
labelled_few label n short fits = both_few label (decimal n) 20 20 short (decimal_few n fits)

counted_few : (label : List ℕ) (n : ℕ) → length label ≤ 20 → n < 2 ^ 64 → length (count_spelling label n) ≤ 20 + 20 + 1
counted_few label n short fits = both_few (labelled_number label n) (codes "\n") (20 + 20) 1 (labelled_few label n short fits) (omega arith)

needles_few : length (needle_limits usual.profile) ≤ 21 + 21
needles_few = both_few (codes "-" ++ decimal 1024) (codes " " ++ decimal 1023) 21 21 (both_few (codes "-") (decimal 1024) 1 20 (omega arith) (decimal_few 1024 (omega arith)))
    (both_few (codes " ") (decimal 1023) 1 20 (omega arith) (decimal_few 1023 (omega arith)))

others_few : length (other_limits usual.profile) ≤ 40 + (40 + 40)
others_few = both_few (labelled_number (codes " ") 8) (labelled_number (codes " ") 16 ++ labelled_number (codes " ") 0) 40 (40 + 40) (labelled_few (codes " ") 8 (omega arith) (omega arith))
    (both_few (labelled_number (codes " ") 16) (labelled_number (codes " ") 0) 40 40 (labelled_few (codes " ") 16 (omega arith) (omega arith)) (labelled_few (codes " ") 0 (omega arith) (omega arith)))

abbrev saved_blocks : List BlockAt
saved_blocks = record { block = 0; stamp = 0; text = saved_body } ∷ []

profile_few : length (profile_line usual.profile) ≤ 8 + (42 + 120) + 1
profile_few = both_few (profile_text usual.profile) (codes "\n") (8 + (42 + 120)) 1
    (both_few (codes "profile ") (needle_limits usual.profile ++ other_limits usual.profile) 8 (42 + 120) (omega arith) (both_few (needle_limits usual.profile) (other_limits usual.profile) 42 120 needles_few others_few))
    (omega arith)

head_few : length (head_lines saved_head) ≤ 41 + 100
head_few = both_few (count_spelling (codes "head ") 2) (text_lines saved_head) 41 100 (counted_few (codes "head ") 2 (omega arith) (omega arith)) (omega arith)

blocks_few : length (blocks_lines saved_blocks) ≤ 41 + (41 + 100)
blocks_few = both_few (count_spelling (codes "blocks ") 1) (flat_map block_lines saved_blocks) 41 (41 + 100) (counted_few (codes "blocks ") 1 (omega arith) (omega arith))
    (omega (arith, both_few (count_spelling (codes "block ") 1) (text_lines saved_body) 41 50 (counted_few (codes "block ") 1 (omega arith) (omega arith)) (omega arith), length-append (block_lines (record { block = 0; stamp = 0; text = saved_body })) []))

entries_few : length (entries_lines []) ≤ 41 + 0
entries_few = both_few (count_spelling (codes "entries ") 0) [] 41 0 (counted_few (codes "entries ") 0 (omega arith) (omega arith)) (omega arith)

saved_few : length saved_file ≤ INPUT_LIMIT
saved_few =
    let p : List ℕ = profile_line usual.profile in
    let h : List ℕ = head_lines saved_head in
    let b : List ℕ = blocks_lines saved_blocks in
    let e : List ℕ = entries_lines [] in
    omega (
      arith,
      both_few (codes "journal 1\n") (p ++ (h ++ (b ++ e))) 10 1000 (omega arith)
          (omega (arith, profile_few, head_few, blocks_few, entries_few, length-append p (h ++ (b ++ e)), length-append h (b ++ e), length-append b e)),
    )

free_replay : (text : List ℕ) → IsUnhindered (codes "replay" ∷ []) Replay usual saved_file (giving saved_file) (taking text)
free_replay text = record { asked = asks _ _ refl; within = saved_text; given = λ reads. gives saved_file saved_few; no_fault = λ rose. omega (arith, rose) }

-- what its one block comes to is told
free_tally : (text : List ℕ) → IsUnhindered (codes "tally" ∷ codes "0" ∷ codes "1" ∷ []) (Tally 0 1) usual saved_file (giving saved_file) (taking text)
unfolding saved_text
free_tally text =
    let some : 1 ≤ 1 = omega arith in
    record {
      asked = asks _ _ refl;
      within = record { text = saved_text; has = record { ordered = omega arith; there = some } };
      given = λ reads. gives saved_file saved_few;
      no_fault = λ rose. omega (arith, rose);
    }

-- one row is made, and nothing is read
free_make : (text : List ℕ) (source : SourceUse) → IsUnhindered (codes "make" ∷ codes "1" ∷ codes "0" ∷ []) (Make 1 0) usual [] source (taking text)
free_make text source = record {
  asked = asks _ _ refl;
  within = record { lines = omega arith; blocks = omega arith };
  given = λ reads. absurd (cc);
  no_fault = λ rose. omega (arith, rose);
}
