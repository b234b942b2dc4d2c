-- The report of a script of groups.
use Rattle.std.specs.Prelude.{◌≡◌, ℕ, ◌+◌, List, [], ◌∷◌, ◌++◌, codes, decimal}
use Rattle.carriage_model.specs.declared.verdict.Brief.{Brief}
use Rattle.edit_book.specs.declared.reply.Reply.{Reply}
use Rattle.edit_journal.specs.declared.edit.Entry.{Entry}
use Rattle.edit_journal.specs.declared.opening.Opening.{Opening}
use Rattle.edit_journal.specs.Documents.{names_at}
use Rattle.edit_groups.specs.declared.reply.GroupReply.{GroupReply}
use Rattle.edit_groups.specs.declared.reply.GroupReply.TheVariants as group
use Rattle.verdict_report.specs.LiveText.{IsEnd, told_reply}
use Rattle.knit_base.specs.Spelling.{labelled_number}
use Rattle.verdict_report.specs.VerdictText.{Text, brief_text}

-- a group that was done
abbrev pub done_text : ℕ → ℕ → Brief → Text
done_text version from brief = labelled_number (codes "group version ") version ++ (labelled_number (codes " from ") from ++ (codes " " ++ (brief_text brief ++ codes "\n")))

-- and one that was refused
abbrev pub refused_text : (ℕ → List Text) → ℕ → ℕ → Reply → Text
refused_text names base at told = labelled_number (codes "refused version ") base ++ (labelled_number (codes " at ") at ++ (codes " " ++ told_reply names told))

-- what a step is answered
abbrev pub step_text : (ℕ → List Text) → GroupReply → Text
step_text names (group.One told) = told_reply names told
step_text names (group.Done version from brief) = done_text version from brief
step_text names (group.Refused base at told) = refused_text names base at told
step_text names group.NoUndo = codes "noundo\n"
step_text names group.NoMemory = codes "nomemory\n"

-- the same with its number
abbrev pub numbered_step : (ℕ → List Text) → ℕ → GroupReply → Text
numbered_step names n r = decimal n ++ (codes " " ++ step_text names r)

-- the replies to a session, numbered from here on
abbrev pub steps_text : (ℕ → List Text) → ℕ → List GroupReply → Text
steps_text names n [] = []
steps_text names n (r ∷ rs) = numbered_step names n r ++ steps_text names (n + 1) rs

-- a session's number, and its replies
abbrev pub steps_session : (ℕ → List Text) → ℕ → List GroupReply → Text
steps_session names s rs = labelled_number (codes "session ") s ++ (codes "\n" ++ steps_text names 1 rs)

-- the sessions, numbered from here on, each with its replies
abbrev pub steps_sessions : (ℕ → List Text) → ℕ → List (List GroupReply) → Text
steps_sessions names s [] = []
steps_sessions names s (rs ∷ more) = steps_session names s rs ++ steps_sessions names (s + 1) more

-- what each session was answered, and the end as in the report of a script without groups
abbrev pub IsGroupsReport : Opening → List Entry → List (List GroupReply) → Text → Type 0
IsGroupsReport opening entries replies text = (end : Text) × (text ≡ steps_sessions (names_at opening entries) 0 replies ++ end) × IsEnd opening entries end
