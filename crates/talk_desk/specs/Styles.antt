-- What is said in a conversation, as text or as JSON.
use Rattle.std.specs.Prelude.{ℕ, Bool, true, false, List}
use Rattle.edit_journal.specs.declared.edit.Entry.{Entry}
use Rattle.edit_journal.specs.declared.opening.Opening.{Opening}
use Rattle.edit_groups.specs.declared.reply.GroupReply.{GroupReply}
use Rattle.script_reader.specs.declared.fault.Cause.{Cause}
use Rattle.serde_json.specs.Data.{Members, object}
use Rattle.verdict_report.specs.VerdictText.{Text}
use Rattle.reply_report.specs.TalkJson.{IsFinalJson, IsOpenedJson, bad_line_members, value_json_line, step_json}
use Rattle.reply_report.specs.TalkText.{IsFinalSaid, IsOpenedSaid, bad_line_said, framed_reply, step_said}
use Rattle.reply_report.specs.declared.frame.Frame.{Frame}

-- a reply: these lines behind its frame, or the object with these members
abbrev pub reply_in : Bool → Frame → Text → Members → Text
reply_in false f lines told = framed_reply f lines
reply_in true f lines told = value_json_line (object told)

-- what a step is answered
abbrev pub step_in : Bool → Opening → List Entry → Frame → GroupReply → Text
step_in false opening entries f r = step_said opening entries f r
step_in true opening entries f r = step_json opening entries f r

-- a line is refused
abbrev pub bad_line_in : Bool → ℕ → Cause → Text
bad_line_in false line why = bad_line_said line why
bad_line_in true line why = value_json_line (object (bad_line_members line why))

-- the document stands
abbrev pub IsOpenedIn : Bool → Opening → List Entry → Text → Type 0
IsOpenedIn false opening entries text = IsOpenedSaid opening entries text
IsOpenedIn true opening entries text = IsOpenedJson opening entries text

-- the verdict at the end
abbrev pub IsFinalIn : Bool → Opening → List Entry → Text → Type 0
IsFinalIn false opening entries text = IsFinalSaid opening entries text
IsFinalIn true opening entries text = IsFinalJson opening entries text
