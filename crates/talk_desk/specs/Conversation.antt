-- A conversation of several sessions about one document: what each order is answered, and what is said for it.
use Rattle.std.specs.Prelude.{◌≡◌, ⊤, ℕ, ◌+◌, ◌==◌, Bool, if◌then◌else◌, List, [], ◌∷◌, ◌++◌, length, map}
use Rattle.std.specs.Option.{option_map_or}
use Rattle.knit_base.specs.Lines.{without_return}
use Rattle.edit_journal.specs.declared.edit.Entry.{Entry}
use Rattle.edit_journal.specs.declared.opening.Opening.{Opening}
use Rattle.script_reader.specs.Hearing.{Order, Refuse, Ask, Tell, first_hearing, hearing_behind, orders_at_end, orders_from}
use Rattle.script_reader.specs.declared.step.Step.{Step}
use Rattle.script_reader.specs.declared.talk_line.Question.{Question}
use Rattle.script_reader.specs.declared.talk_line.Question.TheVariants as question
use Rattle.edit_book.specs.Memory.{Memory, first_memory, block_id_of_name}
use Rattle.edit_groups.specs.Chunks.{entries_of_chunks}
use Rattle.edit_groups.specs.Sessions.{HeardReply, group_core}
use Rattle.edit_book.specs.declared.reply.Reply.TheVariants as reply
use Rattle.edit_groups.specs.declared.chunk.Chunk.{Chunk}
use Rattle.edit_groups.specs.declared.reply.GroupReply.TheVariants as group
use Rattle.turn_book.specs.OneOrder.{Point, point_behind}
use Rattle.turn_book.specs.Walk.{IsReplyGiven}
use Rattle.journal_file.specs.SavedParts.{first_blocks}
use Rattle.journal_file.specs.Spelling.{saved_spelling}
use Rattle.tally_tree.specs.Docs.{DocView, HasBlocks, IsRange, setting_now}
use Rattle.tally_tree.specs.Tallies.{TallyCounts}
use Rattle.verdict_report.specs.VerdictText.{Text}
use Rattle.reply_report.specs.TalkJson.{blocks_members, no_range_members, saved_members, since_members, text_at_members}
use Rattle.reply_report.specs.TalkText.{blocks_text, no_range_text, saved_said, since_text, text_at_text}
use Rattle.reply_report.specs.TallyJson.{tally_members}
use Rattle.reply_report.specs.TallyText.{tally_text}
use Rattle.reply_report.specs.declared.frame.Frame.{Frame}
use Rattle.talk_loop.specs.InStep.{Asking, state_behind}
use Rattle.talk_desk.specs.Styles.{IsFinalIn, bad_line_in, reply_in, step_in}

-- How a conversation stands: the steps that were accepted and what each session remembers, and how many of its orders were answered.
pub record Standing : Type 0 where
  pub point : Point Chunk Memory
  pub answered : ℕ → ℕ

-- A line was refused; a step was answered; a question was answered with this text, or there was no memory for it.
pub data Answer : Type 0 where
  Refused : Answer
  Given : HeardReply → Answer
  Told : Text → Answer
  Short : Answer

-- the document at this journal
abbrev pub doc_at : Opening → List Entry → DocView
doc_at opening entries = record { opening = opening; entries = entries }

-- What the blocks from one place to another come to, the other not counted, if there are such blocks.
pub data IsTallyTold (json : Bool) (f : Frame) (opening : Opening) (entries : List Entry) (from to : ℕ) : Text → Type 0 where
  no_range : (HasBlocks (doc_at opening entries) from to → ⊥) → IsTallyTold json f opening entries from to (reply_in json f (no_range_text opening entries) (no_range_members opening entries f))
  tallied : (v : TallyCounts) → HasBlocks (doc_at opening entries) from to → IsRange (doc_at opening entries) from to v
      → IsTallyTold json f opening entries from to (reply_in json f (tally_text from to (setting_now (doc_at opening entries)).declared v) (tally_members f from to (setting_now (doc_at opening entries)).declared v))

-- the saved text of this journal of a document that began so, with this head
abbrev pub saved_at : List (List ℕ) → Opening → List Entry → Text
saved_at head opening entries = saved_spelling head opening.setting.profile (first_blocks opening) entries

-- said as text or as JSON; the document has this head, and began so
module _ (json : Bool) (head : List (List ℕ)) (opening : Opening) where
  -- the journal
  abbrev pub journal_of_standing : Standing → List Entry
  journal_of_standing s = entries_of_chunks s.point.entries

  -- what a question of a session with this memory is answered at this journal
  abbrev pub IsQuestionAnswered : List Entry → Memory → Frame → Question → Text → Type 0
  IsQuestionAnswered entries m f question.Blocks text = text ≡ reply_in json f (blocks_text opening entries) (blocks_members opening entries f)
  IsQuestionAnswered entries m f (question.Since from) text = text ≡ reply_in json f (since_text entries from) (since_members f entries from)
  IsQuestionAnswered entries m f (question.TextAt name stamp) text = text ≡ option_map_or (λ id. reply_in json f (text_at_text opening entries id stamp) (text_at_members opening entries f id stamp))
      (block_id_of_name m name) (step_in json opening entries f (group.One (reply.Unseen name)))
  IsQuestionAnswered entries m f question.Save text = let saved = saved_at head opening entries in
      text ≡ reply_in json f (saved_said (length entries) saved) (saved_members f (length entries) saved)
  IsQuestionAnswered entries m f (question.Tally from to) text = IsTallyTold json f opening entries from to text

  -- so it is answered, or there is no memory for that
  abbrev pub IsQuestionAnswer : List Entry → Memory → Frame → Question → Answer → Type 0
  IsQuestionAnswer entries m f q (Told text) = IsQuestionAnswered entries m f q text
  IsQuestionAnswer entries m f q Short = ⊤
  IsQuestionAnswer entries m f q a = ⊥

  -- the session, and the number of this order among those of it that are answered
  abbrev pub frame : Standing → ℕ → Frame
  frame s n = record { session = n; number = s.answered n + 1 }

  -- the answer may be given: to a step the one that is due at the journal that the orders before it left, or want of memory
  abbrev pub MayBeGiven : Standing → Order → Answer → Type 0
  MayBeGiven s (Refuse line cause) Refused = ⊤
  MayBeGiven s (Ask n c) (Given h) = IsReplyGiven (group_core opening) n s.point.entries (s.point.memories n) c h
  MayBeGiven s (Tell n q) a = IsQuestionAnswer (journal_of_standing s) (s.point.memories n) (frame s n) q a
  MayBeGiven s o a = ⊥

  -- one more order of session n is answered
  abbrev pub with_order_counted : ℕ → (ℕ → ℕ) → ℕ → ℕ
  with_order_counted n answered k = if k == n then answered k + 1 else answered k

  -- the steps and the memories behind a step
  abbrev pub behind_step : Standing → ℕ → Step → HeardReply → Point Chunk Memory
  behind_step s n c h = point_behind (group_core opening) s.point (record { session = n; command = c; reply = h })

  -- A step may leave edits, and teaches its session; a question changes nothing, nor does a line that is refused.
  abbrev pub standing_after : Standing → Order → Answer → Standing
  standing_after s (Refuse line cause) a = s
  standing_after s (Ask n c) (Given h) = record { point = behind_step s n c h; answered = with_order_counted n s.answered }
  standing_after s (Ask n c) a = s
  standing_after s (Tell n q) a = record { point = s.point; answered = with_order_counted n s.answered }

  -- what is said for the answer to a question, of which the journal is at this length
  abbrev pub question_text : List Entry → Frame → Answer → Text
  question_text entries f (Told text) = text
  question_text entries f a = step_in json opening entries f group.NoMemory

  -- what is said: of a step at the journal behind it
  abbrev pub text : Standing → Order → Answer → Text
  text s (Refuse line cause) a = bad_line_in json line cause
  text s (Ask n c) (Given h) = step_in json opening (entries_of_chunks (behind_step s n c h).entries) (frame s n) h.reply
  text s (Ask n c) a = []
  text s (Tell n q) a = question_text (journal_of_standing s) (frame s n) a

  -- before the first order, behind these steps: no session remembers them
  abbrev pub standing_at_start : List Chunk → Standing
  standing_at_start earlier = record { point = record { entries = earlier; memories = λ n. first_memory opening }; answered = λ n. 0 }

  -- where orders and the answers to them lead
  abbrev pub standing_behind : Standing → List (Order × Answer) → Standing
  standing_behind s [] = s
  standing_behind s (h ∷ hs) = standing_behind (standing_after s h.0 h.1) hs

  -- what lines ask for behind these steps, of which the first has this number, each with or without a carriage return at its end; each answer is told by the orders and answers before it
  abbrev pub asking : List Chunk → ℕ → Asking Order Answer (List (Order × Answer))
  asking earlier number = record {
    first = number;
    orders = λ lines. orders_from first_hearing number (map without_return lines);
    start = [];
    is_given = λ before o a. MayBeGiven (standing_behind (standing_at_start earlier) before) o a;
    behind = λ before o a. before ++ (o, a) ∷ [];
    text = λ before o a. text (standing_behind (standing_at_start earlier) before) o a;
  }

  -- how the conversation stands behind these lines and the answers to what they ask for
  abbrev pub standing_of : List Chunk → ℕ → List (List ℕ) → List Answer → Standing
  standing_of earlier number lines answers = standing_behind (standing_at_start earlier) (state_behind (asking earlier number) [] ((asking earlier number).orders lines) answers)

  -- the refusals of what isn't whole
  abbrev pub refusals : List Order → Text
  refusals [] = []
  refusals (Refuse line cause ∷ os) = bad_line_in json line cause ++ refusals os
  refusals (o ∷ os) = refusals os

  -- What ends a conversation, behind these lines and the answers to what they ask for: a text or a group that isn't whole is refused, and the verdict is told.
  pub record Ends (earlier : List Chunk) (number : ℕ) (lines : List (List ℕ)) (answers : List Answer) (last : Text) : Type 0 where
    pub final : Text
    pub judged : IsFinalIn json opening (journal_of_standing (standing_of earlier number lines answers)) final
    pub said : last ≡ refusals (orders_at_end (hearing_behind first_hearing number (map without_return lines)) (number + length lines)) ++ final
