-- A question was answered.
use Rattle.std.proofs.Common.{◌≡◌, ◌∙◌, ℕ, Bool, List, ◌++◌, Option, None, Some, ap, subst, sym}
use Rattle.std.specs.Option.{option_map_or}
use Rattle.edit_journal.specs.declared.edit.BlockName.{BlockName}
use Rattle.edit_journal.specs.declared.edit.Entry.{Entry}
use Rattle.edit_journal.specs.declared.opening.Opening.{Opening}
use Rattle.script_reader.specs.declared.talk_line.Question.{Question}
use Rattle.script_reader.specs.declared.talk_line.Question.TheVariants as question
use Rattle.edit_book.specs.Memory.{Memory}
use Rattle.edit_book.specs.declared.reply.Reply.TheVariants as reply
use Rattle.edit_groups.specs.declared.reply.GroupReply.TheVariants as group
use Rattle.tally_tree.specs.Docs.{DocView, HasBlocks, IsRange, setting_now}
use Rattle.tally_tree.specs.Tallies.{TallyCounts}
use Rattle.reply_report.specs.TalkJson.{text_at_members}
use Rattle.reply_report.specs.TalkText.{text_at_text}
use Rattle.reply_report.specs.TallyJson.{tally_members}
use Rattle.reply_report.specs.TallyText.{tally_text}
use Rattle.reply_report.specs.declared.frame.Frame.{Frame}
use Rattle.talk_desk.specs.Conversation.{IsTallyTold, IsQuestionAnswered, Short, Told, doc_at, tallied}
use Rattle.talk_desk.specs.Hosts.{IsQuestionSaid, Names}
use Rattle.talk_desk.specs.Styles.{reply_in, step_in}
use Rattle.talk_desk.specs.declared.document.Style.{Style}

module _ (style : Style) (opening : Opening) (entries : List Entry) (m : Memory) (f : Frame) where
  -- so a question was answered, and this was said
  abbrev pub TellsIn : Question → List ℕ → List ℕ → Type 0
  TellsIn q before after = (text : List ℕ) × (after ≡ before ++ text) × IsQuestionAnswered style.json style.head opening entries m f q text

  pub told-as : (q asked : Question) (before after : List ℕ) → q ≡ asked → TellsIn asked before after → TellsIn q before after
  told-as q asked before after is t = subst (λ (x : Question). TellsIn x before after) (sym is) t

  -- a text was asked for, of a block that the session knows, or doesn't
  pub told-text : (name : BlockName) (stamp id : ℕ) (block : Option ℕ) (before after : List ℕ) → Names m (question.TextAt name stamp) block → block ≡ Some id
      → after ≡ before ++ reply_in style.json f (text_at_text opening entries id stamp) (text_at_members opening entries f id stamp) → TellsIn (question.TextAt name stamp) before after
  told-text name stamp id block before after names is said = (
    reply_in style.json f (text_at_text opening entries id stamp) (text_at_members opening entries f id stamp),
    said,
    ap (λ (o : Option ℕ). option_map_or (λ (k : ℕ). reply_in style.json f (text_at_text opening entries k stamp) (text_at_members opening entries f k stamp)) o (step_in style.json opening entries f (group.One (reply.Unseen name)))) (sym is ∙ names),
  )

  pub told-unseen : (name : BlockName) (stamp : ℕ) (block : Option ℕ) (before after : List ℕ) → Names m (question.TextAt name stamp) block → block ≡ None
      → after ≡ before ++ step_in style.json opening entries f (group.One (reply.Unseen name)) → TellsIn (question.TextAt name stamp) before after
  told-unseen name stamp block before after names is said = (
    step_in style.json opening entries f (group.One (reply.Unseen name)),
    said,
    ap (λ (o : Option ℕ). option_map_or (λ (k : ℕ). reply_in style.json f (text_at_text opening entries k stamp) (text_at_members opening entries f k stamp)) o (step_in style.json opening entries f (group.One (reply.Unseen name)))) (sym is ∙ names),
  )

  -- there was memory for the answer, or none
  pub question-told : (q : Question) (before after : List ℕ) → TellsIn q before after → IsQuestionSaid style opening entries m f q before after
  question-told q before after t = record { answer = Told t.0; given = t.2; said = t.1 }

  pub question-short : (q : Question) (before between after : List ℕ) → between ≡ before → after ≡ between ++ step_in style.json opening entries f group.NoMemory → IsQuestionSaid style opening entries m f q before after
  question-short q before between after same said = record { answer = Short; given = tt; said = said ∙ ap (λ (l : List ℕ). l ++ step_in style.json opening entries f group.NoMemory) same }

-- the blocks of a document that is at this journal were tallied
pub range-told : (json : Bool) (f : Frame) (doc : DocView) (opening : Opening) (entries : List Entry) (from to : ℕ) (before after : List ℕ) → doc.opening ≡ opening → doc.entries ≡ entries → HasBlocks (doc_at opening entries) from to
    → (v : TallyCounts) × IsRange doc from to v × (after ≡ before ++ reply_in json f (tally_text from to (setting_now doc).declared v) (tally_members f from to (setting_now doc).declared v))
    → (text : List ℕ) × (after ≡ before ++ text) × IsTallyTold json f opening entries from to text
range-told json f doc opening entries from to before after o e has t =
    let here = subst (λ (d : DocView). (v : TallyCounts) × IsRange d from to v × (after ≡ before ++ reply_in json f (tally_text from to (setting_now d).declared v) (tally_members f from to (setting_now d).declared v)))
    (λ i. record { opening = o i; entries = e i }) t in
    (_, here.2, tallied here.0 has here.1)
