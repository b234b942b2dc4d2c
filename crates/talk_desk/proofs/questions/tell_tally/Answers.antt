use Rattle.std.proofs.Common.{◌≡◌, ◌∙◌, ◌++◌, ℕ, Bool, true, false, List, subst, sym}
use Rattle.edit_journal.specs.declared.edit.Entry.{Entry}
use Rattle.edit_journal.specs.declared.opening.Opening.{Opening}
use Rattle.talk_desk.proofs.Said.{on-ok}
use Rattle.talk_desk.proofs.Told.{range-told}
use Rattle.tally_tree.specs.Docs.{DocView, HasBlocks}
use Rattle.reply_report.specs.TalkJson.{no_range_members}
use Rattle.reply_report.specs.TalkText.{no_range_text}
use Rattle.talk_desk.specs.Styles.{reply_in}
use Rattle.talk_desk.specs.Conversation.{doc_at, no_range}
use Rattle.talk_desk.proofs.questions.tell_tally.Goals as goal

pub returns-then-has_blocks-clause-ok : goal.returns-then-has_blocks-clause-ok
returns-then-has_blocks-clause-ok g c =
    let opening = c.in_ok-outline.ensures.opening in
    let entries = c.in_ok-outline.ensures.entries in
    let there : HasBlocks (doc_at c.args.book.now.opening c.args.book.now.entries) c.args.range.from c.args.range.to =
    subst (λ (p : Opening × List Entry). HasBlocks (doc_at p.0 p.1) c.args.range.from c.args.range.to) (λ i. (opening i, entries i)) (c.has_blocks.ensures.0 c.if-has_blocks.true) in
    on-ok c.tell_range.result
    (λ told. range-told c.args.style.now.json c.args.inquiry.frame c.in_ok-doc.doc c.args.book.now.opening c.args.book.now.entries c.args.range.from c.args.range.to c.args.out.now.items c.tell_range.new.out.items
    (c.in_ok-doc.ensures.opening ∙ opening) (c.in_ok-doc.ensures.entries ∙ entries) there told) c.tell_range.ensures.ok

-- no such blocks are there
none : (from to : ℕ) (opening : Opening) (entries : List Entry) (outline : DocView) (found : Bool) → outline.opening ≡ opening → outline.entries ≡ entries → (HasBlocks outline from to → found ≡ true) → found ≡ false → HasBlocks (doc_at opening entries) from to → ⊥
none from to opening entries outline found o e has isnt there =
    let here : found ≡ true = has (subst (λ (d : DocView). HasBlocks d from to) (λ i. record { opening = sym o i; entries = sym e i }) there) in
    let clash : true ≡ false = sym here ∙ isnt in
    absurd (cc)

pub returns-then-style-clause-ok : goal.returns-then-style-clause-ok
returns-then-style-clause-ok g c =
    on-ok c.json_no_range.result
    (λ said. (
      _,
      subst (λ (b : Bool). c.json_no_range.new.out.items ≡ c.args.out.now.items ++ reply_in b c.args.inquiry.frame (no_range_text c.args.book.now.opening c.args.book.now.entries) (no_range_members c.args.book.now.opening c.args.book.now.entries c.args.inquiry.frame)) (sym c.if-style.true) said,
      no_range (none c.args.range.from c.args.range.to c.args.book.now.opening c.args.book.now.entries (doc_at c.in_ok-outline.outline.opening c.in_ok-outline.outline.entries) c.has_blocks.result c.in_ok-outline.ensures.opening c.in_ok-outline.ensures.entries c.has_blocks.ensures.1 c.if-has_blocks.false),
    )) c.json_no_range.ensures.ok

pub returns-clause-ok : goal.returns-clause-ok
returns-clause-ok g c =
    on-ok c.say_no_range.result
    (λ said. (
      _,
      subst (λ (b : Bool). c.say_no_range.new.out.items ≡ c.args.out.now.items ++ reply_in b c.args.inquiry.frame (no_range_text c.args.book.now.opening c.args.book.now.entries) (no_range_members c.args.book.now.opening c.args.book.now.entries c.args.inquiry.frame)) (sym c.if-style.false) said,
      no_range (none c.args.range.from c.args.range.to c.args.book.now.opening c.args.book.now.entries (doc_at c.in_ok-outline.outline.opening c.in_ok-outline.outline.entries) c.has_blocks.result c.in_ok-outline.ensures.opening c.in_ok-outline.ensures.entries c.has_blocks.ensures.1 c.if-has_blocks.false),
    )) c.say_no_range.ensures.ok
