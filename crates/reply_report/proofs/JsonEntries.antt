-- Entries of a journal as JSON, written one by one.
use Rattle.std.proofs.Common.{◌≡◌, ◌∙◌, ℕ, ◌+◌, Bool, true, Some, List, ◌++◌, drop, ap, sym}
use Rattle.std.specs.List.{slice_get}
use Rattle.serde_json.specs.View.{items_of}
use Rattle.serde_json.specs.Written.{comma_if, compact_text, items_text}
use Rattle.edit_journal.specs.declared.edit.Entry.{Entry}
use Rattle.knit_base.proofs.Rests.{rest-at}
use Rattle.verdict_report.specs.VerdictText.{Text}
use Rattle.reply_report.specs.TalkJson.{entry_value, numbered_values}
use Rattle.reply_report.proofs.JsonMembers.{item_shape}

-- an entry was written with its number, behind a comma where one stands before
pub entry-written : (entries : List Entry) (at n : ℕ) (e : Entry) (later : Bool) (old parted new : Text) → slice_get entries at ≡ Some e → parted ≡ old ++ comma_if later
    → new ≡ parted ++ compact_text (entry_value n e)
    → new ++ items_text true (items_of (numbered_values (n + 1) (drop (at + 1) entries))) ≡ old ++ items_text later (items_of (numbered_values n (drop at entries)))
entry-written entries at n e later old parted new found is_parted is_new =
    let rest : Text = items_text true (items_of (numbered_values (n + 1) (drop (at + 1) entries))) in
    ap (λ (t : Text). t ++ rest) is_new
    ∙ (ap (λ (t : Text). (t ++ compact_text (entry_value n e)) ++ rest) is_parted
    ∙ (item_shape old (comma_if later) (compact_text (entry_value n e)) rest
    ∙ ap (λ es. old ++ items_text later (items_of (numbered_values n es))) (sym (rest-at entries at e found))))
