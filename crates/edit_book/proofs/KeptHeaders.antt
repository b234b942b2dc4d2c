-- What one more entry does to what a book keeps of its header.
use Rattle.std.proofs.Common.{◌≡◌, ℕ, ◌+◌, Bool, true, false, cond, List, [], ◌∷◌, ◌++◌, length, sym, ap, subst, ◌∙◌, refl, append-nil, arith}
use Rattle.edit_journal.specs.declared.edit.Edit.{Edit}
use Rattle.edit_journal.specs.declared.edit.Edit.TheVariants as edit
use Rattle.edit_journal.specs.declared.edit.Entry.{Entry}
use Rattle.edit_journal.specs.declared.opening.Opening.{Opening}
use Rattle.edit_journal.specs.Documents as documents
use Rattle.edit_journal.specs.Documents.{Document, after, document_of}
use Rattle.edit_book.specs.declared.header.Header.{Header}
use Rattle.edit_book.specs.Headers.{HasHeader, changes_header, header_entries}
use Rattle.edit_book.specs.Verdicts.{setting_of}
use Rattle.edit_book.proofs.Puts.{doc_snoc}

entries_snoc : (i : ℕ) (es : List Entry) (e : Entry) → header_entries i (es ++ e ∷ []) ≡ header_entries i es ++ cond (changes_header e.edit) ((i + length es) ∷ []) []
entries_snoc i [] e = ap (λ (k : ℕ). cond (changes_header e.edit) (k ∷ []) []) (omega arith)
entries_snoc i (x ∷ es) e = go (changes_header x.edit) (entries_snoc (i + 1) es e ∙ ap (λ (k : ℕ). header_entries (i + 1) es ++ cond (changes_header e.edit) (k ∷ []) []) (omega arith))
  where
    go : (b : Bool) → header_entries (i + 1) (es ++ e ∷ []) ≡ header_entries (i + 1) es ++ cond (changes_header e.edit) ((i + length (x ∷ es)) ∷ []) [] → cond b (i ∷ header_entries (i + 1) (es ++ e ∷ [])) (header_entries (i + 1) (es ++ e ∷ [])) ≡ cond b (i ∷ header_entries (i + 1) es) (header_entries (i + 1) es) ++ cond (changes_header e.edit) ((i + length (x ∷ es)) ∷ []) []
    go true rest = ap (λ (l : List ℕ). i ∷ l) rest
    go false rest = rest

header_stays : (d : Document) (i : ℕ) (e : Edit) → changes_header e ≡ false → (after d i e).header ≡ d.header
header_stays d i (edit.Put block seen text) isnt = refl
header_stays d i (edit.Add anchor block text) isnt = refl
header_stays d i (edit.Cut block seen) isnt = refl
header_stays d i (edit.Head seen names) isnt = absurd (cc)

module _ (o : Opening) (es : List Entry) (e : Entry) (isnt : changes_header e.edit ≡ false) where
  same_header : (document_of o (es ++ e ∷ [])).header ≡ (document_of o es).header
  same_header = ap (λ (d : Document). d.header) (doc_snoc o es e) ∙ header_stays (document_of o es) (length es + 1) e.edit isnt

  -- an edit of a block leaves what the document is read by
  pub setting_stays : setting_of o (document_of o (es ++ e ∷ [])) ≡ setting_of o (document_of o es)
  setting_stays = ap (λ (k : documents.Header). record { profile = o.setting.profile; declared = k.names; first = o.setting.first }) same_header

  -- and what a book keeps of its header
  pub keeps_header : (longer : List Entry) (head : ℕ) (header : Header) → longer ≡ es ++ e ∷ [] → HasHeader o es head header → HasHeader o longer head header
  keeps_header longer head header longer_is h = subst (λ (l : List Entry). HasHeader o l head header) (sym longer_is) (record {
    stamp = h.stamp ∙ sym (ap (λ (k : documents.Header). k.stamp) same_header);
    setting = h.setting ∙ sym setting_stays;
    changed = h.changed ∙ sym (entries_snoc 1 es e ∙ (ap (λ (b : Bool). header_entries 1 es ++ cond b ((1 + length es) ∷ []) []) isnt ∙ append-nil (header_entries 1 es)));
  })

-- the entries that changed the header, where a box lends what is kept of it
pub changed_lent : (o : Opening) (es : List Entry) (head : ℕ) (kept lent : Header) → HasHeader o es head kept → lent ≡ kept → lent.entries.items ≡ header_entries 1 es
changed_lent o es head kept lent h is = ap (λ (x : Header). x.entries.items) is ∙ h.changed

-- other names of the header
pub takes_header : (o : Opening) (es : List Entry) (session seen : ℕ) (names : List (List ℕ)) (head : ℕ) (old new : Header) → HasHeader o es head old
    → new.setting ≡ record { profile = o.setting.profile; declared = names; first = o.setting.first } → new.entries.items ≡ old.entries.items ++ (length es + 1) ∷ []
    → HasHeader o (es ++ record { session = session; edit = edit.Head seen names } ∷ []) (length es + 1) new
takes_header o es session seen names head old new h setting_is entries_are =
    let e : Entry = record { session = session; edit = edit.Head seen names } in
    let d : Document = document_of o es in
    let next : document_of o (es ++ e ∷ []) ≡ after d (length es + 1) (edit.Head seen names) = doc_snoc o es e in
    record {
      stamp = sym (ap (λ (x : Document). x.header.stamp) next);
      setting = setting_is ∙ sym (ap (λ (x : Document). record { profile = o.setting.profile; declared = x.header.names; first = o.setting.first }) next);
      changed = entries_are ∙ (ap (λ (l : List ℕ). l ++ (length es + 1) ∷ []) h.changed ∙ sym (entries_snoc 1 es e ∙ ap (λ (k : ℕ). header_entries 1 es ++ k ∷ []) (omega arith)));
    }
