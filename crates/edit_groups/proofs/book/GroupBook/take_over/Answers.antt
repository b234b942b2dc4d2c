use Rattle.std.proofs.Common.{false, ◌≡◌, ◌++◌, ◌+◌, ◌∷◌, [], ◌∙◌, inr, ℕ, List, IfSome, length, set, refl, ap, subst, sym}
use Rattle.edit_journal.specs.declared.edit.Edit.{Edit}
use Rattle.edit_journal.specs.declared.edit.Entry.{Entry}
use Rattle.edit_journal.specs.declared.opening.Opening.{Opening}
use Rattle.edit_groups.specs.Answers.{IsBriefAt}
use Rattle.edit_groups.specs.Chunks.{entries_by, entries_of_chunks, undoable_in}
use Rattle.edit_groups.specs.Groups.{GroupView, IsGroupBookKept, IsUndoable, number_kept}
use Rattle.edit_groups.specs.declared.chunk.Chunk.{Chunk}
use Rattle.edit_groups.specs.declared.reply.GroupReply.TheVariants as group
use Rattle.edit_groups.proofs.Kept.{kept_more}
use Rattle.edit_groups.proofs.book.GroupBook.take_over.Goals as goal

pub invariant_of-self-2 : goal.invariant_of-self-2
invariant_of-self-2 c =
    let chunk : Chunk = record { session = c.args.number; edits = c.args.edits; earlier = false } in
    let pushed : c.push_reserved.new.self.items ≡ c.self.inside.chunks.items ++ chunk ∷ [] = c.push_reserved.ensures.items ∙ ap (λ (l : List Chunk). l ++ chunk ∷ []) c.reserve.ensures.items in
    let journal : c.self.inside.book.entries ≡ entries_of_chunks c.args.self.now.chunks = c.self.invariant.entries ∙ ap (λ (v : GroupView). entries_of_chunks v.chunks) c.self.view_is in
    let opening : c.args.copy.opening ≡ c.self.inside.book.opening = c.requires.opening ∙ sym (ap (λ (v : GroupView). v.opening) c.self.view_is) in
    let kept : set c.self.inside.undoable c.args.number (number_kept (undoable_in (length c.self.inside.book.entries + 1) c.args.edits)) ≡ set c.self.inside.undoable c.args.number c.number_undoable.result =
    ap (set c.self.inside.undoable c.args.number)
    (sym (c.number_undoable.ensures ∙ ap (λ (p : ℕ × List Edit). number_kept (undoable_in (p.0 + 1) p.1)) (λ i. (c.version-from.ensures.version i, c.as_slice.ensures.items i)))) in
    subst (λ (p : List Chunk × List ℕ). IsGroupBookKept c.args.copy p.0 p.1) (λ i. (sym pushed i, kept i))
    (kept_more c.self.inside.book c.args.copy c.self.inside.chunks.items c.self.inside.undoable (set c.self.inside.undoable c.args.number (number_kept (undoable_in (length c.self.inside.book.entries + 1) c.args.edits))) c.args.number c.args.edits c.self.invariant opening
    (c.requires.journal ∙ ap (λ (l : List Entry). l ++ entries_by c.args.number c.args.edits) (sym journal)) c.requires.some c.requires.number refl
    (subst (λ (p : List Entry × Opening). IfSome (undoable_in (length p.0 + 1) c.args.edits) (IsUndoable p.1 (p.0 ++ entries_by c.args.number c.args.edits))) (λ i. (sym journal i, sym (ap (λ (v : GroupView). v.opening) c.self.view_is) i)) c.requires.undone))

pub returns-clause-taken : goal.returns-clause-taken
returns-clause-taken c =
    let chunk : Chunk = record { session = c.args.number; edits = c.args.edits; earlier = false } in
    let journal : c.self.inside.book.entries ≡ entries_of_chunks c.args.self.now.chunks = c.self.invariant.entries ∙ ap (λ (v : GroupView). entries_of_chunks v.chunks) c.self.view_is in
    let from : c.version-from.result + 1 ≡ length (entries_of_chunks c.args.self.now.chunks) + 1 = ap (λ (n : ℕ). n + 1) (c.version-from.ensures.version ∙ ap length journal) in
    inr (
      c.verdict-brief.result,
      ap (λ (p : ℕ × ℕ). group.Done p.0 p.1 c.verdict-brief.result) (λ i. (c.version-version.ensures.version i, from i)),
      subst (λ (o : Opening). IsBriefAt o c.args.copy.entries c.verdict-brief.result) c.requires.opening c.verdict-brief.ensures,
      c.push_reserved.ensures.items ∙ ap (λ (l : List Chunk). l ++ chunk ∷ []) (c.reserve.ensures.items ∙ ap (λ (v : GroupView). v.chunks) c.self.view_is),
    )
