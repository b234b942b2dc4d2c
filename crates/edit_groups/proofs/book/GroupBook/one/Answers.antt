use Rattle.std.proofs.Common.{false, ℕ, List, Ok, ◌≡◌, ◌∷◌, [], ◌++◌, ◌∙◌, ap, set, subst, sym}
use Rattle.std.specs.Option.{option_to_list}
use Rattle.edit_journal.specs.declared.edit.Edit.{Edit}
use Rattle.edit_book.specs.Replies.{edit_of, request_of_command}
use Rattle.edit_groups.specs.Answers.{One}
use Rattle.edit_groups.specs.Chunks.{undoable_in}
use Rattle.edit_groups.specs.Groups.{GroupView, IsGroupBookKept, IsStepTaken, number_kept}
use Rattle.edit_book.specs.declared.reply.Reply.TheVariants as reply
use Rattle.edit_groups.specs.declared.reply.GroupReply.TheVariants as group
use Rattle.edit_groups.specs.declared.chunk.Chunk.{Chunk}
use Rattle.edit_groups.proofs.Ones.{one_kept, one_taken}
use Rattle.edit_groups.proofs.book.GroupBook.one.Goals as goal
use Rattle.edit_groups.proofs.book.GroupBook.one.Goals.{After-push_reserved}
use Rattle.edit_groups.proofs.book.GroupBook.one.Given.{Over}

-- the steps behind the accepted one
pushed : (g : Over) (c : After-push_reserved g) → c.push_reserved.new.self.items ≡ c.self.inside.chunks.items ++ record { session = c.args.number; edits = c.in-Ok.edits; earlier = false } ∷ []
pushed g c = c.push_reserved.ensures.items ∙ ap (λ (l : List Chunk). l ++ record { session = c.args.number; edits = c.in-Ok.edits; earlier = false } ∷ []) c.reserve.ensures.items

pub invariant_of-self-in-Accepted : goal.invariant_of-self-in-Accepted
invariant_of-self-in-Accepted g c =
    let kept : set c.self.inside.undoable c.args.number (number_kept (undoable_in c.in-Accepted.version c.in-Ok.edits)) ≡ set c.self.inside.undoable c.args.number c.number_undoable.result =
    ap (set c.self.inside.undoable c.args.number) (sym (c.number_undoable.ensures ∙ ap (λ (es : List Edit). number_kept (undoable_in c.in-Accepted.version es)) c.as_slice.ensures.items)) in
    subst (λ (p : List Chunk × List ℕ). IsGroupBookKept c.act.new.self p.0 p.1) (λ i. (sym (pushed g c) i, kept i))
    (one_kept c.self.inside.book c.act.new.self c.self.inside.chunks.items c.self.inside.undoable c.args.number c.args.command c.in-Accepted.version c.in-Accepted.block c.in-Accepted.brief c.in-Ok.edits c.self.invariant c.in-Accepted.ensures.turn
    (c.in-Ok.ensures ∙ ap (λ (n : ℕ). option_to_list (edit_of (request_of_command c.args.command) n)) c.ids.ensures.ids) c.requires.number c.in-Accepted.ensures.opening)

pub returns-in-Accepted-clause-taken : goal.returns-in-Accepted-clause-taken
returns-in-Accepted-clause-taken g c =
    subst (λ (p : GroupView × List Chunk). IsStepTaken p.0.opening p.0.chunks c.args.number (One (Ok (request_of_command c.args.command))) (group.One (reply.Accepted c.in-Accepted.version c.in-Accepted.block c.in-Accepted.brief)) p.1) (λ i. (c.self.view_is i, sym (pushed g c) i))
    (one_taken c.self.inside.book c.act.new.self c.self.inside.chunks.items c.self.inside.undoable c.args.number c.args.command c.in-Accepted.version c.in-Accepted.block c.in-Accepted.brief c.in-Ok.edits c.self.invariant c.in-Accepted.ensures.turn
    (c.in-Ok.ensures ∙ ap (λ (n : ℕ). option_to_list (edit_of (request_of_command c.args.command) n)) c.ids.ensures.ids))
