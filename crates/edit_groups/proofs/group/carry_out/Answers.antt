use Rattle.std.proofs.Common.{◌≡◌, ◌≤◌, ◌<◌, ◌+◌, ◌∷◌, [], ◌++◌, ◌∙◌, List, ℕ, length, map, ap, sym, subst, arith, append_assoc, length-append}
use Rattle.std.specs.Vec.Iter.{into_iter_items}
use Rattle.edit_journal.specs.declared.edit.Edit.{Edit}
use Rattle.edit_journal.specs.declared.opening.Opening.{Opening}
use Rattle.edit_journal.specs.Documents.{document_of}
use Rattle.edit_book.specs.Books.{document}
use Rattle.edit_groups.specs.Carried.{IsCarriedOut, IsEditDone}
use Rattle.edit_groups.specs.Groups.{AreFitEdits, each_limit, edit_asked, group_edit_limit}
use Rattle.edit_groups.specs.declared.reply.GroupEdit.{GroupEdit}
use Rattle.edit_groups.proofs.Runs.{carried_more, fits_behind, steps_behind}
use Rattle.edit_groups.proofs.group.carry_out.Goals as goal

pub push-requires : goal.push-requires
push-requires g c =
    let at = c.loop-edit.invariant in
    let all : length c.loop-edit.yielded + length (into_iter_items c.loop-edit.edit-iterator) ≡ length (into_iter_items c.into_iter-edit-iterator.result) =
    sym (length-append c.loop-edit.yielded (into_iter_items c.loop-edit.edit-iterator)) ∙ ap length at.all in
    let few = at.few in let counted = at.counted in let many = at.many in
    omega (arith, all, few, counted, many)

pub loop-edit-preserved : goal.loop-edit-preserved
loop-edit-preserved g c =
    let at = c.loop-edit.invariant in
    let steps = c.in-Some.ensures.steps.0 in
    let o : Opening = c.args.book.now.opening in
    let now = c.loop-edit.book.entries in
    let next = c.carry_out_one.new.book.entries in
    let rest : List GroupEdit = into_iter_items c.next.new.self in
    let pushed : c.push.new.self ≡ c.loop-edit.done ++ c.in-Ok.edit ∷ [] = c.in_ok-push-in-Ok.ensures.ok in
    let opening : c.carry_out_one.new.book.opening ≡ o = c.carry_out_one.ensures.opening ∙ at.opening in
    let done : IsEditDone o c.args.number now (edit_asked c.in-Some.edit) c.in-Ok.edit next =
    subst (λ (p : Opening). IsEditDone p c.args.number now (edit_asked c.in-Some.edit) c.in-Ok.edit next) at.opening c.in-Ok.ensures.done in
    record {
      all = append_assoc c.loop-edit.yielded (c.in-Some.edit ∷ []) rest ∙ rw (← steps) at.all;
      left = let was = at.left in let gone = c.in-Some.ensures.steps.1 in let short = ap length steps in omega arith;
      counted = let counted = at.counted in omega (arith, counted, length-append c.loop-edit.yielded (c.in-Some.edit ∷ []));
      many = let many = at.many in omega (arith, many, ap length pushed, length-append c.loop-edit.done (c.in-Ok.edit ∷ []));
      few = at.few;
      opening = opening;
      fits = subst (λ (p : Opening). AreFitEdits p next rest) (sym opening)
          (fits_behind o c.args.number now next c.in-Some.edit c.in-Ok.edit rest done
          (subst (λ (p : Opening). AreFitEdits p now (c.in-Some.edit ∷ rest)) at.opening (subst (AreFitEdits c.loop-edit.book.opening now) steps at.fits)));
      carried = carried_more o c.args.number c.args.book.now.entries c.loop-edit.yielded c.loop-edit.done c.push.new.self now next c.in-Some.edit c.in-Ok.edit at.carried done pushed;
      steps =
          let one : c.carry_out_one.new.steps ≤ c.loop-edit.steps + group_edit_limit o (document_of o now) c.in-Some.edit =
          subst (λ (p : Opening). c.carry_out_one.new.steps ≤ c.loop-edit.steps + group_edit_limit p (document_of p now) c.in-Some.edit) at.opening c.carry_out_one.ensures.steps in
          let behind = steps_behind o c.args.number now next c.in-Some.edit c.in-Ok.edit rest c.loop-edit.steps c.carry_out_one.new.steps done one in
          let front : each_limit c.loop-edit.book.opening (document c.loop-edit.book) (length now) (into_iter_items c.loop-edit.edit-iterator) ≡ each_limit o (document_of o now) (length now) (c.in-Some.edit ∷ rest) =
          ap (λ (p : Opening × List GroupEdit). each_limit p.0 (document_of p.0 now) (length now) p.1) (λ i. (at.opening i, steps i)) in
          let last : each_limit c.carry_out_one.new.book.opening (document c.carry_out_one.new.book) (length next) rest ≡ each_limit o (document_of o next) (length next) rest =
          ap (λ (p : Opening). each_limit p (document_of p next) (length next) rest) opening in
          let before = at.steps in
          omega (arith, behind, front, last, before);
    }
