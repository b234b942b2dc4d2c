use Rattle.std.proofs.Common.{◌≡◌, ◌∙◌, ◌++◌, ◌∷◌, [], true, List, length, append_assoc, append-nil, ap, arith, refl, sym}
use Rattle.std.proofs.lemmas.List.{map-append}
use Rattle.std.specs.Vec.Iter.{into_iter_items}
use Rattle.edit_groups.specs.Chunks.{earlier_step, earlier_steps}
use Rattle.edit_groups.proofs.book.earlier_steps.Goals as goal

nothing_left : {X : Type 0} (l : List X) → length l ≡ 0 → l ≡ []
nothing_left [] h = refl
nothing_left (x ∷ xs) h = absurd (omega arith)

pub loop-entry-preserved : goal.loop-entry-preserved
loop-entry-preserved c =
    let at = c.loop-entry in
    let steps = c.in-Some.ensures.steps.0 in
    record {
      all = append_assoc at.yielded (c.in-Some.entry ∷ []) (into_iter_items c.next.new.self) ∙ rw (← steps) at.invariant.all;
      left = let was = at.invariant.left in let gone = c.in-Some.ensures.steps.1 in let short = ap length steps in omega arith;
      same = c.in_ok-push.ensures.items ∙ (λ i. at.invariant.same i ++ record { session = c.in-Some.entry.session; edits = c.in_ok-edits.ensures i; earlier = true } ∷ []) ∙ sym (map-append earlier_step at.yielded (c.in-Some.entry ∷ []));
    }

pub returns : goal.returns
returns c =
    let at = c.loop-entry in
    let empty : into_iter_items at.entry-iterator ≡ [] = nothing_left (into_iter_items at.entry-iterator) (sym at.invariant.left ∙ c.in-None.ensures.steps.0) in
    let all : at.yielded ≡ c.args.book.now.entries = sym (append-nil at.yielded) ∙ rw empty at at.invariant.all ∙ c.into_iter-entry-iterator.ensures.into_iter_gives.0 ∙ c.into_entries-entries.ensures ∙ c.in_ok-journal.ensures ∙ c.journal.ensures in
    at.invariant.same ∙ ap earlier_steps all
