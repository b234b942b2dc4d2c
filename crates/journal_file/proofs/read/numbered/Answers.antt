use Rattle.std.proofs.Common.{◌≡◌, ◌∙◌, ◌+◌, ◌++◌, ◌∷◌, [], List, length, length-append, append_assoc, append-nil, ap, arith, refl, sym}
use Rattle.std.specs.Vec.Iter.{into_iter_items}
use Rattle.journal_file.specs.SavedParts.{numbered_from}
use Rattle.journal_file.proofs.FormSpellings.{numbered_length, numbered_push}
use Rattle.journal_file.proofs.read.numbered.Goals as goal

nothing_left : {X : Type 0} (l : List X) → length l ≡ 0 → l ≡ []
nothing_left [] h = refl
nothing_left (x ∷ xs) h = absurd (omega arith)

pub push-requires : goal.push-requires
push-requires c =
    let at = c.loop-text in
    let all : length at.yielded + length (into_iter_items at.text-iterator) ≡ length (into_iter_items c.into_iter-text-iterator.result) = sym (length-append at.yielded (into_iter_items at.text-iterator)) ∙ ap length at.invariant.all in
    let some = ap length c.in-Some.ensures.steps.0 in
    omega (arith, all, some, ap length at.invariant.same, numbered_length 0 at.yielded, c.into_vec-text-items.ensures.small, ap length c.into_vec-text-items.ensures.items, ap length c.into_iter-text-iterator.ensures.into_iter_gives.0)

pub loop-text-preserved : goal.loop-text-preserved
loop-text-preserved c =
    let at = c.loop-text in
    let steps = c.in-Some.ensures.steps.0 in
    record {
      all = append_assoc at.yielded (c.in-Some.text ∷ []) (into_iter_items c.next.new.self) ∙ rw (← steps) at.invariant.all;
      left = let was = at.invariant.left in let gone = c.in-Some.ensures.steps.1 in let short = ap length steps in omega arith;
      same =
          let number : c.len-block.result ≡ 0 + length at.yielded = c.len-block.ensures ∙ ap length at.invariant.same ∙ omega (arith, numbered_length 0 at.yielded) in
          c.in_ok-push.ensures.ok ∙ (λ i. at.invariant.same i ++ record { block = number i; stamp = 0; text = c.in-Some.text } ∷ []) ∙ sym (numbered_push 0 at.yielded c.in-Some.text);
    }

pub returns : goal.returns
returns c =
    let at = c.loop-text in
    let empty : into_iter_items at.text-iterator ≡ [] = nothing_left (into_iter_items at.text-iterator) (sym at.invariant.left ∙ c.in-None.ensures.steps.0) in
    let all : at.yielded ≡ c.args.texts = sym (append-nil at.yielded) ∙ rw empty at at.invariant.all ∙ c.into_iter-text-iterator.ensures.into_iter_gives.0 ∙ c.into_vec-text-items.ensures.items in
    at.invariant.same ∙ ap (numbered_from 0) all
