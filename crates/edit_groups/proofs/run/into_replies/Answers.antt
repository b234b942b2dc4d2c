use Rattle.std.proofs.Common.{Vec, Global, arith, ap, sym, ◌∙◌, ◌≡◌, ◌+◌, ◌∷◌, [], ◌++◌, List, length, map, append_assoc, append-nil, refl, length-append}
use Rattle.std.proofs.lemmas.Grind.{common_steps}
use Rattle.std.proofs.lemmas.List.{length-map, map-append}
use Rattle.std.specs.Vec.Iter.{into_iter_items}
use Rattle.edit_groups.specs.declared.reply.GroupReply.{GroupReply}
use Rattle.edit_groups.specs.Talks.{group_talk_replies}
use Rattle.edit_groups.proofs.run.into_replies.Goals as goal

nothing_left : {X : Type 0} (l : List X) → length l ≡ 0 → l ≡ []
nothing_left [] h = refl
nothing_left (x ∷ xs) h = absurd (omega arith)

pub loop-talk-preserved : goal.loop-talk-preserved
loop-talk-preserved c =
    let at = c.loop-talk in
    let steps = c.in-Some.ensures.steps.0 in
    record {
      all = append_assoc at.yielded (c.in-Some.talk ∷ []) (into_iter_items c.next.new.self) ∙ rw (← steps) at.invariant.all;
      left = let was = at.invariant.left in let gone = c.in-Some.ensures.steps.1 in let short = ap length steps in omega arith;
      same = rw c.push_reserved.ensures.items (simp map-append (ap (λ l. l ++ c.in-Some.talk.replies.items ∷ []) at.invariant.same));
      room = rw c.push_reserved.ensures.capacity at.invariant.room;
    }

pub push_reserved-requires : goal.push_reserved-requires
push_reserved-requires c =
    let at = c.loop-talk in
    let lists : length (map (λ (list : Vec GroupReply Global). list.items) at.lists.items) ≡ length at.lists.items = length-map at.lists.items (λ list. list.items) in
    let talks : length (map group_talk_replies at.yielded) ≡ length at.yielded = length-map at.yielded group_talk_replies in
    let same = ap length at.invariant.same in
    let all : length at.yielded + length (into_iter_items at.talk-iterator) ≡ length (into_iter_items c.into_iter-talk-iterator.result) = sym (length-append at.yielded (into_iter_items at.talk-iterator)) ∙ ap length at.invariant.all in
    let some = ap length c.in-Some.ensures.steps.0 in
    let room = at.invariant.room in
    grind (arith, common_steps)

pub returns : goal.returns
returns c =
    let at = c.loop-talk in
    let empty : into_iter_items at.talk-iterator ≡ [] = nothing_left (into_iter_items at.talk-iterator) (sym at.invariant.left ∙ c.in-None.ensures.steps.0) in
    let all : at.yielded ≡ c.args.talks.items = sym (append-nil at.yielded) ∙ rw empty at at.invariant.all ∙ c.into_iter-talk-iterator.ensures.into_iter_gives.0 in
    at.invariant.same ∙ ap (map group_talk_replies) all
