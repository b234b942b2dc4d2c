use Rattle.std.proofs.Common.{◌≡◌, ◌+◌, ◌∷◌, ◌++◌, ◌∙◌, [], List, All, Some, None, length, map, slice_get, length-append, append-nil, sym, ap, refl, subst, arith}
use Rattle.std.proofs.lemmas.List.Elements.{All-head, All-tail}
use Rattle.std.specs.Option.{option_copied}
use Rattle.std.specs.Vec.Iter.{into_iter_items}
use Rattle.block_summary.specs.Prepared.{IsPreparedFor}
use Rattle.block_summary.specs.declared.prepared.Prepared.{Prepared}
use Rattle.edit_journal.specs.declared.edit.BlockAt.{BlockAt}
use Rattle.edit_book.specs.declared.reply.Again.{Again}
use Rattle.edit_book.specs.Turns.{AreFitAgain}
use Rattle.edit_book.proofs.GivenTexts.{Found, fit_more, given_text_found, given_at}
use Rattle.edit_book.proofs.sessions.again.blocks_again.Goals as goal
use Rattle.edit_book.proofs.sessions.again.blocks_again.Goals.{In-Some}

-- a summary that goes from those to come to those that were given
summary_moved : (front : List Again) (a : Again) (rest : List Prepared) → map (λ (x : Again). x.prepared) (front ++ a ∷ []) ++ rest ≡ map (λ (x : Again). x.prepared) front ++ a.prepared ∷ rest
summary_moved [] a rest = refl
summary_moved (x ∷ front) a rest = ap (λ (l : List Prepared). x.prepared ∷ l) (summary_moved front a rest)

ends : (xs : List Prepared) → length xs ≡ 0 → xs ≡ []
ends [] none = refl
ends (x ∷ xs) none = absurd (omega (arith, none))

-- the block of the summary
block_found : (c : In-Some) → Found c.args.blocks.now c.loop-prepared.at c.in-Some.prepared.text (map (λ (p : Prepared). p.text) (into_iter_items c.next.new.self))
block_found c = given_text_found _ _ _ _ (sym (ap (map (λ (p : Prepared). p.text)) c.in-Some.ensures.steps.0) ∙ c.loop-prepared.invariant.texts)

pub unreachable-requires : goal.unreachable-requires
unreachable-requires c =
    let got = (block_found (goal.at.unreachable-requires c).In-Some).got in
    let none : None ≡ slice_get c.args.blocks.now c.loop-prepared.at = sym (ap option_copied c.in_default.is) ∙ c.get.ensures in
    absurd (cc)

pub loop-prepared-preserved : goal.loop-prepared-preserved
loop-prepared-preserved c =
    let at = c.loop-prepared in
    let steps = c.in-Some.ensures.steps.0 in
    let block = c.in-Some-get.block.now in
    let f = block_found (goal.at.loop-prepared-preserved c).In-Some in
    let got : slice_get c.args.blocks.now at.at ≡ Some block = sym c.get.ensures ∙ ap option_copied c.in-Some-get.is in
    let same : f.block ≡ block = let there = f.got in cc in
    let item : Again = record { block = block.block; stamp = block.stamp; prepared = c.in-Some.prepared } in
    record {
      count = ap length c.in_ok-push.ensures.ok ∙ length-append at.again (item ∷ []) ∙ ap (λ n. n + 1) at.invariant.count;
      summaries = ap (λ (l : List Again). map (λ (a : Again). a.prepared) l ++ into_iter_items c.next.new.self) c.in_ok-push.ensures.ok
          ∙ summary_moved at.again item (into_iter_items c.next.new.self)
          ∙ ap (λ (l : List Prepared). map (λ (a : Again). a.prepared) at.again ++ l) (sym steps)
          ∙ at.invariant.summaries;
      left = let was = at.invariant.left in let gone = c.in-Some.ensures.steps.1 in let short = ap length steps in omega arith;
      texts = f.rest;
      prepared = λ profile names all. All-tail (IsPreparedFor profile names) _ _ (subst (All (IsPreparedFor profile names)) steps (at.invariant.prepared profile names all));
      fits = λ opening journal names all given.
          let P = IsPreparedFor opening.setting.profile names in
          subst (AreFitAgain opening journal names) (sym c.in_ok-push.ensures.ok)
          (fit_more opening journal names at.again item (at.invariant.fits opening journal names all given) (record {
            given = given_at opening journal c.args.blocks.now at.at block got given ∙ ap Some (sym (ap (λ (b : BlockAt). b.text) same) ∙ f.text_is);
            prepared_for = All-head P _ _ (subst (All P) steps (at.invariant.prepared opening.setting.profile names all));
          }));
    }

pub returns-clause-summaries : goal.returns-clause-summaries
returns-clause-summaries c = sym (append-nil (map (λ (a : Again). a.prepared) c.loop-prepared.again)) ∙ ap (λ (l : List Prepared). map (λ (a : Again). a.prepared) c.loop-prepared.again ++ l) (sym (ends (into_iter_items c.loop-prepared.prepared-iterator) (sym c.loop-prepared.invariant.left ∙ c.in-None.ensures.steps.0))) ∙ c.loop-prepared.invariant.summaries ∙ c.into_iter-prepared-iterator.ensures.into_iter_gives.0

pub returns-clause-fits : goal.returns-clause-fits
returns-clause-fits c = λ opening journal names all given.
    c.loop-prepared.invariant.fits opening journal names (subst (All (IsPreparedFor opening.setting.profile names)) (sym c.into_iter-prepared-iterator.ensures.into_iter_gives.0) all) given
