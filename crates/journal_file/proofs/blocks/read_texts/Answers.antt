use Rattle.std.proofs.Common.{arith, ◌≡◌, ◌∙◌, ◌+◌, ◌++◌, ◌∷◌, [], ap, sym, subst, length, length-append, map}
use Rattle.std.proofs.lemmas.List.{map-append}
use Rattle.journal_file.specs.BlockForms.{block_form, no_block_yet, with_block}
use Rattle.journal_file.specs.Grammars.{Chain}
use Rattle.journal_file.specs.Reading.{FormHasRead}
use Rattle.journal_file.specs.SavedForms.{block_words}
use Rattle.journal_file.proofs.BlocksReadings.{AreSoFar, blocks_fault, blocks_more, so_far_more}
use Rattle.journal_file.proofs.blocks.read_texts.Goals as goal

pub returns-in-Err-clause-fault : goal.returns-in-Err-clause-fault
returns-in-Err-clause-fault c =
    let v = c.loop-i.invariant in
    blocks_fault c.args.many c.loop-i.i c.loop-i.lines c.args.start.rest.now c.args.start.taken (map block_words c.loop-i.texts) c.loop-i.at.rest.now c.loop-i.at.taken c.min.result c.loop-i-test.true v.1 v.3
    (omega (arith, c.min.ensures)) v.4 c.in-Err.fault c.in-Err.ensures.fault

pub loop-i-preserved : goal.loop-i-preserved
loop-i-preserved c =
    let v = c.loop-i.invariant in
    let pushed : map block_words c.push.new.self ≡ map block_words c.loop-i.texts ++ block_words c.in-Ok.text ∷ [] = ap (map block_words) c.in_ok-push-in-Ok.ensures.ok ∙ map-append block_words c.loop-i.texts (c.in-Ok.text ∷ []) in
    let count : c.len-lines.result ≡ length c.in-Ok.text = c.len-lines.ensures.len in (
      c.in-Ok.ensures.size,
      omega (arith, c.in-Ok.ensures.count, count, c.min.ensures, v.1, c.loop-i-test.true),
      omega (arith, v.2, ap length c.in_ok-push-in-Ok.ensures.ok, length-append c.loop-i.texts (c.in-Ok.text ∷ [])),
      subst (AreSoFar c.args.many (c.loop-i.i + 1) (c.loop-i.lines + c.len-lines.result)) (sym pushed)
          (subst (λ n. AreSoFar c.args.many (c.loop-i.i + 1) (c.loop-i.lines + n) (map block_words c.loop-i.texts ++ block_words c.in-Ok.text ∷ [])) (sym count)
          (so_far_more c.args.many c.loop-i.i c.loop-i.lines (length c.in-Ok.text) (map block_words c.loop-i.texts) c.in-Ok.text v.3)),
      subst (λ s. FormHasRead (Chain block_form with_block (c.loop-i.i + 1) (no_block_yet c.args.many)) c.args.start.rest.now c.args.start.taken s c.in-Ok.next.rest.now c.in-Ok.next.taken) (sym pushed)
          (blocks_more c.args.many c.loop-i.i c.loop-i.lines c.args.start.rest.now c.args.start.taken (map block_words c.loop-i.texts) c.loop-i.at.rest.now c.loop-i.at.taken c.min.result (length c.in-Ok.text) c.in-Ok.text c.in-Ok.next.rest.now c.in-Ok.next.taken v.3
          (omega (arith, c.min.ensures)) v.4 c.in-Ok.ensures.read),
    )
