use Rattle.std.proofs.Common.{◌+◌, arith, refl}
use Rattle.input_answers.proofs.BodyRuns.{head_len-le}
use Rattle.input_answers.proofs.Openings.{AreFew, blocks_few, blocks_open}
use Rattle.input_answers.proofs.opening.open.Goals as goal

pub overflow_add-setting : goal.overflow_add-setting
overflow_add-setting g c = omega (arith, head_len-le c.args.text.now, c.requires.head.len, c.len-lines.ensures.len, c.len-lines.ensures.few)

pub cut-requires-clause-inside : goal.cut-requires-clause-inside
cut-requires-clause-inside g c = omega (arith, head_len-le c.args.text.now, c.requires.head.len)

pub overflow_cast-count : goal.overflow_cast-count
overflow_cast-count g c =
    let few : AreFew c.in_ok-blocks.blocks.items =
    blocks_few c.args.plan.now.chosen.block c.args.text.now c.args.head.now _ c.in_ok-blocks.blocks.items c.args.plan.now.lawful.block.some c.requires.head c.requires.fits c.in_ok-texts.ensures
    c.in_ok-blocks.ensures.texts in
    omega (arith, c.len-count.ensures, c.in_ok-blocks.blocks.ok.0, few.count)

pub start-requires-clause-few : goal.start-requires-clause-few
start-requires-clause-few g c =
    (blocks_few c.args.plan.now.chosen.block c.args.text.now c.args.head.now _ c.in_ok-blocks.blocks.items c.args.plan.now.lawful.block.some c.requires.head c.requires.fits c.in_ok-texts.ensures
    c.in_ok-blocks.ensures.texts).count

pub start-requires-clause-lines : goal.start-requires-clause-lines
start-requires-clause-lines g c =
    (blocks_few c.args.plan.now.chosen.block c.args.text.now c.args.head.now _ c.in_ok-blocks.blocks.items c.args.plan.now.lawful.block.some c.requires.head c.requires.fits c.in_ok-texts.ensures
    c.in_ok-blocks.ensures.texts).lines

pub returns-clause-opening : goal.returns-clause-opening
returns-clause-opening g c =
    blocks_open c.args.plan.now.chosen c.args.text.now c.args.head.now
    (record { profile = c.args.plan.now.chosen.profile; declared = c.in_ok-try_clone.field-0; first = c.args.head.now.lines + 1 })
    _ c.in_ok-blocks.blocks.items c.in_ok-book.book.opening c.requires.head refl c.in_ok-try_clone.ensures refl c.in_ok-texts.ensures c.in_ok-blocks.ensures.texts c.in_ok-book.ensures.setting
    c.in_ok-book.ensures.texts
