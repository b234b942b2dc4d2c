use Rattle.std.proofs.Common.{◌≡◌, ◌+◌, ◌-◌, ◌<◌, ◌≤◌, ℕ, List, length, get_or, sym, ap, ◌∙◌, subst, arith}
use Rattle.std.specs.List.{slice_range}
use Rattle.std.proofs.lemmas.Slice.Zip.{AllZip-long}
use Rattle.knit_base.specs.declared.instr.Read.TheVariants as read
use Rattle.knitout_reader.specs.Reading.{ReadsAs}
use Rattle.face_data.specs.Summaries.{Summary}
use Rattle.loop_history.specs.declared.row.LoopRow.{LoopRow}
use Rattle.block_summary.specs.DraftKnowledge.{stopped_at}
use Rattle.block_summary.specs.Prepared.{AreRowsOf, DraftHasRead, IsMadeOf}
use Rattle.block_summary.proofs.Blocks.{all_read, read_more, read_stopped, zip_at}
use Rattle.block_summary.proofs.LinePlaces.{part_at, part_len}
use Rattle.block_summary.proofs.prepared.read_block.Goals as goal

pub returns-in-Some-clause-made : goal.returns-in-Some-clause-made
returns-in-Some-clause-made g c lines reads =
    let profile = c.args.setting.now.profile in
    let names = c.args.setting.now.declared in
    let carriers = length names in
    let part = slice_range c.args.text.now c.args.start c.args.end in
    let i = c.loop-i.i in
    let k : ℕ = i - c.args.start in
    let new = c.add_line.new.draft in
    let fault = c.in-Some.fault in
    let long : length lines ≡ c.args.end - c.args.start = AllZip-long (ReadsAs profile names) part lines reads ∙ part_len c.args.text.now c.args.start c.args.end c.requires.inside in
    let within : k < length lines = omega (arith, long, c.loop-i-test.true, c.loop-i.invariant.begun) in
    let here = zip_at (ReadsAs profile names) part lines k c.line-line.result.now read.Blank reads
    (part_at c.args.text.now c.args.start c.args.end i c.line-line.result.now c.requires.inside c.loop-i.invariant.begun c.loop-i-test.true c.line-line.ensures.line) in
    let adds = c.in_ok-add_line.ensures.added (get_or lines k read.Blank) here in
    let face = c.in_ok-broken_face-in-Some.ensures ∙ (λ j. stopped_at fault (record new { lines = sym long j })) in
    subst (λ (rows : List LoopRow). IsMadeOf profile carriers c.in_ok-broken_face-in-Some.field-0 rows lines) (sym c.shrink_to_fit.ensures)
    (subst (λ (s : Summary). IsMadeOf profile carriers s c.add_line.new.loops lines) (sym face)
    (read_stopped profile carriers lines k read.Blank c.loop-i.draft new c.loop-i.loops c.add_line.new.loops c.in_ok-add_line.field-0 fault c.requires.profile.some within adds c.in-Some.is
    (c.loop-i.invariant.read lines reads)))

pub loop-i-preserved : goal.loop-i-preserved
loop-i-preserved g c =
    let profile = c.args.setting.now.profile in
    let names = c.args.setting.now.declared in
    let part = slice_range c.args.text.now c.args.start c.args.end in
    let i = c.loop-i.i in
    let k : ℕ = i - c.args.start in
    let begun = c.loop-i.invariant.begun in
    let next : k + 1 ≡ i + 1 - c.args.start = omega (arith, begun) in
    let counted : c.add_line.new.draft.lines ≡ i + 1 - c.args.start = c.in_ok-add_line.ensures.lines ∙ ap (λ n. n + 1) c.loop-i.invariant.lines ∙ next in
    record {
      begun = omega (arith, begun);
      inside = omega (arith, c.loop-i-test.true);
      last = c.in_ok-add_line.ensures.last;
      lines = counted;
      rows = subst (λ n. AreRowsOf n c.add_line.new.loops) counted c.in_ok-add_line.ensures.rows;
      steps = omega (arith, c.line-line.ensures.steps, c.loop-i.invariant.steps, begun);
      read = λ lines reads.
          let long : length lines ≡ c.args.end - c.args.start = AllZip-long (ReadsAs profile names) part lines reads ∙ part_len c.args.text.now c.args.start c.args.end c.requires.inside in
          let within : k < length lines = omega (arith, long, c.loop-i-test.true, begun) in
          let here = zip_at (ReadsAs profile names) part lines k c.line-line.result.now read.Blank reads
          (part_at c.args.text.now c.args.start c.args.end i c.line-line.result.now c.requires.inside begun c.loop-i-test.true c.line-line.ensures.line) in
          subst (λ n. DraftHasRead profile (length names) lines n c.add_line.new.draft c.add_line.new.loops) next
          (read_more profile (length names) lines k read.Blank c.loop-i.draft c.add_line.new.draft c.loop-i.loops c.add_line.new.loops c.in_ok-add_line.field-0 c.requires.profile.some within
          (c.in_ok-add_line.ensures.added (get_or lines k read.Blank) here) c.in-None.is (c.loop-i.invariant.read lines reads));
    }

pub returns-clause-made : goal.returns-clause-made
returns-clause-made g c lines reads =
    let profile = c.args.setting.now.profile in
    let names = c.args.setting.now.declared in
    let carriers = length names in
    let part = slice_range c.args.text.now c.args.start c.args.end in
    let k : ℕ = c.loop-i.i - c.args.start in
    let long : length lines ≡ c.args.end - c.args.start = AllZip-long (ReadsAs profile names) part lines reads ∙ part_len c.args.text.now c.args.start c.args.end c.requires.inside in
    let past : length lines ≤ k = omega (arith, long, c.loop-i-test.false, c.loop-i.invariant.begun) in
    subst (λ (rows : List LoopRow). IsMadeOf profile carriers c.in_ok-face.field-0 rows lines) (sym c.shrink_to_fit-2.ensures)
    (subst (λ (s : Summary). IsMadeOf profile carriers s c.loop-i.loops lines) (sym c.in_ok-face.ensures)
    (all_read profile carriers lines k c.loop-i.draft c.loop-i.loops c.requires.profile.some past (c.loop-i.invariant.read lines reads)))
