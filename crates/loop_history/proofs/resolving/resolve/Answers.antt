use Rattle.std.proofs.Common.{◌≡◌, ◌+◌, take, ap, ◌∙◌}
use Rattle.std.proofs.lemmas.List.{take_all}
use Rattle.face_data.specs.Segments.{read_segs}
use Rattle.loop_history.specs.Entries.{state_with_stacks}
use Rattle.loop_history.proofs.Entries.{read_segs-entered}
use Rattle.loop_history.proofs.resolving.resolve.Goals as goal

pub returns : goal.returns
returns c s held =
    let segs : take c.loop-seg.seg-index c.as_slice-seg-items.result.now ≡ c.args.row.now.through =
    take_all c.loop-seg.seg-index c.as_slice-seg-items.result.now c.loop-seg-test.false ∙ c.as_slice-seg-items.ensures.items in
    let through : c.loop-seg.through ≡ read_segs s c.args.first c.args.row.now.through =
    c.loop-seg.invariant ∙ ap (read_segs (state_with_stacks c.args.entries.now) c.args.first) segs ∙ read_segs-entered s c.args.first c.args.entries.now c.args.row.now.through held in
    λ i. record {
      line = c.args.first + c.args.row.now.offset;
      needle = c.args.row.now.needle;
      dir = c.args.row.now.dir;
      yarns = c.in_ok-try_clone.ensures.ok i;
      through = through i;
    }
