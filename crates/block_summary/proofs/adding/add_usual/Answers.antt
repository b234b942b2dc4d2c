use Rattle.std.proofs.Common.{◌≡◌, ◌<◌, ℕ, false, List, Option, None, Some, length, refl, sym, ◌∙◌, subst}
use Rattle.std.specs.Prelude.{is_some}
use Rattle.std.proofs.lemmas.Bool.{true≢false}
use Rattle.face_data.specs.Summaries.{Summary}
use Rattle.loop_history.specs.declared.row.LoopRow.{LoopRow}
use Rattle.block_summary.specs.Prepared.{AreRowsOf}
use Rattle.block_summary.proofs.KnownKnits.{known_adds, known_lines, known_rows, not_known}
use Rattle.block_summary.proofs.adding.add_usual.Goals as goal

-- where there is no limit
none_there : (limit : Option ℕ) → is_some limit ≡ false → limit ≡ None
none_there None none = refl
none_there (Some float) none = absurd (true≢false none)

pub returns-then-branch : goal.returns-then-branch
returns-then-branch c =
    let profile = c.args.setting.now.profile in
    let old = c.args.draft.now in
    let new = c.add_knit.new.draft in
    let rows = c.args.loops.now in
    let more = c.add_knit.new.loops in
    let known = c.in_ok-add_knit-in-Knit.field-0 in
    let free : profile.float ≡ None = none_there profile.float (sym c.is_some.ensures ∙ c.if-is_some.false) in
    record {
      added = known_adds profile (length c.args.setting.now.declared) c.args.usual c.in-Knit.dir c.in-Knit.n c.in-Knit.c known old new rows more c.in-Knit.is free c.requires.lawful c.if-branch.true
          c.in_ok-add_knit-in-Knit.ensures;
      lines = known_lines profile c.in-Knit.dir c.in-Knit.n c.in-Knit.c known old new rows more free c.if-branch.true c.in_ok-add_knit-in-Knit.ensures;
      rows = known_rows profile c.in-Knit.dir c.in-Knit.n c.in-Knit.c known old new rows more free c.if-branch.true c.in_ok-add_knit-in-Knit.ensures c.requires.rows;
    }

pub add_first_knit-requires-clause-floats : goal.add_first_knit-requires-clause-floats
add_first_knit-requires-clause-floats c = none_there c.args.setting.now.profile.float (sym c.is_some.ensures ∙ c.if-is_some.false)

pub add_reading-requires-in-Knit-clause-few : goal.add_reading-requires-in-Knit-clause-few
add_reading-requires-in-Knit-clause-few c =
    let same = not_known c.in-Knit.dir c.in-Knit.n c.in-Knit.c c.in_ok-add_knit-in-Knit.field-0 c.args.draft.now c.add_knit.new.draft c.args.loops.now c.add_knit.new.loops c.if-branch.false c.in_ok-add_knit-in-Knit.ensures in
    subst (λ (s : Summary). s.lines < 4096) (sym same.0) c.requires.few

pub add_reading-requires-in-Knit-clause-rows : goal.add_reading-requires-in-Knit-clause-rows
add_reading-requires-in-Knit-clause-rows c =
    let same = not_known c.in-Knit.dir c.in-Knit.n c.in-Knit.c c.in_ok-add_knit-in-Knit.field-0 c.args.draft.now c.add_knit.new.draft c.args.loops.now c.add_knit.new.loops c.if-branch.false c.in_ok-add_knit-in-Knit.ensures in
    subst (λ (s : Summary). AreRowsOf s.lines c.add_knit.new.loops) (sym same.0) (subst (λ (rows : List LoopRow). AreRowsOf c.args.draft.now.lines rows) (sym same.1) c.requires.rows)
