use Rattle.std.proofs.Common.{◌≡◌, ap, sym, arith, ◌∙◌, get_or, []}
use Rattle.script_reader.specs.Statements.{is_skipped, kind_of}
use Rattle.script_reader.specs.declared.line.Kind.TheVariants as kind
use Rattle.script_reader.proofs.Places.{first_skipped, passed_more, stays_there}
use Rattle.script_reader.proofs.Texts.{not_skipped_kind, skipped_kind}
use Rattle.script_reader.proofs.text.next_said.Goals as goal

pub returns-then-not-is_skipped-clause-said : goal.returns-then-not-is_skipped-clause-said
returns-then-not-is_skipped-clause-said c =
    let is : c.is_skipped.result ≡ is_skipped (get_or c.args.lines.now c.loop-i.i []) = c.is_skipped.ensures ∙ ap is_skipped (c.as_bytes.ensures.value ∙ c.nth_line.ensures.text) in
    λ within. not_skipped_kind (get_or c.args.lines.now c.loop-i.i []) (sym is ∙ c.if-not-is_skipped.true)

pub returns-then-not-is_skipped-clause-stays : goal.returns-then-not-is_skipped-clause-stays
returns-then-not-is_skipped-clause-stays c = stays_there c.args.lines.now c.args.start c.loop-i.i c.loop-i.invariant.passed c.loop-i.invariant.first

pub returns-clause-stays : goal.returns-clause-stays
returns-clause-stays c = λ said.
    let same = stays_there c.args.lines.now c.args.start c.loop-i.i c.loop-i.invariant.passed c.loop-i.invariant.first said in
    let high = c.loop-i.invariant.passed.high in
    omega arith

pub loop-i-preserved : goal.loop-i-preserved
loop-i-preserved c =
    let is : c.is_skipped.result ≡ is_skipped (get_or c.args.lines.now c.loop-i.i []) = c.is_skipped.ensures ∙ ap is_skipped (c.as_bytes.ensures.value ∙ c.nth_line.ensures.text) in
    let skipped : kind_of (get_or c.args.lines.now c.loop-i.i []) ≡ kind.Skipped = skipped_kind (get_or c.args.lines.now c.loop-i.i []) (sym is ∙ c.if-not-is_skipped.false) in
    record {
      passed = passed_more c.args.lines.now c.args.start c.loop-i.i (omega arith) skipped c.loop-i.invariant.passed;
      first = first_skipped c.args.lines.now c.args.start c.loop-i.i c.loop-i.invariant.passed skipped c.loop-i.invariant.first;
    }
