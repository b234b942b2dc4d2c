use Rattle.knit_base.proofs.Buffers.{lines-pushed, text_line}
use Rattle.knit_base.proofs.lines.Lines.push.Goals as goal

pub invariant_of-self-2 : goal.invariant_of-self-2
invariant_of-self-2 c =
    (lines-pushed _ _ _ _ _ _ _ c.self.invariant c.self.view_is (text_line _ c.utf8.s c.requires.one c.requires.short) c.requires.few c.as_bytes.ensures.value c.in_ok-push.ensures.bytes c.in_ok-push.ensures.spans).0

pub returns-clause-ok : goal.returns-clause-ok
returns-clause-ok c =
    (lines-pushed _ _ _ _ _ _ _ c.self.invariant c.self.view_is (text_line _ c.utf8.s c.requires.one c.requires.short) c.requires.few c.as_bytes.ensures.value c.in_ok-push.ensures.bytes c.in_ok-push.ensures.spans).1
