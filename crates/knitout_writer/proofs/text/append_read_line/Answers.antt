use Rattle.knitout_writer.proofs.Bodies.{line-written}
use Rattle.knitout_writer.proofs.text.append_read_line.Goals as goal

pub returns : goal.returns
returns c = line-written c.args.profile.now c.args.declared.now c.args.line.now _ _ _ c.in_ok-read.read c.append_line.result c.in_ok-read.ensures.reads c.as_bytes.ensures.value c.append_line.ensures
