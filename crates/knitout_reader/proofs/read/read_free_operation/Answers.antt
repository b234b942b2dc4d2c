use Rattle.std.proofs.Common.{refl, subst}
use Rattle.knitout_reader.specs.declared.words.FreeOperation.TheVariants as free_operation
use Rattle.knitout_reader.specs.Operations.{IsFreeWord}
use Rattle.knitout_reader.proofs.Marks.{free-reading}
use Rattle.knitout_reader.proofs.read.read_free_operation.Goals as goal

pub returns-in-Stitch : goal.returns-in-Stitch
returns-in-Stitch c = λ profile names word free is. free-reading profile names word free free_operation.Stitch (subst (λ n. IsFreeWord n word) c.in-Stitch.is is) _ refl

pub returns-in-Pause : goal.returns-in-Pause
returns-in-Pause c = λ profile names word free is. free-reading profile names word free free_operation.Pause (subst (λ n. IsFreeWord n word) c.in-Pause.is is) _ refl

pub returns-in-Extension : goal.returns-in-Extension
returns-in-Extension c = λ profile names word free is. free-reading profile names word free free_operation.Extension (subst (λ n. IsFreeWord n word) c.in-Extension.is is) _ refl
