-- Where the effect says nothing, the same condition is kept.
use Rattle.std.proofs.Common.{◌∙◌, [], sym}
use Rattle.face_data.specs.Conditions.{ask_of}
use Rattle.face_data.specs.Digests.{effect_bearing}
use Rattle.summary_compose.proofs.AlikeConditions.{where_silent}
use Rattle.summary_compose.proofs.alike.plain_implied.Goals as goal

pub returns-in-Silent : goal.returns-in-Silent
returns-in-Silent c = λ yes.
    where_silent (effect_bearing c.args.effect.now (ask_of [] c.args.cond.now)) _ (sym (c.bearing_on.ensures []) ∙ c.in-Silent.is) (c.find_same.ensures yes)
