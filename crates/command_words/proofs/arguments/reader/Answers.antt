use Rattle.std.proofs.Common.{◌∙◌, ap}
use Rattle.std.proofs.lemmas.Result.{IfOk-weaker}
use Rattle.std.specs.Prelude.{codes}
use Rattle.command_words.specs.Arguments.{with_option, with_flag, with_place}
use Rattle.command_words.proofs.arguments.reader.Goals as goal

pub returns : goal.returns
returns c =
    let low = c.in_ok-low.ensures ∙ ap (with_option (codes "low")) c.bare.ensures in
    let high = c.in_ok-high.ensures ∙ ap (with_option (codes "high")) low in
    let rack = c.in_ok-rack.ensures ∙ ap (with_option (codes "rack")) high in
    let hold = c.in_ok-hold.ensures ∙ ap (with_option (codes "hold")) rack in
    let block = c.in_ok-block.ensures ∙ ap (with_option (codes "block")) hold in
    let float = c.in_ok-float.ensures ∙ ap (with_option (codes "float")) block in
    let loops = c.in_ok-loops.ensures ∙ ap (with_flag (codes "loops")) float in
    let json = c.in_ok-json.ensures ∙ ap (with_flag (codes "json")) loops in
    let word = c.in_ok-word.ensures ∙ ap (with_place (codes "command")) json in
    let rows = c.in_ok-rows.ensures ∙ ap (with_place (codes "rows")) word in
    IfOk-weaker c.adding_place-3.result _ _ (λ a h. h ∙ ap (with_place (codes "start")) rows) c.adding_place-3.ensures
