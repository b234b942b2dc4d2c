use Rattle.std.proofs.Common.{◌≡◌, None, ◌∙◌, ap, rules, ◌++◌, ◌∷◌, []}
use Rattle.std.specs.Prelude.{slice_index_or}
use Rattle.std.specs.List.{sum_by}
use Rattle.summary_tree.specs.Faces.{spans_at}
use Rattle.summary_tree.proofs.FaceTables.{same_pushed, spans_pushed}
use Rattle.summary_tree.proofs.faces.lengthen_entries.Goals as goal

pub returns-in_err-push-clause-spans : goal.returns-in_err-push-clause-spans
returns-in_err-push-clause-spans c = λ list class.
    let same : c.push.new.self.items ≡ c.loop-i.entries.items = search rules in
    ap (sum_by (spans_at list class)) same ∙ c.loop-i.invariant.spans list class

pub loop-i-preserved : goal.loop-i-preserved
loop-i-preserved c =
    let pushed : c.push.new.self.items ≡ c.loop-i.entries.items ++ None ∷ [] = search rules in
    record {
      more = search rules;
      count = search rules;
      same = λ at. ap (λ entries. slice_index_or entries at None) pushed ∙ (same_pushed c.loop-i.entries.items at ∙ c.loop-i.invariant.same at);
      spans = λ list class. ap (sum_by (spans_at list class)) pushed ∙ (spans_pushed list class c.loop-i.entries.items ∙ c.loop-i.invariant.spans list class);
    }
