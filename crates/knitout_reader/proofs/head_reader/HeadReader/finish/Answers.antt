use Rattle.std.proofs.Common.{◌≡◌, ℕ, List, false, true, IfErr, IfOk, ap, sym, subst, ◌∙◌}
use Rattle.std.proofs.lemmas.Bool.{false≢true}
use Rattle.std.proofs.lemmas.Result.{IfErr-weaker}
use Rattle.knitout_reader.specs.Head.{carriers_headers, IsHeadRefusal}
use Rattle.knitout_reader.proofs.HeadsByLines.{head_known, names_known, ok_of_both, no_magic_is_refused}
use Rattle.knitout_reader.proofs.Heads.{not_false, not_true}
use Rattle.knitout_reader.proofs.head_reader.HeadReader.finish.Goals as goal

pub returns-then-not-self-clause-fault : goal.returns-then-not-self-clause-fault
returns-then-not-self-clause-fault c = λ lines more has behind. no_magic_is_refused lines more c.args.self has (not_true c.args.self.has_magic c.if-not-self.true) behind

pub returns-clause-head : goal.returns-clause-head
returns-clause-head c =
    let magic : c.args.self.has_magic ≡ true = not_false c.args.self.has_magic c.if-not-self.false in
    ok_of_both c.declared.result _ _ _
    (λ head names len lines more has behind. head_known lines more c.args.self head has magic behind len (names (carriers_headers 1 lines) has.headers))
    c.declared.ensures.head c.declared.ensures.len

pub returns-clause-fault : goal.returns-clause-fault
returns-clause-fault c =
    let magic : c.args.self.has_magic ≡ true = not_false c.args.self.has_magic c.if-not-self.false in
    IfErr-weaker c.declared.result _ _
    (λ fault is lines more has behind. subst (λ a. IsHeadRefusal a fault) (sym (names_known lines more c.args.self has magic behind)) (is (carriers_headers 1 lines) has.headers))
    c.declared.ensures.fault

pub returns-clause-named : goal.returns-clause-named
returns-clause-named c = IfErr-weaker c.declared.result _ _ (λ fault is lines has. is (carriers_headers 1 lines) has.headers) c.declared.ensures.named
