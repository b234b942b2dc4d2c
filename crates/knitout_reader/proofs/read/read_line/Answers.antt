use Rattle.std.proofs.Common.{◌≡◌, ◌∷◌, ◌+◌, ◌<◌, ◌^◌, ap, sym, arith, length, ◌∙◌}
use Rattle.std.proofs.lemmas.Result.{IfOk-weaker}
use Rattle.knit_base.specs.Spelling.{dir_word}
use Rattle.knitout_reader.specs.Operations.{loop_word}
use Rattle.knitout_reader.specs.Tokens.{tokens_of, before_comment, has_comment}
use Rattle.knitout_reader.proofs.FewCarriers.{few_along}
use Rattle.knitout_reader.proofs.OneShape.{one-reading, reads-tokens}
use Rattle.knitout_reader.proofs.Rules.{tokens-lawful}
use Rattle.knitout_reader.proofs.TokenRuns.{few_tokens}
use Rattle.knitout_reader.proofs.read.read_line.Goals as goal

pub read_loop_operands-requires : goal.read_loop_operands-requires
read_loop_operands-requires c =
    omega (arith, ap length c.in-Some.ensures, few_tokens c.code_of-code.result.now, c.code_of-code.ensures.short, ap length c.as_bytes-bytes.ensures.value, c.requires.short)

pub returns-in-Some-clause-only : goal.returns-in-Some-clause-only
returns-in-Some-clause-only c =
    let tokens : tokens_of (before_comment c.args.line.now) ≡ loop_word c.in-Some.which ∷ dir_word c.in-Some.dir ∷ tokens_of c.in-Some.operands.now =
    ap (λ bytes. tokens_of (before_comment bytes)) (sym c.as_bytes-bytes.ensures.value) ∙ ap tokens_of (sym c.code_of-code.ensures.code) ∙ c.in-Some.ensures in
    IfOk-weaker c.read_loop_operands.result _ _
    (λ r reads other two.
    one-reading c.args.profile.now c.args.declared.now _ _ r other reads
    (reads-tokens c.args.profile.now c.args.declared.now _ _ _ (has_comment c.args.line.now) other tokens two))
    c.read_loop_operands.ensures.reads

pub returns-in-Some-clause-lawful : goal.returns-in-Some-clause-lawful
returns-in-Some-clause-lawful c =
    let few : 4 + length (dir_word c.in-Some.dir ∷ tokens_of c.in-Some.operands.now) < 2 ^ 16 =
    omega (arith, ap length c.in-Some.ensures, few_tokens c.code_of-code.result.now, c.code_of-code.ensures.short, ap length c.as_bytes-bytes.ensures.value, c.requires.short) in
    IfOk-weaker c.read_loop_operands.result _ _ (λ r reads. tokens-lawful c.args.profile.now c.args.declared.now _ _ r few reads) c.read_loop_operands.ensures.reads

pub read_tokens-requires : goal.read_tokens-requires
read_tokens-requires c =
    omega (arith, ap length c.in-Some-next_token.ensures.split, few_tokens c.code_of-code.result.now, c.code_of-code.ensures.short, ap length c.as_bytes-bytes.ensures.value, c.requires.short)

pub returns-in-Some-next_token-clause-only : goal.returns-in-Some-next_token-clause-only
returns-in-Some-next_token-clause-only c =
    let tokens : tokens_of (before_comment c.args.line.now) ≡ c.in-Some-next_token.word.now ∷ tokens_of c.in-Some-next_token.operands.now =
    ap (λ bytes. tokens_of (before_comment bytes)) (sym c.as_bytes-bytes.ensures.value) ∙ ap tokens_of (sym c.code_of-code.ensures.code) ∙ c.in-Some-next_token.ensures.split in
    IfOk-weaker c.read_tokens.result _ _
    (λ r reads other two.
    one-reading c.args.profile.now c.args.declared.now _ _ r other reads
    (reads-tokens c.args.profile.now c.args.declared.now _ _ _ (has_comment c.args.line.now) other tokens two))
    c.read_tokens.ensures.reads

pub returns-in-Some-next_token-clause-lawful : goal.returns-in-Some-next_token-clause-lawful
returns-in-Some-next_token-clause-lawful c =
    let few : 4 + length (tokens_of c.in-Some-next_token.operands.now) < 2 ^ 16 =
    omega (arith, ap length c.in-Some-next_token.ensures.split, few_tokens c.code_of-code.result.now, c.code_of-code.ensures.short, ap length c.as_bytes-bytes.ensures.value, c.requires.short) in
    IfOk-weaker c.read_tokens.result _ _ (λ r reads. tokens-lawful c.args.profile.now c.args.declared.now _ _ r few reads) c.read_tokens.ensures.reads

pub returns-in-Some-clause-in_place : goal.returns-in-Some-clause-in_place
returns-in-Some-clause-in_place c few =
    let tokens : tokens_of (before_comment c.args.line.now) ≡ loop_word c.in-Some.which ∷ dir_word c.in-Some.dir ∷ tokens_of c.in-Some.operands.now =
    ap (λ bytes. tokens_of (before_comment bytes)) (sym c.as_bytes-bytes.ensures.value) ∙ ap tokens_of (sym c.code_of-code.ensures.code) ∙ c.in-Some.ensures in
    c.read_loop_operands.ensures.in_place (few_along _ _ tokens few)

pub returns-in-Some-next_token-clause-in_place : goal.returns-in-Some-next_token-clause-in_place
returns-in-Some-next_token-clause-in_place c few =
    let tokens : tokens_of (before_comment c.args.line.now) ≡ c.in-Some-next_token.word.now ∷ tokens_of c.in-Some-next_token.operands.now =
    ap (λ bytes. tokens_of (before_comment bytes)) (sym c.as_bytes-bytes.ensures.value) ∙ ap tokens_of (sym c.code_of-code.ensures.code) ∙ c.in-Some-next_token.ensures.split in
    c.read_tokens.ensures.in_place (few_along _ _ tokens few)
