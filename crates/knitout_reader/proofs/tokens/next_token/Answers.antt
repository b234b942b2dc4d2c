use Rattle.std.proofs.Common.{◌<◌, length, arith}
use Rattle.knitout_reader.proofs.TokenRuns.{first_token_at, no_token}
use Rattle.knitout_reader.proofs.tokens.next_token.Goals as goal

pub returns-then-start-code-clause-split : goal.returns-then-start-code-clause-split
returns-then-start-code-clause-split c = no_token _ _ c.count_blanks-start.ensures.blanks (omega arith)

pub returns-clause-split : goal.returns-clause-split
returns-clause-split c =
    let left : c.count_blanks-start.result < length c.args.code.now = omega arith in
    (first_token_at c.args.code.now c.count_blanks-start.result c.count_token_bytes-end.result c.count_blanks-start.ensures.blanks left c.count_blanks-start.ensures.end
    c.count_token_bytes-end.ensures.token c.count_token_bytes-end.ensures.within c.count_token_bytes-end.ensures.end).split

pub returns-clause-token : goal.returns-clause-token
returns-clause-token c =
    let left : c.count_blanks-start.result < length c.args.code.now = omega arith in
    (first_token_at c.args.code.now c.count_blanks-start.result c.count_token_bytes-end.result c.count_blanks-start.ensures.blanks left c.count_blanks-start.ensures.end
    c.count_token_bytes-end.ensures.token c.count_token_bytes-end.ensures.within c.count_token_bytes-end.ensures.end).stands
