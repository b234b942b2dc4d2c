use Rattle.std.proofs.Common.{◌≡◌, ◌≤◌, [], ◌∷◌, ◌++◌, List, ℕ, length, Err, ap, sym, subst, ◌∙◌, append_assoc}
use Rattle.knitout_reader.specs.Tokens.{tokens_of}
use Rattle.knitout_reader.proofs.Heads.{IsNext, next_is_name, next_has_room, next_is_twice, next_read, ok_result, still_few, declared_twice, declared_all}
use Rattle.knitout_reader.proofs.head.read_names.Goals as goal

pub unwrap-name-requires : goal.unwrap-name-requires
unwrap-name-requires c =
    let next : IsNext c.args.text.now c.loop-name.declared c.in-Some.name.now (tokens_of c.in-Some.after.now) =
    record { so_far = sym (ap (λ ts. c.loop-name.declared ++ ts) c.in-Some.ensures.split) ∙ c.loop-name.invariant.so_far } in
    ok_result _ _ _ c.from_utf8.ensures.cases (λ e failed. failed.0 (next_is_name _ _ _ _ c.requires next).utf8)

pub add-requires-clause-name : goal.add-requires-clause-name
add-requires-clause-name c =
    let next : IsNext c.args.text.now c.loop-name.declared c.unwrap-name.result.now (tokens_of c.in-Some.after.now) =
    next_read c.args.text.now c.loop-name.declared c.in-Some.name c.loop-name.rest.now c.in-Some.after.now c.from_utf8.result c.unwrap-name.result _
    c.loop-name.invariant.so_far c.in-Some.ensures.split c.unwrap-name.ensures c.from_utf8.ensures.cases in
    (next_is_name _ _ _ _ c.requires next).name

pub add-requires-clause-room : goal.add-requires-clause-room
add-requires-clause-room c =
    let next : IsNext c.args.text.now c.loop-name.declared c.unwrap-name.result.now (tokens_of c.in-Some.after.now) =
    next_read c.args.text.now c.loop-name.declared c.in-Some.name c.loop-name.rest.now c.in-Some.after.now c.from_utf8.result c.unwrap-name.result _
    c.loop-name.invariant.so_far c.in-Some.ensures.split c.unwrap-name.ensures c.from_utf8.ensures.cases in
    next_has_room _ _ _ _ c.requires next

pub loop-name-preserved : goal.loop-name-preserved
loop-name-preserved c =
    let next : IsNext c.args.text.now c.loop-name.declared c.unwrap-name.result.now (tokens_of c.in-Some.after.now) =
    next_read c.args.text.now c.loop-name.declared c.in-Some.name c.loop-name.rest.now c.in-Some.after.now c.from_utf8.result c.unwrap-name.result _
    c.loop-name.invariant.so_far c.in-Some.ensures.split c.unwrap-name.ensures c.from_utf8.ensures.cases in
    let added : c.add.new.self ≡ c.loop-name.declared ++ c.unwrap-name.result.now ∷ [] = c.in-Ok.ensures.ok in
    record {
      so_far =
          ap (λ ns. ns ++ tokens_of c.in-Some.after.now) added
          ∙ append_assoc c.loop-name.declared (c.unwrap-name.result.now ∷ []) (tokens_of c.in-Some.after.now)
          ∙ next.so_far;
      few =
          subst (λ (ns : List (List ℕ)). length ns ≤ 64) (sym added)
          (still_few c.loop-name.declared c.unwrap-name.result.now c.add.result c.in-Ok.field-0 c.in-Ok.is c.add.ensures.twice c.add.ensures.many c.loop-name.invariant.few);
    }

pub returns-in-Err-Twice : goal.returns-in-Err-Twice
returns-in-Err-Twice c =
    let next : IsNext c.args.text.now c.loop-name.declared c.unwrap-name.result.now (tokens_of c.in-Some.after.now) =
    next_read c.args.text.now c.loop-name.declared c.in-Some.name c.loop-name.rest.now c.in-Some.after.now c.from_utf8.result c.unwrap-name.result _
    c.loop-name.invariant.so_far c.in-Some.ensures.split c.unwrap-name.ensures c.from_utf8.ensures.cases in
    record { names = declared_twice c.args.line (tokens_of c.args.text.now) (next_is_twice _ _ _ _ next (c.in-Err-Twice.ensures.twice.0 (ap Err c.in-Err-Twice.field-0-is))) }

pub returns : goal.returns
returns c =
    record {
      names =
          declared_all c.args.line c.args.text.now c.loop-name.declared c.loop-name.rest.now (sym c.has_name_twice.ensures ∙ c.if-has_name_twice.false)
          c.loop-name.invariant.so_far c.in_default.ensures.split c.loop-name.invariant.few;
    }
