use Rattle.std.proofs.Common.{rules, ◌≢◌, ◌<◌, ◌∙◌, [], ◌∷◌, ◌++◌, length, ap, sym, subst, arith, length-append}
use Rattle.std.proofs.lemmas.Bool.{eqb-false}
use Rattle.talk_loop.specs.Conversed.{IsLineAnswered, IsLast}
use Rattle.talk_loop.proofs.Last.{last-by, no-last, none-kept, on-ok}
use Rattle.talk_loop.proofs.conversation.append_last.Goals as goal

pub returns-then-is_empty : goal.returns-then-is_empty
returns-then-is_empty g c = let asking = g.D.Desk.asking (g.D.Desk.opening c.args.desk.now) in let ends = g.D.Desk.ends (g.D.Desk.opening c.args.desk.now) in record {
  last = on-ok c.end.result (λ f lines as_ rest stands counted given kept.
      let e = f lines as_ stands counted in
      let none = none-kept rest c.args.line.now kept (search rules) in
      ([], subst (λ l. IsLast asking ends lines as_ l c.end.new.out.items []) (sym none) (no-last asking ends lines as_ c.end.new.out.items e.0 given e.2 (e.1 ∙ ap (λ l. l ++ e.0) c.requires.empty)))) c.end.ensures.last;
}

pub returns : goal.returns
returns g c = let asking = g.D.Desk.asking (g.D.Desk.opening c.args.desk.now) in let ends = g.D.Desk.ends (g.D.Desk.opening c.args.desk.now) in let differ : length c.args.line.now ≢ 0 = eqb-false _ _ (sym c.is_empty.ensures ∙ c.if-is_empty.false) in let some : 0 < length c.args.line.now = omega (arith, differ) in record {
  last = on-ok c.end-2.result (λ f lines as_ rest stands counted given kept.
      let a = c.in_ok-hear.ensures.answered lines as_ rest stands counted kept in
      let same = c.hear.ensures.same in
      let first = ap (λ o. (g.D.Desk.asking o).first) same in
      let e = f (lines ++ rest ∷ []) (as_ ++ a.0) a.1 (omega (arith, counted, first, length-append lines (rest ∷ []))) in (
        a.0,
        last-by asking ends lines as_ a.0 rest c.args.line.now c.hear.new.out.items c.end-2.new.out.items e.0 some kept given
            (subst (λ l. IsLineAnswered asking lines as_ rest l c.hear.new.out.items a.0) c.requires.empty a.2)
            (subst (λ o. g.D.Desk.ends o (lines ++ rest ∷ []) (as_ ++ a.0) e.0) same e.2) e.1,
      )) c.end-2.ensures.last;
}

pub end-requires-2-clause-begun : goal.end-requires-2-clause-begun
end-requires-2-clause-begun g c =
    let b = c.requires.begun in
    let k = c.requires.kept in
    let a = c.in_ok-hear.ensures.answered b.0 b.1 k.0 b.2 b.3 k.1 in
    let first = ap (λ o. (g.D.Desk.asking o).first) c.hear.ensures.same in
    let counted = b.3 in
    (b.0 ++ k.0 ∷ [], b.1 ++ a.0, a.1, omega (arith, counted, first, length-append b.0 (k.0 ∷ [])))
