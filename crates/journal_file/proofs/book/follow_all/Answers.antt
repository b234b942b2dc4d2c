use Rattle.std.proofs.Common.{◌≡◌, ◌∙◌, refl, ◌∷◌, [], ◌++◌, List, length, All, ap, sym, subst, append_assoc, append-nil, arith, rules}
use Rattle.std.proofs.lemmas.List.Elements.{All-head, All-tail}
use Rattle.std.specs.Vec.Iter.{into_iter_items, into_iter_len}
use Rattle.edit_journal.specs.declared.edit.Entry.{Entry}
use Rattle.edit_book.specs.Outlines.{MayCome}
use Rattle.std.proofs.lemmas.List.{nil_from_length}
use Rattle.journal_file.specs.SavedParts.{IsSpelledEntry, MayAllCome}
use Rattle.journal_file.proofs.Reopened.{short_given}
use Rattle.journal_file.proofs.book.follow_all.Goals as goal

pub loop-entry-init : goal.loop-entry-init
loop-entry-init c =
    let given : into_iter_items c.into_iter-entry-iterator.result ≡ c.args.entries.items = c.into_iter-entry-iterator.ensures.into_iter_gives.0 in
    let left : into_iter_len c.into_iter-entry-iterator.result ≡ length (into_iter_items c.into_iter-entry-iterator.result) = search rules in
    record {
      opening = refl;
      all = ap (λ (es : List Entry). es ++ into_iter_items c.into_iter-entry-iterator.result) c.requires.none ∙ given;
      left = left;
      come = subst (λ (es : List Entry). MayAllCome c.args.outline.now.opening es (into_iter_items c.into_iter-entry-iterator.result)) (sym c.requires.none)
          (subst (MayAllCome c.args.outline.now.opening []) (sym given) c.requires.come);
      written = subst (All IsSpelledEntry) (sym given) c.requires.written;
    }

pub follow-requires-clause-comes : goal.follow-requires-clause-comes
follow-requires-clause-comes c =
    let at = c.loop-entry in
    let rest : into_iter_items at.entry-iterator ≡ c.in-Some.entry ∷ into_iter_items c.next.new.self = c.in-Some.ensures.steps.0 in
    subst (λ o. MayCome o at.outline.entries c.in-Some.entry.edit) (sym at.invariant.opening)
    (subst (MayAllCome c.args.outline.now.opening at.outline.entries) rest at.invariant.come).0

pub follow-requires-clause-short : goal.follow-requires-clause-short
follow-requires-clause-short c =
    let at = c.loop-entry in
    let rest : into_iter_items at.entry-iterator ≡ c.in-Some.entry ∷ into_iter_items c.next.new.self = c.in-Some.ensures.steps.0 in
    short_given c.in-Some.entry.edit (All-head IsSpelledEntry c.in-Some.entry (into_iter_items c.next.new.self) (subst (All IsSpelledEntry) rest at.invariant.written)).given

pub loop-entry-preserved : goal.loop-entry-preserved
loop-entry-preserved c =
    let at = c.loop-entry in
    let e : Entry = c.in-Some.entry in
    let more : List Entry = into_iter_items c.next.new.self in
    let rest : into_iter_items at.entry-iterator ≡ e ∷ more = c.in-Some.ensures.steps.0 in
    let entered : c.follow.new.self.entries ≡ at.outline.entries ++ e ∷ [] = c.in_ok-follow.ensures.ok in
    record {
      opening = c.follow.ensures.opening ∙ at.invariant.opening;
      all = ap (λ (es : List Entry). es ++ more) entered ∙ (append_assoc at.outline.entries (e ∷ []) more ∙ (ap (λ (es : List Entry). at.outline.entries ++ es) (sym rest) ∙ at.invariant.all));
      left = let was = at.invariant.left in let gone = c.in-Some.ensures.steps.1 in let short = ap length rest in omega arith;
      come = subst (λ (es : List Entry). MayAllCome c.args.outline.now.opening es more) (sym entered) (subst (MayAllCome c.args.outline.now.opening at.outline.entries) rest at.invariant.come).1;
      written = All-tail IsSpelledEntry e more (subst (All IsSpelledEntry) rest at.invariant.written);
    }

pub returns-clause-opening : goal.returns-clause-opening
returns-clause-opening c = c.loop-entry.invariant.opening

pub returns-clause-entries : goal.returns-clause-entries
returns-clause-entries c =
    let at = c.loop-entry in
    let empty : into_iter_items at.entry-iterator ≡ [] = nil_from_length (into_iter_items at.entry-iterator) (sym at.invariant.left ∙ c.in-None.ensures.steps.0) in
    sym (append-nil at.outline.entries) ∙ (ap (λ (es : List Entry). at.outline.entries ++ es) (sym empty) ∙ at.invariant.all)
