-- Each entry of a legal journal may come behind those before it.
use Rattle.std.proofs.Common.{◌≡◌, ℕ, ◌+◌, ◌≤◌, List, [], ◌∷◌, ◌++◌, length, sym, refl, subst, length-append, arith}
use Rattle.edit_journal.specs.declared.edit.Edit.{Edit}
use Rattle.edit_journal.specs.declared.edit.Edit.TheVariants as edit
use Rattle.edit_journal.specs.declared.edit.Entry.{Entry}
use Rattle.edit_journal.specs.declared.opening.Opening.{Opening}
use Rattle.edit_journal.specs.Documents.{Document, after, document_of, opened_from}
use Rattle.script_reader.specs.declared.command.Command.{Command}
use Rattle.edit_book.specs.declared.reply.Reply.{Reply}
use Rattle.edit_book.specs.Books.{BookFits}
use Rattle.edit_book.specs.Memory.{first_memory}
use Rattle.edit_book.specs.Outlines.{MayCome}
use Rattle.edit_book.proofs.Puts.{doc_snoc}
use Rattle.turn_book.specs.Journal.{Each}
use Rattle.turn_book.specs.Legal.{EachEntry}
use Rattle.turn_book.proofs.AcceptedEntries.{entries_hold}
use Rattle.edit_sessions.specs.Core.{document_core}
use Rattle.edit_sessions.specs.Laws.{ComesAsked, IsAskedIn, IsLegal, KeepsLimits}
use Rattle.edit_sessions.proofs.AskedEdits.{answer_may}
use Rattle.edit_sessions.proofs.AskedEntries.{all_asked}
use Rattle.edit_sessions.proofs.CoreLaws.{is_core}

opened_count : (id : ℕ) (texts : List (List (List ℕ))) → length (opened_from id texts) ≡ length texts
opened_count id [] = refl
opened_count id (text ∷ texts) = omega (arith, opened_count (id + 1) texts)

-- an opening is within its limits
opening_fits : (o : Opening) → KeepsLimits o → BookFits (document_of o []) []
opening_fits o limits = record {
  entries_fit = omega arith;
  blocks_fit = omega (arith, opened_count 0 o.texts, limits.blocks);
  lines_fit = limits.lines;
  ids_fit = omega (arith, limits.blocks);
}

-- an edit draws one id at most
few_drawn : (d : Document) (i : ℕ) (e : Edit) → (after d i e).drawn ≤ d.drawn + 1
few_drawn d i (edit.Put block seen text) = omega arith
few_drawn d i (edit.Add anchor block text) = omega arith
few_drawn d i (edit.Cut block seen) = omega arith
few_drawn d i (edit.Head seen names) = omega arith

-- so is the document after an edit that may come
fits_behind : (o : Opening) (es : List Entry) (e : Entry) → BookFits (document_of o es) es → MayCome o es e.edit → BookFits (document_of o (es ++ e ∷ [])) (es ++ e ∷ [])
fits_behind o es e fits comes =
    let long : length (es ++ e ∷ []) ≡ length es + 1 = length-append es (e ∷ []) in
    subst (λ (d : Document). BookFits d (es ++ e ∷ [])) (sym (doc_snoc o es e)) (record {
      entries_fit = omega (arith, long, comes.room);
      blocks_fit = comes.blocks;
      lines_fit = comes.lines;
      ids_fit = omega (arith, long, fits.ids_fit, few_drawn (document_of o es) (length es + 1) e.edit);
    })

-- an entry may come where the document before it is within its limits
abbrev MayComeWithin : Opening → List Entry → Entry → Type 0
MayComeWithin o before e = BookFits (document_of o before) before → MayCome o before e.edit

all_come : (o : Opening) (scripts : List (List Command)) (before rest : List Entry) → BookFits (document_of o before) before → EachEntry (MayComeWithin o) before rest → Each (IsAskedIn scripts) rest → EachEntry (ComesAsked o scripts) before rest
all_come o scripts before [] fits each asked = tt
all_come o scripts before (e ∷ rest) fits each asked =
    let comes = each.0 fits in (record { comes = comes; asked = asked.0 }, all_come o scripts (before ++ e ∷ []) rest (fits_behind o before e fits comes) each.1 asked.1)

pub entries_come : (o : Opening) (scripts : List (List Command)) (journal : List Entry) (replies : List (List Reply)) → IsLegal o scripts journal replies → KeepsLimits o → EachEntry (ComesAsked o scripts) [] journal
entries_come o scripts journal replies legal limits =
    all_come o scripts [] journal (opening_fits o limits)
    (entries_hold (document_core o) (is_core o) (MayComeWithin o) (λ n before m c r e answers some. answer_may o n before m c r e answers some) (first_memory o) scripts journal replies legal)
    (all_asked o scripts journal replies legal)
