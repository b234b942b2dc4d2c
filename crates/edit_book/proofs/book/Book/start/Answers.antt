use Rattle.std.proofs.Common.{ℕ, List, length, flat_map, All, ◌≤◌, ap, sym, subst, ◌∙◌, arith}
use Rattle.std.proofs.lemmas.List.{length-map}
use Rattle.block_summary.specs.declared.prepared.Prepared.{Prepared}
use Rattle.edit_book.proofs.Openings.{lines_of_texts, opened_made, opened_work, prepared_short}
use Rattle.edit_book.proofs.book.Book.start.Goals as goal

pub start-requires-clause-few : goal.start-requires-clause-few
start-requires-clause-few g c = omega (arith, ap length c.in_ok-texts.ensures.texts, length-map c.args.blocks.items (λ (b : Prepared). b.text), c.requires.few)

pub start-requires-clause-lines : goal.start-requires-clause-lines
start-requires-clause-lines g c =
    let same = ap (λ (l : List (List (List ℕ))). length (flat_map (λ (text : List (List ℕ)). text) l)) c.in_ok-texts.ensures.texts ∙ ap length (lines_of_texts c.args.blocks.items) in omega (arith, same, c.requires.lines)

pub start-requires-clause-short : goal.start-requires-clause-short
start-requires-clause-short g c = subst (All (λ (text : List (List ℕ)). length text ≤ 4096)) (sym c.in_ok-texts.ensures.texts) (prepared_short c.args.setting c.args.blocks.items c.requires.prepared)

pub of_leaves-requires : goal.of_leaves-requires
of_leaves-requires g c =
    opened_made c.in_ok-outline.outline c.args.setting c.args.blocks.items c.in_ok-texts.field-0 c.requires.prepared c.in_ok-texts.ensures c.in_ok-outline.ensures.setting c.in_ok-outline.ensures.texts c.in_ok-outline.ensures.entries

pub returns-clause-steps : goal.returns-clause-steps
returns-clause-steps g c =
    opened_work c.in_ok-outline.outline c.args.setting c.args.blocks.items c.in_ok-texts.field-0 c.args.steps.now c.of_leaves.new.steps c.in_ok-texts.ensures c.in_ok-outline.ensures.setting c.in_ok-outline.ensures.texts
    c.in_ok-outline.ensures.entries c.of_leaves.ensures.steps
