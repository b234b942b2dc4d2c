-- What a book refuses with: a reply that carries its version, and tells no stamp.
use Rattle.std.proofs.Common.{◌≡◌, ℕ, ◌+◌, Bool, true, false, List, Option, Some, None, IfSome, option_and_then, length, refl, nat_lt, nat_le, ◌==◌, cond}
use Rattle.std.specs.Option.{option_map_or}
use Rattle.edit_journal.specs.declared.edit.Anchor.{Anchor}
use Rattle.edit_journal.specs.declared.edit.Anchor.TheVariants.{Start, After}
use Rattle.edit_journal.specs.declared.edit.Edit.{Edit}
use Rattle.edit_journal.specs.declared.edit.Edit.TheVariants as edit
use Rattle.edit_journal.specs.declared.edit.Entry.{Entry}
use Rattle.edit_journal.specs.Documents.{Block, Document, block_of, after, body}
use Rattle.edit_book.specs.declared.reply.Which.{Which}
use Rattle.edit_book.specs.declared.reply.Which.TheVariants.{Entries, Blocks, Lines}
use Rattle.edit_book.specs.declared.reply.Reply.{Reply}
use Rattle.edit_book.specs.declared.reply.Reply.TheVariants.{Stale, Gone}
use Rattle.edit_book.specs.Memory.{version_of, base_of}
use Rattle.edit_book.specs.Replies.{Request, Look, Put, Add, Cut, LoopAt, VerdictNow, LookHead, Texts, PutHead, refusal_or_else, refused_name, refused_anchor, refused_stamp, refused_head, refused_over, refused_entries, refused_blocks, refused_lines, refusal_of, cut_number, accepted_block}
use Rattle.edit_book.specs.Session.{Teaches}

-- a refusal that carries this version, and tells no stamp
abbrev pub Refuses : ℕ → Reply → Type 0
Refuses v reply = (version_of reply ≡ Some v) × (base_of reply ≡ Some v) × (accepted_block reply ≡ None) × (Teaches reply → ⊥)

pub record MayRefuse (v : ℕ) (o : Option Reply) : Type 0 where
  pub fact : IfSome o (Refuses v)

refuses_or : {v : ℕ} {a b : Option Reply} → MayRefuse v a → MayRefuse v b → MayRefuse v (refusal_or_else a b)
refuses_or {a = None} p q = q
refuses_or {a = Some a} p q = p

refuses_if : (v : ℕ) (test : Bool) (a b : Option Reply) → IfSome a (Refuses v) → IfSome b (Refuses v) → IfSome (cond test a b) (Refuses v)
refuses_if v true a b p q = p
refuses_if v false a b p q = q

refuses_name : (d : Document) (journal : List Entry) (id : ℕ) → MayRefuse (length journal) (refused_name d journal id)
refuses_name d journal id = record { fact = refuses_if _ (nat_lt id d.drawn) _ _ (here (block_of d.blocks id)) (refl, refl, refl, λ t. t) }
  where
    here : (o : Option Block) → IfSome (option_map_or (λ b. None) o (Some (Gone (length journal) id (cut_number journal id)))) (Refuses (length journal))
    here None = (refl, refl, refl, λ t. t)
    here (Some b) = tt

refuses_stamp : (d : Document) (journal : List Entry) (id seen : ℕ) → MayRefuse (length journal) (refused_stamp d journal id seen)
refuses_stamp d journal id seen = record { fact = here (block_of d.blocks id) }
  where
    here : (o : Option Block) → IfSome (option_and_then (λ b. cond (b.stamp == seen) None (Some (Stale (length journal) id seen b.stamp))) o) (Refuses (length journal))
    here None = tt
    here (Some b) = refuses_if _ (b.stamp == seen) None _ tt (refl, refl, refl, λ t. t)

refuses_head : (d : Document) (journal : List Entry) (seen : ℕ) → MayRefuse (length journal) (refused_head d journal seen)
refuses_head d journal seen = record { fact = refuses_if _ (d.header.stamp == seen) None _ tt (refl, refl, refl, λ t. t) }

refuses_over : (v : ℕ) (what : Which) (limit count : ℕ) → MayRefuse v (refused_over v what limit count)
refuses_over v what limit count = record { fact = refuses_if v (nat_le count limit) None _ tt (refl, refl, refl, λ t. t) }

refuses_entries : (journal : List Entry) → MayRefuse (length journal) (refused_entries journal)
refuses_entries journal = refuses_over (length journal) Entries 1048576 (length journal + 1)

refuses_blocks : (d : Document) (journal : List Entry) → MayRefuse (length journal) (refused_blocks d journal)
refuses_blocks d journal = refuses_over (length journal) Blocks 65536 (length d.blocks + 1)

refuses_lines : (d : Document) (journal : List Entry) (e : Edit) → MayRefuse (length journal) (refused_lines d journal e)
refuses_lines d journal e = refuses_over (length journal) Lines 1048576 (length (body (after d (length journal + 1) e)))

refuses_anchor : (d : Document) (journal : List Entry) (anchor : Anchor) → MayRefuse (length journal) (refused_anchor d journal anchor)
refuses_anchor d journal Start = record { fact = tt }
refuses_anchor d journal (After id) = refuses_name d journal id

pub refusal_may_come : (d : Document) (journal : List Entry) (request : Request) → MayRefuse (length journal) (refusal_of d journal request)
refusal_may_come d journal (Look id) = refuses_name d journal id
refusal_may_come d journal (Put id seen head text) =
    refuses_or (refuses_name d journal id) (refuses_or (refuses_stamp d journal id seen) (refuses_or (refuses_head d journal head)
    (refuses_or (refuses_entries journal) (refuses_lines d journal (edit.Put id seen text)))))
refusal_may_come d journal (Add anchor head text) =
    refuses_or (refuses_anchor d journal anchor) (refuses_or (refuses_head d journal head)
    (refuses_or (refuses_entries journal) (refuses_or (refuses_blocks d journal) (refuses_lines d journal (edit.Add anchor d.drawn text)))))
refusal_may_come d journal (Cut id seen) = refuses_or (refuses_name d journal id) (refuses_or (refuses_stamp d journal id seen) (refuses_entries journal))
refusal_may_come d journal (LoopAt line) = record { fact = tt }
refusal_may_come d journal VerdictNow = record { fact = tt }
refusal_may_come d journal LookHead = record { fact = tt }
refusal_may_come d journal Texts = record { fact = tt }
refusal_may_come d journal (PutHead seen names) = refuses_or (refuses_head d journal seen) (refuses_entries journal)
