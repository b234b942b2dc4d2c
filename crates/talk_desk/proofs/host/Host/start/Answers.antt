use Rattle.std.proofs.Common.{◌≡◌, ◌∙◌, List, ap, subst, sym}
use Rattle.edit_journal.specs.declared.edit.Entry.{Entry}
use Rattle.edit_journal.specs.declared.opening.Opening.{Opening}
use Rattle.edit_groups.specs.Chunks.{earlier_steps, entries_of_chunks}
use Rattle.edit_groups.specs.declared.chunk.Chunk.{Chunk}
use Rattle.edit_groups.proofs.Undoable.{entries_earlier}
use Rattle.talk_desk.specs.Hosts.{AreFresh, known_in, opening_in}
use Rattle.talk_desk.proofs.Fresh.{fresh-talkers}
use Rattle.talk_desk.proofs.host.Host.start.Goals as goal

pub returns-clause-at : goal.returns-clause-at
returns-clause-at g c =
    let opening : c.book-2.result.now.opening ≡ opening_in c.args.document = c.book-2.ensures.opening ∙ ap (λ b. b.opening) c.book.ensures ∙ c.lend-held.ensures.book.0 in
    let known : c.lend-held.result.book.chunks ≡ known_in c.args.document = c.lend-held.ensures.book.1 in
    let was = c.requires.earlier in
    let entries : c.book-2.result.now.entries ≡ was.0 = c.book-2.ensures.entries ∙ ap (λ b. entries_of_chunks b.chunks) c.book.ensures ∙ ap entries_of_chunks (known ∙ was.1) ∙ entries_earlier was.0 in
    let steps : earlier_steps c.book-2.result.now.entries ≡ known_in c.args.document = ap earlier_steps entries ∙ sym was.1 in
    record {
      document = c.take_back.ensures.document;
      began = c.take_back.ensures.opening ∙ c.lend-held.ensures.opening;
      known = c.take_back.ensures.known ∙ known;
      count = c.in_ok-talkers.ensures.all;
      talkers = fresh-talkers c.args.document.style.json c.args.document.style.head (opening_in c.args.document) (known_in c.args.document) c.in_ok-talkers.talkers.items
          (subst (λ (p : Opening × List Chunk). AreFresh p.0 p.1 0 c.in_ok-talkers.talkers.items) (λ i. (opening i, steps i)) c.in_ok-talkers.ensures.fresh);
    }

pub returns-clause-known : goal.returns-clause-known
returns-clause-known g c = c.take_back.ensures.known ∙ c.lend-held.ensures.book.1
