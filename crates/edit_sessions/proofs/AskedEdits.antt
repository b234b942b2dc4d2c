-- The entry of an accepted answer: it may come next, and its edit is what the command asks for.
use Rattle.std.proofs.Common.{◌≡◌, ℕ, ◌≤◌, Bool, true, false, cond, List, length, Option, Some, None, Result, Ok, Err, IfSome, option_and_then, option_map, nat_le, sym, ap, ◌∙◌, refl, subst}
use Rattle.std.specs.Option.{option_map_or}
use Rattle.std.proofs.lemmas.Bool.{leb-true}
use Rattle.edit_journal.specs.declared.edit.Anchor.{Anchor}
use Rattle.edit_journal.specs.declared.edit.Anchor.TheVariants as anchor
use Rattle.edit_journal.specs.declared.edit.BlockName.{BlockName}
use Rattle.edit_journal.specs.declared.edit.Edit.{Edit}
use Rattle.edit_journal.specs.declared.edit.Edit.TheVariants as edit
use Rattle.edit_journal.specs.declared.edit.Entry.{Entry}
use Rattle.edit_journal.specs.declared.opening.Opening.{Opening}
use Rattle.edit_journal.specs.Documents.{document_of}
use Rattle.edit_journal.specs.Entries.{head_id}
use Rattle.script_reader.specs.declared.command.Command.{Command}
use Rattle.script_reader.specs.declared.command.Command.TheVariants as command
use Rattle.script_reader.specs.declared.command.Place.{Place}
use Rattle.script_reader.specs.declared.command.Place.TheVariants as place
use Rattle.edit_book.specs.declared.reply.Reply.{Reply}
use Rattle.edit_book.specs.declared.reply.Reply.TheVariants.{BlockLong, Unseen}
use Rattle.edit_book.specs.Books.{BookFits}
use Rattle.edit_book.specs.Memory.{Memory, Answers, IsRequestAnswered, asked_of_book, asked_entry, known_header_stamp, block_id_of_name, unless_long}
use Rattle.edit_book.specs.Outlines.{HasShortText, MayCome}
use Rattle.edit_book.specs.Replies.{Request, Look, Put, Add, Cut, LoopAt, VerdictNow, LookHead, Texts, PutHead, IsAccepted, IsDue, IsGranted, accepted_block, edit_of, entry_of, refusal_of}
use Rattle.edit_book.proofs.Comings.{add_may, cut_may, head_may, put_may}
use Rattle.edit_book.proofs.Refusals.{Refuses, refusal_may_come}
use Rattle.edit_sessions.specs.Laws.{AsksFor}

abbrev made : ℕ → Edit → Entry
made n e = record { session = n; edit = e }

-- the entry of an accepted reply has the edit that the request asks for
same_edit : (n : ℕ) (request : Request) (r : Reply) (block : ℕ) (f : Edit) (e : Entry) → accepted_block r ≡ Some block → edit_of request block ≡ Some f → entry_of n request r ≡ Some e → f ≡ e.edit
same_edit n request r block f e accepted asks some =
    let whole : Some (made n f) ≡ Some e = ap (option_map (made n)) (sym asks) ∙ (ap (λ (o : Option ℕ). option_map (made n) (option_and_then (edit_of request) o)) (sym accepted) ∙ some) in
    let same : made n f ≡ e = cc in
    ap (λ (x : Entry). x.edit) same

-- a request that asks for no edit leaves no entry
no_entry : (n : ℕ) (request : Request) (r : Reply) (o : Option ℕ) (e : Entry) → accepted_block r ≡ o → option_and_then (edit_of request) o ≡ None → entry_of n request r ≡ Some e → ⊥
no_entry n request r o e is none some =
    let nothing : None ≡ Some e = ap (option_map (made n)) (sym none) ∙ (ap (λ (x : Option ℕ). option_map (made n) (option_and_then (edit_of request) x)) (sym is) ∙ some) in
    cc

module _ (o : Opening) (es : List Entry) (fits : BookFits (document_of o es) es) (n : ℕ) (r : Reply) (e : Entry) where
  accepted_may : (request : Request) (block : ℕ) (f : Edit) → edit_of request block ≡ Some f → MayCome o es f → IsAccepted o (document_of o es) (length es) block f r → entry_of n request r ≡ Some e → MayCome o es e.edit
  accepted_may request block f asks may g some = subst (MayCome o es) (same_edit n request r block f e (ap accepted_block g.1) asks some) may

  granted_may : (request : Request) → refusal_of (document_of o es) es request ≡ None → IsGranted o (document_of o es) (length es) request r → entry_of n request r ≡ Some e → MayCome o es e.edit
  granted_may (Put id seen head text) free g some = accepted_may (Put id seen head text) id (edit.Put id seen text) refl (put_may o es fits id seen head text free) g some
  granted_may (Add place head text) free g some =
      accepted_may (Add place head text) (document_of o es).drawn (edit.Add place (document_of o es).drawn text) refl (add_may o es fits place head text free) g some
  granted_may (Cut id seen) free g some = accepted_may (Cut id seen) id (edit.Cut id seen) refl (cut_may o es fits id seen free) g some
  granted_may (PutHead seen names) free g some = accepted_may (PutHead seen names) head_id (edit.Head seen names) refl (head_may o es fits seen names free) g some
  granted_may (Look id) free g some = absurd (no_entry n (Look id) r None e (ap accepted_block g.2) refl some)
  granted_may (LoopAt line) free g some = absurd (no_entry n (LoopAt line) r None e (ap accepted_block g.1) refl some)
  granted_may VerdictNow free g some = absurd (no_entry n VerdictNow r None e (ap accepted_block g.1) refl some)
  granted_may LookHead free g some = absurd (no_entry n LookHead r None e (ap accepted_block g.0) refl some)
  granted_may Texts free g some = absurd (no_entry n Texts r None e (ap accepted_block g) refl some)

  due_may : (request : Request) (x : Option Reply) → refusal_of (document_of o es) es request ≡ x → IfSome x (Refuses (length es)) → IsDue x (IsGranted o (document_of o es) (length es) request r) r → entry_of n request r ≡ Some e → MayCome o es e.edit
  due_may request None free none due some = granted_may request free due some
  due_may request (Some refusal) is refuses due some = absurd (no_entry n request r None e (ap accepted_block due ∙ refuses.2) refl some)

  answered_may : (a : Result Request Reply) → IsRequestAnswered o es a r → asked_entry n a r ≡ Some e → MayCome o es e.edit
  answered_may (Ok request) due some = due_may request (refusal_of (document_of o es) es request) refl (refusal_may_come (document_of o es) es request).fact due some
  answered_may (Err refusal) due some = absurd (cc)

-- the entry of an answer may come behind a document within its limits
pub answer_may : (o : Opening) (n : ℕ) (es : List Entry) (m : Memory) (c : Command) (r : Reply) (e : Entry) → Answers o es m c r → asked_entry n (asked_of_book m c) r ≡ Some e → BookFits (document_of o es) es → MayCome o es e.edit
answer_may o n es m c r e answers some fits = answered_may o es fits n r e (asked_of_book m c) answers some

-- what the edit has to do with the command
pub record IsWanted (c : Command) (e : Edit) : Type 0 where
  pub asks : AsksFor c e
  pub short : HasShortText e

module _ (n : ℕ) (c : Command) (r : Reply) (e : Entry) where
  abbrev Wants : Result Request Reply → Type 0
  Wants a = asked_entry n a r ≡ Some e → IsWanted c e.edit

  wants_option : (o : Option ℕ) (name : BlockName) (ask : ℕ → Result Request Reply) → ((id : ℕ) → Wants (ask id)) → Wants (option_map_or ask o (Err (Unseen name)))
  wants_option None name ask f some = absurd (cc)
  wants_option (Some id) name ask f some = f id some

  wants_short : (text : List (List ℕ)) (request : Request) → (length text ≤ 4096 → Wants (Ok request)) → Wants (unless_long text request)
  wants_short text request f = go (nat_le (length text) 4096) refl
    where
      go : (t : Bool) → nat_le (length text) 4096 ≡ t → Wants (cond t (Ok request) (Err (BlockLong (length text))))
      go true is some = f (leb-true (length text) 4096 is) some
      go false is some = absurd (cc)

  wants_edit : (request : Request) → ((block : ℕ) (f : Edit) → edit_of request block ≡ Some f → IsWanted c f) → Wants (Ok request)
  wants_edit request f some = go (accepted_block r) refl
    where
      of_block : (block : ℕ) → accepted_block r ≡ Some block → (x : Option Edit) → edit_of request block ≡ x → IsWanted c e.edit
      of_block block accepted None none = absurd (no_entry n request r (Some block) e accepted none some)
      of_block block accepted (Some g) is = subst (IsWanted c) (same_edit n request r block g e accepted is some) (f block g is)

      go : (x : Option ℕ) → accepted_block r ≡ x → IsWanted c e.edit
      go None is = absurd (no_entry n request r None e is refl some)
      go (Some block) is = of_block block is (edit_of request block) refl

some_edit : (a b : Edit) → Some a ≡ Some b → a ≡ b
some_edit a b is = cc

module _ (n : ℕ) (m : Memory) (r : Reply) (e : Entry) where
  put_wanted : (name : BlockName) (text : List (List ℕ)) (id seen : ℕ) → Wants n (command.Put name text) r e (unless_long text (Put id seen (known_header_stamp m) text))
  put_wanted name text id seen =
      wants_short n (command.Put name text) r e text (Put id seen (known_header_stamp m) text)
      (λ few. wants_edit n (command.Put name text) r e (Put id seen (known_header_stamp m) text)
      (λ block f is. subst (IsWanted (command.Put name text)) (some_edit (edit.Put id seen text) f is) (record { asks = refl; short = few })))

  add_wanted : (at : Place) (where_to : Anchor) (text : List (List ℕ)) → Wants n (command.Add at text) r e (unless_long text (Add where_to (known_header_stamp m) text))
  add_wanted at where_to text =
      wants_short n (command.Add at text) r e text (Add where_to (known_header_stamp m) text)
      (λ few. wants_edit n (command.Add at text) r e (Add where_to (known_header_stamp m) text)
      (λ block f is. subst (IsWanted (command.Add at text)) (some_edit (edit.Add where_to block text) f is) (record { asks = refl; short = few })))

  cut_wanted : (name : BlockName) (id seen : ℕ) → Wants n (command.Cut name) r e (Ok (Cut id seen))
  cut_wanted name id seen =
      wants_edit n (command.Cut name) r e (Cut id seen) (λ block f is. subst (IsWanted (command.Cut name)) (some_edit (edit.Cut id seen) f is) (record { asks = tt; short = tt }))

  nothing_wanted : (c : Command) (request : Request) → ((block : ℕ) → edit_of request block ≡ None) → Wants n c r e (Ok request)
  nothing_wanted c request none = wants_edit n c r e request (λ block f is. let some : None ≡ Some f = sym (none block) ∙ is in absurd (cc))

  -- the edit of an answer's entry is what the command asks for
  pub answer_wanted : (c : Command) → asked_entry n (asked_of_book m c) r ≡ Some e → IsWanted c e.edit
  answer_wanted (command.Put name text) some =
      wants_option n (command.Put name text) r e (block_id_of_name m name) name (λ id. option_map_or (λ seen. unless_long text (Put id seen (known_header_stamp m) text)) (m.stamps id) (Err (Unseen name)))
      (λ id. wants_option n (command.Put name text) r e (m.stamps id) name (λ seen. unless_long text (Put id seen (known_header_stamp m) text)) (put_wanted name text id)) some
  answer_wanted (command.Add place.Start text) some = add_wanted place.Start anchor.Start text some
  answer_wanted (command.Add (place.After name) text) some =
      wants_option n (command.Add (place.After name) text) r e (block_id_of_name m name) name (λ id. unless_long text (Add (anchor.After id) (known_header_stamp m) text)) (λ id. add_wanted (place.After name) (anchor.After id) text) some
  answer_wanted (command.Cut name) some =
      wants_option n (command.Cut name) r e (block_id_of_name m name) name (λ id. option_map_or (λ seen. Ok (Cut id seen)) (m.stamps id) (Err (Unseen name)))
      (λ id. wants_option n (command.Cut name) r e (m.stamps id) name (λ seen. Ok (Cut id seen)) (cut_wanted name id)) some
  answer_wanted (command.PutHead names) some =
      wants_edit n (command.PutHead names) r e (PutHead (known_header_stamp m) names)
      (λ block f is. subst (IsWanted (command.PutHead names)) (some_edit (edit.Head (known_header_stamp m) names) f is) (record { asks = refl; short = tt })) some
  answer_wanted (command.Look name) some =
      wants_option n (command.Look name) r e (block_id_of_name m name) name (λ id. Ok (Look id)) (λ id. nothing_wanted (command.Look name) (Look id) (λ block. refl)) some
  answer_wanted (command.LoopAt line) some = nothing_wanted (command.LoopAt line) (LoopAt line) (λ block. refl) some
  answer_wanted command.Verdict some = nothing_wanted command.Verdict VerdictNow (λ block. refl) some
  answer_wanted command.LookHead some = nothing_wanted command.LookHead LookHead (λ block. refl) some
