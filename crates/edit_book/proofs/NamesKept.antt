-- The names that a session keeps stay those of the entry whose number is its stamp of the header, as its replies tell that stamp.
use Rattle.std.proofs.Common.{◌≡◌, ⊎_elim, ℕ, ◌+◌, ◌<◌, Bool, true, false, cond, ltb, ne_eqb, List, [], ◌∷◌, ◌++◌, length, Option, Some, None, IfSome, unwrap_or, sym, ap, ◌∙◌, refl, subst, arith}
use Rattle.std.specs.Option.{option_map_or}
use Rattle.std.proofs.lemmas.Bool.{ltb-true}
use Rattle.carriage_model.specs.declared.verdict.Brief.{Brief}
use Rattle.edit_journal.specs.declared.edit.Edit.TheVariants as edit
use Rattle.edit_journal.specs.declared.edit.Entry.{Entry}
use Rattle.edit_journal.specs.declared.opening.Opening.{Opening}
use Rattle.edit_journal.specs.Documents.{Document, block_of, document_of, names_given}
use Rattle.edit_journal.specs.Entries.{head_id}
use Rattle.edit_journal.proofs.Known.{all_known, names_longer, names_newest}
use Rattle.script_reader.specs.declared.command.Command.{Command}
use Rattle.script_reader.specs.declared.command.Command.TheVariants as command
use Rattle.edit_book.specs.declared.reply.Again.{Again}
use Rattle.edit_book.specs.declared.reply.BookCommand.{BookCommand}
use Rattle.edit_book.specs.declared.reply.BookCommand.TheVariants as ask
use Rattle.edit_book.specs.declared.reply.Reply.{Reply}
use Rattle.edit_book.specs.declared.reply.Reply.TheVariants as reply
use Rattle.edit_book.specs.Replies.{Request, Look, Put, Add, Cut, LoopAt, VerdictNow, LookHead, Texts, PutHead, refusal_or_else, cut_number, refused_name, refusal_of, IsDue, IsGranted, IsReply, entry_of, request_of_command, accepted_block}
use Rattle.edit_book.specs.Turns.{IsRightReply}
use Rattle.turn_book.specs.Journal.{entry_list}
use Rattle.edit_book.specs.Asking.{AsksBlocks, CommandAsks, IsOfBlocks, ShowsNames, TellsNoHeader}
use Rattle.edit_book.specs.Memory.{first_memory, head_told, opening_stamp, stamp_told_by}
use Rattle.edit_book.specs.Session.{HasNames, Remembers, Teaches}
use Rattle.edit_book.specs.declared.sessions.session.Session.{Session}
use Rattle.edit_book.proofs.Refusals.{Refuses, refusal_may_come}

below_head : (block : ℕ) → block < head_id → block ≡ head_id → ⊥
below_head block below e = omega (arith, e)

-- the stamp of the header stays where none is told
no_head : (block stamp head : ℕ) → (block ≡ head_id → ⊥) → head_told (Some (block, stamp)) head ≡ head
no_head block stamp head ne = ap (λ (t : Bool). cond t stamp head) (ne_eqb block head_id ne)

pub head_kept : (c : Command) (r : Reply) (head : ℕ) → TellsNoHeader r → head_told (stamp_told_by c r) head ≡ head
head_kept c (reply.Shown version block stamp first text) head ne = no_head block stamp head ne
head_kept (command.Put name text) (reply.Accepted version block brief) head ne = no_head block version head ne
head_kept (command.Add place text) (reply.Accepted version block brief) head ne = no_head block version head ne
head_kept (command.PutHead names) (reply.Accepted version block brief) head ne = no_head block version head ne
head_kept c r head ne = refl

-- a session at its start
opening_head : (blocks : ℕ) → ◌≡◌ {A = ℕ} (unwrap_or (opening_stamp blocks head_id) 0) 0
opening_head blocks = go (ltb head_id blocks)
  where
    go : (t : Bool) → ◌≡◌ {A = ℕ} (unwrap_or (cond t (Some 0) (Some 0)) 0) 0
    go true = refl
    go false = refl

pub names_at_start : (o : Opening) (s : Session) → Remembers s (first_memory o) → o.setting.declared ≡ s.header.declared → HasNames o [] s
names_at_start o s remembers names = ap (names_given o []) (remembers.head ∙ opening_head (length o.texts)) ∙ ap Some names

-- a command that is neither of those of the header
pub of_blocks : (c : Command) → (c ≡ command.LookHead → ⊥) → ((names : List (List ℕ)) → c ≡ command.PutHead names → ⊥) → IsOfBlocks c
of_blocks command.LookHead look put = look refl
of_blocks (command.PutHead names) look put = put names refl
of_blocks c look put = tt

pub asks_blocks : (c : Command) (request : Request) → IsOfBlocks c → CommandAsks c request → AsksBlocks request
asks_blocks c (Look id) of asked = tt
asks_blocks c (Put id seen head text) of asked = tt
asks_blocks c (Add anchor head text) of asked = tt
asks_blocks c (Cut id seen) of asked = tt
asks_blocks c (LoopAt line) of asked = tt
asks_blocks c VerdictNow of asked = tt
asks_blocks c Texts of asked = tt
asks_blocks c LookHead of asked = other c of asked
  where
    other : (c : Command) → IsOfBlocks c → CommandAsks c LookHead → ⊥
    other command.LookHead of asked = of
    other c of asked = asked
asks_blocks c (PutHead seen given) of asked = other c of asked
  where
    other : (c : Command) → IsOfBlocks c → CommandAsks c (PutHead seen given) → ⊥
    other (command.PutHead names) of asked = of
    other c of asked = asked

-- what tells no stamp tells none of the header
untaught : (r : Reply) → (Teaches r → ⊥) → TellsNoHeader r
untaught (reply.Accepted version block brief) untold = absurd (untold tt)
untaught (reply.Shown version block stamp first text) untold = absurd (untold tt)
untaught r untold = tt

due_block : (v : ℕ) (refusal : Option Reply) (granted : Type 0) (r : Reply) → IfSome refusal (Refuses v) → (refusal ≡ None → granted → TellsNoHeader r) → IsDue refusal granted r → TellsNoHeader r
due_block v None granted r refuses grants due = grants refl due
due_block v (Some x) granted r refuses grants due = subst TellsNoHeader (sym due) (untaught x refuses.3)

-- an accepted reply isn't refused
granted_of : (v : ℕ) (refusal : Option Reply) (granted : Type 0) (r : Reply) (block : ℕ) → IfSome refusal (Refuses v) → accepted_block r ≡ Some block → IsDue refusal granted r → granted
granted_of v None granted r block refuses some due = due
granted_of v (Some x) granted r block refuses some due = let none : Some block ≡ None = sym some ∙ (ap accepted_block due ∙ refuses.2) in absurd (cc)

-- the id of a block that isn't refused was drawn
pub name_drawn : (d : Document) (journal : List Entry) (id : ℕ) → refused_name d journal id ≡ None → id < d.drawn
name_drawn d journal id none = go (ltb id d.drawn) refl none
  where
    go : (t : Bool) → ltb id d.drawn ≡ t → cond t (option_map_or (λ b. None) (block_of d.blocks id) (Some (reply.Gone (length journal) id (cut_number journal id)))) (Some (reply.NoBlock (length journal) id d.drawn)) ≡ None → id < d.drawn
    go true is none = ltb-true id d.drawn is
    go false is none = absurd (cc)

pub first_none : {A : Type 0} (a b : Option A) → refusal_or_else a b ≡ None → a ≡ None
first_none None b is = refl
first_none (Some x) b is = absurd (cc)

-- no reply to what is asked of blocks tells a stamp of the header
tells_block : (o : Opening) (journal : List Entry) (request : Request) (r : Reply) → AsksBlocks request → (document_of o journal).drawn < head_id → IsReply o journal request r → TellsNoHeader r
tells_block o journal request r asks below due = due_block (length journal) (refusal_of d journal request) (IsGranted o d (length journal) request r) r (refusal_may_come d journal request).fact (grants request asks) due
  where
    d : Document
    d = document_of o journal

    named : (id : ℕ) → refused_name d journal id ≡ None → id ≡ head_id → ⊥
    named id none = below_head id (let drawn = name_drawn d journal id none in omega arith)

    grants : (request : Request) → AsksBlocks request → refusal_of d journal request ≡ None → IsGranted o d (length journal) request r → TellsNoHeader r
    grants (Look id) asks none g = subst TellsNoHeader (sym g.2) (named id none)
    grants (Put id seen head text) asks none g = subst TellsNoHeader (sym g.1) (named id (first_none _ _ none))
    grants (Add anchor head text) asks none g = subst TellsNoHeader (sym g.1) (below_head d.drawn below)
    grants (Cut id seen) asks none g = subst TellsNoHeader (sym g.1) (named id (first_none _ _ none))
    grants (LoopAt line) asks none g = subst TellsNoHeader (sym g.1) tt
    grants VerdictNow asks none g = subst TellsNoHeader (sym g.1) tt
    grants LookHead asks none g = absurd asks
    grants Texts asks none g = subst TellsNoHeader (sym g) tt
    grants (PutHead seen names) asks none g = absurd asks

-- a reply of a turn, with the journal before it and its entry, if it has one
module _ (o : Opening) (n : ℕ) (r : Reply) (before : List Entry) (added : Option Entry) where
  -- after a turn that was asked for blocks
  pub names_beside : (c : Command) (request : BookCommand) (head : ℕ) (names : List (List ℕ)) → AsksBlocks (request_of_command request) → IsRightReply o before n request r added → names_given o before head ≡ Some names
      → names_given o (before ++ entry_list added) (head_told (stamp_told_by c r) head) ≡ Some names
  names_beside c request head names asks right given = ap (names_given o (before ++ entry_list added)) (head_kept c r head tells) ∙ names_longer o before (entry_list added) head names given
    where
      tells : TellsNoHeader r
      tells = ⊎_elim (λ short. subst TellsNoHeader (sym short.0) tt) (λ due. tells_block o before (request_of_command request) r asks due.2 due.0) right

  -- after a look at the header, of the names that its line gives
  pub names_looked : (head : ℕ) (names : List (List ℕ)) → ShowsNames r names → IsRightReply o before n ask.LookHead r added → names_given o (before ++ entry_list added) (head_told (stamp_told_by command.LookHead r) head) ≡ Some names
  names_looked head names shows right = ⊎_elim (λ short. absurd (subst (λ (x : Reply). ShowsNames x names) short.0 shows)) (λ due. shown due.0) right
    where
      d : Document
      d = document_of o before

      shown : IsGranted o d (length before) LookHead r → names_given o (before ++ entry_list added) (head_told (stamp_told_by command.LookHead r) head) ≡ Some names
      shown g =
          let stamp : head_told (stamp_told_by command.LookHead r) head ≡ d.header.stamp = ap (λ (x : Reply). head_told (stamp_told_by command.LookHead x) head) g.0 in
          ap (names_given o (before ++ entry_list added)) stamp
          ∙ names_longer o before (entry_list added) d.header.stamp names ((all_known o before).header ∙ (sym g.1 ∙ subst (λ (x : Reply). ShowsNames x names) g.0 shows))

  -- after other names were accepted, of these
  pub names_put : (seen : ℕ) (given names : List (List ℕ)) (again : List Again) (version block : ℕ) (brief : Brief) → r ≡ reply.Accepted version block brief → IsRightReply o before n (ask.PutHead seen names again) r added
      → names_given o (before ++ entry_list added) (head_told (stamp_told_by (command.PutHead given) r) seen) ≡ Some names
  names_put seen given names again version block brief is right = ⊎_elim (λ short. let not : reply.Accepted version block brief ≡ reply.NoMemory = sym is ∙ short.0 in absurd (cc)) put right
    where
      put : IsReply o before (PutHead seen names) r × (added ≡ entry_of n (PutHead seen names) r) × ((document_of o before).drawn < head_id) → names_given o (before ++ entry_list added) (head_told (stamp_told_by (command.PutHead given) r) seen) ≡ Some names
      put due =
          let d = document_of o before in
          let e : Entry = record { session = n; edit = edit.Head seen names } in
          let g : IsGranted o d (length before) (PutHead seen names) r =
          granted_of (length before) (refusal_of d before (PutHead seen names)) (IsGranted o d (length before) (PutHead seen names) r) r block (refusal_may_come d before (PutHead seen names)).fact (ap accepted_block is) due.0 in
          let stamp : head_told (stamp_told_by (command.PutHead given) r) seen ≡ length before + 1 = ap (λ (x : Reply). head_told (stamp_told_by (command.PutHead given) x) seen) g.1 in
          let one : added ≡ Some e = due.1 ∙ ap (entry_of n (PutHead seen names)) g.1 in
          let all : before ++ entry_list added ≡ before ++ e ∷ [] = ap (λ (a : Option Entry). before ++ entry_list a) one in
          subst (λ (p : List Entry × ℕ). names_given o p.0 p.1 ≡ Some names) (λ i. (sym all i, sym stamp i)) (names_newest o before e (length before + 1) names refl refl)

  -- and after they were refused, of those before
  pub names_refused : (seen : ℕ) (given names kept : List (List ℕ)) (again : List Again) → ((version block : ℕ) (brief : Brief) → r ≡ reply.Accepted version block brief → ⊥) → IsRightReply o before n (ask.PutHead seen names again) r added
      → names_given o before seen ≡ Some kept → names_given o (before ++ entry_list added) (head_told (stamp_told_by (command.PutHead given) r) seen) ≡ Some kept
  names_refused seen given names kept again refused right had =
      ap (names_given o (before ++ entry_list added)) (head_kept (command.PutHead given) r seen tells) ∙ names_longer o before (entry_list added) seen kept had
    where
      d : Document
      d = document_of o before

      tells : TellsNoHeader r
      tells = ⊎_elim
          (λ short. subst TellsNoHeader (sym short.0) tt)
          (λ due. due_block (length before) (refusal_of d before (PutHead seen names)) (IsGranted o d (length before) (PutHead seen names) r) r (refusal_may_come d before (PutHead seen names)).fact
          (λ none g. absurd (refused (length before + 1) head_id g.0 g.1)) due.0)
          right
