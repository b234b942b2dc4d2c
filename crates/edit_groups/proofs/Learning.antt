-- What a session learns of a group, edit by edit.
use Rattle.std.proofs.Common.{◌≡◌, ◌≢◌, ℕ, zero, suc, ◌+◌, ◌-◌, ◌<◌, ◌≤◌, ◌^◌, min, List, [], ◌∷◌, ◌++◌, length, drop, get_or, slice_get, Option, Some, None, option_and_then, unwrap_or, sym, ap, ◌∙◌, refl, subst, arith}
use Rattle.carriage_model.specs.declared.verdict.Brief.{Brief}
use Rattle.edit_journal.specs.declared.edit.BlockName.{BlockName}
use Rattle.edit_journal.specs.declared.edit.BlockName.TheVariants.{Id, Own}
use Rattle.edit_journal.specs.declared.edit.Edit.{Edit}
use Rattle.edit_journal.specs.declared.edit.Edit.TheVariants as edit
use Rattle.script_reader.specs.declared.command.Command.{Command}
use Rattle.script_reader.specs.declared.command.Command.TheVariants as command
use Rattle.edit_book.specs.Asking.{TellsNoHeader}
use Rattle.edit_book.specs.Memory.{Memory, head_told, memory_after, block_id_of_name, own_block, stamp_told_by, with_add}
use Rattle.edit_book.specs.Session.{HasLearned}
use Rattle.edit_book.specs.declared.reply.Reply.{Reply}
use Rattle.edit_book.specs.declared.reply.Reply.TheVariants as reply
use Rattle.edit_book.specs.declared.sessions.learned.Learned.{Learned}
use Rattle.edit_book.proofs.NamesKept.{head_kept}
use Rattle.edit_groups.specs.Sessions.{block_in, done_memory, missed_memory}
use Rattle.edit_groups.specs.Turns.{AreEditsOfGroup, IsTaught, IsToldOf, ids_drawn, taught_block}
use Rattle.edit_groups.proofs.GroupTold.{few_ids}

pub missed_push : (m : Memory) (cs : List Command) (c : Command) → missed_memory m (cs ++ c ∷ []) ≡ memory_after (missed_memory m cs) c reply.NoMemory
missed_push m [] c = refl
missed_push m (x ∷ cs) c = missed_push (memory_after m x reply.NoMemory) cs c

-- a name that means a block means it after further adds, too
own_more : (adds : List (Option ℕ)) (x : Option ℕ) (n id : ℕ) → option_and_then (λ o. o) (slice_get adds n) ≡ Some id → option_and_then (λ o. o) (slice_get (adds ++ x ∷ []) n) ≡ Some id
own_more [] x n id is = absurd (cc)
own_more (a ∷ adds) x zero id is = is
own_more (a ∷ adds) x (suc n) id is = own_more adds x n id is

own_kept : (adds : List (Option ℕ)) (x : Option ℕ) (n id : ℕ) → own_block adds n ≡ Some id → own_block (adds ++ x ∷ []) n ≡ Some id
own_kept adds x zero id is = absurd (cc)
own_kept adds x (suc n) id is = own_more adds x n id is

names_kept : (m : Memory) (c : Command) (r : Reply) (name : BlockName) (id : ℕ) → block_id_of_name m name ≡ Some id → block_id_of_name (memory_after m c r) name ≡ Some id
names_kept m c r (Id block) id is = is
names_kept m (command.Add place text) r (Own n) id is = own_kept m.adds _ n id is
names_kept m (command.Look name) r (Own n) id is = is
names_kept m (command.Put name text) r (Own n) id is = is
names_kept m (command.Cut name) r (Own n) id is = is
names_kept m (command.LoopAt line) r (Own n) id is = is
names_kept m command.Verdict r (Own n) id is = is
names_kept m command.LookHead r (Own n) id is = is
names_kept m (command.PutHead names) r (Own n) id is = is

-- what an edit teaches, with the block that the session takes for its own
record IsEditTaught (m : Memory) (next_id version : ℕ) (brief : Brief) (c : Command) (e : Edit) (stamp block : ℕ) : Type 0 where
  memory : memory_after m c (reply.Accepted version block brief) ≡ memory_after m c (reply.Accepted version (block_in e) brief)
  head : head_told (stamp_told_by c (reply.Accepted version block brief)) stamp ≡ stamp

edit_taught : (m now : Memory) (next_id version : ℕ) (brief : Brief) (c : Command) (e : Edit) (head block : ℕ) → IsToldOf m next_id c e → ((name : BlockName) (id : ℕ) → block_id_of_name m name ≡ Some id → block_id_of_name now name ≡ Some id) → block ≡ taught_block now c next_id
    → IsEditTaught now next_id version brief c e head block
edit_taught m now next_id version brief (command.Put name text) (edit.Put id seen lines) head block told names is =
    let same : block ≡ id = is ∙ ap (λ (o : Option ℕ). unwrap_or o 0) (names name id told.0) in
    record {
      memory = ap (λ (k : ℕ). memory_after now (command.Put name text) (reply.Accepted version k brief)) same;
      head = head_kept (command.Put name text) (reply.Accepted version block brief) head (λ eq. told.1 (sym same ∙ eq));
    }
edit_taught m now next_id version brief (command.Add place text) (edit.Add anchor id lines) head block told names is =
    let same : block ≡ id = is ∙ told.0 in
    record {
      memory = ap (λ (k : ℕ). memory_after now (command.Add place text) (reply.Accepted version k brief)) same;
      head = head_kept (command.Add place text) (reply.Accepted version block brief) head (λ eq. told.1 (sym same ∙ eq));
    }
edit_taught m now next_id version brief (command.Cut name) (edit.Cut id seen) head block told names is = record { memory = refl; head = refl }
edit_taught m now next_id version brief (command.Put name text) (edit.Add anchor id lines) head block told names is = absurd told
edit_taught m now next_id version brief (command.Put name text) (edit.Cut id seen) head block told names is = absurd told
edit_taught m now next_id version brief (command.Put name text) (edit.Head seen given) head block told names is = absurd told
edit_taught m now next_id version brief (command.Add place text) (edit.Put id seen lines) head block told names is = absurd told
edit_taught m now next_id version brief (command.Add place text) (edit.Cut id seen) head block told names is = absurd told
edit_taught m now next_id version brief (command.Add place text) (edit.Head seen given) head block told names is = absurd told
edit_taught m now next_id version brief (command.Cut name) (edit.Put id seen lines) head block told names is = absurd told
edit_taught m now next_id version brief (command.Cut name) (edit.Add anchor id lines) head block told names is = absurd told
edit_taught m now next_id version brief (command.Cut name) (edit.Head seen given) head block told names is = absurd told
edit_taught m now next_id version brief (command.Look name) e head block told names is = absurd told
edit_taught m now next_id version brief (command.LoopAt line) e head block told names is = absurd told
edit_taught m now next_id version brief command.Verdict e head block told names is = absurd told
edit_taught m now next_id version brief command.LookHead e head block told names is = absurd told
edit_taught m now next_id version brief (command.PutHead given) e head block told names is = absurd told

-- so many edits are learned, and the others are to come
pub record IsLearning (m : Memory) (from : ℕ) (brief : Brief) (cs : List Command) (edits : List Edit) (head i : ℕ) (l : Learned) (version next_id : ℕ) : Type 0 where
  pub now : Memory
  pub learned : HasLearned l now
  pub behind : done_memory now version brief (drop i cs) (drop i edits) ≡ done_memory m from brief cs edits
  pub told : AreEditsOfGroup m next_id (drop i cs) (drop i edits)
  pub names : (name : BlockName) (id : ℕ) → block_id_of_name m name ≡ Some id → block_id_of_name now name ≡ Some id
  pub head_is : l.head ≡ head
  pub numbers : version + length (drop i cs) < 2 ^ 32
  pub ids_fit : next_id + length (drop i cs) < 2 ^ 32

pub learning_begins : (m : Memory) (from ids : ℕ) (brief : Brief) (cs : List Command) (edits : List Edit) (l : Learned) → HasLearned l m → IsTaught m from ids cs edits → IsLearning m from brief cs edits l.head 0 l from ids
learning_begins m from ids brief cs edits l had t = record { now = m; learned = had; behind = refl; told = t.told; names = λ name id is. is; head_is = refl; numbers = t.numbers; ids_fit = t.ids_fit }

next_drop : {A : Type 0} (xs : List A) (i : ℕ) (x : A) (rest : List A) → drop i xs ≡ x ∷ rest → drop (i + 1) xs ≡ rest
next_drop [] zero x rest is = absurd (cc)
next_drop [] (suc i) x rest is = absurd (cc)
next_drop (y ∷ xs) zero x rest is = cc
next_drop (y ∷ xs) (suc i) x rest is = let next : suc (i + 1) ≡ suc i + 1 = omega arith in ap (λ (k : ℕ). drop k (y ∷ xs)) (sym next) ∙ next_drop xs i x rest is

pub learning_goes_on : (m : Memory) (from : ℕ) (brief : Brief) (cs : List Command) (edits : List Edit) (head i : ℕ) (l new : Learned) (version next_id : ℕ) (c : Command) (block later next : ℕ) → IsLearning m from brief cs edits head i l version next_id
    → drop i cs ≡ c ∷ drop (i + 1) cs
    → ((x : Memory) → HasLearned l x → block ≡ taught_block x c next_id)
    → ((x : Memory) → HasLearned l x → HasLearned new (memory_after x c (reply.Accepted version block brief)))
    → new.head ≡ head_told (stamp_told_by c (reply.Accepted version block brief)) l.head
    → later ≡ min (version + 1) (2 ^ 32 - 1) → next ≡ min (next_id + ids_drawn c) (2 ^ 32 - 1)
    → IsLearning m from brief cs edits head (i + 1) new later next
learning_goes_on m from brief cs edits head i l new version next_id c block later next g rest block_is learns head_is later_is next_is = go (drop i edits) refl (subst (λ (z : List Command). AreEditsOfGroup m next_id z (drop i edits)) rest g.told)
  where
    count : length (drop i cs) ≡ length (drop (i + 1) cs) + 1
    count = let is = ap length rest in omega (arith, is)

    go : (es : List Edit) → drop i edits ≡ es → AreEditsOfGroup m next_id (c ∷ drop (i + 1) cs) es → IsLearning m from brief cs edits head (i + 1) new later next
    go [] none told = absurd told
    go (e ∷ es) some told =
        let tail : drop (i + 1) edits ≡ es = next_drop edits i e es some in
        let t = edit_taught m g.now next_id version brief c e l.head block told.0 g.names (block_is g.now g.learned) in
        let now = memory_after g.now c (reply.Accepted version block brief) in
        let version_is : later ≡ version + 1 = let few = g.numbers in omega (arith, later_is, few, count) in
        let id_is : next ≡ next_id + ids_drawn c = let few = g.ids_fit in let one = few_ids c in omega (arith, next_is, few, count, one) in
        record {
          now = now;
          learned = learns g.now g.learned;
          behind =
              ap (λ (z : List Edit × ℕ). done_memory now z.1 brief (drop (i + 1) cs) z.0) (λ k. (tail k, version_is k))
              ∙ ap (λ (z : Memory). done_memory z (version + 1) brief (drop (i + 1) cs) es) t.memory
              ∙ ap (λ (z : List Command × List Edit). done_memory g.now version brief z.0 z.1) (λ k. (sym rest k, sym some k))
              ∙ g.behind;
          told = subst (λ (z : List Edit × ℕ). AreEditsOfGroup m z.1 (drop (i + 1) cs) z.0) (λ k. (sym tail k, sym id_is k)) told.1;
          names = λ name id is. names_kept g.now c (reply.Accepted version block brief) name id (g.names name id is);
          head_is = head_is ∙ t.head ∙ g.head_is;
          numbers = let few = g.numbers in omega (arith, version_is, few, count);
          ids_fit = let few = g.ids_fit in let one = few_ids c in omega (arith, id_is, few, count, one);
        }

pub learning_ends : (m : Memory) (from : ℕ) (brief : Brief) (cs : List Command) (edits : List Edit) (head i : ℕ) (l : Learned) (version next_id : ℕ) → IsLearning m from brief cs edits head i l version next_id → drop i cs ≡ [] → HasLearned l (done_memory m from brief cs edits)
learning_ends m from brief cs edits head i l version next_id g none =
    subst (HasLearned l) (ap (λ (z : List Command). done_memory g.now version brief z (drop i edits)) (sym none) ∙ g.behind) g.learned

pub drop_got : (cs : List Command) (i : ℕ) (x : Command) → i < length cs → drop i cs ≡ get_or cs i x ∷ drop (i + 1) cs
drop_got [] i x within = absurd (omega arith)
drop_got (c ∷ cs) zero x within = refl
drop_got (c ∷ cs) (suc i) x within =
    drop_got cs i x (omega arith) ∙ ap (λ (k : ℕ). get_or cs i x ∷ drop k (c ∷ cs)) (let e : suc (i + 1) ≡ suc i + 1 = omega arith in e)

pub drop_all : (cs : List Command) (i : ℕ) → length cs ≤ i → drop i cs ≡ []
drop_all [] zero past = refl
drop_all [] (suc i) past = refl
drop_all (c ∷ cs) zero past = absurd (omega arith)
drop_all (c ∷ cs) (suc i) past = drop_all cs i (omega arith)
