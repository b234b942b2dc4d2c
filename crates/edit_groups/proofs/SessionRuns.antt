-- A session of steps, as it goes on, and what the replies of several say together.
use Rattle.std.proofs.Common.{◌≡◌, ℕ, ◌+◌, ◌<◌, arith, List, [], ◌∷◌, ◌++◌, length, get_or, map, set, take, length-append, sym, ap, ◌∙◌, refl, subst}
use Rattle.std.proofs.lemmas.List.{map-append}
use Rattle.edit_journal.specs.declared.opening.Opening.{Opening}
use Rattle.edit_journal.proofs.Known.{names_longer}
use Rattle.script_reader.specs.declared.step.Step.{Step}
use Rattle.edit_book.specs.Memory.{Memory, first_memory}
use Rattle.edit_book.specs.Session.{Remembers}
use Rattle.edit_groups.specs.Alone.{IsSessionAt, KnowsLastUndo}
use Rattle.edit_groups.specs.Chunks.{entries_of_chunks, is_put_undo, undoable_of_session}
use Rattle.edit_groups.specs.Sessions.{HeardReply, IsLegalRun, group_core}
use Rattle.edit_groups.specs.Shared.{session_of_chunk}
use Rattle.edit_groups.specs.Talks.{AreSessionsHeard, IsHeardAlong, replies_in, group_talk_replies}
use Rattle.edit_groups.specs.declared.talk.Talk.{Talk}
use Rattle.edit_groups.specs.Turns.{IsStepDone, IsSessionKept}
use Rattle.edit_groups.specs.declared.chunk.Chunk.{Chunk}
use Rattle.edit_groups.specs.declared.reply.GroupReply.{GroupReply}
use Rattle.edit_groups.specs.declared.session.GroupSession.{GroupSession}
use Rattle.edit_groups.proofs.CoreLaws.{is_core}
use Rattle.edit_groups.proofs.LastPuts.{undoable_foreign}
use Rattle.turn_book.specs.declared.view.View.{View}
use Rattle.turn_book.specs.Journal.{Foreign}
use Rattle.turn_book.specs.Taken.{IsCommandTaken}
use Rattle.turn_book.specs.Turn.{Catches}
use Rattle.turn_book.specs.Views.{lower, upper, view_united}
use Rattle.turn_book.specs.Walk.{memory_of}
use Rattle.turn_book.proofs.Talked.{TalkSoFar, legal_last, none_legal, parts_join, seen_last, talk_begins, talk_ends, talk_goes_on, talk_remembers}

-- what a session has heard of the first i steps of its script, and what it keeps of that
pub record IsToldSoFar (opening : Opening) (script : List Step) (i : ℕ) (began now : View Opening Chunk) (session : GroupSession) (replies : List GroupReply) : Type 0 where
  pub heard : List HeardReply
  pub replies_are : replies ≡ replies_in heard
  pub talk : TalkSoFar (group_core opening) (first_memory opening) script i began now heard
  pub remembers : Remembers session.session (memory_of (group_core opening) (first_memory opening) (take i script) heard)
  pub last : KnowsLastUndo now.seen session

-- a session after them; where it had no step yet among those that were seen before, it has had these replies
pub record SessionSoFar (opening : Opening) (script : List Step) (i : ℕ) (began now : View Opening Chunk) (session : GroupSession) (replies : List GroupReply) : Type 0 where
  pub first : now.first ≡ began.first
  pub past : now.past ≡ began.past
  pub count : length replies ≡ i
  pub number : session.session.number ≡ began.first
  pub kept : IsSessionKept opening now.seen session
  pub told : Foreign session_of_chunk began.first began.past began.seen → IsToldSoFar opening script i began now session replies

pub session_begins : (opening : Opening) (script : List Step) (v : View Opening Chunk) (session : GroupSession) (replies : List GroupReply) → v.first < v.past → session.session.number ≡ v.first → IsSessionAt opening [] (first_memory opening) session → replies ≡ []
    → SessionSoFar opening script 0 v v session replies
session_begins opening script v session replies some number stands none = record {
  first = refl;
  past = refl;
  count = ap length none;
  number = number;
  kept = record {
    memory = first_memory opening;
    remembers = stands.remembers;
    names = names_longer opening [] (entries_of_chunks v.seen) session.session.learned.head session.session.header.declared stands.names;
  };
  told = λ fresh. record {
    heard = [];
    replies_are = none;
    talk = talk_begins (group_core opening) (is_core opening) (first_memory opening) script v [] some refl;
    remembers = stands.remembers;
    last = stands.last ∙ sym (ap is_put_undo (undoable_foreign session.session.number v.first v.past [] v.seen (omega arith) (omega arith) fresh));
  };
}

pub session_goes_on : (opening : Opening) (script : List Step) (i : ℕ) (began v w : View Opening Chunk) (s t : GroupSession) (replies all : List GroupReply) (c : Step) (r : GroupReply) → i < length script → began.first < began.past → SessionSoFar opening script i began v s replies
    → take (i + 1) script ≡ take i script ++ c ∷ [] → t.session.number ≡ s.session.number
    → ((m : Memory) → Remembers s.session m → IsStepDone opening m c r v w s t)
    → all ≡ replies ++ r ∷ [] → SessionSoFar opening script (i + 1) began w t all
session_goes_on opening script i began v w s t replies all c r within some so_far one same done all_is =
    let any = done so_far.kept.memory so_far.kept.remembers in
    record {
      first = any.taken.first ∙ so_far.first;
      past = any.taken.past ∙ so_far.past;
      count = ap length all_is ∙ length-append replies (r ∷ []) ∙ ap (λ (n : ℕ). n + 1) so_far.count;
      number = same ∙ so_far.number;
      kept = any.kept;
      told = λ fresh.
          let told = so_far.told fresh in
          let d = done (memory_of (group_core opening) (first_memory opening) (take i script) told.heard) told.remembers in
          record {
            heard = told.heard ++ d.heard ∷ [];
            replies_are =
                all_is
                ∙ ap (λ (p : List GroupReply × GroupReply). p.0 ++ p.1 ∷ []) (λ k. (told.replies_are k, d.reply_is k))
                ∙ sym (map-append (λ (h : HeardReply). h.reply) told.heard (d.heard ∷ []));
            talk = talk_goes_on (group_core opening) (is_core opening) (first_memory opening) script i began v w told.heard (told.heard ++ d.heard ∷ []) c d.heard some told.talk one refl
                (subst (λ (n : ℕ). IsCommandTaken (group_core opening) n (memory_of (group_core opening) (first_memory opening) (take i script) told.heard) c d.heard v w) so_far.number d.taken);
            remembers = subst (Remembers t.session) (sym (talk_remembers (group_core opening) (is_core opening) (first_memory opening) script i began v told.heard (told.heard ++ d.heard ∷ []) c d.heard within told.talk one refl)) (d.remembers told.last);
            last = d.last told.last;
          };
    }

pub session_ends : (opening : Opening) (script : List Step) (i : ℕ) (began v : View Opening Chunk) (s : GroupSession) (replies : List GroupReply) → take i script ≡ script → SessionSoFar opening script i began v s replies → Foreign session_of_chunk began.first began.past began.seen
    → IsHeardAlong opening began.first v.seen script replies
session_ends opening script i began v s replies all so_far fresh = let told = so_far.told fresh in record {
  heard = told.heard;
  replies_are = told.replies_are;
  history = talk_ends (group_core opening) (is_core opening) (first_memory opening) script i began v told.heard all told.talk fresh;
}

-- one session alone
pub heard_one : (opening : Opening) (n : ℕ) (known : List Chunk) (script : List Step) (replies : List GroupReply) → IsHeardAlong opening n known script replies → AreSessionsHeard opening n known (script ∷ []) (replies ∷ [])
heard_one opening n known script replies h = record { heard = h.heard ∷ []; replies_are = ap (λ (rs : List GroupReply). rs ∷ []) h.replies_are; histories = (h.history, tt) }

module _ (opening : Opening) where
  -- two parts, after their join and a look at the journal
  pub heard_join : (at : ℕ) (v l r l' r' u : View Opening Chunk) (all : List Chunk) (cs ds : List (List Step)) (ps qs : List (List GroupReply)) → l ≡ lower at v → r ≡ upper at v → v.first + length cs ≡ at → at + length ds ≡ v.past
      → l'.first ≡ l.first → l'.past ≡ l.past → r'.first ≡ r.first → r'.past ≡ r.past
      → AreSessionsHeard opening l.first l'.seen cs ps → AreSessionsHeard opening r.first r'.seen ds qs
      → u ≡ view_united l' r' → Catches session_of_chunk u all → AreSessionsHeard opening v.first all (cs ++ ds) (ps ++ qs)
  heard_join at v l r l' r' u all cs ds ps qs l_is r_is len fits lf lp rf rp left right u_is c = record {
    heard = left.heard ++ right.heard;
    replies_are =
        ap (λ (p : List (List GroupReply) × List (List GroupReply)). p.0 ++ p.1) (λ k. (left.replies_are k, right.replies_are k)) ∙ sym (map-append replies_in left.heard right.heard);
    histories = parts_join (group_core opening) (is_core opening) (first_memory opening) at v l r l' r' u all cs ds left.heard right.heard l_is r_is len fits lf lp rf rp left.histories right.histories u_is c;
  }

  -- after a last look at the journal, of the replies that are told
  pub heard_last : (v w : View Opening Chunk) (all : List Chunk) (cs : List (List Step)) (rs told : List (List GroupReply)) → w.first ≡ v.first → w.past ≡ v.past → v.first + length cs ≡ v.past → Catches session_of_chunk w all → told ≡ rs
      → AreSessionsHeard opening v.first w.seen cs rs → AreSessionsHeard opening v.first all cs told
  heard_last v w all cs rs told first past range c told_is h = record {
    heard = h.heard;
    replies_are = told_is ∙ h.replies_are;
    histories = seen_last (group_core opening) (is_core opening) (first_memory opening) v w all cs h.heard h.heard first past range c refl h.histories;
  }

  pub legal_run : (v w : View Opening Chunk) (all : List Chunk) (cs : List (List Step)) (rs told : List (List GroupReply)) → w.first ≡ v.first → w.past ≡ v.past → w.count ≡ v.count → v.first + length cs ≡ v.past → Catches session_of_chunk w all → told ≡ rs
      → AreSessionsHeard opening v.first w.seen cs rs → v.first ≡ 0 → v.past ≡ v.count → IsLegalRun opening cs all told
  legal_run v w all cs rs told first past count range c told_is h zero_first whole = record {
    heard = h.heard;
    replies_are = told_is ∙ h.replies_are;
    legal = legal_last (group_core opening) (is_core opening) (first_memory opening) v w all cs h.heard h.heard first past count range c refl h.histories zero_first whole;
  }

  -- no sessions
  pub none_heard : (n : ℕ) (seen : List Chunk) (cs : List (List Step)) (rs : List (List GroupReply)) → length cs ≡ 0 → rs ≡ [] → AreSessionsHeard opening n seen cs rs
  none_heard n seen [] rs few none = record { heard = []; replies_are = none; histories = tt }
  none_heard n seen (c ∷ cs) rs few none = absurd (cc)

  pub none_run : (seen : List Chunk) (cs : List (List Step)) (rs : List (List GroupReply)) → length cs ≡ 0 → seen ≡ [] → rs ≡ [] → IsLegalRun opening cs seen rs
  none_run seen cs rs few unseen none = record { heard = []; replies_are = none; legal = none_legal (group_core opening) (first_memory opening) seen cs [] few unseen refl }

-- one session alone, whose script and talk are the only ones
pub heard_alone : (o : Opening) (n : ℕ) (known : List Chunk) (scripts : List (List Step)) (talks : List Talk) (script said : List Step) (t : Talk) → length scripts < 2 → 0 < length scripts → length talks ≡ length scripts → script ≡ get_or scripts 0 script → said ≡ script
    → IsHeardAlong o n known said (group_talk_replies t) → AreSessionsHeard o n known scripts (map group_talk_replies (set talks 0 t))
heard_alone o n known [] talks script said t few some same is said_is h = absurd (omega arith)
heard_alone o n known (x ∷ y ∷ more) talks script said t few some same is said_is h = absurd (omega arith)
heard_alone o n known (x ∷ []) [] script said t few some same is said_is h = absurd (omega (arith, same))
heard_alone o n known (x ∷ []) (u ∷ v ∷ us) script said t few some same is said_is h = absurd (omega (arith, same))
heard_alone o n known (x ∷ []) (u ∷ []) script said t few some same is said_is h = heard_one o n known x (group_talk_replies t) (subst (λ (s : List Step). IsHeardAlong o n known s (group_talk_replies t)) (said_is ∙ is) h)
