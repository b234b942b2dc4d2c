-- A step of a session is answered, and that is said.
use Rattle.std.proofs.Common.{◌≡◌, ◌+◌, ◌∙◌, ◌++◌, ℕ, Bool, List, ap, subst, sym}
use Rattle.std.specs.Prelude.{OnOk, Result, Ok, Err}
use Rattle.edit_journal.specs.declared.opening.Opening.{Opening}
use Rattle.script_reader.specs.declared.step.Step.{Step}
use Rattle.edit_book.specs.Memory.{Memory}
use Rattle.edit_groups.specs.Alone.{IsAnsweredAt, IsSessionAt}
use Rattle.edit_groups.specs.Chunks.{entries_of_chunks}
use Rattle.edit_groups.specs.Sessions.{step_memory}
use Rattle.edit_groups.specs.declared.chunk.Chunk.{Chunk}
use Rattle.edit_groups.specs.declared.reply.GroupReply.{GroupReply}
use Rattle.edit_groups.specs.declared.session.GroupSession.{GroupSession}
use Rattle.talk_desk.specs.Styles.{step_in}
use Rattle.talk_desk.specs.Hosts.{IsStepSaid, known_in, opening_in}
use Rattle.talk_desk.specs.declared.document.Document.{Document}
use Rattle.talk_desk.specs.declared.steps.Talker.{Talker}

-- what follows from what holds where all went well
pub on-ok : {T E P Q : Type 0} (r : Result T E) → (P → Q) → OnOk r P → OnOk r Q
on-ok (Ok x) f p = f p
on-ok (Err e) f p = tt

-- the document is d1 and the talker s1 behind the answer, and e and t behind what was said
pub step-said : (json : Bool) (m : Memory) (c : Step) (d d1 e : Document) (s s1 t : Talker) (before after : List ℕ) (r : GroupReply) → opening_in d1 ≡ opening_in d → s1.session.session.number ≡ s.session.session.number
    → s1.answered ≡ s.answered → IsAnsweredAt (opening_in d) s.session.session.number m c r (known_in d) (known_in d1) s1.session → known_in e ≡ known_in d1 → t.session ≡ s1.session → t.answered ≡ s1.answered + 1
    → after ≡ before ++ step_in json (opening_in d1) (entries_of_chunks (known_in d1)) (record { session = s1.session.session.number; number = s1.answered + 1 }) r → IsStepSaid json m c d e s t before after
step-said json m c d d1 e s s1 t before after r opening number idle a known session counted said = record {
  heard = a.heard;
  given = a.given;
  known = known ∙ a.after_is;
  number = ap (λ x. x.session.number) session ∙ number;
  stands = subst (λ (p : List Chunk × GroupSession). IsSessionAt (opening_in d) p.0 (step_memory m c a.heard) p.1) (λ i. (sym known i, sym session i)) a.stands;
  counted = counted ∙ ap (λ (k : ℕ). k + 1) idle;
  said = subst (λ (p : Opening × List Chunk × ℕ × ℕ × GroupReply). after ≡ before ++ step_in json p.0 (entries_of_chunks p.1) (record { session = p.2; number = p.3 + 1 }) p.4)
      (λ i. (opening i, sym known i, number i, idle i, a.reply_is i)) said;
}
