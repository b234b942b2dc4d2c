-- What was heard and said of a conversation, from what its parts tell.
use Rattle.std.proofs.Common.{Bool, ℕ, List, ◌∷◌, ◌++◌, refl}
use Rattle.std.specs.Prelude.{Err, Result}
use Rattle.std.specs.declared.option.Option.{Option}
use Rattle.knit_ports.specs.Pieces.{PiecesGoOn, Heard, Piece, Says, SaysFront}
use Rattle.knit_ports.proofs.SaidPieces.{goes-trans}
use Rattle.machine_profile.specs.declared.Chosen.{Chosen}
use Rattle.talk_loop.specs.Conversed.{Conversed}
use Rattle.talk_loop.specs.InStep.{Asking}
use Rattle.talk_loop.specs.declared.conversation.TalkFault.{TalkFault}
use Rattle.talk_loop.specs.declared.conversation.TalkFault.TheVariants as talk_fault
use Rattle.verdict_report.specs.VerdictText.{Text}
use Rattle.verdict_report.specs.Refusals.{refusal_text}
use Rattle.verdict_report.specs.declared.refusal.Refusal.{Refusal}
use Rattle.verdict_report.specs.declared.refusal.Refusal.TheVariants as refusal
use Rattle.input_answers.specs.declared.outcome.Status.{Status}
use Rattle.input_answers.specs.declared.outcome.Status.TheVariants as status
use Rattle.live_talk.specs.Served.{IsEnded, IsTalkRefused, IsTalkStatus, IsTalked, Served, conversed, cut_off, deaf, refused}

-- the opening was refused, and that was said
pub serve-refused : (json : Bool) (chosen : Chosen) (a b c : Option (List Piece)) (heard : List Piece) (pending : List ℕ) (said : Refusal) (ends result : Status) → PiecesGoOn a b heard → IsTalkRefused chosen heard pending said ends
    → (more : List Piece) × PiecesGoOn b c more × IsEnded (refusal_text said) ends more result → (pieces : List Piece) × PiecesGoOn a c pieces × Served json chosen pieces result
serve-refused json chosen a b c heard pending said ends result goes is more =
    (heard ++ more.0, goes-trans a b c heard more.0 goes more.1, refused heard more.0 pending said ends result refl is more.2)

module _ {Order Answer State : Type 0} (asking : Asking Order Answer State) (ends : List (List ℕ) → List Answer → List ℕ → Type 0) (text : Text) (pending : List ℕ) where
  -- saying failed behind a front of the text
  pub talk-cut : (a b : Option (List Piece)) → SaysFront a b text → (pieces : List Piece) × PiecesGoOn a b pieces × IsTalked asking ends text pending pieces status.WriteFault
  talk-cut a b s = (s.2.0, s.2.1, cut_off s.0 s.2.2 s.2.3)

  -- it was said whole, and then a conversation was heard and said
  pub talk-done : (a b c : Option (List Piece)) (end : Result (Unit {0}) TalkFault) (result : Status) → Says a b text → (more : List Piece) × PiecesGoOn b c more × Conversed asking ends (Heard pending ∷ more) end
      → IsTalkStatus end result → (pieces : List Piece) × PiecesGoOn a c pieces × IsTalked asking ends text pending pieces result
  talk-done a b c end result s more is = (s.0 ++ more.0, goes-trans a b c s.0 more.0 s.1 more.1, conversed s.0 more.0 end result refl s.2 s.3 more.2 is)

  -- until hearing failed, which was said last
  pub talk-deaf : (a b c d : Option (List Piece)) (result : Status) → Says a b text → (more : List Piece) × PiecesGoOn b c more × Conversed asking ends (Heard pending ∷ more) (Err talk_fault.Hearing)
      → (last : List Piece) × PiecesGoOn c d last × IsEnded (refusal_text refusal.ReadFault) status.ReadFault last result → (pieces : List Piece) × PiecesGoOn a d pieces × IsTalked asking ends text pending pieces result
  talk-deaf a b c d result s more last = (
    s.0 ++ (more.0 ++ last.0),
    goes-trans a b d s.0 (more.0 ++ last.0) s.1 (goes-trans b c d more.0 last.0 more.1 last.1),
    deaf s.0 more.0 last.0 result refl s.2 s.3 more.2 last.2,
  )
