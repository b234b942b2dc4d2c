-- What becomes of the end of a conversation. No public contract speaks of it.
use Rattle.std.specs.Prelude.{◌≡◌, ℕ, List, Result, Ok, Err}
use Rattle.std.specs.declared.option.Option.{Option}
use Rattle.knit_ports.specs.Pieces.{Piece, Says, SaysFront}
use Rattle.talk_loop.specs.Conversed.{IsLast}
use Rattle.talk_loop.specs.InStep.{Asking}
use Rattle.talk_loop.specs.declared.conversation.TalkFault.{TalkFault}
use Rattle.talk_loop.specs.declared.conversation.TalkFault.TheVariants as fault

module _ {Order Answer State : Type 0} (asking : Asking Order Answer State) (ends : List (List ℕ) → List Answer → List ℕ → Type 0) (lines : List (List ℕ)) (line : List ℕ) (as_ : List Answer) (old new : Option (List Piece)) where
  -- the last text, and that so much of it was said
  pub record IsLastSaid (IsSaid : List ℕ → Type 0) : Type 0 where
    pub text : List ℕ
    pub more : List Answer
    pub last : IsLast asking ends lines as_ line text more
    pub said : IsSaid text

  abbrev pub Finishes : Result (Unit {0}) TalkFault → Type 0
  Finishes (Ok done) = IsLastSaid (Says old new)
  Finishes (Err fault.Hearing) = ⊥
  Finishes (Err fault.Saying) = IsLastSaid (SaysFront old new)
  Finishes (Err fault.NoMemory) = new ≡ old
