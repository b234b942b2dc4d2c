-- How a conversation goes, and how it ends.
use Rattle.std.specs.Prelude.{◌≡◌, ◌⊎◌, ℕ, ◌+◌, ◌-◌, ◌^◌, ◌≤◌, All, List, [], ◌∷◌, ◌++◌, length, take, flat_map, Result, Ok, Err}
use Rattle.knit_base.specs.Lines.{HasNoLineEnd}
use Rattle.knit_ports.specs.Faults.{Rose}
use Rattle.knit_ports.specs.Pieces.{Piece, heard_in, said_in}
use Rattle.knit_ports.specs.WholeLines.{with_feed}
use Rattle.talk_loop.specs.InStep.{Asking, AreDeskAnswers, IsInStep, due, state_behind, text_of}
use Rattle.talk_loop.specs.declared.conversation.TalkFault.{TalkFault}
use Rattle.talk_loop.specs.declared.conversation.TalkFault.TheVariants as fault

-- Each error has its cause: a call failed where hearing or saying is told to have failed. Where all is well, or memory ran out, none did.
abbrev pub HasTalkCause : ℕ → ℕ → Result (Unit {0}) TalkFault → Type 0
HasTalkCause faults_before faults_after (Ok done) = faults_after ≡ faults_before
HasTalkCause faults_before faults_after (Err fault.Hearing) = Rose faults_before faults_after
HasTalkCause faults_before faults_after (Err fault.Saying) = Rose faults_before faults_after
HasTalkCause faults_before faults_after (Err fault.NoMemory) = faults_after ≡ faults_before

-- a last line that has no line feed, if there are bytes
abbrev pub last_line : List ℕ → List (List ℕ)
last_line [] = []
last_line (byte ∷ bytes) = (byte ∷ bytes) ∷ []

module _ {Order Answer State : Type 0} (asking : Asking Order Answer State) where
  -- One more line was answered: what it asks for beside what the lines before it do, has these answers, and their text stands behind what was to be said before.
  pub record IsLineAnswered (lines : List (List ℕ)) (as_ : List Answer) (line before after : List ℕ) (more : List Answer) : Type 0 where
    pub asked : List Order
    pub orders : asking.orders (lines ++ line ∷ []) ≡ asking.orders lines ++ asked
    pub given : AreDeskAnswers asking (state_behind asking asking.start (asking.orders lines) as_) asked more
    pub text : after ≡ before ++ text_of asking (state_behind asking asking.start (asking.orders lines) as_) asked more

  -- These whole lines were heard, and bytes behind them; the lines were answered, and each before more was heard.
  pub record IsHeardTo (lines : List (List ℕ)) (rest : List ℕ) (as_ : List Answer) (pieces : List Piece) : Type 0 where
    pub heard : heard_in pieces ≡ flat_map with_feed lines ++ rest
    pub ones : All HasNoLineEnd lines
    pub answers : AreDeskAnswers asking asking.start (asking.orders lines) as_
    pub in_step : IsInStep asking as_ [] [] pieces

  -- All whole lines that were heard are answered, and it was said.
  pub record ConversationStands (lines : List (List ℕ)) (rest : List ℕ) (as_ : List Answer) (pieces : List Piece) : Type 0 where
    pub lines_heard : IsHeardTo lines rest as_ pieces
    pub one : HasNoLineEnd rest
    pub said : said_in pieces ≡ due asking lines as_

  -- The input came to its end, behind these lines and a last one that has no line feed, or 2 ^ 64 - 1 lines or pieces were heard and the others were not.
  pub record IsConversationOver (lines : List (List ℕ)) (rest unheard : List ℕ) (pieces : List Piece) : Type 0 where
    pub one : HasNoLineEnd rest
    pub over : (unheard ≡ []) ⊎ ((2 ^ 64 - 1 ≤ asking.first + length lines) ⊎ (2 ^ 64 - 1 ≤ length pieces))

-- What may be said at the end, behind these lines and the answers to them, is told by `ends`.
module _ {Order Answer State : Type 0} (asking : Asking Order Answer State) (ends : List (List ℕ) → List Answer → List ℕ → Type 0) where
  -- What is said behind these lines: the answers to a last line that has no line feed, if there is one, and what ends the conversation.
  pub record IsLast (lines : List (List ℕ)) (as_ : List Answer) (line text : List ℕ) (more : List Answer) : Type 0 where
    pub final : List ℕ
    pub answers : AreDeskAnswers asking asking.start (asking.orders (lines ++ last_line line)) (as_ ++ more)
    pub all : due asking lines as_ ++ text ≡ due asking (lines ++ last_line line) (as_ ++ more) ++ final
    pub ends_so : ends (lines ++ last_line line) (as_ ++ more) final

  -- The text that is due next, behind these lines and their answers, where these bytes were heard behind the lines: that of one more line, or what ends the conversation.
  pub data IsNext (lines : List (List ℕ)) (as_ : List Answer) (rest text : List ℕ) : Type 0 where
    for_line : (line pending : List ℕ) (more : List Answer) → rest ≡ line ++ 10 ∷ pending → IsLineAnswered asking lines as_ line [] text more → IsNext lines as_ rest text
    at_end : (line unheard : List ℕ) (more : List Answer) → rest ≡ line ++ unheard → IsLast lines as_ line text more → IsNext lines as_ rest text

  pub data Conversed (pieces : List Piece) : Result (Unit {0}) TalkFault → Type 0 where
    -- it is over: all lines are answered, and what ends the conversation was said behind that
    ended : (lines : List (List ℕ)) (rest unheard : List ℕ) (as_ more : List Answer) (text : List ℕ) → IsHeardTo asking lines (rest ++ unheard) as_ pieces → IsConversationOver asking lines rest unheard pieces
        → IsLast lines as_ rest text more → said_in pieces ≡ due asking lines as_ ++ text → Conversed pieces (Ok tt)
    -- hearing failed: all that was heard is answered, and it was said
    deaf : (lines : List (List ℕ)) (rest : List ℕ) (as_ : List Answer) → ConversationStands asking lines rest as_ pieces → Conversed pieces (Err fault.Hearing)
    -- saying failed: a front of what was due was said, and nothing was heard after it
    mute : (lines : List (List ℕ)) (rest : List ℕ) (as_ : List Answer) (text : List ℕ) (n : ℕ) → IsHeardTo asking lines rest as_ pieces → IsNext lines as_ rest text
        → said_in pieces ≡ due asking lines as_ ++ take n text → Conversed pieces (Err fault.Saying)
    -- memory ran out for what was to be said next: all before it was said
    short : (lines : List (List ℕ)) (rest : List ℕ) (as_ : List Answer) → IsHeardTo asking lines rest as_ pieces → said_in pieces ≡ due asking lines as_ → Conversed pieces (Err fault.NoMemory)
