-- What the loop of a conversation keeps.
use Rattle.std.proofs.Common.{◌≡◌, ℕ, suc, ◌+◌, ◌-◌, ◌^◌, ◌≤◌, List, [], ◌∷◌, ◌++◌, length, None, Some, inl, inr, ap, ◌∙◌, append_assoc, append-nil, subst, sym, refl, arith, length-append}
use Rattle.std.specs.Prelude.{Result, Ok, Err, flat_map}
use Rattle.std.proofs.lemmas.List.Concat.{flat_map-append}
use Rattle.std.proofs.lemmas.List.Elements.{All-nil, All-push}
use Rattle.std.specs.declared.option.Option.{Option}
use Rattle.knit_base.specs.Lines.{HasNoLineEnd}
use Rattle.knit_ports.specs.Pieces.{Piece, Heard, AreSaid, PiecesGoOn, Says, SaysFront, heard_in, said_in}
use Rattle.knit_ports.specs.Ears.{AreWaitedFor, EarView, IsFrontHeard, IsLineHeard}
use Rattle.knit_ports.specs.declared.ear.LineEnd.{LineEnd}
use Rattle.knit_ports.specs.declared.ear.LineEnd.TheVariants.{LineFeed, InputEnd, Endless}
use Rattle.knit_ports.specs.WholeLines.{with_feed}
use Rattle.knit_ports.proofs.HeardLines.{heard_in-append}
use Rattle.knit_ports.proofs.SaidPieces.{goes-trans, said_in-append}
use Rattle.talk_loop.specs.InStep.{Asking, AreDeskAnswers, due, text_of}
use Rattle.talk_loop.specs.Conversed.{Conversed, ended, deaf, mute, short, IsLineAnswered, IsHeardTo, for_line, at_end, IsConversationOver}
use Rattle.talk_loop.specs.Finished.{Finishes}
use Rattle.talk_loop.specs.declared.conversation.TalkFault.{TalkFault}
use Rattle.talk_loop.specs.declared.conversation.TalkFault.TheVariants as fault
use Rattle.talk_loop.proofs.Steps.{answers-many, answers-more, said-deaf, said-steps, step-answers, step-append, text-more, waited-silent, waited-steps}

goes-none : (a : Option (List Piece)) → PiecesGoOn a a []
goes-none None = tt
goes-none (Some ps) = sym (append-nil ps)

module _ {Order Answer State : Type 0} (asking : Asking Order Answer State) (ends : List (List ℕ) → List Answer → List ℕ → Type 0) (behind : List (List ℕ) → List Answer → Type 0) (old : Option (List Piece)) (began : List ℕ) where
  -- So many lines were heard and answered, and it was said. What was pending at first is the first piece.
  pub record SoFar (now : Option (List Piece)) (pending : List ℕ) (number : ℕ) : Type 0 where
    pub pieces : List Piece
    pub lines : List (List ℕ)
    pub answers : List Answer
    pub goes : PiecesGoOn old now pieces
    pub stands : behind lines answers
    pub lines_heard : IsHeardTo asking lines pending answers (Heard began ∷ pieces)
    pub said : said_in pieces ≡ due asking lines answers
    pub counted : number ≡ asking.first + length lines

  pub so_far_at_start : (number : ℕ) (pending : List ℕ) → pending ≡ began → number ≡ asking.first → asking.orders [] ≡ [] → behind [] [] → SoFar old pending number
  so_far_at_start number pending same first none stands =
      let given : AreDeskAnswers asking asking.start (asking.orders []) [] = subst (λ (l : List Order). AreDeskAnswers asking asking.start l []) (sym none) tt in
      let nothing : [] ≡ due asking [] [] = ap (λ (l : List Order). text_of asking asking.start l []) (sym none) in
      record {
        pieces = [];
        lines = [];
        answers = [];
        goes = goes-none old;
        stands = stands;
        lines_heard = record {
          heard = append-nil began ∙ sym same;
          ones = All-nil HasNoLineEnd;
          answers = given;
          in_step = (subst (λ (l : List Order). length l ≤ 0) (sym none) (omega arith), nothing, tt);
        };
        said = nothing;
        counted = omega (arith, first);
      }

  -- More was heard where all was said: so these lines stand, and bytes behind them.
  pub hears : (now new : Option (List Piece)) (pending : List ℕ) (number : ℕ) (s : SoFar now pending number) (ps : List Piece) → AreWaitedFor pending ps
      → IsHeardTo asking s.lines (pending ++ heard_in ps) s.answers (Heard began ∷ (s.pieces ++ ps))
  hears now new pending number s ps w =
      let h = s.lines_heard in
      let flat : List ℕ = flat_map with_feed s.lines in
      let few : length (asking.orders s.lines) ≤ length s.answers = let many = answers-many asking asking.start (asking.orders s.lines) s.answers h.answers in omega (arith, many) in
      record {
        heard = ap (λ (l : List ℕ). began ++ l) (heard_in-append s.pieces ps) ∙ sym (append_assoc began (heard_in s.pieces) (heard_in ps)) ∙ ap (λ (l : List ℕ). l ++ heard_in ps) h.heard ∙ append_assoc flat pending (heard_in ps);
        ones = h.ones;
        answers = h.answers;
        in_step = step-append asking s.answers [] [] (Heard began ∷ s.pieces) ps h.in_step (waited-steps asking s.lines s.answers (began ++ heard_in s.pieces) (said_in s.pieces) pending ps h.ones few h.heard s.said w);
      }

  -- nothing was said meanwhile
  pub still-said : (now : Option (List Piece)) (pending : List ℕ) (number : ℕ) (s : SoFar now pending number) (ps : List Piece) → AreWaitedFor pending ps → said_in (s.pieces ++ ps) ≡ due asking s.lines s.answers
  still-said now pending number s ps w = said_in-append s.pieces ps ∙ ap (λ (l : List ℕ). said_in s.pieces ++ l) (waited-silent pending ps w) ∙ append-nil (said_in s.pieces) ∙ s.said

  -- pieces are said behind those that were heard
  pub says-on : (as_ : List Answer) (lines : List (List ℕ)) (rest : List ℕ) (ps qs : List Piece) → IsHeardTo asking lines rest as_ ps → AreSaid qs → IsHeardTo asking lines rest as_ (ps ++ qs)
  says-on as_ lines rest ps qs h only = record {
    heard = heard_in-append ps qs ∙ ap (λ (l : List ℕ). heard_in ps ++ l) (said-deaf qs only) ∙ append-nil (heard_in ps) ∙ h.heard;
    ones = h.ones;
    answers = h.answers;
    in_step = step-append asking as_ [] [] ps qs h.in_step (said-steps asking as_ (heard_in ps) (said_in ps) qs only);
  }

  -- one more line is answered
  pub line-more : (lines : List (List ℕ)) (line pending : List ℕ) (as_ more : List Answer) (text : List ℕ) (ps : List Piece) → IsHeardTo asking lines (line ++ 10 ∷ pending) as_ ps → HasNoLineEnd line → IsLineAnswered asking lines as_ line [] text more
      → IsHeardTo asking (lines ++ line ∷ []) pending (as_ ++ more) ps
  line-more lines line pending as_ more text ps h one a = record {
    heard = h.heard ∙ ap (λ (l : List ℕ). flat_map with_feed lines ++ l) (sym (append_assoc line (10 ∷ []) pending)) ∙ sym (append_assoc (flat_map with_feed lines) (with_feed line) pending)
        ∙ ap (λ (l : List ℕ). (flat_map with_feed lines ++ l) ++ pending) (sym (append-nil (with_feed line))) ∙ ap (λ (l : List ℕ). l ++ pending) (sym (flat_map-append with_feed lines (line ∷ [])));
    ones = All-push HasNoLineEnd lines line h.ones one;
    answers = subst (λ (l : List Order). AreDeskAnswers asking asking.start l (as_ ++ more)) (sym a.orders) (answers-more asking asking.start (asking.orders lines) as_ a.asked more h.answers a.given);
    in_step = step-answers asking as_ more [] [] ps h.in_step;
  }

  -- and what is due then
  pub due-more : (lines : List (List ℕ)) (line : List ℕ) (as_ more : List Answer) (text : List ℕ) → AreDeskAnswers asking asking.start (asking.orders lines) as_ → IsLineAnswered asking lines as_ line [] text more
      → due asking (lines ++ line ∷ []) (as_ ++ more) ≡ due asking lines as_ ++ text
  due-more lines line as_ more text h a =
      ap (λ (l : List Order). text_of asking asking.start l (as_ ++ more)) a.orders ∙ text-more asking asking.start (asking.orders lines) as_ a.asked more h ∙ ap (λ (l : List ℕ). due asking lines as_ ++ l) (sym a.text)

  abbrev pub Ended : Option (List Piece) → Result (Unit {0}) TalkFault → Type 0
  Ended new r = (pieces : List Piece) × PiecesGoOn old new pieces × Conversed asking ends (Heard began ∷ pieces) r

  -- hearing failed
  pub hearing-failed : (now new : Option (List Piece)) (before after : EarView) (number : ℕ) (s : SoFar now before.pending number) → IsFrontHeard now new before after → Ended new (Err fault.Hearing)
  hearing-failed now new before after number s h = (
    s.pieces ++ h.pieces,
    goes-trans old now new s.pieces h.pieces s.goes h.goes,
    deaf s.lines (before.pending ++ heard_in h.pieces) s.answers record {
      lines_heard = hears now new before.pending number s h.pieces h.waited;
      one = h.one;
      said = still-said now before.pending number s h.pieces h.waited;
    },
  )

  -- memory ran out behind what was heard
  pub memory-failed : (now heard : Option (List Piece)) (before after : EarView) (number : ℕ) (s : SoFar now before.pending number) (h : IsLineHeard now heard before after LineFeed) → Ended heard (Err fault.NoMemory)
  memory-failed now heard before after number s h =
      let ps : List Piece = h.pieces ++ [] in (
        s.pieces ++ ps,
        goes-trans old now heard s.pieces ps s.goes h.goes,
        short s.lines (before.pending ++ heard_in ps) s.answers (hears now heard before.pending number s ps h.waited) (still-said now before.pending number s ps h.waited),
      )

  -- saying failed behind a line
  pub saying-failed : (now heard new : Option (List Piece)) (before after : EarView) (number : ℕ) (s : SoFar now before.pending number) (h : IsLineHeard now heard before after LineFeed) (more : List Answer) (text : List ℕ)
      → IsLineAnswered asking s.lines s.answers h.line [] text more → SaysFront heard new text → Ended new (Err fault.Saying)
  saying-failed now heard new before after number s h more text a says =
      let ps : List Piece = h.pieces ++ [] in
      let front = says.2 in (
        (s.pieces ++ ps) ++ front.0,
        goes-trans old heard new (s.pieces ++ ps) front.0 (goes-trans old now heard s.pieces ps s.goes h.goes) front.1,
        mute s.lines (before.pending ++ heard_in ps) s.answers text says.0
            (says-on s.answers s.lines (before.pending ++ heard_in ps) (Heard began ∷ (s.pieces ++ ps)) front.0 (hears now heard before.pending number s ps h.waited) front.2)
            (for_line h.line after.pending more (ap (λ (l : List Piece). before.pending ++ heard_in l) (append-nil h.pieces) ∙ h.ends) a)
            (said_in-append (s.pieces ++ ps) front.0 ∙ ap (λ (l : List ℕ). l ++ said_in front.0) (still-said now before.pending number s ps h.waited) ∙ ap (λ (l : List ℕ). due asking s.lines s.answers ++ l) front.3),
      )

  -- the end, behind pieces that were waited for
  pub finished : (now heard new : Option (List Piece)) (pending : List ℕ) (number : ℕ) (s : SoFar now pending number) (ps : List Piece) (line unheard : List ℕ) (r : Result (Unit {0}) TalkFault) → PiecesGoOn now heard ps → AreWaitedFor pending ps
      → pending ++ heard_in ps ≡ line ++ unheard → ((qs : List Piece) → IsConversationOver asking s.lines line unheard (Heard began ∷ ((s.pieces ++ ps) ++ qs)))
      → Finishes asking ends s.lines line s.answers heard new r → Ended new r
  finished now heard new pending number s ps line unheard (Ok done) goes w parted overs f =
      let says = f.said in
      let known : IsHeardTo asking s.lines (line ++ unheard) s.answers (Heard began ∷ (s.pieces ++ ps)) = subst (λ (l : List ℕ). IsHeardTo asking s.lines l s.answers (Heard began ∷ (s.pieces ++ ps))) parted (hears now heard pending number s ps w) in (
        (s.pieces ++ ps) ++ says.0,
        goes-trans old heard new (s.pieces ++ ps) says.0 (goes-trans old now heard s.pieces ps s.goes goes) says.1,
        ended s.lines line unheard s.answers f.more f.text (says-on s.answers s.lines (line ++ unheard) (Heard began ∷ (s.pieces ++ ps)) says.0 known says.2) (overs says.0) f.last
            (said_in-append (s.pieces ++ ps) says.0 ∙ ap (λ (l : List ℕ). l ++ said_in says.0) (still-said now pending number s ps w) ∙ ap (λ (l : List ℕ). due asking s.lines s.answers ++ l) says.3),
      )
  finished now heard new pending number s ps line unheard (Err fault.Hearing) goes w parted overs f = absurd f
  finished now heard new pending number s ps line unheard (Err fault.Saying) goes w parted overs f =
      let says = f.said.2 in
      let known : IsHeardTo asking s.lines (line ++ unheard) s.answers (Heard began ∷ (s.pieces ++ ps)) = subst (λ (l : List ℕ). IsHeardTo asking s.lines l s.answers (Heard began ∷ (s.pieces ++ ps))) parted (hears now heard pending number s ps w) in (
        (s.pieces ++ ps) ++ says.0,
        goes-trans old heard new (s.pieces ++ ps) says.0 (goes-trans old now heard s.pieces ps s.goes goes) says.1,
        mute s.lines (line ++ unheard) s.answers f.text f.said.0 (says-on s.answers s.lines (line ++ unheard) (Heard began ∷ (s.pieces ++ ps)) says.0 known says.2) (at_end line unheard f.more refl f.last)
            (said_in-append (s.pieces ++ ps) says.0 ∙ ap (λ (l : List ℕ). l ++ said_in says.0) (still-said now pending number s ps w) ∙ ap (λ (l : List ℕ). due asking s.lines s.answers ++ l) says.3),
      )
  finished now heard new pending number s ps line unheard (Err fault.NoMemory) goes w parted overs f = (
    s.pieces ++ ps,
    subst (λ (t : Option (List Piece)). PiecesGoOn old t (s.pieces ++ ps)) (sym f) (goes-trans old now heard s.pieces ps s.goes goes),
    short s.lines (pending ++ heard_in ps) s.answers (hears now heard pending number s ps w) (still-said now pending number s ps w),
  )

  -- the input came to its end, or no feed to the line
  pub input-over : (now heard new : Option (List Piece)) (before after : EarView) (number : ℕ) (s : SoFar now before.pending number) (end : LineEnd) (h : IsLineHeard now heard before after end) (r : Result (Unit {0}) TalkFault) → (end ≡ LineFeed → ⊥)
      → Finishes asking ends s.lines h.line s.answers heard new r → Ended new r
  input-over now heard new before after number s LineFeed h r not f = absurd (not refl)
  input-over now heard new before after number s InputEnd h r not f =
      finished now heard new before.pending number s (h.pieces ++ Heard [] ∷ []) h.line [] r h.goes h.waited
      (ap (λ (l : List ℕ). before.pending ++ l) (heard_in-append h.pieces (Heard [] ∷ []) ∙ append-nil (heard_in h.pieces)) ∙ h.ends.0 ∙ sym (append-nil h.line)) (λ qs. record { one = h.one; over = inl refl }) f
  input-over now heard new before after number s Endless h r not f =
      finished now heard new before.pending number s (h.pieces ++ []) h.line after.pending r h.goes h.waited (ap (λ (l : List Piece). before.pending ++ heard_in l) (append-nil h.pieces) ∙ h.ends.0)
      (λ qs. record {
        one = h.one;
        over = inr (inr (
            let all : length (Heard began ∷ ((s.pieces ++ (h.pieces ++ [])) ++ qs)) ≡ suc (length s.pieces + (length h.pieces + 0) + length qs) = ap suc (length-append (s.pieces ++ (h.pieces ++ [])) qs ∙ ap (λ (n : ℕ). n + length qs) (length-append s.pieces (h.pieces ++ []) ∙ ap (λ (n : ℕ). length s.pieces + n) (length-append h.pieces []))) in
            let many : length h.pieces ≡ 2 ^ 64 - 1 = h.ends.1 in omega (arith, all, many)));
      }) f

  -- so many lines were heard that no more are
  pub count-over : (now new : Option (List Piece)) (pending : List ℕ) (number : ℕ) (s : SoFar now pending number) (r : Result (Unit {0}) TalkFault) → 2 ^ 64 - 1 ≤ number → Finishes asking ends s.lines [] s.answers now new r → Ended new r
  count-over now new pending number s r many f =
      finished now now new pending number s [] [] pending r (goes-none now) tt (append-nil pending) (λ qs. record { one = λ k d lt e. omega (arith, lt); over = inr (inl (let counted : number ≡ asking.first + length s.lines = s.counted in omega (arith, many, counted))) }) f

-- one more line is answered, by whom the next line will be, and its text is said
module _ {Order Answer State : Type 0} (asking : Asking Order Answer State) (ends : List (List ℕ) → List Answer → List ℕ → Type 0) (behind next : List (List ℕ) → List Answer → Type 0) (old : Option (List Piece)) (began : List ℕ) where
  pub goes-on : (now heard new : Option (List Piece)) (before after : EarView) (number : ℕ) (s : SoFar asking ends behind old began now before.pending number) (h : IsLineHeard now heard before after LineFeed) (more : List Answer) (text : List ℕ)
      → next (s.lines ++ h.line ∷ []) (s.answers ++ more) → IsLineAnswered asking s.lines s.answers h.line [] text more → Says heard new text → SoFar asking ends next old began new after.pending (number + 1)
  goes-on now heard new before after number s h more text stands a says =
      let ps : List Piece = h.pieces ++ [] in
      let heard_to = hears asking ends behind old began now heard before.pending number s ps h.waited in
      let known : IsHeardTo asking s.lines (h.line ++ 10 ∷ after.pending) s.answers (Heard began ∷ (s.pieces ++ ps)) =
      subst (λ (l : List ℕ). IsHeardTo asking s.lines l s.answers (Heard began ∷ (s.pieces ++ ps))) (ap (λ (l : List Piece). before.pending ++ heard_in l) (append-nil h.pieces) ∙ h.ends) heard_to in
      record {
        pieces = (s.pieces ++ ps) ++ says.0;
        lines = s.lines ++ h.line ∷ [];
        answers = s.answers ++ more;
        goes = goes-trans old heard new (s.pieces ++ ps) says.0 (goes-trans old now heard s.pieces ps s.goes h.goes) says.1;
        stands = stands;
        lines_heard = says-on asking ends behind old began (s.answers ++ more) (s.lines ++ h.line ∷ []) after.pending (Heard began ∷ (s.pieces ++ ps)) says.0
            (line-more asking ends behind old began s.lines h.line after.pending s.answers more text (Heard began ∷ (s.pieces ++ ps)) known h.one a) says.2;
        said = said_in-append (s.pieces ++ ps) says.0 ∙ ap (λ (l : List ℕ). l ++ said_in says.0) (still-said asking ends behind old began now before.pending number s ps h.waited) ∙ ap (λ (l : List ℕ). due asking s.lines s.answers ++ l) says.3
            ∙ sym (due-more asking ends behind old began s.lines h.line s.answers more text s.lines_heard.answers a);
        counted = ap (λ (n : ℕ). n + 1) s.counted ∙ omega (arith, length-append s.lines (h.line ∷ []));
      }
