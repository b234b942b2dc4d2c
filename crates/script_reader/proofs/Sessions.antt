-- The sessions of a script, read one after the other, of either kind.
use Rattle.std.proofs.Common.{◌≡◌, ◌≢◌, ◌⊎◌, inl, inr, ⊎_elim, ℕ, ◌+◌, ◌<◌, ◌≤◌, Bool, true, false, cond, ltb, List, [], ◌∷◌, ◌++◌, length, drop, get_or, map, Option, Some, None, unwrap_or, sym, ap, ◌∙◌, refl, subst, append_assoc, append-nil, arith, length-append}
use Rattle.std.specs.List.{flat_map, list_all}
use Rattle.knitout_reader.specs.Head.{names_in_line}
use Rattle.script_reader.specs.Grammar.{Grammar}
use Rattle.script_reader.specs.Places.{Say}
use Rattle.script_reader.specs.Reading.{IsAtHeading, IsAtSession, IsGrammarStop, StopsBehind}
use Rattle.script_reader.specs.Script.{session_cause}
use Rattle.script_reader.specs.Statements.{Statement, Text, Session, Command, Header, Mark, Nonsense, header_said, kind_of, statements_of, text_ahead, told_from}
use Rattle.script_reader.specs.declared.fault.Cause.TheVariants.{BadLine, ManySessions}
use Rattle.script_reader.specs.declared.fault.ScriptFault.{ScriptFault}
use Rattle.script_reader.specs.declared.fault.ScriptFault.TheVariants.{At}
use Rattle.script_reader.specs.declared.line.CommandLine.{CommandLine}
use Rattle.script_reader.specs.declared.line.Kind.{Kind}
use Rattle.script_reader.specs.declared.line.Kind.TheVariants as kind
use Rattle.script_reader.specs.declared.line.Mark as marks
use Rattle.script_reader.proofs.Bools.{all_snoc}
use Rattle.script_reader.proofs.Lines.{told_at}
use Rattle.script_reader.proofs.Ends.{flat-snoc}
use Rattle.script_reader.proofs.Places.{say_here, say_more, say_none}
use Rattle.script_reader.proofs.Stops.{stop_behind, stop_here}

-- how a grammar knows sessions: what was read is an opening text and sessions of such items
pub record KnowsSessions (g : Grammar) {X : Type 0} (state : List (List ℕ) → List (List X) → g.SoFar) (item_says : X → List Statement) (is_good : List X → Bool) : Type 0 where
  pub says : (text : List (List ℕ)) (sessions : List (List X)) → g.says (state text sessions) ≡ map Text text ++ flat_map (λ session. Session ∷ flat_map item_says session) sessions
  pub lawful : (text : List (List ℕ)) (sessions : List (List X)) → length sessions ≤ 64 → list_all is_good sessions ≡ true → g.IsLawful (state text sessions)
  pub session : (text : List (List ℕ)) (sessions : List (List X)) → g.cause_of (state text sessions) Session ≡ session_cause sessions
  pub command : (text : List (List ℕ)) (h : CommandLine) → g.cause_of (state text []) (Command h) ≡ Some BadLine
  pub header : (text : List (List ℕ)) (names : List (List ℕ)) → g.cause_of (state text []) (Header names) ≡ Some BadLine
  pub mark : (text : List (List ℕ)) (m : marks.Mark) → g.cause_of (state text []) (Mark m) ≡ Some BadLine
  pub nonsense : (text : List (List ℕ)) → g.cause_of (state text []) Nonsense ≡ Some BadLine
  pub good : is_good [] ≡ true

-- the sessions that were read from these lines, up to the place `at`
pub record SessionsSoFar {X : Type 0} (item_says : X → List Statement) (is_good : List X → Bool) (lines : List (List ℕ)) (start at : ℕ) (sessions : List (List X)) : Type 0 where
  pub says : Say lines start at (flat_map (λ session. Session ∷ flat_map item_says session) sessions)
  pub few : length sessions ≤ 64
  pub good : list_all is_good sessions ≡ true
  pub next : IsAtSession lines at ⊎ ((sessions ≡ []) × IsAtHeading lines at)

module _ {X : Type 0} (item_says : X → List Statement) (is_good : List X → Bool) (lines : List (List ℕ)) where
  pub sessions_begin : (start : ℕ) → start ≤ length lines → IsAtHeading lines start → SessionsSoFar item_says is_good lines start start []
  sessions_begin start high heading = record { says = say_none lines start high; few = omega arith; good = refl; next = inr (refl, heading) }

  begun : (at : ℕ) → at < length lines → kind_of (get_or lines at []) ≡ kind.Session → Say lines at (at + 1) (Session ∷ [])
  begun at within is = say_here lines at Session within (told_at lines at within false kind.Session is) refl

  pub session_more : (start at : ℕ) (sessions : List (List X)) (items : List X) (next : ℕ) → at < length lines → SessionsSoFar item_says is_good lines start at sessions → kind_of (get_or lines at []) ≡ kind.Session → length sessions ≢ 64
      → Say lines (at + 1) next (flat_map item_says items) → is_good items ≡ true → IsAtSession lines next → SessionsSoFar item_says is_good lines start next (sessions ++ items ∷ [])
  session_more start at sessions items next within s is not_many says good ends = record {
    says = subst (Say lines start next) (sym (flat-snoc (λ session. Session ∷ flat_map item_says session) sessions items))
        (say_more lines start at next (flat_map (λ session. Session ∷ flat_map item_says session) sessions) (Session ∷ flat_map item_says items) s.says
        (say_more lines at (at + 1) next (Session ∷ []) (flat_map item_says items) (begun at within is) says));
    few = let few = s.few in omega (arith, not_many, length-append sessions (items ∷ []));
    good = all_snoc is_good sessions items s.good good;
    next = inl ends;
  }

  module _ (g : Grammar) (state : List (List ℕ) → List (List X) → g.SoFar) (knows : KnowsSessions g state item_says is_good) where
    -- what was read goes on behind the opening text
    grows : (text : List (List ℕ)) (sessions : List (List X)) → g.says (state text sessions) ≡ g.says (state text []) ++ flat_map (λ session. Session ∷ flat_map item_says session) sessions
    grows text sessions = knows.says text sessions ∙ ap (λ l. l ++ flat_map (λ session. Session ∷ flat_map item_says session) sessions) (sym (knows.says text [] ∙ append-nil (map Text text)))

    pub session_grows : (text : List (List ℕ)) (done : List (List X)) (items : List X) → g.says (state text (done ++ items ∷ [])) ≡ g.says (state text (done ++ [] ∷ [])) ++ flat_map item_says items
    session_grows text done items =
        let says : List X → List Statement = λ session. Session ∷ flat_map item_says session in
        let whole : (session : List X) → g.says (state text (done ++ session ∷ [])) ≡ (map Text text ++ flat_map says done) ++ (Session ∷ flat_map item_says session) =
        λ session. knows.says text (done ++ session ∷ []) ∙ ap (λ l. map Text text ++ l) (flat-snoc says done session) ∙ sym (append_assoc (map Text text) (flat_map says done) (Session ∷ flat_map item_says session)) in
        whole items
        ∙ sym (append_assoc (map Text text ++ flat_map says done) (Session ∷ []) (flat_map item_says items))
        ∙ ap (λ l. l ++ flat_map item_says items) (sym (whole []))

    -- a heading that can't begin a script's first session
    heading_stops : (text : List (List ℕ)) (at : ℕ) → at < length lines → (k : Kind) → kind_of (get_or lines at []) ≡ k → k ≢ kind.Session → k ≢ kind.Skipped → k ≢ kind.Text → StopsBehind g (state text []) lines at (at + 1) BadLine
    heading_stops text at within k is not_session not_skipped not_text = go k is not_session not_skipped not_text
      where
        stops : (x : Statement) (back : List Statement) → statements_of (drop at lines) ≡ x ∷ back → g.cause_of (state text []) x ≡ Some BadLine → StopsBehind g (state text []) lines at (at + 1) BadLine
        stops x back told cause = stop_here g (state text []) lines at x back BadLine (knows.lawful text [] (omega arith) refl) told cause

        header : (ahead : Option (List ℕ)) → statements_of (drop at lines) ≡ header_said ahead ∷ told_from true (drop (at + 1) lines) → StopsBehind g (state text []) lines at (at + 1) BadLine
        header None told = stops Nonsense (told_from true (drop (at + 1) lines)) told (knows.nonsense text)
        header (Some t) told = stops (Header (unwrap_or (names_in_line t) [])) (told_from true (drop (at + 1) lines)) told (knows.header text (unwrap_or (names_in_line t) []))

        go : (k : Kind) → kind_of (get_or lines at []) ≡ k → k ≢ kind.Session → k ≢ kind.Skipped → k ≢ kind.Text → StopsBehind g (state text []) lines at (at + 1) BadLine
        go kind.Skipped is a b c = absurd (b refl)
        go kind.Text is a b c = absurd (c refl)
        go kind.Session is a b c = absurd (a refl)
        go (kind.Command h) is a b c = stops (Command h) (statements_of (drop (at + 1) lines)) (told_at lines at within false (kind.Command h) is) (knows.command text h)
        go kind.Header is a b c = header (text_ahead (drop (at + 1) lines)) (told_at lines at within false kind.Header is)
        go (kind.Mark m) is a b c = stops (Mark m) (statements_of (drop (at + 1) lines)) (told_at lines at within false (kind.Mark m) is) (knows.mark text m)
        go kind.Other is a b c = stops Nonsense (statements_of (drop (at + 1) lines)) (told_at lines at within false kind.Other is) (knows.nonsense text)

    module _ (start at : ℕ) (sessions : List (List X)) (within : at < length lines) (s : SessionsSoFar item_says is_good lines start at sessions) where
      pub no_session_stops : kind_of (get_or lines at []) ≢ kind.Session → (text : List (List ℕ)) → IsGrammarStop g (state text []) lines start (At (at + 1) BadLine)
      no_session_stops isnt text = ⊎_elim
          (λ is. absurd (isnt (is within)))
          (λ first. stop_behind g (state text []) (state text []) lines start at [] (At (at + 1) BadLine)
          (subst (λ (l : List (List X)). Say lines start at (flat_map (λ session. Session ∷ flat_map item_says session) l)) first.0 s.says) (sym (append-nil (g.says (state text []))))
          (inl (heading_stops text at within (kind_of (get_or lines at [])) refl isnt (first.1.said within) (first.1.no_text within))))
          s.next

      pub many_stops : kind_of (get_or lines at []) ≡ kind.Session → length sessions ≡ 64 → (text : List (List ℕ)) → IsGrammarStop g (state text []) lines start (At (at + 1) ManySessions)
      many_stops is many text = stop_behind g (state text []) (state text sessions) lines start at (flat_map (λ session. Session ∷ flat_map item_says session) sessions) (At (at + 1) ManySessions) s.says (grows text sessions)
          (inl (stop_here g (state text sessions) lines at Session (statements_of (drop (at + 1) lines)) ManySessions (knows.lawful text sessions s.few s.good) (told_at lines at within false kind.Session is)
          (knows.session text sessions ∙ ap (λ n. cond (ltb n 64) None (Some ManySessions)) many)))

      pub session_stops : (fault : ScriptFault) → kind_of (get_or lines at []) ≡ kind.Session → length sessions ≢ 64
          → ((text : List (List ℕ)) (done : List (List X)) → g.IsLawful (state text (done ++ [] ∷ [])) → IsGrammarStop g (state text (done ++ [] ∷ [])) lines (at + 1) fault)
          → (text : List (List ℕ)) → IsGrammarStop g (state text []) lines start fault
      session_stops fault is not_many refused text =
          let few : length (sessions ++ [] ∷ []) ≤ 64 = let few = s.few in omega (arith, not_many, length-append sessions ([] ∷ [])) in
          let all : List Statement = flat_map (λ session. Session ∷ flat_map item_says session) (sessions ++ [] ∷ []) in
          stop_behind g (state text []) (state text (sessions ++ [] ∷ [])) lines start (at + 1) all fault
          (subst (Say lines start (at + 1)) (sym (flat-snoc (λ session. Session ∷ flat_map item_says session) sessions []))
          (say_more lines start at (at + 1) (flat_map (λ session. Session ∷ flat_map item_says session) sessions) (Session ∷ []) s.says (begun at within is)))
          (grows text (sessions ++ [] ∷ []))
          (refused text sessions (knows.lawful text (sessions ++ [] ∷ []) few (all_snoc is_good sessions [] s.good knows.good)))
