-- What a text line makes of the state of a listener, and what a line leaves.
use Rattle.std.proofs.Common.{◌≡◌, ℕ, zero, suc, ◌-◌, ◌<◌, List, [], ◌∷◌, ◌++◌, Some, None, ap, ◌∙◌, sym, subst, arith}
use Rattle.knitout_reader.specs.Head.{names_in_line}
use Rattle.script_reader.specs.Hearing.{Block, Hearing, Order, edit_awaited, header_heard, text_added, text_heard}
use Rattle.script_reader.specs.Listener.{AreCounts, Hears, HoldsGroup, IsTextTooLong, IsListenerMoved, IsState, KeepsItems, adds_behind, line_of_edit}
use Rattle.script_reader.specs.declared.command.Command as declared
use Rattle.script_reader.specs.declared.line.CommandLine.{CommandLine}
use Rattle.script_reader.specs.declared.listener.Listener.{Listener}
use Rattle.script_reader.specs.declared.listener.state.LongText.{LongText}
use Rattle.script_reader.specs.declared.listener.state.ListenerMove.{ListenerMove}
use Rattle.script_reader.specs.declared.listener.state.OpenGroup.{OpenGroup}
use Rattle.script_reader.specs.declared.listener.state.PartText.{PartText}
use Rattle.script_reader.specs.declared.listener.state.State.{State}
use Rattle.script_reader.specs.declared.listener.state.State.TheVariants as states

-- one of the missing lines
one_added : (h : Hearing) (number : ℕ) (c : CommandLine) (missing : ℕ) (before : List (List ℕ)) (text : List ℕ) → 0 < missing
    → text_added h number (Block c) missing before text ≡ edit_awaited h h.session c (missing - 1) (before ++ text ∷ [])
one_added h number c zero before text some = absurd (omega (arith, some))
one_added h number c (suc missing) before text some =
    let less : missing ≡ suc missing - 1 = omega arith in
    ap (λ (n : ℕ). edit_awaited h h.session c n (before ++ text ∷ [])) less

-- the names of the header
pub names_heard : (m : ListenerMove) (h : Hearing) (number session : ℕ) (state : State) (text : List ℕ) → state ≡ states.Header session → IsState state h
    → (h.session ≡ session → h.group ≡ None → IsListenerMoved m h.adds number (header_heard h number (names_in_line text))) → IsListenerMoved m h.adds number (text_heard h h.awaiting number None text)
names_heard m h number session state text is stands told =
    let s : IsState (states.Header session) h = subst (λ (st : State). IsState st h) is stands in
    subst (IsListenerMoved m h.adds number) (sym (ap (λ a. text_heard h a number None text) s.2)) (told s.0 s.1)

-- a line of a text that is too long
pub long_line : (m : ListenerMove) (h : Hearing) (number : ℕ) (long : LongText) (state : State) (text : List ℕ) → state ≡ states.Long long → IsState state h
    → ((before : List (List ℕ)) → h.session ≡ long.session → h.group ≡ None → IsTextTooLong long before → IsListenerMoved m h.adds number (edit_awaited h h.session (line_of_edit long.edit) (long.missing - 1) (before ++ text ∷ [])))
    → IsListenerMoved m h.adds number (text_heard h h.awaiting number None text)
long_line m h number long state text is stands told =
    let s : IsState (states.Long long) h = subst (λ (st : State). IsState st h) is stands in
    let w = s.2 in
    subst (IsListenerMoved m h.adds number)
    (sym (ap (λ a. text_heard h a number None text) w.is ∙ one_added h number (line_of_edit long.edit) long.missing w.before text w.counts.some))
    (told w.before s.0 s.1 w.counts)

-- where a text has one more line
text_on : (h : Hearing) (number : ℕ) (part after : PartText) (before : List (List ℕ)) (text : List ℕ) → 0 < part.missing → after.edit ≡ part.edit → after.missing ≡ part.missing - 1
    → text_added h number (Block (line_of_edit part.edit)) part.missing before text ≡ edit_awaited h h.session (line_of_edit after.edit) after.missing (before ++ text ∷ [])
text_on h number part after before text some edit missing =
    one_added h number (line_of_edit part.edit) part.missing before text some
    ∙ ap (λ (n : ℕ). edit_awaited h h.session (line_of_edit part.edit) n (before ++ text ∷ [])) (sym missing)
    ∙ ap (λ e. edit_awaited h h.session (line_of_edit e) after.missing (before ++ text ∷ [])) (sym edit)

-- a line of a text that stands alone
pub part_line : (m : ListenerMove) (h : Hearing) (number : ℕ) (part after : PartText) (state : State) (text : List ℕ) → state ≡ states.Text part → IsState state h
    → after.session ≡ part.session → after.edit ≡ part.edit → after.missing ≡ part.missing - 1
    → ((before : List (List ℕ)) → KeepsItems part.lines before → KeepsItems after.lines (before ++ text ∷ []))
    → ((lines : List (List ℕ)) → h.session ≡ after.session → h.group ≡ None → KeepsItems after.lines lines → IsListenerMoved m h.adds number (edit_awaited h h.session (line_of_edit after.edit) after.missing lines))
    → IsListenerMoved m h.adds number (text_heard h h.awaiting number None text)
part_line m h number part after state text is stands session edit missing keeps told =
    let s : IsState (states.Text part) h = subst (λ (st : State). IsState st h) is stands in
    let w = s.2 in
    subst (IsListenerMoved m h.adds number)
    (sym (ap (λ a. text_heard h a number None text) w.is ∙ text_on h number part after w.before text w.some edit missing))
    (told (w.before ++ text ∷ []) (s.0 ∙ sym session) s.1 (keeps w.before w.kept))

-- a line of a text in a group
pub group_line : (m : ListenerMove) (h : Hearing) (number : ℕ) (group : OpenGroup) (part after : PartText) (state : State) (text : List ℕ) → state ≡ states.GroupText group part → IsState state h
    → after.edit ≡ part.edit → after.missing ≡ part.missing - 1
    → ((before : List (List ℕ)) → KeepsItems part.lines before → KeepsItems after.lines (before ++ text ∷ []))
    → ((commands : List declared.Command) (lines : List (List ℕ)) → h.session ≡ group.session → h.group ≡ Some commands → HoldsGroup group commands → group.edits < 64 → KeepsItems after.lines lines
    → IsListenerMoved m h.adds number (edit_awaited h h.session (line_of_edit after.edit) after.missing lines))
    → IsListenerMoved m h.adds number (text_heard h h.awaiting number None text)
group_line m h number group part after state text is stands edit missing keeps told =
    let s : IsState (states.GroupText group part) h = subst (λ (st : State). IsState st h) is stands in
    let o = s.0 in
    let w = s.2 in
    subst (IsListenerMoved m h.adds number)
    (sym (ap (λ a. text_heard h a number None text) w.is ∙ text_on h number part after w.before text w.some edit missing))
    (told o.edits (w.before ++ text ∷ []) o.session o.is o.holds s.1 (keeps w.before w.kept))

-- the listener behind a line
pub hears_on : (l : Listener) (m : ListenerMove) (h : Hearing) (number : ℕ) (told : List Order × Hearing) → IsListenerMoved m h.adds number told → AreCounts l.adds (adds_behind m.order h.adds) → l.state ≡ m.state
    → Hears l told.1
hears_on l m h number told moved counts same = record {
  counts = subst (AreCounts l.adds) (sym moved.counts) counts;
  state = subst (λ (st : State). IsState st told.1) (sym same) moved.state;
}
