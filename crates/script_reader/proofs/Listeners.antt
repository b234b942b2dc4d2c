-- What a line makes of the state of a listener.
use Rattle.std.proofs.Common.{◌≡◌, ℕ, ◌+◌, ◌<◌, ◌≤◌, true, false, nat_le, List, [], ◌∷◌, ◌++◌, length, min, Option, Some, None, ap, ◌∙◌, sym, refl, subst, arith}
use Rattle.std.specs.Str.{IsUtf8, is_utf8}
use Rattle.std.proofs.lemmas.Bool.{false_from_ne_true}
use Rattle.std.proofs.lemmas.List.{length-append}
use Rattle.std.proofs.lemmas.Str.{IsUtf8-from_is_utf8, is_utf8-from_IsUtf8}
use Rattle.knit_base.specs.Lines.{HasNoLineEnd, IsLine}
use Rattle.script_reader.specs.Groups.{commands_of_step}
use Rattle.script_reader.specs.Hearing.{Hearing, asked_alone, edit_awaited, command_with, fault_of, whole, with_adds}
use Rattle.script_reader.specs.Listener.{HoldsGroup, IsListenerMoved, KeepsItems, adds_behind, capped_adds, line_of_edit, listener_moved}
use Rattle.script_reader.specs.Orders.{edit_with}
use Rattle.script_reader.specs.Script.{adds_in, adds_of, command_line_in, names_known}
use Rattle.script_reader.specs.declared.command.Command as declared
use Rattle.script_reader.specs.declared.command.Command.TheVariants as command
use Rattle.script_reader.specs.declared.fault.Cause.TheVariants.{NotUtf8}
use Rattle.script_reader.specs.declared.line.CommandLine.{CommandLine}
use Rattle.script_reader.specs.declared.listener.state.ListenerMove.{ListenerMove}
use Rattle.script_reader.specs.declared.listener.state.OpenGroup.{OpenGroup}
use Rattle.script_reader.specs.declared.listener.state.State.TheVariants as states
use Rattle.script_reader.specs.declared.order.Order as declared_orders
use Rattle.script_reader.specs.declared.order.Order.TheVariants as order
use Rattle.script_reader.specs.declared.order.TextEdit.{TextEdit}
use Rattle.script_reader.specs.declared.order.TextEdit.TheVariants as edit
use Rattle.script_reader.specs.declared.step.Step.{Step}
use Rattle.script_reader.specs.declared.talk_line.Asked.{Asked}
use Rattle.script_reader.specs.declared.talk_line.Asked.TheVariants as asked
use Rattle.script_reader.proofs.Ends.{adds_more, adds_one}

-- a line that can be read
pub good_line : (line read : List ℕ) → length line ≤ 4096 → read ≡ line → IsUtf8 line → HasNoLineEnd line → (fault_of line ≡ None) × (read ≡ line) × IsLine read × (length read ≤ 4096)
good_line line read short same utf8 one =
    let fits : nat_le (length line) 4096 ≡ true = grind arith in
    let good : is_utf8 line ≡ true = is_utf8-from_IsUtf8 line utf8 in
    let is_line : IsLine line = record { utf8 = good; one = one; short = omega (arith, short) } in
    (rw (fits, good) refl, same, subst IsLine (sym same) is_line, rw same short)

pub bad_line : (line : List ℕ) → length line ≤ 4096 → (IsUtf8 line → ⊥) → fault_of line ≡ Some NotUtf8
bad_line line short bad =
    let fits : nat_le (length line) 4096 ≡ true = grind arith in
    let fails : is_utf8 line ≡ false = false_from_ne_true (is_utf8 line) (λ passes. bad (IsUtf8-from_is_utf8 line passes)) in
    rw (fits, fails) refl

-- a command whose names are known, and an edit
pub plain_known : (m : ListenerMove) (h : Hearing) (number session : ℕ) (a : Asked) (c : CommandLine) → a ≡ asked.Plain c → names_known (h.adds session) c ≡ true
    → IsListenerMoved m h.adds number (whole h session (command_with c [])) → IsListenerMoved m h.adds number (asked_alone h number session a)
plain_known m h number session a c is known told = rw is (rw known told)

pub edit_known : (m : ListenerMove) (h : Hearing) (number session count : ℕ) (a : Asked) (c : CommandLine) → a ≡ asked.Edit c count → names_known (h.adds session) c ≡ true
    → IsListenerMoved m h.adds number (edit_awaited h session c count []) → IsListenerMoved m h.adds number (asked_alone h number session a)
edit_known m h number session count a c is known told = rw is (rw known told)

few_adds : (c : declared.Command) → adds_of (command_line_in c) ≤ 1
few_adds (command.Look name) = omega arith
few_adds (command.Put name text) = omega arith
few_adds (command.Add place text) = omega arith
few_adds (command.Cut name) = omega arith
few_adds (command.LoopAt line) = omega arith
few_adds command.Verdict = omega arith
few_adds command.LookHead = omega arith
few_adds (command.PutHead names) = omega arith

-- a group with one more edit
pub holds_more : (before after : OpenGroup) (commands : List declared.Command) (c : declared.Command) → HoldsGroup before commands → before.edits < 64
    → after.edits ≡ min (before.edits + 1) 4294967295 → after.adds ≡ min (before.adds + adds_of (command_line_in c)) 4294967295 → KeepsItems after.commands (commands ++ c ∷ [])
    → HoldsGroup after (commands ++ c ∷ [])
holds_more before after commands c holds room edits adds kept =
    let count : length (commands ++ c ∷ []) ≡ length commands + 1 = length-append commands (c ∷ []) in
    let all : adds_in (commands ++ c ∷ []) ≡ adds_in commands + adds_of (command_line_in c) = adds_more commands (c ∷ []) ∙ ap (λ (n : ℕ). adds_in commands + n) (adds_one c) in
    let one = few_adds c in
    let e1 = holds.edits in
    let e2 = holds.few in
    let e3 = holds.adds in
    let e4 = holds.adds_few in
    record {
      edits = omega (arith, count, e1, e2, edits, room);
      few = omega (arith, count, e1, room);
      adds = omega (arith, all, e1, e3, e4, one, adds, room);
      adds_few = omega (arith, e1, e4, one, adds, edits, room);
      kept = kept;
    }

-- the same, of an edit with its text
pub holds_edit : (before after : OpenGroup) (commands : List declared.Command) (e : TextEdit) (lines : List (List ℕ)) (c : declared.Command) → c ≡ edit_with e lines
    → HoldsGroup before commands → before.edits < 64
    → after.edits ≡ min (before.edits + 1) 4294967295 → after.adds ≡ min (before.adds + adds_of (command_line_in c)) 4294967295 → KeepsItems after.commands (commands ++ c ∷ [])
    → HoldsGroup after (commands ++ edit_with e lines ∷ [])
holds_edit before after commands e lines c is holds room edits adds kept =
    subst (λ (one : declared.Command). HoldsGroup after (commands ++ one ∷ [])) is (holds_more before after commands c holds room edits adds kept)

-- and where it isn't kept
line_in_edit : (e : TextEdit) (lines : List (List ℕ)) → command_line_in (edit_with e lines) ≡ line_of_edit e
line_in_edit (edit.Put name) lines = refl
line_in_edit (edit.Add place) lines = refl

pub adds_of_edit_with : (before after : OpenGroup) (commands : List declared.Command) (e : TextEdit) (lines : List (List ℕ)) → HoldsGroup before commands → before.edits < 64
    → after.edits ≡ min (before.edits + 1) 4294967295 → after.adds ≡ min (before.adds + adds_of (line_of_edit e)) 4294967295 → KeepsItems after.commands (commands ++ edit_with e lines ∷ [])
    → HoldsGroup after (commands ++ edit_with e lines ∷ [])
adds_of_edit_with before after commands e lines holds room edits adds kept =
    holds_more before after commands (edit_with e lines) holds room edits
    (subst (λ (line : CommandLine). after.adds ≡ min (before.adds + adds_of line) 4294967295) (sym (line_in_edit e lines)) adds) kept

-- lines that are kept are those that were heard
pub kept_lines : (kept : Option (List (List ℕ))) (held lines : List (List ℕ)) → kept ≡ Some held → KeepsItems kept lines → held ≡ lines
kept_lines kept held lines is keeps = rw is at keeps

-- the adds of a step
pub adds_counted : (all : ℕ → ℕ) (given : declared_orders.Order) (session : ℕ) (s : Step) (adds n count : ℕ) → given ≡ order.Ask session s → adds ≡ adds_in (commands_of_step s)
    → count ≡ capped_adds (with_adds session adds all n) → count ≡ capped_adds (adds_behind (Some given) all n)
adds_counted all given session s adds n count is same counts =
    subst (λ (o : declared_orders.Order). count ≡ capped_adds (adds_behind (Some o) all n)) (sym is) (subst (λ (k : ℕ). count ≡ capped_adds (with_adds session k all n)) same counts)

-- the last line of the text of an edit in a group
pub group_whole : (m : ListenerMove) (h : Hearing) (number missing : ℕ) (after : OpenGroup) (commands : List declared.Command) (e : TextEdit) (lines : List (List ℕ))
    → m ≡ listener_moved false (states.Group after) None → missing ≡ 0 → h.session ≡ after.session → h.group ≡ Some commands → HoldsGroup after (commands ++ edit_with e lines ∷ [])
    → IsListenerMoved m h.adds number (edit_awaited h h.session (line_of_edit e) missing lines)
group_whole m h number missing after commands (edit.Put name) lines is none session group holds =
    rw is (rw none (rw group (record { state = (record { edits = commands ++ command.Put name lines ∷ []; session = session; is = refl; holds = holds }, refl); counts = refl; orders = tt })))
group_whole m h number missing after commands (edit.Add place) lines is none session group holds =
    rw is (rw none (rw group (record { state = (record { edits = commands ++ command.Add place lines ∷ []; session = session; is = refl; holds = holds }, refl); counts = refl; orders = tt })))
