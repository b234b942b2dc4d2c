-- In each of its forms, what a session asks leads to lawful steps alone.
use Rattle.std.proofs.Common.{◌≡◌, ℕ, ◌+◌, ◌<◌, ◌==◌, Bool, true, false, ◌&&◌, cond, nat_le, nat_lt, List, [], ◌∷◌, length, codes}
use Rattle.std.proofs.Common.{Option, Some, None, IfSome, if◌then◌else◌, sym, refl, ◌∙◌, subst, arith}
use Rattle.std.specs.Option.{option_and_then, option_map, option_map_or}
use Rattle.std.specs.Str.{bytes_eq}
use Rattle.script_reader.specs.Groups.{is_edit, is_edit_line}
use Rattle.script_reader.specs.Hearing.{Block, Header, OrdersAndHearing, Hearing, Nothing, Text}
use Rattle.script_reader.specs.Hearing.{asked_alone, asks, edit_awaited, command_with, edit_grouped, asked_in_group, has_place, in_group, refused_line}
use Rattle.script_reader.specs.Script.{adds_in, names_known, takes_text}
use Rattle.script_reader.specs.Statements.{command_line_of}
use Rattle.script_reader.specs.TalkLines.{asked_by_words, asked_by_four, asked_by_one, asked_by_three, asked_by_two}
use Rattle.script_reader.specs.TalkLines.{edit, edit_by, look_by, asked_without_text}
use Rattle.script_reader.specs.Words.{name_in, number_in, anchor_in_word}
use Rattle.script_reader.specs.declared.command.Command.{Command}
use Rattle.script_reader.specs.declared.command.Command.TheVariants as command
use Rattle.script_reader.specs.declared.fault.Cause.TheVariants.{BadLine, NoOwn}
use Rattle.script_reader.specs.declared.step.Step.TheVariants as step
use Rattle.script_reader.specs.declared.talk_line.Question.TheVariants as question
use Rattle.script_reader.proofs.Bools.{first_true, second_true}
use Rattle.talk_desk.specs.LawfulOrders.{HasEditRoom, IsFairGroup, IsSoundHearing, MayAwaitText}
use Rattle.talk_desk.proofs.WellHeard.{CommandLine, IsWell, alone_well, awaited_well, closed_well}
use Rattle.talk_desk.proofs.WellHeard.{question_well, refused_well, stepped_well, test_well}

-- the type of what a session asks, which has no name here
abbrev asked_in : {A : Type 0} → (Hearing → ℕ → ℕ → A → OrdersAndHearing) → Type 0
asked_in {A} f = A

abbrev pub Asked : Type 0
Asked = asked_in asked_alone

-- what holds of both; of all that an option gives; and of what that gives in turn
pub on_test : {K : Type 0} (M : K → Type 0) (t : Bool) (a b : K) → (t ≡ true → M a) → (t ≡ false → M b) → M (cond t a b)
on_test M true a b passed failed = passed refl
on_test M false a b passed failed = failed refl

module _ {A K : Type 0} (M : Option K → Type 0) where
  on_map : (f : A → K) (o : Option A) → ((a : A) → M (Some (f a))) → M None → M (option_map f o)
  on_map f None some none = none
  on_map f (Some a) some none = some a

  on_then : (f : A → Option K) (o : Option A) → IfSome o (λ a. M (f a)) → M None → M (option_and_then f o)
  on_then f None some none = none
  on_then f (Some a) some none = some

  on_each : (f : A → Option K) (o : Option A) → ((a : A) → M (f a)) → M None → M (option_and_then f o)
  on_each f None some none = none
  on_each f (Some a) some none = some a

if_some : {A : Type 0} (P Q : A → Type 0) (o : Option A) → ((a : A) → P a → Q a) → IfSome o P → IfSome o Q
if_some P Q None weaker is = tt
if_some P Q (Some a) weaker is = weaker a is

-- a line of an edit of a block gives such an edit, whatever the text
record IsFair (c : CommandLine) : Type 0 where
  edits : is_edit_line c ≡ true → (text : List (List ℕ)) → IfSome (command_with c text) (λ command. is_edit command ≡ true)

record IsFairIn (o : Option CommandLine) : Type 0 where
  fair : IfSome o IsFair

edits_none : (c : CommandLine) → is_edit_line c ≡ false → IsFair c
edits_none c isnt = record { edits = λ edits text. let clash : true ≡ false = sym edits ∙ isnt in absurd (cc) }

module _ (word operand : List ℕ) where
  abbrev named : List ℕ → Bool
  named name = bytes_eq word name

  line_fair : IsFairIn (command_line_of word operand)
  line_fair =
      on_test IsFairIn (named (codes "look")) _ _
      (λ look. on_test IsFairIn (bytes_eq operand (codes "head")) _ _ (λ head. record { fair = edits_none _ refl })
      (λ head. on_map IsFairIn _ (name_in operand) (λ name. record { fair = edits_none _ refl }) (record { fair = tt })))
      (λ look. on_test IsFairIn (named (codes "put")) _ _
      (λ put. on_map IsFairIn _ (name_in operand) (λ name. record { fair = record { edits = λ edits text. refl } }) (record { fair = tt }))
      (λ put. on_test IsFairIn (named (codes "add")) _ _
      (λ add. on_map IsFairIn _ (anchor_in_word operand) (λ at. record { fair = record { edits = λ edits text. refl } }) (record { fair = tt }))
      (λ add. on_test IsFairIn (named (codes "cut")) _ _
      (λ cut. on_map IsFairIn _ (name_in operand) (λ name. record { fair = record { edits = λ edits text. refl } }) (record { fair = tt }))
      (λ cut. on_test IsFairIn (named (codes "loop")) _ _
      (λ loop. on_map IsFairIn _ (number_in operand) (λ at. record { fair = edits_none _ refl }) (record { fair = tt }))
      (λ loop. record { fair = tt })))))

-- what a session asks, wherever it stands
pub record IsAsked (h : Hearing) (line session : ℕ) (a : Asked) : Type 0 where
  pub told : IsWell (asks h line session a)

pub record IsAskedIn (o : Option Asked) : Type 0 where
  pub told : IfSome o (λ a. (h : Hearing) (line session : ℕ) → IsSoundHearing h → session < 64 → IsAsked h line session a)

module _ (h : Hearing) (line session : ℕ) (sound : IsSoundHearing h) where
  asks_well : (a : Asked) → (h.group ≡ None → IsWell (asked_alone h line session a))
      → ((commands : List Command) → h.group ≡ Some commands → IsWell (asked_in_group h line session commands a)) → IsAsked h line session a
  asks_well a outside inside = record { told = go h.group refl }
    where
      go : (group : Option (List Command)) → h.group ≡ group
          → IsWell (option_map_or (λ commands. in_group h line session commands a) group (asked_alone h line session a))
      go None is = outside is
      go (Some commands) is =
          test_well h line BadLine (session == h.session) (asked_in_group h line session commands a) sound (λ same. inside commands is)

-- where no group is open, each command has room
free : (group : Option (List Command)) (c : CommandLine) → group ≡ None → MayAwaitText group (Block c)
free group c none text =
    subst (λ (g : Option (List Command)). IfSome (command_with c text) (HasEditRoom g)) (sym none) (any (command_with c text))
  where
    any : (o : Option Command) → IfSome o (HasEditRoom None)
    any None = tt
    any (Some d) = tt

-- a command, alone and in an open group, with the count of its text
module _ (h : Hearing) (line session : ℕ) (c : CommandLine) (count : ℕ) (sound : IsSoundHearing h) (low : session < 64) where
  known_well : (adds : ℕ) → MayAwaitText h.group (Block c)
      → IsWell (if names_known adds c then edit_awaited h session c count [] else refused_line h line NoOwn)
  known_well adds room =
      test_well h line NoOwn (names_known adds c) (edit_awaited h session c count []) sound
      (λ known. awaited_well h session c count [] sound low room)

  alone_edit : h.group ≡ None → IsWell (if names_known (h.adds session) c then edit_awaited h session c count [] else refused_line h line NoOwn)
  alone_edit none = known_well (h.adds session) (free h.group c none)

  grouped_edit : IsFair c → (commands : List Command) → h.group ≡ Some commands → IsWell (edit_grouped h line session commands c count)
  grouped_edit fair commands is =
      test_well h line BadLine (has_place commands c count) _ sound
      (λ place. known_well (h.adds session + adds_in commands)
      (subst (λ (g : Option (List Command)). MayAwaitText g (Block c)) (sym is) (room place)))
    where
      room : has_place commands c count ≡ true → MayAwaitText (Some commands) (Block c)
      room place text =
          let front : (is_edit_line c && nat_le count 4096) ≡ true = first_true _ (nat_lt (length commands) 64) place in
          let few : nat_lt (length commands) 64 ≡ true = second_true (is_edit_line c && nat_le count 4096) _ place in
          let short : length commands < 64 = grind arith in
          let edits : is_edit_line c ≡ true = first_true _ (nat_le count 4096) front in
          if_some (λ d. is_edit d ≡ true) (HasEditRoom (Some commands)) (command_with c text) (λ d is. (is, short)) (fair.edits edits text)

plain_asked : (c : CommandLine) → IsFair c → IsAskedIn (asked_without_text c)
plain_asked c fair =
    on_test IsAskedIn (takes_text c) _ _ (λ takes. record { told = tt })
    (λ takes. record {
      told = λ h line session sound low. asks_well h line session sound _
          (alone_edit h line session c 0 sound low) (grouped_edit h line session c 0 sound low fair);
    })

edit_asked : (count : ℕ) (c : CommandLine) → IsFair c → IsAskedIn (edit count c)
edit_asked count c fair =
    on_test IsAskedIn (takes_text c) _ _
    (λ takes. record {
      told = λ h line session sound low. asks_well h line session sound _
          (alone_edit h line session c count sound low) (grouped_edit h line session c count sound low fair);
    })
    (λ takes. record { told = tt })

-- words that may be the line of a command
line_asked : (f : CommandLine → Option Asked) (o : Option CommandLine) → ((c : CommandLine) → IsFair c → IsAskedIn (f c)) → IsFairIn o
    → IsAskedIn (option_and_then f o)
line_asked f o each fair = on_then IsAskedIn f o (if_some IsFair (λ c. IsAskedIn (f c)) o each fair.fair) (record { told = tt })

-- what is refused in an open group
lone_asked : (a : Asked)
    → ((h : Hearing) (line session : ℕ) → IsSoundHearing h → session < 64 → h.group ≡ None → IsWell (asked_alone h line session a))
    → ((h : Hearing) (line session : ℕ) (commands : List Command) → asked_in_group h line session commands a ≡ refused_line h line BadLine)
    → IsAskedIn (Some a)
lone_asked a well refuses = record {
  told = λ h line session sound low. asks_well h line session sound a (well h line session sound low)
      (λ commands is. subst IsWell (sym (refuses h line session commands)) (refused_well h line BadLine sound));
}

-- one of the three marks, or none
mark_asked : {K : Type 0} (f : K → Asked) (a b c : Bool) (x y z : K)
    → IsAskedIn (Some (f x)) → IsAskedIn (Some (f y)) → IsAskedIn (Some (f z))
    → IsAskedIn (option_map f (if a then Some x else (if b then Some y else (if c then Some z else None))))
mark_asked f true b c x y z first second third = first
mark_asked f false true c x y z first second third = second
mark_asked f false false true x y z first second third = third
mark_asked f false false false x y z first second third = record { told = tt }

module _ (h : Hearing) (line session : ℕ) (sound : IsSoundHearing h) (low : session < 64) (none : h.group ≡ None) where
  group_well : IsWell ([], record { session = session; adds = h.adds; group = Some []; awaiting = Nothing })
  group_well = record { sound = record { low = low; fair = (omega arith, refl); may = tt }; lawful = tt }

  header_well : IsWell ([], record { session = session; adds = h.adds; group = None; awaiting = Text Header 1 [] })
  header_well = record { sound = record { low = low; fair = tt; may = refl }; lawful = tt }

-- each form
one_asked : (word : List ℕ) → IsAskedIn (asked_by_one word)
one_asked word =
    on_test IsAskedIn (bytes_eq word (codes "verdict")) _ _
    (λ is. lone_asked _ (λ h line session sound low. alone_well h session command.Verdict low sound) (λ h line session commands. refl))
    (λ isnt. on_test IsAskedIn (bytes_eq word (codes "blocks")) _ _
    (λ is. lone_asked _ (question_well question.Blocks) (λ h line session commands. refl))
    (λ isnt. on_test IsAskedIn (bytes_eq word (codes "save")) _ _
    (λ is. lone_asked _ (question_well question.Save) (λ h line session commands. refl))
    (λ isnt. mark_asked _ (bytes_eq word (codes "group")) (bytes_eq word (codes "end")) (bytes_eq word (codes "undo")) _ _ _
    (lone_asked _ group_well (λ h line session commands. refl))
    (record {
      told = λ h line session sound low. asks_well h line session sound _ (λ none. refused_well h line BadLine sound)
          (λ commands is. closed_well h line session commands sound low (subst IsFairGroup is sound.fair));
    })
    (lone_asked _ (λ h line session sound low none. stepped_well h session step.Undo low refl) (λ h line session commands. refl)))))

two_asked : (word operand : List ℕ) → IsAskedIn (asked_by_two word operand)
two_asked word operand =
    on_test IsAskedIn (bytes_eq word (codes "since")) _ _
    (λ is. on_map IsAskedIn _ (number_in operand)
    (λ version. lone_asked _ (question_well (question.Since version)) (λ h line session commands. refl)) (record { told = tt }))
    (λ isnt. line_asked asked_without_text (command_line_of word operand) plain_asked (line_fair word operand))

three_asked : (word from to : List ℕ) → IsAskedIn (asked_by_three word from to)
three_asked word from to =
    on_test IsAskedIn (bytes_eq word (codes "tally")) _ _
    (λ is. on_each IsAskedIn _ (number_in from)
    (λ first. on_map IsAskedIn _ (number_in to)
    (λ last. lone_asked _ (question_well (question.Tally first last)) (λ h line session commands. refl)) (record { told = tt }))
    (record { told = tt }))
    (λ isnt. record { told = tt })

module _ (word operand : List ℕ) where
  line_or_none : (count : ℕ) → IsAskedIn (option_and_then (edit count) (command_line_of word operand))
  line_or_none count = line_asked (edit count) (command_line_of word operand) (edit_asked count) (line_fair word operand)

  edit_or_none : (count : ℕ) → IsAskedIn (edit_by word operand count)
  edit_or_none count =
      on_test IsAskedIn (bytes_eq word (codes "put")) _ _
      (λ put. on_test IsAskedIn (bytes_eq operand (codes "head")) _ _
      (λ head. on_test IsAskedIn (count == 1) _ _
      (λ one. lone_asked _ header_well (λ h line session commands. refl)) (λ more. record { told = tt }))
      (λ block. line_or_none count))
      (λ other. line_or_none count)

  look_or_none : (stamp : ℕ) → IsAskedIn (look_by word operand stamp)
  look_or_none stamp =
      on_test IsAskedIn (bytes_eq word (codes "look")) _ _
      (λ is. on_map IsAskedIn _ (name_in operand)
      (λ name. lone_asked _ (question_well (question.TextAt name stamp)) (λ h line session commands. refl)) (record { told = tt }))
      (λ isnt. record { told = tt })

  four_asked : (key value : List ℕ) → IsAskedIn (asked_by_four word operand key value)
  four_asked key value =
      on_test IsAskedIn (bytes_eq key (codes "lines")) _ _
      (λ is. on_each IsAskedIn (edit_by word operand) (number_in value) edit_or_none (record { told = tt }))
      (λ isnt. on_test IsAskedIn (bytes_eq key (codes "at")) _ _
      (λ is. on_each IsAskedIn (look_by word operand) (number_in value) look_or_none (record { told = tt }))
      (λ isnt. record { told = tt }))

pub words_asked : (words : List (List ℕ)) → IsAskedIn (asked_by_words words)
words_asked [] = record { told = tt }
words_asked (word ∷ []) = one_asked word
words_asked (word ∷ operand ∷ []) = two_asked word operand
words_asked (word ∷ from ∷ to ∷ []) = three_asked word from to
words_asked (word ∷ operand ∷ key ∷ value ∷ []) = four_asked word operand key value
words_asked (word ∷ operand ∷ key ∷ value ∷ more ∷ words) = record { told = tt }
