-- What is due for the words and the source, from what the parts of the program say.
use Rattle.std.proofs.Common.{◌≡◌, ℕ, [], List, Err, Ok, arith, false, true, refl, subst, sym}
use Rattle.std.proofs.lemmas.Bool.{false≢true}
use Rattle.std.specs.Prelude.{IfOk, OnErr, Result}
use Rattle.std.proofs.KnownBytes.{Consumes-nil}
use Rattle.std.proofs.lemmas.Result.{IfOk-weaker, on_err_weaker}
use Rattle.std.specs.declared.option.Option.{Option}
use Rattle.machine_profile.specs.declared.Chosen.{Chosen}
use Rattle.command_words.specs.declared.command.Command.{Command}
use Rattle.command_words.specs.declared.command.Command.TheVariants as command
use Rattle.verdict_report.specs.declared.refusal.Refusal.{Refusal}
use Rattle.verdict_report.specs.Refusals.{refusal_text}
use Rattle.input_answers.specs.declared.ending.Answer.{Answer}
use Rattle.input_answers.specs.declared.outcome.Status.{Status}
use Rattle.input_answers.specs.Answers.{Refuses}
use Rattle.input_answers.specs.Asked.{AsksCommand, reads_file, reads_input}
use Rattle.input_answers.specs.Due.{Due}
use Rattle.input_answers.proofs.Asks.{asked-command, asked-lawful}
use Rattle.check_main.specs.Calls.{HasGiven, HasReadFor, IsCalled, IsDueFor}
use Rattle.input_answers.specs.Played.{Played, nothing_played, played_by}
use Rattle.check_main.specs.Top.{Called, HasReadWithin, IsUntouched, SourceUse, whole}

-- this text, this status and what was played are those that are due
pub called-as : (words : List (List ℕ)) (source : SourceUse) (answer : Answer) (said : List ℕ) (ends : Status) (played : Played) → Called words source played said ends
    → answer.text.items ≡ said → answer.outcome.status ≡ ends → played_by answer.outcome ≡ played → IsCalled words source answer
called-as words source answer said ends played called text status plays =
    subst (λ (p : Played). Called words source p answer.text.items answer.outcome.status) (sym plays)
    (subst (λ (t : List ℕ). Called words source played t answer.outcome.status) (sym text) (subst (λ (s : Status). Called words source played said s) (sym status) called))

-- a refusal that is due
pub called-refusal : (words : List (List ℕ)) (source : SourceUse) (answer : Answer) (said : Refusal) (ends : Status) → Called words source nothing_played (refusal_text said) ends
    → Refuses said ends answer → IsCalled words source answer
called-refusal words source answer said ends called is = called-as words source answer (refusal_text said) ends nothing_played called is.told is.ended is.played

-- where nothing was read, no more was than any words allow
pub none-within : (words : List (List ℕ)) (left : Option (List ℕ)) (faults : ℕ)
    → HasReadWithin words (record { left_before = left; left_after = left; faults_before = faults; faults_after = faults })
none-within words left faults =
    let none : IsUntouched (record { left_before = left; left_after = left; faults_before = faults; faults_after = faults }) = record { left = refl; faults = refl } in
    record { refused = λ are. none; idle = λ command chosen ask idle. none; within = ([], omega arith, Consumes-nil left) }

-- whatever becomes of an answer
pub if-err : {A E : Type 0} (answer : Result A E) (P : Type 0) → P → OnErr answer P
if-err (Ok a) P p = tt
if-err (Err e) P p = p

-- no more was read than any words that ask for the command allow
pub read-within : (words : List (List ℕ)) (command : Command) (chosen : Chosen) (source : SourceUse) → AsksCommand words command chosen → HasReadFor command source → HasReadWithin words source
read-within words command chosen source ask read = record {
  refused = λ are. absurd (asked-lawful words command chosen ask are);
  idle = λ other limits also idle. read.idle (subst (λ (x : Command). reads_input x ≡ false) (asked-command words command other chosen limits ask also) idle);
  within = read.within;
}

-- an answer for the command is one for words that ask for it, and so is what was read where there is none
pub ended-for : {E : Type 0} (words : List (List ℕ)) (command : Command) (chosen : Chosen) (source : SourceUse) (answer : Result Answer E) (P : Type 0) → AsksCommand words command chosen
    → IfOk answer (IsDueFor command chosen source) → OnErr answer (HasReadFor command source) → (IfOk answer (IsCalled words source) → OnErr answer (HasReadWithin words source) → P) → P
ended-for words command chosen source answer P ask due read ends =
    ends (IfOk-weaker answer _ _ (λ a is. is words ask) due) (on_err_weaker answer (read-within words command chosen source ask) read)

-- a command that reads a file reads an input
pub file-input : (command : Command) → reads_file command ≡ true → reads_input command ≡ true
file-input (command.Check loops json) reads = refl
file-input command.Text reads = refl
file-input command.Passes reads = refl
file-input command.Live reads = absurd (false≢true reads)
file-input command.Save reads = absurd (false≢true reads)
file-input command.Groups reads = absurd (false≢true reads)
file-input (command.Serve json) reads = absurd (false≢true reads)
file-input command.Replay reads = absurd (false≢true reads)
file-input (command.Tally from to) reads = absurd (false≢true reads)
file-input (command.Make rows start) reads = absurd (false≢true reads)

-- an answer to a file that was read to its end
pub called-file : (words : List (List ℕ)) (command : Command) (chosen : Chosen) (source : SourceUse) (answer : Answer) (input said : List ℕ) (ends : Status) → AsksCommand words command chosen
    → reads_file command ≡ true → HasGiven source input → Due command chosen input said ends
    → answer.text.items ≡ said → answer.outcome.status ≡ ends → played_by answer.outcome ≡ nothing_played → IsCalled words source answer
called-file words command chosen source answer input said ends ask reads given due text status plays =
    called-as words source answer said ends nothing_played (whole command chosen input said ends ask reads given.bytes given.end given.few due) text status plays
