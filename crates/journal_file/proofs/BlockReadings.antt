-- How far the reading of a block has come, and where it stops.
use Rattle.std.proofs.Common.{◌≡◌, ◌∙◌, ℕ, ◌+◌, ◌<◌, ◌≤◌, ◌^◌, List, sym, subst, refl, arith, codes}
use Rattle.std.proofs.lemmas.Fmt.{decimal_injective}
use Rattle.std.proofs.lemmas.List.{append_cancel_left}
use Rattle.knit_base.specs.Spelling.{labelled_number}
use Rattle.journal_file.specs.BlockForms.{IsBlock}
use Rattle.journal_file.specs.CountLines.{IsCount}
use Rattle.journal_file.specs.Grammars.{IsUnambiguous, OneLine}
use Rattle.journal_file.specs.Reading.{FormHasRead, IsFault, IsFormStop, IsFirstLineTaken, NoneTaken}
use Rattle.journal_file.specs.declared.fault.JournalCause.TheVariants.{BadLine, NoFit}
use Rattle.journal_file.specs.declared.fault.JournalFault.{JournalFault}
use Rattle.journal_file.specs.declared.fault.JournalFault.TheVariants.{At, NoMemory}
use Rattle.journal_file.specs.Texts.{TextLinesForm}
use Rattle.journal_file.proofs.FormReadings.{both_read, both_stop_first, both_stop_second, line_read, line_stops}
use Rattle.journal_file.proofs.Grammars.{line_one}
use Rattle.journal_file.proofs.Readings.{some_texts}

-- a line of a count tells one number
pub one_count : (label : List ℕ) (least most : ℕ) → most < 2 ^ 32 → IsUnambiguous (OneLine (IsCount label least most))
one_count label least most fits = line_one (IsCount label least most)
    (λ a b line p q. decimal_injective a b (omega (arith, fits, p.few)) (omega (arith, fits, q.few)) (append_cancel_left label _ _ (sym p.spelt ∙ q.spelt)))

-- a block was read
pub block_read : (most : ℕ) (bytes : List ℕ) (taken : ℕ) (count : ℕ) (rest : List ℕ) (texts : List (List ℕ)) (behind : List ℕ) (now : ℕ)
    → IsFirstLineTaken (IsCount (codes "block ") 1 most) bytes count rest → FormHasRead (TextLinesForm count) rest (taken + 1) texts behind now → FormHasRead (IsBlock most) bytes taken (count, texts) behind now
block_read most bytes taken count rest texts behind now took read =
    both_read (OneLine (IsCount (codes "block ") 1 most)) (λ n. TextLinesForm n) bytes taken count rest (taken + 1) texts behind now (line_read (IsCount (codes "block ") 1 most) bytes taken count rest took) read

-- its first line isn't there
pub block_stops : (most : ℕ) → 1 ≤ most → most < 2 ^ 32 → (bytes : List ℕ) (taken : ℕ) → NoneTaken (IsCount (codes "block ") 1 most) bytes → IsFormStop (IsBlock most) bytes taken (taken + 1)
block_stops most some fits bytes taken none =
    both_stop_first (OneLine (IsCount (codes "block ") 1 most)) (λ n. TextLinesForm n) (one_count (codes "block ") 1 most fits) (λ n t p. some_texts n tt) bytes taken (taken + 1)
    (line_stops (IsCount (codes "block ") 1 most) 1 (labelled_number (codes "block ") 1) (record { spelt = refl; enough = omega arith; few = some }) bytes taken none)

-- one of its text lines isn't there
pub block_stops_later : (most : ℕ) → most < 2 ^ 32 → (bytes : List ℕ) (taken : ℕ) (count : ℕ) (rest : List ℕ) (number : ℕ)
    → IsFirstLineTaken (IsCount (codes "block ") 1 most) bytes count rest → IsFormStop (TextLinesForm count) rest (taken + 1) number → IsFormStop (IsBlock most) bytes taken number
block_stops_later most fits bytes taken count rest number took stops =
    both_stop_second (OneLine (IsCount (codes "block ") 1 most)) (λ n. TextLinesForm n) (one_count (codes "block ") 1 most fits) bytes taken count rest (taken + 1) number
    (line_read (IsCount (codes "block ") 1 most) bytes taken count rest took) stops

-- the fault of its text lines is that of the block
pub block_fault : (most : ℕ) → most < 2 ^ 32 → (bytes : List ℕ) (taken now : ℕ) (count : ℕ) (rest : List ℕ) → now ≡ taken + 1 → IsFirstLineTaken (IsCount (codes "block ") 1 most) bytes count rest
    → (fault : JournalFault) → IsFault (TextLinesForm count) rest now fault → IsFault (IsBlock most) bytes taken fault
block_fault most fits bytes taken now count rest is took (At number BadLine) stops = block_stops_later most fits bytes taken count rest number took (subst (λ n. IsFormStop (TextLinesForm count) rest n number) is stops)
block_fault most fits bytes taken now count rest is took (At number NoFit) stops = stops
block_fault most fits bytes taken now count rest is took NoMemory stops = tt
