-- The document of a book that nobody has edited, and the loops of its lines, asked for one by one.
use Rattle.std.proofs.Common.{◌≡◌, ◌≢◌, ℕ, zero, suc, ◌+◌, ◌-◌, ◌<◌, Bool, true, false, cond, List, [], ◌∷◌, ◌++◌, length, Option, None, Some, IfSome, ap, sym, subst, ◌∙◌, refl, arith, append_assoc, append-nil, add-one}
use Rattle.std.specs.List.{AllZip, flat_map}
use Rattle.std.specs.Option.{option_to_list}
use Rattle.std.proofs.lemmas.Bool.{eq-eqb, ne_eqb}
use Rattle.std.proofs.lemmas.Slice.Zip.{AllZip-long}
use Rattle.knit_base.specs.declared.instr.Read.{Read}
use Rattle.knit_base.specs.declared.profile.Profile.{Profile}
use Rattle.knit_base.specs.declared.rule.Reason.{Reason}
use Rattle.knit_base.specs.declared.setting.Setting.{Setting}
use Rattle.knitout_reader.specs.declared.head.Head.{Head}
use Rattle.knitout_reader.specs.Reading.{CodeReadsAs, ReadsAs}
use Rattle.knitout_reader.specs.Tokens.{before_comment, has_comment, tokens_of}
use Rattle.knitout_reader.proofs.OneShape.{one-reading}
use Rattle.carriage_model.specs.declared.verdict.LoopFact.{LoopFact}
use Rattle.carriage_model.specs.Loops.{fact_made, fact_of, loops_made, made_on}
use Rattle.carriage_model.specs.Rules.{broken}
use Rattle.carriage_model.specs.State.{State, empty_state}
use Rattle.carriage_model.specs.Steps.{step}
use Rattle.carriage_model.proofs.LoopOfLine.{IsOfLine, fact_made-line, later_lines}
use Rattle.machine_profile.specs.declared.Chosen.{Chosen}
use Rattle.edit_journal.specs.declared.edit.Entry.{Entry}
use Rattle.edit_journal.specs.declared.opening.Opening.{Opening}
use Rattle.edit_journal.specs.Documents.{body, document_of, lines_in, opened_from}
use Rattle.edit_book.specs.Verdicts.{IsLoopOn, setting_of}
use Rattle.file_run.specs.declared.judgement.Judgement.{Judgement}
use Rattle.file_run.specs.Judgements.{IsJudgement, IsJudgementOn}
use Rattle.input_answers.specs.BookLoops.{AreLoopsOn}
use Rattle.file_run.specs.Bodies.{body_of, setting_for}
use Rattle.input_answers.specs.DueLive.{IsScriptOpening}

-- the lines of blocks that nobody has edited
opened_body : (id : ℕ) (texts : List (List (List ℕ))) → lines_in (opened_from id texts) ≡ flat_map (λ (text : List (List ℕ)). text) texts
opened_body id [] = refl
opened_body id (text ∷ texts) = ap (λ (lines : List (List ℕ)). text ++ lines) (opened_body (id + 1) texts)

-- the lines of the document are the body
pub opening_body : (chosen : Chosen) (head : Head) (lines : List (List ℕ)) (opening : Opening) (entries : List Entry) → IsScriptOpening chosen head lines opening → entries ≡ []
    → body (document_of opening entries) ≡ body_of lines
opening_body chosen head lines opening entries is none = ap (λ (es : List Entry). body (document_of opening es)) none ∙ opened_body 0 opening.texts ∙ is.lines

-- what is made of the document's lines is made of the file
pub judged_file : (with_loops : Bool) (chosen : Chosen) (head : Head) (lines : List (List ℕ)) (opening : Opening) (entries : List Entry) (judgement : Judgement)
    → IsScriptOpening chosen head lines opening → entries ≡ [] → IsJudgementOn with_loops (setting_of opening (document_of opening entries)) (body (document_of opening entries)) judgement
    → IsJudgement with_loops chosen.profile head.declared lines judgement
judged_file with_loops chosen head lines opening entries judgement is none judged =
    let setting : setting_of opening (document_of opening entries) ≡ setting_for chosen.profile head.declared lines =
    ap (λ (es : List Entry). setting_of opening (document_of opening es)) none
    ∙ (λ i. record { profile = is.profile i; declared = is.declared i; first = is.first i }) in
    let behind : body (document_of opening entries) ≡ body_of lines = opening_body chosen head lines opening entries is none in
    subst (λ (ls : List (List ℕ)). IsJudgementOn with_loops (setting_for chosen.profile head.declared lines) ls judgement) behind
    (subst (λ (s : Setting). IsJudgementOn with_loops s (body (document_of opening entries)) judgement) setting judged)

-- a line has one reading
code_one : (profile : Profile) (names tokens : List (List ℕ)) (comment : Bool) (one other : Read) → CodeReadsAs profile names tokens comment one → CodeReadsAs profile names tokens comment other → one ≡ other
code_one profile names [] false one other here there = here ∙ sym there
code_one profile names [] true one other here there = here ∙ sym there
code_one profile names (word ∷ rest) comment one other here there = sym (one-reading profile names word rest one other here there)

-- and a text has one list of readings
texts_one : (profile : Profile) (names text : List (List ℕ)) (ones others : List Read) → AllZip (ReadsAs profile names) text ones → AllZip (ReadsAs profile names) text others → ones ≡ others
texts_one profile names [] [] [] here there = refl
texts_one profile names [] [] (y ∷ ys) here there = absurd there
texts_one profile names [] (x ∷ xs) ys here there = absurd here
texts_one profile names (line ∷ text) [] ys here there = absurd here
texts_one profile names (line ∷ text) (x ∷ xs) [] here there = absurd there
texts_one profile names (line ∷ text) (x ∷ xs) (y ∷ ys) here there =
    let first : x ≡ y = code_one profile names (tokens_of (before_comment line)) (has_comment line) x y here.0 there.0 in
    let later : xs ≡ ys = texts_one profile names text xs ys here.1 there.1 in
    λ i. first i ∷ later i

-- so the loop that is told of a line is that of the loops made
pub loop_told : (setting : Setting) (lines : List (List ℕ)) (line : ℕ) (fact : Option LoopFact) (made : List LoopFact) → IsLoopOn setting lines line fact → AreLoopsOn setting lines made
    → fact ≡ fact_of line made
loop_told setting lines line fact made told are =
    let same : told.readings ≡ are.readings = texts_one setting.profile setting.declared lines told.readings are.readings told.read are.read in
    told.made ∙ ap (λ (reads : List Read). fact_of line (loops_made setting.profile empty_state setting.first reads)) same ∙ sym (ap (fact_of line) are.made)

-- the loops of so many lines, of which the first has this number, one line after the other
abbrev pub facts_from : List LoopFact → ℕ → ℕ → List LoopFact
facts_from made line zero = []
facts_from made line (suc count) = option_to_list (fact_of line made) ++ facts_from made (line + 1) count

none_from : (line count : ℕ) → facts_from [] line count ≡ []
none_from line zero = refl
none_from line (suc count) = none_from (line + 1) count

-- the loop of an earlier line is none of theirs
others_from : (fact : LoopFact) (made : List LoopFact) (line count : ℕ) → fact.line < line → facts_from (fact ∷ made) line count ≡ facts_from made line count
others_from fact made line zero earlier = refl
others_from fact made line (suc count) earlier =
    let apart : fact.line ≢ line = λ same. absurd (omega arith) in
    ap (λ b. option_to_list (cond b (Some fact) (fact_of line made)) ++ facts_from (fact ∷ made) (line + 1) count) (ne_eqb fact.line line apart)
    ∙ ap (λ (facts : List LoopFact). option_to_list (fact_of line made) ++ facts) (others_from fact made (line + 1) count (omega arith))

made_from : (line count : ℕ) (b : Option Reason) (fact : Option LoopFact) (later : List LoopFact) → IfSome fact (IsOfLine line) → fact_of line later ≡ None → facts_from later (line + 1) count ≡ later
    → facts_from (made_on b fact later) line (suc count) ≡ made_on b fact later
made_from line count (Some reason) fact later named none rest = none_from (line + 1) count
made_from line count None None later named none rest = ap (λ (o : Option LoopFact). option_to_list o ++ facts_from later (line + 1) count) none ∙ rest
made_from line count None (Some fact) later named none rest =
    ap (λ b. option_to_list (cond b (Some fact) (fact_of line later)) ++ facts_from (fact ∷ later) (line + 1) count) (eq-eqb fact.line line named)
    ∙ ap (λ (facts : List LoopFact). fact ∷ facts) (others_from fact later (line + 1) count (omega arith) ∙ rest)

all_from : (profile : Profile) (s : State) (line : ℕ) (reads : List Read) → facts_from (loops_made profile s line reads) line (length reads) ≡ loops_made profile s line reads
all_from profile s line [] = refl
all_from profile s line (r ∷ reads) =
    made_from line (length reads) (broken profile r s) (fact_made line r s) (loops_made profile (step profile line r s) (line + 1) reads) (fact_made-line line r s)
    (later_lines profile (step profile line r s) (line + 1) line reads (omega arith)) (all_from profile (step profile line r s) (line + 1) reads)

-- no line was asked yet
pub asked_none : (setting : Setting) (lines : List (List ℕ)) (first count : ℕ) (loops made : List LoopFact) → loops ≡ [] → first ≡ setting.first → count ≡ length lines
    → AreLoopsOn setting lines made → loops ++ facts_from made (first + 0) (count - 0) ≡ made
asked_none setting lines first count loops made none begins is are =
    let many : length lines ≡ length are.readings = sym (AllZip-long (ReadsAs setting.profile setting.declared) lines are.readings are.read) in
    let from : first + 0 ≡ setting.first = omega (arith, begins) in
    let all : count - 0 ≡ length are.readings = omega (arith, is, many) in
    ap (λ (facts : List LoopFact). facts ++ facts_from made (first + 0) (count - 0)) none
    ∙ ap (λ n. facts_from made n (count - 0)) from
    ∙ ap (facts_from made setting.first) all
    ∙ subst (λ (facts : List LoopFact). facts_from facts setting.first (length are.readings) ≡ facts) (sym are.made) (all_from setting.profile empty_state setting.first are.readings)

-- one line more was asked
pub asked_more : (made before now : List LoopFact) (first i count : ℕ) → i < count → before ++ facts_from made (first + i) (count - i) ≡ made
    → now ≡ before ++ option_to_list (fact_of (first + i) made) → now ++ facts_from made (first + (i + 1)) (count - (i + 1)) ≡ made
asked_more made before now first i count within so_far one =
    let left : count - i ≡ suc (count - (i + 1)) = omega arith in
    let next : first + i + 1 ≡ first + (i + 1) = omega arith in
    ap (λ (facts : List LoopFact). facts ++ facts_from made (first + (i + 1)) (count - (i + 1))) one
    ∙ append_assoc before (option_to_list (fact_of (first + i) made)) (facts_from made (first + (i + 1)) (count - (i + 1)))
    ∙ ap (λ n. before ++ (option_to_list (fact_of (first + i) made) ++ facts_from made n (count - (i + 1)))) (sym next)
    ∙ ap (λ n. before ++ facts_from made (first + i) n) (sym left)
    ∙ so_far

-- all lines were asked
pub asked_all : (made loops : List LoopFact) (first i count : ℕ) → count ≡ i → loops ++ facts_from made (first + i) (count - i) ≡ made → loops ≡ made
asked_all made loops first i count all so_far =
    let none : count - i ≡ 0 = omega arith in
    sym (append-nil loops) ∙ ap (λ n. loops ++ facts_from made (first + i) n) (sym none) ∙ so_far
