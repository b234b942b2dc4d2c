-- The lines of passes of which facts are told.
use Rattle.std.proofs.Common.{◌≡◌, ℕ, pos, ◌-◌, List, [], ◌∷◌, ◌++◌, Option, None, Some, length, get_or, map, flat_map, All, ap, sym, ◌∙◌, refl, arith, option_map, unwrap_or, append-nil, suc}
use Rattle.std.proofs.lemmas.Grind.{flat_map-append}
use Rattle.std.proofs.lemmas.List.Elements.{All-head, All-tail}
use Rattle.std.proofs.lemmas.Option.{slice_get-get_or}
use Rattle.pass_grouping.specs.declared.certificate.Window.{Window}
use Rattle.pass_grouping.specs.declared.fact.PassFact.{PassFact}
use Rattle.pass_grouping.specs.declared.operation.Class.TheVariants as class
use Rattle.pass_grouping.specs.declared.operation.PassOp.{PassOp}
use Rattle.pass_grouping.specs.Facts.{fact_between, pass_facts, told_of}
use Rattle.pass_grouping.specs.Groupings.{PassRange, IsCertificate, IsPass, between_starts, operations_in, ranges_from_starts, passes_from}
use Rattle.pass_grouping.proofs.Facts.{told-part}
use Rattle.pass_grouping.proofs.Groupings.{length-parts}
use Rattle.verdict_report.specs.PassesText.{counts_text, fact_text, line_at, pass_text, passes_text, told_text, window_before, window_text, windows_behind, windows_told}

-- the lines of a pass
pass-line : (names : List (List ℕ)) (pass : List PassOp) → flat_map (fact_text names) (told_of pass) ≡ pass_text names pass
pass-line names [] = refl
pass-line names (first ∷ more) = append-nil (pass_text names (first ∷ more))

pass-lines : (names : List (List ℕ)) (passes : List (List PassOp)) → flat_map (fact_text names) (flat_map told_of passes) ≡ flat_map (pass_text names) passes
pass-lines names [] = refl
pass-lines names (pass ∷ passes) =
    flat_map-append (fact_text names) (told_of pass) (flat_map told_of passes)
    ∙ ap (λ t. t ++ flat_map (fact_text names) (flat_map told_of passes)) (pass-line names pass)
    ∙ ap (λ t. pass_text names pass ++ t) (pass-lines names passes)

abbrev no_op : PassOp
no_op = record { line = 0; stretch = 0; class = class.Drop; dir = None; yarns = []; place = pos 0 }

-- what is told of a part that is a pass
abbrev fact_in : List PassOp → PassRange → PassFact
fact_in ops part = fact_between (get_or ops part.start no_op) (get_or ops (part.behind - 1) no_op) (part.behind - part.start)

fact-in : (ops : List PassOp) (part : PassRange) → IsPass ops part → told_of (operations_in ops part) ≡ fact_in ops part ∷ []
fact-in ops part is = told-part ops part.start part.behind no_op is.some is.within

line-in : (ops : List PassOp) (part : PassRange) → IsPass ops part → (fact_in ops part).first_line ≡ line_at ops part.start
line-in ops part is = ap (λ o. unwrap_or (option_map (λ (op : PassOp). op.line) o) 0) (sym (slice_get-get_or ops part.start no_op (omega (arith, is.some, is.within))))

-- one pass is told for each part
length-told : (ops : List PassOp) (ps : List PassRange) → All (IsPass ops) ps → length (flat_map told_of (map (operations_in ops) ps)) ≡ length ps
length-told ops [] all = refl
length-told ops (p ∷ ps) all =
    ap (λ (fs : List PassFact). length (fs ++ flat_map told_of (map (operations_in ops) ps))) (fact-in ops p (All-head (IsPass ops) p ps all))
    ∙ ap (λ n. suc n) (length-told ops ps (All-tail (IsPass ops) p ps all))

-- the lines of the windows from each of these starts to the next, and of the one before, if there is a pass before
abbrev windows_from : List PassOp → Option ℕ → List ℕ → List ℕ
windows_from ops before [] = []
windows_from ops before (s ∷ ss) = window_before before (line_at ops s) ++ flat_map (window_text ops) (between_starts (s ∷ ss))

-- the window before a part, and those behind it
part-windows : (ops : List PassOp) (part : PassRange) (before : Option ℕ) (facts : List PassFact) → IsPass ops part
    → windows_behind before (told_of (operations_in ops part) ++ facts) ≡ window_before before (line_at ops part.start) ++ windows_behind (Some (line_at ops part.start)) facts
part-windows ops part before facts is =
    ap (λ (fs : List PassFact). windows_behind before (fs ++ facts)) (fact-in ops part is)
    ∙ ap (λ line. window_before before line ++ windows_behind (Some line) facts) (line-in ops part is)

windows-lines : (ops : List PassOp) (before : Option ℕ) (starts : List ℕ) → All (IsPass ops) (ranges_from_starts starts (length ops))
    → windows_behind before (flat_map told_of (map (operations_in ops) (ranges_from_starts starts (length ops)))) ≡ windows_from ops before starts
windows-lines ops before [] all = refl
windows-lines ops before (s ∷ []) all =
    part-windows ops (record { start = s; behind = length ops }) before [] (All-head (IsPass ops) (record { start = s; behind = length ops }) [] all)
windows-lines ops before (s ∷ t ∷ ts) all =
    let part : PassRange = record { start = s; behind = t } in
    let later : List PassRange = ranges_from_starts (t ∷ ts) (length ops) in
    part-windows ops part before (flat_map told_of (map (operations_in ops) later)) (All-head (IsPass ops) part later all)
    ∙ ap (λ w. window_before before (line_at ops s) ++ w) (windows-lines ops (Some (line_at ops s)) (t ∷ ts) (All-tail (IsPass ops) part later all))

-- the lines of all windows
windows-all : (ops : List PassOp) (starts : List ℕ) → All (IsPass ops) (ranges_from_starts starts (length ops)) → windows_told (pass_facts ops starts) ≡ flat_map (window_text ops) (between_starts starts)
windows-all ops [] all = refl
windows-all ops (s ∷ ss) all = windows-lines ops None (s ∷ ss) all

length-between : (starts : List ℕ) → length (between_starts starts) ≡ length starts - 1
length-between [] = refl
length-between (s ∷ []) = refl
length-between (s ∷ t ∷ ts) = omega (arith, length-between (t ∷ ts))

-- the report on passes that are told is that on the passes
pub told-same : (names : List (List ℕ)) (ops : List PassOp) (starts : List ℕ) (windows : List Window) (operations : ℕ) (facts : List PassFact)
    → IsCertificate ops starts windows → windows ≡ between_starts starts → operations ≡ length ops → facts ≡ pass_facts ops starts
    → told_text names operations facts ≡ passes_text names ops starts windows
told-same names ops starts windows operations facts certificate between counted told =
    let count : length (pass_facts ops starts) ≡ length starts =
    length-told ops (ranges_from_starts starts (length ops)) certificate.grouping.passes ∙ length-parts starts (length ops) in
    let spans : length (pass_facts ops starts) - 1 ≡ length windows = omega (arith, count, ap length between, length-between starts) in
    ap (λ (fs : List PassFact). told_text names operations fs) told
    ∙ ap (λ n. counts_text (length (pass_facts ops starts)) n (length (pass_facts ops starts) - 1) ++ (flat_map (fact_text names) (pass_facts ops starts) ++ windows_told (pass_facts ops starts))) counted
    ∙ ap (λ n. counts_text n (length ops) (length (pass_facts ops starts) - 1) ++ (flat_map (fact_text names) (pass_facts ops starts) ++ windows_told (pass_facts ops starts))) count
    ∙ ap (λ n. counts_text (length starts) (length ops) n ++ (flat_map (fact_text names) (pass_facts ops starts) ++ windows_told (pass_facts ops starts))) spans
    ∙ ap (λ t. counts_text (length starts) (length ops) (length windows) ++ (t ++ windows_told (pass_facts ops starts))) (pass-lines names (passes_from ops starts))
    ∙ ap (λ t. counts_text (length starts) (length ops) (length windows) ++ (flat_map (pass_text names) (passes_from ops starts) ++ t)) (windows-all ops starts certificate.grouping.passes)
    ∙ ap (λ (ws : List Window). counts_text (length starts) (length ops) (length windows) ++ (flat_map (pass_text names) (passes_from ops starts) ++ flat_map (window_text ops) ws)) (sym between)
