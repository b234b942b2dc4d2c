-- The conditions of a second face, read one after the other.
use Rattle.std.proofs.Common.{◌≡◌, ℕ, ◌+◌, ◌≤◌, ◌<◌, Bool, true, false, List, [], ◌∷◌, ◌++◌, Some, None, length, take, drop, refl, sym, ap, ◌∙◌, subst, arith, get_or}
use Rattle.std.specs.Prelude.{if◌then◌else◌}
use Rattle.std.specs.List.{Contains}
use Rattle.std.proofs.lemmas.List.Elements.{Contains-append_right}
use Rattle.std.proofs.lemmas.List.{drop_more, drop_all, length-map, get_or-map, length_push, take-append-drop, take_more}
use Rattle.std.proofs.lemmas.List.Sums.{sum_by-cons, sum_by-append}
use Rattle.knit_base.specs.declared.needle.Needle.{Needle}
use Rattle.knit_base.specs.declared.rule.Fault.{Fault}
use Rattle.face_data.specs.declared.digest.Digest.{Digest}
use Rattle.std.specs.Prelude.{pos}
use Rattle.knit_base.specs.declared.rule.Rule.TheVariants.{Unreadable}
use Rattle.face_data.specs.declared.face.Cond.TheVariants.{RackIs}
use Rattle.face_data.specs.declared.face.Check.{Check}
use Rattle.face_data.specs.declared.face.Effect.{Effect}
use Rattle.face_data.specs.declared.face.Last.{Last}
use Rattle.face_data.specs.declared.face.Ending.TheVariants.{Through}
use Rattle.face_data.specs.declared.face.FaceView.{FaceView}
use Rattle.face_data.specs.Answers.{ConditionAnswer, read_answer}
use Rattle.face_data.specs.Answers.ConditionAnswer.{yes_it_does, no_it_does_not, asks}
use Rattle.face_data.specs.Chains.{chain_at, answer_known}
use Rattle.face_data.specs.Composition.{against_kept, reads}
use Rattle.face_data.specs.Conditions.{Ask}
use Rattle.face_data.specs.Goodness.{EndingFits, NeedlesLieIn, size_needles_in}
use Rattle.face_data.specs.Segments.{Changed, names_through}
use Rattle.face_data.specs.Summaries.{AskedCondition, Summary, fault_raised}
use Rattle.face_data.specs.View.{asked_of_check, size_needles_of, summary_of}
use Rattle.summary_compose.proofs.Checks.{names_in_ask}
use Rattle.face_data.proofs.Goodness.{names_read}
use Rattle.face_data.proofs.KnownAnswers.{AreKept, kept-first, kept-push, answer-known}
use Rattle.face_data.proofs.Members.{Contains-head}
use Rattle.face_data.proofs.KeptChecks.{against_asks}
use Rattle.summary_compose.specs.Changes.{changes_in}
use Rattle.summary_compose.specs.Known.{AreImpliedChecks, AreGoodFaces, Knows, StepIs, checks_in, names_count, names_read_count}
use Rattle.summary_compose.specs.Tables.{Note}
use Rattle.summary_compose.proofs.Answers.{reads_step}

-- what holds where the first i conditions are read
pub record ReadsOn (a b : FaceView) (e : Effect) (i : ℕ) (kept : List AskedCondition) (digest : Digest) (notes : List Note) : Type 0 where
  pub read : reads e a.lasts.now (changes_in a) a.lines kept (drop i (checks_in b)) ≡ reads e a.lasts.now (changes_in a) a.lines (checks_in a) (checks_in b)
  pub are_kept : AreKept e (summary_of a) (summary_of b) kept
  pub knows : Knows digest notes kept
  pub few : length kept ≤ length a.checks.now + i
  pub names : names_count kept + names_read_count (changes_in a) (drop i (checks_in b)) ≤ names_count (checks_in a) + names_read_count (changes_in a) (checks_in b)

lies_of : (carriers : ℕ) (s : Summary) (e : Effect) → s.ending ≡ Through e → EndingFits carriers s s.ending → (c : AskedCondition) → Contains s.checks c → NeedlesLieIn s.changes (size_needles_in c.ask)
lies_of carriers s e through fits = let known : EndingFits carriers s (Through e) = subst (EndingFits carriers s) through fits in known.lies

contains_at : (cs : List AskedCondition) (i : ℕ) (d : AskedCondition) → i < length cs → Contains cs (get_or cs i d)
contains_at cs i d within = subst (λ xs. Contains xs (get_or cs i d)) (take-append-drop i cs)
    (Contains-append_right (take i cs) (drop i cs) (get_or cs i d) (subst (λ xs. Contains xs (get_or cs i d)) (sym (drop_more cs i d within)) (Contains-head (get_or cs i d) (drop (i + 1) cs))))

-- what becomes of the kept conditions
kept_step : (carriers limit : ℕ) (first second : List Needle) (e : Effect) (a b : Summary) (kept now : List AskedCondition) (c : AskedCondition) (goes_on : Bool) (r : ConditionAnswer) →
    against_kept kept (read_answer e a.lasts a.changes c.ask) ≡ r → StepIs r kept (fault_raised a.lines c.fault) goes_on now → AreKept e a b kept → Contains b.checks c → AreKept e a b now
kept_step carriers limit first second e a b kept now c goes_on yes_it_does is h are there = subst (AreKept e a b) (sym h.1) are
kept_step carriers limit first second e a b kept now c goes_on no_it_does_not is h are there = subst (AreKept e a b) (sym h.1) are
kept_step carriers limit first second e a b kept now c goes_on (asks w) is h are there = subst (AreKept e a b) (sym h.1) (kept-push e a b kept c w are there is)

step_few : (kept now : List AskedCondition) (fault : Fault) (goes_on : Bool) (r : ConditionAnswer) → StepIs r kept fault goes_on now → length now ≤ length kept + 1
step_few kept now fault goes_on yes_it_does h = let same = ap length h.1 in omega arith
step_few kept now fault goes_on no_it_does_not h = let same = ap length h.1 in omega arith
step_few kept now fault goes_on (asks w) h =
    let new : AskedCondition = record { fault = fault; ask = w } in
    let same = ap length h.1 in
    let more = length_push kept new in
    omega arith

step_names : (e : Effect) (lasts : List Last) (changes : List Changed) (kept now : List AskedCondition) (q : Ask) (fault : Fault) (goes_on : Bool) (r : ConditionAnswer) → against_kept kept (read_answer e lasts changes q) ≡ r →
    StepIs r kept fault goes_on now → names_count now ≤ names_count kept + length (names_through changes (size_needles_in q))
step_names e lasts changes kept now q fault goes_on yes_it_does is h = let same = ap names_count h.1 in omega arith
step_names e lasts changes kept now q fault goes_on no_it_does_not is h = let same = ap names_count h.1 in omega arith
step_names e lasts changes kept now q fault goes_on (asks w) is h =
    let new : AskedCondition = record { fault = fault; ask = w } in
    let size : AskedCondition → ℕ = λ (c : AskedCondition). length (size_needles_in c.ask) in
    let same : names_count now ≡ names_count (kept ++ new ∷ []) = ap names_count h.1 in
    let split = sum_by-append size kept (new ∷ []) in
    let one = sum_by-cons size new [] in
    let from : length (size_needles_in w) ≡ length (names_through changes (size_needles_in q)) = ap length (names_read e lasts changes q w ((against_asks kept (read_answer e lasts changes q) w is).0)) in
    omega (arith, same, split, one, from)

names_left : (changes : List Changed) (cs : List AskedCondition) (i : ℕ) → names_read_count changes (drop i cs) ≤ names_read_count changes cs
names_left changes cs i =
    let size : AskedCondition → ℕ = λ (c : AskedCondition). length (names_through changes (size_needles_in c.ask)) in
    let whole = ap (names_read_count changes) (take-append-drop i cs) in
    let split = sum_by-append size (take i cs) (drop i cs) in
    omega (arith, whole, split)

-- where the conditions before a place hold for what the first face asks
pub reads_begin : (a b : FaceView) (e : Effect) (i : ℕ) (kept : List AskedCondition) (digest : Digest) (notes : List Note) → AreGoodFaces a b → AreImpliedChecks a b e i → kept ≡ checks_in a → Knows digest notes kept →
    ReadsOn a b e i kept digest notes
reads_begin a b e i kept digest notes good alike begun knows =
    let size : length (checks_in a) ≡ length a.checks.now = length-map a.checks.now (asked_of_check a.names.now) in
    let same : length kept ≡ length (checks_in a) = ap length begun in
    let names : names_count kept ≡ names_count (checks_in a) = ap names_count begun in
    let left = names_left (changes_in a) (checks_in b) i in
    record {
      read = ap (λ ks. reads e a.lasts.now (changes_in a) a.lines ks (drop i (checks_in b))) begun ∙ alike.others;
      are_kept = subst (AreKept e (summary_of a) (summary_of b)) (sym begun) (kept-first good.carriers good.limit good.first_known e (summary_of a) (summary_of b) good.first);
      knows = knows;
      few = omega arith;
      names = omega (arith, names, left);
    }

-- the next condition
abbrev pub check_at : FaceView → ℕ → Check → AskedCondition
check_at b i d = asked_of_check b.names.now (get_or b.checks.now i d)

next_check : (b : FaceView) (i : ℕ) (d : Check) → i < length b.checks.now → drop i (checks_in b) ≡ check_at b i d ∷ drop (i + 1) (checks_in b)
next_check b i d within =
    let long : length (checks_in b) ≡ length b.checks.now = length-map b.checks.now (asked_of_check b.names.now) in
    drop_more (checks_in b) i (asked_of_check b.names.now d) (omega arith)
    ∙ ap (λ c. c ∷ drop (i + 1) (checks_in b)) (get_or-map (asked_of_check b.names.now) b.checks.now i d (asked_of_check b.names.now d) within)

next_there : (b : FaceView) (i : ℕ) (d : Check) → i < length b.checks.now → Contains (checks_in b) (check_at b i d)
next_there b i d within =
    let long : length (checks_in b) ≡ length b.checks.now = length-map b.checks.now (asked_of_check b.names.now) in
    subst (Contains (checks_in b)) (get_or-map (asked_of_check b.names.now) b.checks.now i d (asked_of_check b.names.now d) within) (contains_at (checks_in b) i (asked_of_check b.names.now d) (omega arith))

step_against : (a b : FaceView) (e : Effect) (i : ℕ) (d : Check) (kept now : List AskedCondition) (digest : Digest) (notes : List Note) (fault : Fault) (goes_on : Bool) → AreGoodFaces a b → a.ending ≡ Through e →
    ReadsOn a b e i kept digest notes → i < length b.checks.now → fault ≡ fault_raised a.lines (check_at b i d).fault →
    StepIs (answer_known digest (chain_at kept) kept (read_answer e a.lasts.now (changes_in a) (check_at b i d).ask)) kept fault goes_on now →
    StepIs (against_kept kept (read_answer e a.lasts.now (changes_in a) (check_at b i d).ask)) kept (fault_raised a.lines (check_at b i d).fault) goes_on now
step_against a b e i d kept now digest notes fault goes_on good through so within is h =
    subst (λ answer. StepIs answer kept (fault_raised a.lines (check_at b i d).fault) goes_on now)
    (ap (λ x. answer_known x (chain_at kept) kept (read_answer e a.lasts.now (changes_in a) (check_at b i d).ask)) so.knows.digest_is
    ∙ sym (answer-known good.carriers good.limit good.first_known good.second_known e (summary_of a) (summary_of b) kept (check_at b i d) good.first good.second
    (lies_of good.carriers (summary_of a) e through good.first.fair.ending) so.are_kept (next_there b i d within)))
    (subst (λ f. StepIs (answer_known digest (chain_at kept) kept (read_answer e a.lasts.now (changes_in a) (check_at b i d).ask)) kept f goes_on now) is h)

-- one condition more
pub reads_on : (a b : FaceView) (e : Effect) (i : ℕ) (d : Check) (kept now : List AskedCondition) (digest after_digest : Digest) (notes after_notes : List Note) (fault : Fault) (goes_on : Bool) → AreGoodFaces a b → a.ending ≡ Through e →
    ReadsOn a b e i kept digest notes → i < length b.checks.now → goes_on ≡ true → fault ≡ fault_raised a.lines (check_at b i d).fault →
    StepIs (answer_known digest (chain_at kept) kept (read_answer e a.lasts.now (changes_in a) (check_at b i d).ask)) kept fault goes_on now →
    Knows after_digest after_notes now → ReadsOn a b e (i + 1) now after_digest after_notes
reads_on a b e i d kept now digest after_digest notes after_notes fault goes_on good through so within goes is h knows =
    let c = check_at b i d in
    let step = step_against a b e i d kept now digest notes fault goes_on good through so within is h in
    let answer = against_kept kept (read_answer e a.lasts.now (changes_in a) c.ask) in
    let rest = drop (i + 1) (checks_in b) in
    let more = step_few kept now (fault_raised a.lines c.fault) goes_on answer step in
    let few : length kept ≤ length a.checks.now + i = so.few in
    let named = step_names e a.lasts.now (changes_in a) kept now c.ask (fault_raised a.lines c.fault) goes_on answer refl step in
    let total = so.names in
    let left : names_read_count (changes_in a) (drop i (checks_in b)) ≡ names_read_count (changes_in a) (c ∷ rest) = ap (names_read_count (changes_in a)) (next_check b i d within) in
    let first = sum_by-cons (λ (x : AskedCondition). length (names_through (changes_in a) (size_needles_in x.ask))) c rest in
    record {
      read = sym (ap (λ on. if on then reads e a.lasts.now (changes_in a) a.lines now rest else record { checks = now; stop = Some (fault_raised a.lines c.fault) }) goes)
          ∙ sym (reads_step e a.lasts.now (changes_in a) a.lines kept now rest c goes_on step)
          ∙ ap (reads e a.lasts.now (changes_in a) a.lines kept) (sym (next_check b i d within)) ∙ so.read;
      are_kept = kept_step good.carriers good.limit good.first_known good.second_known e (summary_of a) (summary_of b) kept now c goes_on answer refl step so.are_kept (next_there b i d within);
      knows = knows;
      few = omega arith;
      names = omega (arith, named, total, left, first);
    }

-- one that can't hold
pub reads_stop : (a b : FaceView) (e : Effect) (i : ℕ) (d : Check) (kept now : List AskedCondition) (digest : Digest) (notes : List Note) (fault : Fault) (goes_on : Bool) → AreGoodFaces a b → a.ending ≡ Through e →
    ReadsOn a b e i kept digest notes → i < length b.checks.now → goes_on ≡ false → fault ≡ fault_raised a.lines (check_at b i d).fault →
    StepIs (answer_known digest (chain_at kept) kept (read_answer e a.lasts.now (changes_in a) (check_at b i d).ask)) kept fault goes_on now →
    reads e a.lasts.now (changes_in a) a.lines (checks_in a) (checks_in b) ≡ record { checks = now; stop = Some fault }
reads_stop a b e i d kept now digest notes fault goes_on good through so within stops is h =
    let c = check_at b i d in
    let step = step_against a b e i d kept now digest notes fault goes_on good through so within is h in
    let rest = drop (i + 1) (checks_in b) in
    sym so.read ∙ ap (reads e a.lasts.now (changes_in a) a.lines kept) (next_check b i d within)
    ∙ reads_step e a.lasts.now (changes_in a) a.lines kept now rest c goes_on step
    ∙ ap (λ on. if on then reads e a.lasts.now (changes_in a) a.lines now rest else record { checks = now; stop = Some (fault_raised a.lines c.fault) }) stops
    ∙ (λ k. record { checks = now; stop = Some (sym is k) })

reads_none : (e : Effect) (lasts : List Last) (changes : List Changed) (lines : ℕ) (kept : List AskedCondition) → reads e lasts changes lines kept [] ≡ record { checks = kept; stop = None }
unfolding reads
reads_none e lasts changes lines kept = refl

-- all were read
pub reads_end : (a b : FaceView) (e : Effect) (i : ℕ) (kept : List AskedCondition) (digest : Digest) (notes : List Note) → ReadsOn a b e i kept digest notes → length b.checks.now ≤ i →
    reads e a.lasts.now (changes_in a) a.lines (checks_in a) (checks_in b) ≡ record { checks = kept; stop = None }
reads_end a b e i kept digest notes so past =
    let long : length (checks_in b) ≡ length b.checks.now = length-map b.checks.now (asked_of_check b.names.now) in
    sym so.read ∙ ap (reads e a.lasts.now (changes_in a) a.lines kept) (drop_all i (checks_in b) (omega arith)) ∙ reads_none e a.lasts.now (changes_in a) a.lines kept

-- all hold for what the first face asks
pub alike_all : (a b : FaceView) (e : Effect) (i : ℕ) (kept : List AskedCondition) → AreImpliedChecks a b e i → length b.checks.now ≤ i → kept ≡ checks_in a →
    reads e a.lasts.now (changes_in a) a.lines (checks_in a) (checks_in b) ≡ record { checks = kept; stop = None }
alike_all a b e i kept alike past begun =
    let long : length (checks_in b) ≡ length b.checks.now = length-map b.checks.now (asked_of_check b.names.now) in
    sym alike.others ∙ ap (reads e a.lasts.now (changes_in a) a.lines (checks_in a)) (drop_all i (checks_in b) (omega arith)) ∙ reads_none e a.lasts.now (changes_in a) a.lines (checks_in a)
    ∙ (λ j. record { checks = sym begun j; stop = None })

-- there is room for the next
pub next_room : (a b : FaceView) (e : Effect) (i : ℕ) (d : Check) (kept : List AskedCondition) (digest : Digest) (notes : List Note) → ReadsOn a b e i kept digest notes → i < length b.checks.now →
    names_count kept + length (names_through (changes_in a) (size_needles_of b.names.now (get_or b.checks.now i d).cond)) ≤ names_count (checks_in a) + names_read_count (changes_in a) (checks_in b)
next_room a b e i d kept digest notes so within =
    let c = check_at b i d in
    let rest = drop (i + 1) (checks_in b) in
    let total = so.names in
    let left : names_read_count (changes_in a) (drop i (checks_in b)) ≡ names_read_count (changes_in a) (c ∷ rest) = ap (names_read_count (changes_in a)) (next_check b i d within) in
    let first = sum_by-cons (λ (x : AskedCondition). length (names_through (changes_in a) (size_needles_in x.ask))) c rest in
    let same : length (names_through (changes_in a) (size_needles_in c.ask)) ≡ length (names_through (changes_in a) (size_needles_of b.names.now (get_or b.checks.now i d).cond)) =
    ap (λ ns. length (names_through (changes_in a) ns)) (names_in_ask b.names.now (get_or b.checks.now i d).cond) in
    omega (arith, total, left, first, same)

-- the check that goals give for a place past the end
abbrev pub first_check : Check
first_check = record { fault = record { line = 0; reason = record { rule = Unreadable; at = 0 } }; cond = RackIs (record { 0 = pos 0 }) }

-- one condition of a face more is noted
pub next_note : (face : FaceView) (i : ℕ) (d : Check) → i < length face.checks.now →
    names_count (take i (checks_in face)) + length (size_needles_of face.names.now (get_or face.checks.now i d).cond) ≤ names_count (checks_in face)
next_note face i d within =
    let size : AskedCondition → ℕ = λ (c : AskedCondition). length (size_needles_in c.ask) in
    let c = check_at face i d in
    let rest = drop (i + 1) (checks_in face) in
    let whole : names_count (take i (checks_in face) ++ drop i (checks_in face)) ≡ names_count (checks_in face) = ap names_count (take-append-drop i (checks_in face)) in
    let split = sum_by-append size (take i (checks_in face)) (drop i (checks_in face)) in
    let left : names_count (drop i (checks_in face)) ≡ names_count (c ∷ rest) = ap names_count (next_check face i d within) in
    let first = sum_by-cons size c rest in
    let same : length (size_needles_in c.ask) ≡ length (size_needles_of face.names.now (get_or face.checks.now i d).cond) = ap length (names_in_ask face.names.now (get_or face.checks.now i d).cond) in
    omega (arith, whole, split, left, first, same)

-- one condition more is noted
pub noted_more : (face : FaceView) (i : ℕ) (d : Check) → i < length face.checks.now → take i (checks_in face) ++ check_at face i d ∷ [] ≡ take (i + 1) (checks_in face)
noted_more face i d within =
    let long : length (checks_in face) ≡ length face.checks.now = length-map face.checks.now (asked_of_check face.names.now) in
    let e = asked_of_check face.names.now d in
    ap (λ c. take i (checks_in face) ++ c ∷ []) (sym (get_or-map (asked_of_check face.names.now) face.checks.now i d e within)) ∙ sym (take_more (checks_in face) i e (omega arith))
