-- What a certificate shows: every grouping has a start among the cut places of each window, so it has more parts than there are windows.
use Rattle.std.proofs.Common.{◌≡◌, ℕ, ◌+◌, ◌-◌, ◌<◌, ◌≤◌, List, [], ◌∷◌, length, drop, get_or, All, sym, ap, subst, ◌∙◌, refl, arith, zero, suc}
use Rattle.std.proofs.lemmas.List.{get_or-map, length-map}
use Rattle.std.proofs.lemmas.List.Elements.{All-head, All-tail}
use Rattle.pass_grouping.specs.declared.operation.PassOp.{PassOp}
use Rattle.pass_grouping.specs.declared.certificate.Window.{Window}
use Rattle.pass_grouping.specs.Groupings.{PassRange, operations_in, ranges_from_starts, passes_from, first_or, IsPass, IsGrouping, IsFewest, IsWindow, AreApart, IsCertificate}
use Rattle.pass_grouping.proofs.Passes.{by_order, one_pass-shrink}

pub length-parts : (starts : List ℕ) (behind : ℕ) → length (ranges_from_starts starts behind) ≡ length starts
length-parts [] behind = refl
length-parts (s ∷ ss) behind = ap suc (length-parts ss behind)

-- the part from this start to the first of the later ones
abbrev part_from : ℕ → List ℕ → ℕ → PassRange
part_from start later behind = record { start = start; behind = first_or later behind }

-- the part that begins at a start of the list
abbrev pub part_at : List ℕ → ℕ → ℕ → PassRange
part_at starts behind k = record { start = get_or starts k 0; behind = first_or (drop (k + 1) starts) behind }

parts-at : (starts : List ℕ) (behind k : ℕ) (d : PassRange) → k < length starts → get_or (ranges_from_starts starts behind) k d ≡ part_at starts behind k
parts-at [] behind k d below = absurd (omega arith)
parts-at (s ∷ ss) behind zero d below = refl
parts-at (s ∷ ss) behind (suc k) d below =
    let behind_it : suc (k + 1) ≡ suc k + 1 = omega arith in
    parts-at ss behind k d (omega arith) ∙ ap (λ n. part_from (get_or ss k 0) (drop n (s ∷ ss)) behind) behind_it

pub passes-all : (ops : List PassOp) (starts : List ℕ) (behind : ℕ) → ((k : ℕ) → k < length starts → IsPass ops (part_at starts behind k)) → All (IsPass ops) (ranges_from_starts starts behind)
passes-all ops starts behind each k d below =
    let within : k < length starts = omega (arith, length-parts starts behind) in
    subst (IsPass ops) (sym (parts-at starts behind k d within)) (each k within)

pub passes-at : (ops : List PassOp) (starts : List ℕ) (behind k : ℕ) → k < length starts → All (IsPass ops) (ranges_from_starts starts behind) → IsPass ops (part_at starts behind k)
passes-at ops starts behind k within passes =
    let below : k < length (ranges_from_starts starts behind) = omega (arith, length-parts starts behind) in
    subst (IsPass ops) (parts-at starts behind k (part_at starts behind k) within) (passes k (part_at starts behind k) below)

-- how many passes there are
pub length-passes : (ops : List PassOp) (starts : List ℕ) → length (passes_from ops starts) ≡ length starts
length-passes ops starts = length-map (ranges_from_starts starts (length ops)) (operations_in ops) ∙ length-parts starts (length ops)

-- the operations of the pass at this place
pub passes_from-at : (ops : List PassOp) (starts : List ℕ) (k : ℕ) → k < length starts → get_or (passes_from ops starts) k [] ≡ operations_in ops (part_at starts (length ops) k)
passes_from-at ops starts k within =
    let none : PassRange = part_at starts (length ops) k in
    get_or-map (operations_in ops) (ranges_from_starts starts (length ops)) k none [] (omega (arith, length-parts starts (length ops)))
    ∙ ap (operations_in ops) (parts-at starts (length ops) k none within)

-- no window lies within a part
outside : {P : Type 0} (ops : List PassOp) (part : PassRange) (window : Window) → IsPass ops part → IsWindow ops window → part.start ≤ window.from → window.to < part.behind → P
outside ops part window pass is from to =
    absurd (is.broken (one_pass-shrink ops part.start (part.behind - 1) window.from window.to from (omega arith) pass.pass))

-- the windows from the one at j on, all behind the start s, and the parts from s on
counted : (ops : List PassOp) (windows : List Window) (d : Window) → All (IsWindow ops) windows → AreApart windows
    → (s : ℕ) (ss : List ℕ) (j : ℕ) → All (IsPass ops) (ranges_from_starts (s ∷ ss) (length ops)) → (j < length windows → s ≤ (get_or windows j d).from)
    → length windows < length (s ∷ ss) + j
counted ops windows d hold apart s [] j passes behind =
    by_order j (length windows)
    (λ below.
    let is : IsWindow ops (get_or windows j d) = hold j d below in
    let part : IsPass ops (record { start = s; behind = length ops }) = All-head (IsPass ops) (record { start = s; behind = length ops }) [] passes in
    outside ops (record { start = s; behind = length ops }) (get_or windows j d) part is (behind below) is.within)
    (λ past. omega arith)
counted ops windows d hold apart s (t ∷ ts) j passes behind =
    by_order j (length windows)
    (λ below.
    let is : IsWindow ops (get_or windows j d) = hold j d below in
    let part : IsPass ops (record { start = s; behind = t }) = All-head (IsPass ops) (record { start = s; behind = t }) (ranges_from_starts (t ∷ ts) (length ops)) passes in
    let later : All (IsPass ops) (ranges_from_starts (t ∷ ts) (length ops)) = All-tail (IsPass ops) (record { start = s; behind = t }) (ranges_from_starts (t ∷ ts) (length ops)) passes in
    by_order (get_or windows j d).to t
    (λ inside. outside ops (record { start = s; behind = t }) (get_or windows j d) part is (behind below) inside)
    (λ reached. by_order (get_or windows j d).from t
    (λ cut.
    let next : length windows < length (t ∷ ts) + (j + 1) = counted ops windows d hold apart t ts (j + 1) later (λ more. omega (arith, apart j d more)) in
    omega arith)
    (λ uncut.
    let next : length windows < length (t ∷ ts) + j = counted ops windows d hold apart t ts j later (λ _. uncut) in
    omega arith)))
    (λ past. omega arith)

abbrev no_window : Window
no_window = record { from = 0; to = 0 }

-- a grouping has more parts than there are windows
more_parts : (ops : List PassOp) (windows : List Window) (starts : List ℕ) → All (IsWindow ops) windows → AreApart windows → 0 < length ops → IsGrouping ops starts
    → length windows < length starts
more_parts ops windows [] hold apart some grouping = absurd (omega (arith, grouping.first))
more_parts ops windows (s ∷ ss) hold apart some grouping =
    let all : length windows < length (s ∷ ss) + 0 = counted ops windows no_window hold apart s ss 0 grouping.passes (λ below. omega (arith, grouping.first)) in
    omega arith

-- where there is no operation there is no start
pub no_starts : (ops : List PassOp) (starts : List ℕ) → length ops ≡ 0 → IsGrouping ops starts → starts ≡ []
no_starts ops [] none grouping = refl
no_starts ops (s ∷ ss) none grouping =
    let part : IsPass ops (record { start = s; behind = first_or ss (length ops) }) = All-head (IsPass ops) (record { start = s; behind = first_or ss (length ops) }) (ranges_from_starts ss (length ops)) grouping.passes in
    absurd (omega (arith, part.some, part.within))

pub no_windows : (ops : List PassOp) (windows : List Window) → length ops ≡ 0 → All (IsWindow ops) windows → windows ≡ []
no_windows ops [] none hold = refl
no_windows ops (w ∷ ws) none hold =
    let is : IsWindow ops w = All-head (IsWindow ops) w ws hold in
    absurd (omega (arith, is.within))

fewer_not : (ops : List PassOp) (starts : List ℕ) (windows : List Window) (others : List ℕ) → IsCertificate ops starts windows → IsGrouping ops others → length starts ≤ length others
fewer_not ops starts windows others certificate other =
    by_order 0 (length ops)
    (λ some. omega (arith, certificate.counts some, more_parts ops windows others certificate.hold certificate.apart some other))
    (λ none. let empty : length ops ≡ 0 = omega arith in omega (arith, ap length (no_starts ops starts empty certificate.grouping)))

pub certificate-fewest : (ops : List PassOp) (starts : List ℕ) (windows : List Window) → IsCertificate ops starts windows → IsFewest ops starts
certificate-fewest ops starts windows certificate = record {
  grouping = certificate.grouping;
  fewest = λ others other. fewer_not ops starts windows others certificate other;
}

some_start : (ops : List PassOp) (starts : List ℕ) → 0 < length ops → IsGrouping ops starts → 0 < length starts
some_start ops [] some grouping = absurd (omega (arith, grouping.first))
some_start ops (s ∷ ss) some grouping = omega arith

-- what the tests of a certificate show
pub certificate_tests_show : (ops read : List PassOp) (starts : List ℕ) (windows : List Window) → read ≡ ops → IsGrouping read starts → All (IsWindow read) windows × AreApart windows
    → (0 < length read → length starts - 1 ≡ length windows) → IsCertificate ops starts windows
certificate_tests_show ops read starts windows same grouping stand counts =
    subst (λ (l : List PassOp). IsCertificate l starts windows) same (record {
      grouping = grouping;
      hold = stand.0;
      apart = stand.1;
      counts = λ some. omega (arith, counts some, some_start read starts some grouping);
    })
