-- Operations that are grouped as they come.
use Rattle.std.proofs.Common.{◌≡◌, ℕ, ℤ, ◌+◌, ◌-◌, ◌<◌, ◌≤◌, List, [], ◌∷◌, ◌++◌, Option, None, Some, length, get_or, map, flat_map, ap, sym, subst, ◌∙◌, refl, arith, inl, inr, append_assoc, append-nil, length-append}
use Rattle.std.proofs.Math.Seq.{get_or-append_seam}
use Rattle.std.proofs.lemmas.Int.{ints}
use Rattle.std.proofs.lemmas.List.{get_or_append_left}
use Rattle.knit_base.specs.declared.needle.Dir.{Dir}
use Rattle.knit_base.specs.declared.needle.Dir.TheVariants.{Right, Left}
use Rattle.pass_grouping.specs.declared.certificate.Window.{Window}
use Rattle.pass_grouping.specs.declared.fact.PassFact.{PassFact}
use Rattle.pass_grouping.specs.declared.growing.Begun.{Begun}
use Rattle.pass_grouping.specs.declared.growing.Counts.{Counts}
use Rattle.pass_grouping.specs.declared.growing.Growing.{Growing}
use Rattle.pass_grouping.specs.declared.growing.ToldPasses.{ToldPasses}
use Rattle.pass_grouping.specs.declared.operation.PassOp.{PassOp}
use Rattle.pass_grouping.specs.Facts.{fact_between, told_of, way_of}
use Rattle.pass_grouping.specs.Groupings.{operations_in, ranges_from_starts}
use Rattle.pass_grouping.specs.Growing.{AreGoing, BeganSo, GoesSo, Grouped, IsGoingBehind, IsGoingWay, IsGrowing, fact_now}
use Rattle.pass_grouping.specs.Passes.{AreOneKindOfOperation, Follows, GoesOneWay, IsBeyond, IsOnePass}
use Rattle.pass_grouping.specs.Told.{AreOperationCounts, AreTold}
use Rattle.pass_grouping.proofs.Facts.{told-part, told-push}
use Rattle.pass_grouping.proofs.Groupings.{certificate-fewest}
use Rattle.pass_grouping.proofs.PartialGroupings.{grouped-end, grouped-more, grouped-next, grouped-none, grouped-start}
use Rattle.pass_grouping.proofs.Passes.{goes-end, goes-one, one_pass}

-- the range lies before what is appended
goes-append : (way : Dir) (ops more : List PassOp) (from to : ℕ) → to < length ops → GoesOneWay way ops from to → GoesOneWay way (ops ++ more) from to
goes-append way ops more from to within goes = record {
  pairs = λ i j d low less high.
      subst (λ (a : PassOp). Follows way a (get_or (ops ++ more) j d)) (sym (get_or_append_left ops more d i (omega arith)))
      (subst (λ (b : PassOp). Follows way (get_or ops i d) b) (sym (get_or_append_left ops more d j (omega arith))) (goes.pairs i j d low less high));
}

-- one place lies in one way of another
one-way : (way other : Dir) (a b : ℤ) → IsBeyond way a b → IsBeyond other a b → way ≡ other
one-way Right Right a b first second = refl
one-way Right Left a b first second = absurd (omega (arith, ints, first, second))
one-way Left Right a b first second = absurd (omega (arith, ints, first, second))
one-way Left Left a b first second = refl

-- the last of these operations, with more behind it
last-append : (ops more : List PassOp) (op last : PassOp) (d : PassOp) → 0 < length ops → get_or ops (length ops - 1) d ≡ last → get_or (ops ++ op ∷ more) (length ops - 1) d ≡ last
last-append ops more op last d some is = get_or_append_left ops (op ∷ more) d (length ops - 1) (omega arith) ∙ is

-- the last operation and the one that is appended, as they stand in the list
last-follows : (ops more : List PassOp) (op last : PassOp) (way : Dir) (d : PassOp) → 0 < length ops → get_or ops (length ops - 1) d ≡ last → Follows way last op
    → Follows way (get_or (ops ++ op ∷ more) (length ops - 1) d) (get_or (ops ++ op ∷ more) (length ops) d)
last-follows ops more op last way d some is follows =
    subst (λ (a : PassOp). Follows way a (get_or (ops ++ op ∷ more) (length ops) d)) (sym (last-append ops more op last d some is))
    (subst (λ (b : PassOp). Follows way last b) (sym (get_or-append_seam ops op more d)) follows)

-- the other way round
follows-last : (ops more : List PassOp) (op last : PassOp) (way : Dir) (d : PassOp) → 0 < length ops → get_or ops (length ops - 1) d ≡ last
    → Follows way (get_or (ops ++ op ∷ more) (length ops - 1) d) (get_or (ops ++ op ∷ more) (length ops) d) → Follows way last op
follows-last ops more op last way d some is follows =
    subst (λ (b : PassOp). Follows way last b) (get_or-append_seam ops op more d)
    (subst (λ (a : PassOp). Follows way a (get_or (ops ++ op ∷ more) (length ops) d)) (last-append ops more op last d some is) follows)

-- the last pass goes the way that is told
goes-so : (way : Option Dir) (told : Dir) (ops : List PassOp) (start : ℕ) (last op : PassOp) → GoesSo way ops start → IsGoingWay way last op told → GoesOneWay told ops start (length ops - 1)
goes-so None told ops start last op goes is = goes-one told ops start (length ops - 1) (omega (arith, goes))
goes-so (Some way) told ops start last op goes is = subst (λ w. GoesOneWay w ops start (length ops - 1)) is goes.1

-- a pass up to the next operation goes the way that is told
goes-no_other : (way : Option Dir) (told : Dir) (ops more : List PassOp) (start : ℕ) (last op : PassOp) (w : Dir) → GoesSo way ops start → IsGoingWay way last op told → Follows w last op
    → GoesOneWay w (ops ++ more) start (length ops) → w ≡ told
goes-no_other None told ops more start last op w goes is follows going = is w follows.place
goes-no_other (Some way) told ops more start last op w goes is follows going =
    let pair : Follows way (get_or (ops ++ more) start op) (get_or (ops ++ more) (start + 1) op) =
    (goes-append way ops more start (length ops - 1) (omega (arith, goes.0)) goes.1).pairs start (start + 1) op (omega arith) (omega arith) (omega (arith, goes.0)) in
    one-way w way _ _ (going.pairs start (start + 1) op (omega arith) (omega arith) (omega (arith, goes.0))).place pair.place ∙ is

-- all operations of a pass are alike, so the first is like the last
alike-last : (way : Option Dir) (ops : List PassOp) (start : ℕ) (last : PassOp) → GoesSo way ops start → ((d : PassOp) → get_or ops (length ops - 1) d ≡ last) → AreOneKindOfOperation (get_or ops start last) last
alike-last None ops start last goes ends =
    let same : get_or ops start last ≡ last = ap (λ n. get_or ops n last) (omega (arith, goes)) ∙ ends last in
    record { stretch = ap (λ (op : PassOp). op.stretch) same; class = ap (λ (op : PassOp). op.class) same; dir = ap (λ (op : PassOp). op.dir) same; yarns = ap (λ (op : PassOp). op.yarns) same }
alike-last (Some way) ops start last goes ends =
    subst (AreOneKindOfOperation (get_or ops start last)) (ends last) (goes.1.pairs start (length ops - 1) last (omega arith) (omega (arith, goes.0)) (omega arith)).alike

-- what is told of the pass that goes on is told of its operations
told-now : (ops more : List PassOp) (start : ℕ) (begun : Begun) (last : PassOp) → start < length ops → BeganSo ops start begun → AreOneKindOfOperation (get_or ops start last) last
    → ((d : PassOp) → get_or ops (length ops - 1) d ≡ last)
    → told_of (operations_in (ops ++ more) (record { start = start; behind = length ops })) ≡ fact_now begun last (length ops) ∷ []
told-now ops more start begun last some began alike ends =
    let first : get_or (ops ++ more) start last ≡ get_or ops start last = get_or_append_left ops more last start some in
    let end : get_or (ops ++ more) (length ops - 1) last ≡ last = get_or_append_left ops more last (length ops - 1) (omega arith) ∙ ends last in
    told-part (ops ++ more) start (length ops) last some (omega (arith, length-append ops more))
    ∙ ap (λ op. fact_between op (get_or (ops ++ more) (length ops - 1) last) (length ops - start) ∷ []) first
    ∙ ap (λ op. fact_between (get_or ops start last) op (length ops - start) ∷ []) end
    ∙ (λ i. record {
      first_line = began.line last i;
      last_line = last.line;
      count = length ops - sym began.before i;
      class = alike.class i;
      way = way_of (alike.dir i) (began.place last i) last.place;
      yarns = alike.yarns i;
    } ∷ [])

-- an operation that is alike is told from this one by its line and its place
pub moved-to : (last op : PassOp) → AreOneKindOfOperation last op → record { line = op.line; stretch = last.stretch; class = last.class; dir = last.dir; yarns = last.yarns; place = op.place } ≡ op
moved-to last op alike = λ i. record { line = op.line; stretch = alike.stretch i; class = alike.class i; dir = alike.dir i; yarns = alike.yarns i; place = op.place }

-- an operation that begins a pass
abbrev pub begun_by : PassOp → ℕ → Begun
begun_by op before = record { line = op.line; place = op.place; before = before }

began-so : (ops : List PassOp) (op : PassOp) (begun : Begun) (before : ℕ) → begun ≡ begun_by op before → before ≡ length ops → BeganSo (ops ++ op ∷ []) (length ops) begun
began-so ops op begun before is at = record {
  line = λ d. ap (λ (o : PassOp). o.line) (get_or-append_seam ops op [] d) ∙ sym (ap (λ (b : Begun). b.line) is);
  place = λ d. ap (λ (o : PassOp). o.place) (get_or-append_seam ops op [] d) ∙ sym (ap (λ (b : Begun). b.place) is);
  before = ap (λ (b : Begun). b.before) is ∙ at;
}

began-on : (ops : List PassOp) (op : PassOp) (start : ℕ) (begun : Begun) → start < length ops → BeganSo ops start begun → BeganSo (ops ++ op ∷ []) start begun
began-on ops op start begun within began = record {
  line = λ d. ap (λ (o : PassOp). o.line) (get_or_append_left ops (op ∷ []) d start within) ∙ began.line d;
  place = λ d. ap (λ (o : PassOp). o.place) (get_or_append_left ops (op ∷ []) d start within) ∙ began.place d;
  before = began.before;
}

-- the last operation, and the way that the last pass goes, where it has one alone
last-is : (ops : List PassOp) (op : PassOp) (d : PassOp) → get_or (ops ++ op ∷ []) (length (ops ++ op ∷ []) - 1) d ≡ op
last-is ops op d = ap (λ n. get_or (ops ++ op ∷ []) n d) {x = length (ops ++ op ∷ []) - 1} {y = length ops} (omega (arith, length-append ops (op ∷ []))) ∙ get_or-append_seam ops op [] d

begins-so : (ops : List PassOp) (op : PassOp) (way : Option Dir) → way ≡ None → GoesSo way (ops ++ op ∷ []) (length ops)
begins-so ops op way none = subst (λ w. GoesSo w (ops ++ op ∷ []) (length ops)) (sym none) (sym (length-append ops (op ∷ [])))

-- the first operation
going-first : (ops : List PassOp) (op : PassOp) (new : Growing) → ops ≡ [] → new.ended ≡ [] → new.begun ≡ begun_by op 0 → new.way ≡ None → AreGoing (ops ++ op ∷ []) op new
going-first ops op new none ended begun way =
    let empty : length ops ≡ 0 = ap length none in
    record {
      earlier = [];
      windows = [];
      start = 0;
      grouped = λ more.
          subst (λ (os : List PassOp). Grouped ((os ++ op ∷ []) ++ more) (0 ∷ []) [] 0 (length (os ++ op ∷ []))) (sym none)
          (grouped-start (op ∷ more) (0 ∷ []) [] 1 refl refl (omega arith) (omega arith) (inl (goes-one Right (op ∷ more) 0 0 (omega arith))));
      told = λ more. ended;
      counted = ap length ended;
      began = subst (λ n. BeganSo (ops ++ op ∷ []) n new.begun) empty (began-so ops op new.begun 0 begun (sym empty));
      ends = last-is ops op;
      goes = subst (GoesSo new.way (ops ++ op ∷ [])) empty (begins-so ops op new.way way);
    }

-- an operation that goes on with the last pass
going-more : (ops : List PassOp) (last op : PassOp) (told : Dir) (old new : Growing) → AreGoing ops last old → IsGoingWay old.way last op told → Follows told last op
    → new.ended ≡ old.ended → new.begun ≡ old.begun → new.way ≡ Some told → AreGoing (ops ++ op ∷ []) op new
going-more ops last op told old new here is follows ended begun way =
    let some : here.start < length ops = (here.grouped []).some in
    let longer : length (ops ++ op ∷ []) ≡ length ops + 1 = length-append ops (op ∷ []) in
    let at : length (ops ++ op ∷ []) - 1 ≡ length ops = omega (arith, longer) in
    let starts : List ℕ = here.earlier ++ here.start ∷ [] in
    let goes : (more : List PassOp) → GoesOneWay told (ops ++ op ∷ more) here.start (length ops) =
    λ more. goes-end told (ops ++ op ∷ more) here.start (length ops) some
    (goes-append told ops (op ∷ more) here.start (length ops - 1) (omega arith) (goes-so old.way told ops here.start last op here.goes is))
    (λ d. last-follows ops more op last told d (omega arith) (here.ends d) follows) in
    record {
      earlier = here.earlier;
      windows = here.windows;
      start = here.start;
      grouped = λ more.
          subst (λ (os : List PassOp). Grouped os starts here.windows here.start (length (ops ++ op ∷ []))) (sym (append_assoc ops (op ∷ []) more))
          (subst (Grouped (ops ++ op ∷ more) starts here.windows here.start) (sym longer)
          (grouped-more (ops ++ op ∷ more) starts here.windows here.start (length ops) (here.grouped (op ∷ more)) (omega (arith, length-append ops (op ∷ more)))
          (one_pass told (ops ++ op ∷ more) here.start (length ops) (goes more))));
      told = λ more. ended ∙ here.told (op ∷ more)
          ∙ ap (λ (os : List PassOp). flat_map told_of (map (operations_in os) (ranges_from_starts here.earlier here.start))) (sym (append_assoc ops (op ∷ []) more));
      counted = ap length ended ∙ here.counted;
      began = subst (BeganSo (ops ++ op ∷ []) here.start) (sym begun) (began-on ops op here.start old.begun some here.began);
      ends = last-is ops op;
      goes = subst (λ w. GoesSo w (ops ++ op ∷ []) here.start) (sym way) (omega (arith, longer, some), subst (GoesOneWay told (ops ++ op ∷ []) here.start) (sym at) (goes []));
    }

-- the passes up to the last operation, whatever comes behind it
ended-told : (ops more : List PassOp) (last : PassOp) (old : Growing) (facts : List PassFact) (here : AreGoing ops last old) → facts ≡ old.ended ++ fact_now old.begun last (length ops) ∷ []
    → facts ≡ flat_map told_of (map (operations_in (ops ++ more)) (ranges_from_starts (here.earlier ++ here.start ∷ []) (length ops)))
ended-told ops more last old facts here pushed =
    told-push (ops ++ more) here.earlier here.start (length ops) old.ended facts (fact_now old.begun last (length ops)) (here.told more)
    (told-now ops more here.start old.begun last (here.grouped []).some here.began (alike-last old.way ops here.start last here.goes here.ends) here.ends) pushed

-- an operation that begins a pass behind the last one
going-next : (ops : List PassOp) (last op : PassOp) (told : Dir) (old new : Growing) → AreGoing ops last old → IsGoingWay old.way last op told → ¬ Follows told last op
    → new.ended ≡ old.ended ++ fact_now old.begun last (length ops) ∷ [] → new.begun ≡ begun_by op (length ops) → new.way ≡ None → AreGoing (ops ++ op ∷ []) op new
going-next ops last op told old new here is breaks ended begun way =
    let some : here.start < length ops = (here.grouped []).some in
    let longer : length (ops ++ op ∷ []) ≡ length ops + 1 = length-append ops (op ∷ []) in
    let starts : List ℕ = here.earlier ++ here.start ∷ [] in
    let windows : List Window = here.windows ++ record { from = here.start; to = length ops } ∷ [] in
    let not_so : (more : List PassOp) (w : Dir) → ¬ GoesOneWay w (ops ++ op ∷ more) here.start (length ops) =
    λ more w goes.
    let follows : Follows w last op =
    follows-last ops more op last w op (omega arith) (here.ends op) (goes.pairs (length ops - 1) (length ops) op (omega arith) (omega arith) (omega arith)) in
    breaks (subst (λ v. Follows v last op) (goes-no_other old.way told ops (op ∷ more) here.start last op w here.goes is follows goes) follows) in
    let broken : (more : List PassOp) → ¬ IsOnePass (ops ++ op ∷ more) here.start (length ops) =
    λ more pass. elim pass [ inl right ↦ not_so more Right right | inr left ↦ not_so more Left left ] in
    record {
      earlier = starts;
      windows = windows;
      start = length ops;
      grouped = λ more.
          subst (λ (os : List PassOp). Grouped os (starts ++ length ops ∷ []) windows (length ops) (length (ops ++ op ∷ []))) (sym (append_assoc ops (op ∷ []) more))
          (subst (Grouped (ops ++ op ∷ more) (starts ++ length ops ∷ []) windows (length ops)) (sym longer)
          (grouped-next (ops ++ op ∷ more) starts (starts ++ length ops ∷ []) here.windows windows here.start (length ops)
          (length ops + 1) (here.grouped (op ∷ more)) (broken more) (omega (arith, length-append ops (op ∷ more))) refl refl (omega arith) (omega (arith, length-append ops (op ∷ more)))
          (inl (goes-one Right (ops ++ op ∷ more) (length ops) (length ops + 1 - 1) (omega arith)))));
      told = λ more.
          ended-told ops (op ∷ more) last old new.ended here ended
          ∙ ap (λ (os : List PassOp). flat_map told_of (map (operations_in os) (ranges_from_starts starts (length ops)))) (sym (append_assoc ops (op ∷ []) more));
      counted = omega (arith, ap length ended, here.counted, length-append old.ended (fact_now old.begun last (length ops) ∷ []), length-append here.earlier (here.start ∷ []));
      began = began-so ops op new.begun (length ops) begun refl;
      ends = last-is ops op;
      goes = begins-so ops op new.way way;
    }

-- the last pass, where there is one
going-some : (ops : List PassOp) (last : PassOp) (growing : Growing) → IsGrowing ops growing → growing.last ≡ Some last → AreGoing ops last growing
going-some ops last growing is some = subst (λ o. IsGoingBehind o ops growing) some is.going

going-none : (ops : List PassOp) (growing : Growing) → IsGrowing ops growing → growing.last ≡ None → (ops ≡ []) × (growing.ended ≡ [])
going-none ops growing is none = subst (λ o. IsGoingBehind o ops growing) none is.going

grown : (ops : List PassOp) (op : PassOp) (old new : Growing) → IsGrowing ops old → new.operations ≡ old.operations + 1 → new.last ≡ Some op → AreGoing (ops ++ op ∷ []) op new
    → IsGrowing (ops ++ op ∷ []) new
grown ops op old new is operations last going = record {
  operations = omega (arith, operations, is.operations, length-append ops (op ∷ []));
  going = subst (λ o. IsGoingBehind o (ops ++ op ∷ []) new) (sym last) going;
}

pub growing-none : (growing : Growing) → growing.operations ≡ 0 → growing.last ≡ None → growing.ended ≡ [] → IsGrowing [] growing
growing-none growing none last ended = record {
  operations = none;
  going = subst (λ o. IsGoingBehind o [] growing) (sym last) (refl, ended);
}

pub growing-first : (ops : List PassOp) (op : PassOp) (old new : Growing) → IsGrowing ops old → old.last ≡ None → new.ended ≡ old.ended → new.operations ≡ old.operations + 1
    → new.begun ≡ begun_by op old.operations → new.last ≡ Some op → new.way ≡ None → IsGrowing (ops ++ op ∷ []) new
growing-first ops op old new is was ended operations begun last way =
    let none = going-none ops old is was in
    let at : old.operations ≡ 0 = is.operations ∙ ap length none.0 in
    grown ops op old new is operations last (going-first ops op new none.0 (ended ∙ none.1) (begun ∙ ap (begun_by op) at) way)

pub growing-more : (ops : List PassOp) (last op : PassOp) (told : Dir) (old new : Growing) → IsGrowing ops old → old.last ≡ Some last → IsGoingWay old.way last op told → Follows told last op
    → new.ended ≡ old.ended → new.operations ≡ old.operations + 1 → new.begun ≡ old.begun → new.last ≡ Some op → new.way ≡ Some told → IsGrowing (ops ++ op ∷ []) new
growing-more ops last op told old new is was going follows ended operations begun now way =
    grown ops op old new is operations now (going-more ops last op told old new (going-some ops last old is was) going follows ended begun way)

pub growing-next : (ops : List PassOp) (last op : PassOp) (told : Dir) (old new : Growing) (fact : PassFact) → IsGrowing ops old → old.last ≡ Some last → IsGoingWay old.way last op told
    → ¬ Follows told last op → fact ≡ fact_now old.begun last old.operations → new.ended ≡ old.ended ++ fact ∷ [] → new.operations ≡ old.operations + 1
    → new.begun ≡ begun_by op old.operations → new.last ≡ Some op → new.way ≡ None → IsGrowing (ops ++ op ∷ []) new
growing-next ops last op told old new fact is was going breaks made ended operations begun now way =
    let fact_is : fact ≡ fact_now old.begun last (length ops) = made ∙ ap (fact_now old.begun last) is.operations in
    grown ops op old new is operations now
    (going-next ops last op told old new (going-some ops last old is was) going breaks (ended ∙ ap (λ (f : PassFact). old.ended ++ f ∷ []) fact_is) (begun ∙ ap (begun_by op) is.operations) way)

-- fewer passes ended than there are operations
going-few : (ops : List PassOp) (last : Option PassOp) (growing : Growing) → IsGoingBehind last ops growing → length growing.ended ≤ length ops
going-few ops None growing is = omega (arith, ap length is.1)
going-few ops (Some last) growing is = omega (arith, is.counted, (is.grouped []).few, length-append is.earlier (is.start ∷ []))

pub growing-few : (ops : List PassOp) (growing : Growing) → IsGrowing ops growing → length growing.ended ≤ growing.operations
growing-few ops growing is = omega (arith, is.operations, going-few ops growing.last growing is.going)

pub some-few : (ops : List PassOp) (last : PassOp) (growing : Growing) → IsGrowing ops growing → growing.last ≡ Some last → length growing.ended + 1 ≤ growing.operations
some-few ops last growing is some =
    let here : AreGoing ops last growing = going-some ops last growing is some in
    omega (arith, is.operations, here.counted, (here.grouped []).few, length-append here.earlier (here.start ∷ []))

-- the grouping at the end
grouped-all : (ops : List PassOp) (last : PassOp) (growing : Growing) (here : AreGoing ops last growing) → Grouped ops (here.earlier ++ here.start ∷ []) here.windows here.start (length ops)
grouped-all ops last growing here =
    subst (λ (os : List PassOp). Grouped os (here.earlier ++ here.start ∷ []) here.windows here.start (length ops)) (append-nil ops) (here.grouped [])

-- what was counted
pub counted-some : (ops : List PassOp) (last : PassOp) (growing : Growing) (counts : Counts) → IsGrowing ops growing → growing.last ≡ Some last → counts.operations ≡ growing.operations
    → counts.windows ≡ length growing.ended → counts.passes ≡ length growing.ended + 1 → AreOperationCounts ops counts
counted-some ops last growing counts is some operations windows passes =
    let here : AreGoing ops last growing = going-some ops last growing is some in
    let starts : List ℕ = here.earlier ++ here.start ∷ [] in
    let grouped : Grouped ops starts here.windows here.start (length ops) = grouped-all ops last growing here in
    let certificate = grouped-end ops starts here.windows here.start (length ops) grouped (omega arith) in
    record {
      starts = starts;
      windows = here.windows;
      fewest = certificate-fewest ops starts here.windows certificate;
      certificate = certificate;
      between = grouped.between;
      operations_counted = operations ∙ is.operations;
      passes_counted = omega (arith, passes, here.counted, length-append here.earlier (here.start ∷ []));
      windows_counted = omega (arith, windows, here.counted, length-append here.earlier (here.start ∷ []), grouped.counts);
    }

pub counted-none : (ops : List PassOp) (growing : Growing) (counts : Counts) → IsGrowing ops growing → growing.last ≡ None → counts.operations ≡ growing.operations
    → counts.windows ≡ length growing.ended → counts.passes ≡ length growing.ended → AreOperationCounts ops counts
counted-none ops growing counts is last operations windows passes =
    let none = going-none ops growing is last in
    let certificate = grouped-none ops [] [] (ap length none.0) refl refl in
    record {
      starts = [];
      windows = [];
      fewest = certificate-fewest ops [] [] certificate;
      certificate = certificate;
      between = refl;
      operations_counted = operations ∙ is.operations;
      passes_counted = passes ∙ ap length none.1;
      windows_counted = windows ∙ ap length none.1;
    }

-- what is told at the end
pub told-some : (ops : List PassOp) (last : PassOp) (growing : Growing) (passes : ToldPasses) (fact : PassFact) → IsGrowing ops growing → growing.last ≡ Some last
    → fact ≡ fact_now growing.begun last growing.operations → passes.facts ≡ growing.ended ++ fact ∷ [] → passes.operations ≡ growing.operations → AreTold ops passes
told-some ops last growing passes fact is some made facts operations =
    let here : AreGoing ops last growing = going-some ops last growing is some in
    let starts : List ℕ = here.earlier ++ here.start ∷ [] in
    let grouped : Grouped ops starts here.windows here.start (length ops) = grouped-all ops last growing here in
    let certificate = grouped-end ops starts here.windows here.start (length ops) grouped (omega arith) in
    let fact_is : fact ≡ fact_now growing.begun last (length ops) = made ∙ ap (fact_now growing.begun last) is.operations in
    record {
      starts = starts;
      windows = here.windows;
      fewest = certificate-fewest ops starts here.windows certificate;
      certificate = certificate;
      between = grouped.between;
      operations_counted = operations ∙ is.operations;
      facts_told =
          ended-told ops [] last growing passes.facts here (facts ∙ ap (λ (f : PassFact). growing.ended ++ f ∷ []) fact_is)
          ∙ ap (λ (os : List PassOp). flat_map told_of (map (operations_in os) (ranges_from_starts starts (length ops)))) (append-nil ops);
    }

pub told-none : (ops : List PassOp) (growing : Growing) (passes : ToldPasses) → IsGrowing ops growing → growing.last ≡ None → passes.facts ≡ growing.ended → passes.operations ≡ growing.operations
    → AreTold ops passes
told-none ops growing passes is last facts operations =
    let none = going-none ops growing is last in
    let certificate = grouped-none ops [] [] (ap length none.0) refl refl in
    record {
      starts = [];
      windows = [];
      fewest = certificate-fewest ops [] [] certificate;
      certificate = certificate;
      between = refl;
      operations_counted = operations ∙ is.operations;
      facts_told = facts ∙ none.1;
    }
