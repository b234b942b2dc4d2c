-- Loops in lists that grow at their ends.
use Rattle.std.proofs.Common.{◌≡◌, ℕ, ◌+◌, ◌-◌, ◌<◌, ◌≤◌, ◌^◌, List, [], ◌∷◌, ◌++◌, length, take, drop, get_or, map, All, refl, ap, sym, subst, ◌∙◌, arith, length-append}
use Rattle.std.proofs.lemmas.List.{map-append, take-append-le, drop-append-le, length-drop, length-map, take_all}
use Rattle.std.proofs.lemmas.List.Elements.{All-head, All-tail, All-push}
use Rattle.std.proofs.Math.Seq.{drop-append_seam, take-append_seam}
use Rattle.knit_base.specs.declared.yarns.CarrierNo.{CarrierNo}
use Rattle.carriage_model.specs.declared.fact_list.ListStretch.{ListStretch}
use Rattle.carriage_model.specs.declared.fact_list.FactHead.{FactHead}
use Rattle.carriage_model.specs.declared.verdict.LoopFact.{LoopFact}
use Rattle.carriage_model.specs.FactList.{stretch_of, LiesInList, fact_with, HasStretches, StoresFacts}

-- a stretch that lies in the list stays as it is when the list grows
stretch_of-append : {X : Type 0} (items more : List X) (s : ListStretch) → LiesInList (length items) s → stretch_of (items ++ more) s ≡ stretch_of items s
stretch_of-append items more s lies =
    let start : s.start ≤ length items = omega (arith, lies.ordered, lies.inside) in
    let fits : s.end - s.start ≤ length (drop s.start items) = omega (arith, length-drop s.start items, lies.ordered, lies.inside) in
    ap (take (s.end - s.start)) (drop-append-le s.start items more start) ∙ take-append-le (s.end - s.start) (drop s.start items) more fits

lies-append : {X : Type 0} (items more : List X) (s : ListStretch) → LiesInList (length items) s → LiesInList (length (items ++ more)) s
lies-append items more s lies = record { ordered = lies.ordered; inside = omega (arith, length-append items more, lies.inside) }

-- what was appended is a stretch
stretch_of-last : {X : Type 0} (items more : List X) (s : ListStretch) → s.start ≡ length items → s.end ≡ length items + length more → stretch_of (items ++ more) s ≡ more
stretch_of-last items more s starts ends =
    let whole : length more ≤ s.end - s.start = omega (arith, starts, ends) in
    ap (λ n. take (s.end - s.start) (drop n (items ++ more))) starts
    ∙ ap (take (s.end - s.start)) (drop-append_seam items more)
    ∙ take_all (s.end - s.start) more whole

lies-last : {X : Type 0} (items more : List X) (s : ListStretch) → s.start ≡ length items → s.end ≡ length items + length more → LiesInList (length (items ++ more)) s
lies-last items more s starts ends = record { ordered = omega (arith, starts, ends); inside = omega (arith, ends, length-append items more) }

-- a loop stays as it is when the lists grow
fact_with-append : (yarns ys : List CarrierNo) (through ts : List ℕ) (h : FactHead) → HasStretches yarns through h → fact_with (yarns ++ ys) (through ++ ts) h ≡ fact_with yarns through h
fact_with-append yarns ys through ts h has = λ i. record {
  line = h.line;
  needle = h.needle;
  dir = h.dir;
  yarns = stretch_of-append yarns ys h.yarns has.of_yarns i;
  through = stretch_of-append through ts h.through has.of_through i;
}

facts-append : (heads : List FactHead) (yarns ys : List CarrierNo) (through ts : List ℕ) → All (HasStretches yarns through) heads
    → map (fact_with (yarns ++ ys) (through ++ ts)) heads ≡ map (fact_with yarns through) heads
facts-append [] yarns ys through ts has = refl
facts-append (h ∷ heads) yarns ys through ts has =
    ap (λ f. f ∷ map (fact_with (yarns ++ ys) (through ++ ts)) heads) (fact_with-append yarns ys through ts h (All-head (HasStretches yarns through) h heads has))
    ∙ ap (λ fs. fact_with yarns through h ∷ fs) (facts-append heads yarns ys through ts (All-tail (HasStretches yarns through) h heads has))

still-has : (yarns ys : List CarrierNo) (through ts : List ℕ) (h : FactHead) → HasStretches yarns through h → HasStretches (yarns ++ ys) (through ++ ts) h
still-has yarns ys through ts h has = record {
  of_yarns = lies-append yarns ys h.yarns has.of_yarns;
  of_through = lies-append through ts h.through has.of_through;
}

-- the loops that are kept
pub record Keeps (heads : List FactHead) (yarns : List CarrierNo) (through : List ℕ) (facts : List LoopFact) : Type 0 where
  pub kept : StoresFacts heads yarns through
  pub are : map (fact_with yarns through) heads ≡ facts

keeps-append : (heads : List FactHead) (yarns ys : List CarrierNo) (through ts : List ℕ) (facts : List LoopFact) → Keeps heads yarns through facts
    → Keeps heads (yarns ++ ys) (through ++ ts) facts
keeps-append heads yarns ys through ts facts keeps = record {
  kept = record {
    few = keeps.kept.few;
    stretches = λ k d below. still-has yarns ys through ts (get_or heads k d) (keeps.kept.stretches k d below);
  };
  are = facts-append heads yarns ys through ts keeps.kept.stretches ∙ keeps.are;
}

-- the lists grew, and no loop more names what they got
pub facts_kept_by_growth : (heads heads' : List FactHead) (yarns yarns' ys : List CarrierNo) (through through' ts : List ℕ) (facts : List LoopFact)
    → StoresFacts heads yarns through → map (fact_with yarns through) heads ≡ facts
    → heads' ≡ heads → yarns' ≡ yarns ++ ys → through' ≡ through ++ ts
    → Keeps heads' yarns' through' facts
facts_kept_by_growth heads heads' yarns yarns' ys through through' ts facts kept are same more_yarns more_through =
    subst (λ hs. Keeps hs yarns' through' facts) (sym same)
    (subst (λ y. Keeps heads y through' facts) (sym more_yarns)
    (subst (λ t. Keeps heads (yarns ++ ys) t facts) (sym more_through) (keeps-append heads yarns ys through ts facts (record { kept = kept; are = are }))))

-- the lists grew by what one loop more names
pub fact_lists_pushed : (heads heads' : List FactHead) (yarns yarns' ys : List CarrierNo) (through through' ts : List ℕ) (facts : List LoopFact) (h : FactHead)
    → StoresFacts heads yarns through → map (fact_with yarns through) heads ≡ facts → length facts + 1 < 2 ^ 32
    → h.yarns.start ≡ length yarns → h.yarns.end ≡ length yarns + length ys
    → h.through.start ≡ length through → h.through.end ≡ length through + length ts
    → heads' ≡ heads ++ h ∷ [] → yarns' ≡ yarns ++ ys → through' ≡ through ++ ts
    → Keeps heads' yarns' through' (facts ++ record { line = h.line; needle = h.needle; dir = h.dir; yarns = ys; through = ts } ∷ [])
fact_lists_pushed heads heads' yarns yarns' ys through through' ts facts h kept are few yarns_start yarns_end through_start through_end one_more more_yarns more_through =
    let fact : LoopFact = record { line = h.line; needle = h.needle; dir = h.dir; yarns = ys; through = ts } in
    let before : Keeps heads (yarns ++ ys) (through ++ ts) facts = keeps-append heads yarns ys through ts facts (record { kept = kept; are = are }) in
    let new : fact_with (yarns ++ ys) (through ++ ts) h ≡ fact = λ i. record {
      line = h.line;
      needle = h.needle;
      dir = h.dir;
      yarns = stretch_of-last yarns ys h.yarns yarns_start yarns_end i;
      through = stretch_of-last through ts h.through through_start through_end i;
    } in
    let after : Keeps (heads ++ h ∷ []) (yarns ++ ys) (through ++ ts) (facts ++ fact ∷ []) = record {
      kept = record {
        few = omega (arith, few, length-append heads (h ∷ []), length-map heads (fact_with yarns through), ap length are);
        stretches =
            All-push (HasStretches (yarns ++ ys) (through ++ ts)) heads h before.kept.stretches
            (record { of_yarns = lies-last yarns ys h.yarns yarns_start yarns_end; of_through = lies-last through ts h.through through_start through_end });
      };
      are = map-append (fact_with (yarns ++ ys) (through ++ ts)) heads (h ∷ [])
          ∙ ap (λ fs. fs ++ fact_with (yarns ++ ys) (through ++ ts) h ∷ []) before.are
          ∙ ap (λ f. facts ++ f ∷ []) new;
    } in
    subst (λ hs. Keeps hs yarns' through' (facts ++ fact ∷ [])) (sym one_more)
    (subst (λ y. Keeps (heads ++ h ∷ []) y through' (facts ++ fact ∷ [])) (sym more_yarns)
    (subst (λ t. Keeps (heads ++ h ∷ []) (yarns ++ ys) t (facts ++ fact ∷ [])) (sym more_through) after))

-- the loops that were appended were taken off again
pub taken-off : (loops more behind left : List LoopFact) (count : ℕ) → count ≡ length loops → behind ≡ loops ++ more → left ≡ take count behind → left ≡ loops
taken-off loops more behind left count counts appended is =
    is ∙ ap (take count) appended ∙ ap (λ n. take n (loops ++ more)) counts ∙ take-append_seam loops more
