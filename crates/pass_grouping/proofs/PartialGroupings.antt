-- A grouping that grows from the left, with its windows.
use Rattle.std.proofs.Common.{◌≡◌, ℕ, ◌+◌, ◌-◌, ◌<◌, ◌≤◌, List, [], ◌∷◌, ◌++◌, length, get_or, All, sym, ap, subst, ◌∙◌, refl, arith, zero, suc, length-append}
use Rattle.std.proofs.lemmas.List.{get_or_append_left}
use Rattle.std.proofs.lemmas.List.Elements.{All-push}
use Rattle.pass_grouping.specs.declared.operation.PassOp.{PassOp}
use Rattle.pass_grouping.specs.declared.certificate.Window.{Window}
use Rattle.pass_grouping.specs.Passes.{IsOnePass}
use Rattle.pass_grouping.specs.Groupings.{PassRange, ranges_from_starts, first_or, IsPass, IsWindow, AreApart, IsCertificate, between_starts}
use Rattle.pass_grouping.specs.Growing.{Grouped}

first_or-push : (starts : List ℕ) (start behind : ℕ) → first_or (starts ++ start ∷ []) behind ≡ first_or starts start
first_or-push [] start behind = refl
first_or-push (s ∷ ss) start behind = refl

first_or-any : (starts : List ℕ) (m n : ℕ) → 0 < length starts → first_or starts m ≡ first_or starts n
first_or-any [] m n some = absurd (omega arith)
first_or-any (s ∷ ss) m n some = refl

pub parts-push : (starts : List ℕ) (start behind : ℕ) → ranges_from_starts (starts ++ start ∷ []) behind ≡ ranges_from_starts starts start ++ record { start = start; behind = behind } ∷ []
parts-push [] start behind = refl
parts-push (s ∷ ss) start behind =
    ap (λ n. record { start = s; behind = n } ∷ ranges_from_starts (ss ++ start ∷ []) behind) (first_or-push ss start behind)
    ∙ ap (λ (ps : List PassRange). record { start = s; behind = first_or ss start } ∷ ps) (parts-push ss start behind)

between-push : (earlier : List ℕ) (s t : ℕ) → between_starts ((earlier ++ s ∷ []) ++ t ∷ []) ≡ between_starts (earlier ++ s ∷ []) ++ record { from = s; to = t } ∷ []
between-push [] s t = refl
between-push (a ∷ []) s t = refl
between-push (a ∷ b ∷ cs) s t = ap (λ (ws : List Window). record { from = a; to = b } ∷ ws) (between-push (b ∷ cs) s t)

neighbours : (starts : List ℕ) (k : ℕ) (d : Window) → suc k < length (between_starts starts) → (get_or (between_starts starts) k d).to ≤ (get_or (between_starts starts) (suc k) d).from
neighbours [] k d below = absurd (omega arith)
neighbours (s ∷ []) k d below = absurd (omega arith)
neighbours (s ∷ t ∷ []) k d below = absurd (omega arith)
neighbours (s ∷ t ∷ u ∷ us) zero d below = omega arith
neighbours (s ∷ t ∷ u ∷ us) (suc k) d below = neighbours (t ∷ u ∷ us) k d (omega arith)

-- the window of a part begins where that of the part before it ends
between-apart : (starts : List ℕ) → AreApart (between_starts starts)
between-apart starts k d below =
    let next : suc k ≡ k + 1 = omega arith in
    subst (λ n. (get_or (between_starts starts) k d).to ≤ (get_or (between_starts starts) n d).from) next (neighbours starts k d (omega arith))

pub grouped-start : (ops : List PassOp) (starts : List ℕ) (windows : List Window) (behind : ℕ) → starts ≡ 0 ∷ [] → windows ≡ [] → 0 < behind → behind ≤ length ops
    → IsOnePass ops 0 (behind - 1) → Grouped ops starts windows 0 behind
grouped-start ops starts windows behind one none some within pass =
    subst (λ (ss : List ℕ). Grouped ops ss windows 0 behind) (sym one)
    (subst (λ (ws : List Window). Grouped ops (0 ∷ []) ws 0 behind) (sym none) (record {
      first = refl;
      passes = All-push (IsPass ops) [] (record { start = 0; behind = behind }) (λ k d below. absurd (omega arith)) (record { some = some; within = within; pass = pass });
      between = refl;
      hold = λ k d below. absurd (omega arith);
      counts = refl;
      earlier = [];
      last = refl;
      some = some;
      within = within;
      few = omega arith;
    }))

pub grouped-next : (ops : List PassOp) (starts starts' : List ℕ) (windows windows' : List Window) (start behind behind' : ℕ) → Grouped ops starts windows start behind → ¬ IsOnePass ops start behind → behind < length ops
    → windows' ≡ windows ++ record { from = start; to = behind } ∷ [] → starts' ≡ starts ++ behind ∷ [] → behind < behind' → behind' ≤ length ops
    → IsOnePass ops behind (behind' - 1) → Grouped ops starts' windows' behind behind'
grouped-next ops starts starts' windows windows' start behind behind' so_far broken more pushed_window pushed_start some within pass =
    let windows_are : windows' ≡ between_starts (starts ++ behind ∷ []) =
    pushed_window ∙ ap (λ (ws : List Window). ws ++ record { from = start; to = behind } ∷ []) (so_far.between ∙ ap between_starts so_far.last)
    ∙ sym (between-push so_far.earlier start behind) ∙ ap (λ (ss : List ℕ). between_starts (ss ++ behind ∷ [])) (sym so_far.last) in
    record {
      first =
          ap (λ (ss : List ℕ). first_or ss (length ops)) pushed_start ∙ first_or-push starts behind (length ops)
          ∙ first_or-any starts behind (length ops) (omega (arith, so_far.counts)) ∙ so_far.first;
      passes =
          subst (λ (ss : List ℕ). All (IsPass ops) (ranges_from_starts ss behind')) (sym pushed_start)
          (subst (All (IsPass ops)) (sym (parts-push starts behind behind'))
          (All-push (IsPass ops) (ranges_from_starts starts behind) (record { start = behind; behind = behind' }) so_far.passes (record { some = some; within = within; pass = pass })));
      between = windows_are ∙ ap between_starts (sym pushed_start);
      hold =
          subst (All (IsWindow ops)) (sym pushed_window)
          (All-push (IsWindow ops) windows (record { from = start; to = behind }) so_far.hold (record { ordered = omega (arith, so_far.some); within = more; broken = broken }));
      counts = omega (arith, ap length pushed_start, ap length pushed_window, length-append starts (behind ∷ []), length-append windows (record { from = start; to = behind } ∷ []), so_far.counts);
      earlier = starts;
      last = pushed_start;
      some = some;
      within = within;
      few = omega (arith, ap length pushed_start, length-append starts (behind ∷ []), so_far.few);
    }

-- what holds of all holds of the first
all-front : (P : PassRange → Type 0) (xs ys : List PassRange) → All P (xs ++ ys) → All P xs
all-front P xs ys all k d below = subst P (get_or_append_left xs ys d k below) (all k d (omega (arith, length-append xs ys)))

-- the last part is one operation longer
pub grouped-more : (ops : List PassOp) (starts : List ℕ) (windows : List Window) (start behind : ℕ) → Grouped ops starts windows start behind → behind < length ops → IsOnePass ops start behind
    → Grouped ops starts windows start (behind + 1)
grouped-more ops starts windows start behind so_far more pass =
    let were : All (IsPass ops) (ranges_from_starts so_far.earlier start ++ record { start = start; behind = behind } ∷ []) =
    subst (All (IsPass ops)) (ap (λ (ss : List ℕ). ranges_from_starts ss behind) so_far.last ∙ parts-push so_far.earlier start behind) so_far.passes in
    let part : IsPass ops (record { start = start; behind = behind + 1 }) =
    record { some = omega (arith, so_far.some); within = omega arith; pass = subst (IsOnePass ops start) (omega arith) pass } in
    record {
      first = so_far.first;
      passes =
          subst (All (IsPass ops)) (sym (ap (λ (ss : List ℕ). ranges_from_starts ss (behind + 1)) so_far.last ∙ parts-push so_far.earlier start (behind + 1)))
          (All-push (IsPass ops) (ranges_from_starts so_far.earlier start) (record { start = start; behind = behind + 1 })
          (all-front (IsPass ops) (ranges_from_starts so_far.earlier start) (record { start = start; behind = behind } ∷ []) were) part);
      between = so_far.between;
      hold = so_far.hold;
      counts = so_far.counts;
      earlier = so_far.earlier;
      last = so_far.last;
      some = omega (arith, so_far.some);
      within = omega arith;
      few = omega (arith, so_far.few);
    }

pub grouped-end : (ops : List PassOp) (starts : List ℕ) (windows : List Window) (start behind : ℕ) → Grouped ops starts windows start behind → length ops ≤ behind
    → IsCertificate ops starts windows
grouped-end ops starts windows start behind so_far all =
    let end : behind ≡ length ops = omega (arith, so_far.within) in
    record {
      grouping = record { first = so_far.first; passes = subst (λ n. All (IsPass ops) (ranges_from_starts starts n)) end so_far.passes };
      hold = so_far.hold;
      apart = subst AreApart (sym so_far.between) (between-apart starts);
      counts = λ _. so_far.counts;
    }

-- where there is no operation
pub grouped-none : (ops : List PassOp) (starts : List ℕ) (windows : List Window) → length ops ≡ 0 → starts ≡ [] → windows ≡ [] → IsCertificate ops starts windows
grouped-none ops starts windows none no_start no_window =
    subst (λ (ss : List ℕ). IsCertificate ops ss windows) (sym no_start)
    (subst (λ (ws : List Window). IsCertificate ops [] ws) (sym no_window) (record {
      grouping = record { first = none; passes = λ k d below. absurd (omega arith) };
      hold = λ k d below. absurd (omega arith);
      apart = λ k d below. absurd (omega arith);
      counts = λ some. absurd (omega arith);
    }))
