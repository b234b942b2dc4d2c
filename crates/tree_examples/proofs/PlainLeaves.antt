-- Summaries that only set the rack may stand beside any others.
use Rattle.std.proofs.Common.{◌≡◌, ℕ, zero, suc, ◌+◌, ◌<◌, ◌≤◌, ℤ, List, [], ◌∷◌, length, take, drop, ap, sym, subst, arith}
use Rattle.std.specs.Prelude.{slice_set}
use Rattle.std.proofs.lemmas.List.{take-append-drop, length-set}
use Rattle.knit_base.specs.declared.needle.Needle.{Needle}
use Rattle.face_data.proofs.Drafts.{no_lines_good}
use Rattle.face_data.proofs.Members.{Contains-none}
use Rattle.face_data.specs.Goodness.{IsGood}
use Rattle.face_data.specs.Summaries.{Summary}
use Rattle.loop_history.specs.declared.row.LoopRow.{LoopRow}
use Rattle.tree_shape.specs.Fewest.{list_inserted}
use Rattle.summary_tree.proofs.Layouts.{length_inserted}
use Rattle.summary_tree.proofs.SoundLeaves.{good_both, good_dropped, good_taken, sound_of, sound_leaves_stand_together}
use Rattle.summary_tree.specs.Laws.{lines_append}
use Rattle.summary_tree.specs.Leaves.{Leaf, AreGoodFor, AreSound, leaf_line_count}
use Rattle.tree_examples.specs.Plain.{plain}

pub plain_good : (carriers limit : ℕ) (known : List Needle) (lines : ℕ) (rack : ℤ) → IsGood carriers limit known (plain lines rack)
plain_good carriers limit known lines rack =
    let g = no_lines_good carriers limit known in
    record {
      fair = record {
        made = omega arith;
        asks_fit = g.fair.asks_fit;
        within = λ c there. absurd (Contains-none c there);
        in_turn = tt;
        nested = g.fair.nested;
        agree = g.fair.agree;
        in_order = g.fair.in_order;
        changes_fit = λ c there. absurd (Contains-none c there);
        owns = g.fair.owns;
        lasts_in_order = g.fair.lasts_in_order;
        lasts_fit = g.fair.lasts_fit;
        sizes = g.fair.sizes;
        ending = record {
          lies = g.fair.ending.lies;
          apart = g.fair.ending.apart;
          came = g.fair.ending.came;
          went = g.fair.ending.went;
          hook = tt;
          nears = λ c there. absurd (Contains-none c there);
        };
      };
      irredundant = tt;
    }

good_set : (carriers limit : ℕ) (known : List Needle) (at : ℕ) (leaf : Leaf) (xs : List Leaf) → IsGood carriers limit known leaf.0 → AreGoodFor carriers limit known xs → AreGoodFor carriers limit known (slice_set xs at leaf)
good_set carriers limit known at leaf [] good g = tt
good_set carriers limit known zero leaf (x ∷ xs) good g = (good, g.1)
good_set carriers limit known (suc at) leaf (x ∷ xs) good g = (g.0, good_set carriers limit known at leaf xs good g.1)

pub lines_set : (at : ℕ) (leaf : Leaf) (xs : List Leaf) → leaf_line_count (slice_set xs at leaf) ≤ leaf_line_count xs + leaf.0.lines
lines_set at leaf [] = omega arith
lines_set zero leaf (x ∷ xs) = omega arith
lines_set (suc at) leaf (x ∷ xs) = omega (arith, lines_set at leaf xs)

pub lines_inserted : (at : ℕ) (leaf : Leaf) (xs : List Leaf) → leaf_line_count (list_inserted at leaf xs) ≡ leaf_line_count xs + leaf.0.lines
lines_inserted at leaf xs =
    omega (arith, lines_append (take at xs) (leaf ∷ drop at xs), lines_append (take at xs) (drop at xs), ap leaf_line_count (take-append-drop at xs))

-- one more, or another one, among leaves that may stand in one tree
pub sound_with : (at lines : ℕ) (rack : ℤ) (xs : List Leaf) → AreSound xs → length xs < 65536 → leaf_line_count xs + lines ≤ 1048576 → AreSound (list_inserted at (plain lines rack, []) xs)
sound_with at lines rack xs s few room =
    let t = sound_leaves_stand_together xs s in
    let leaf : Leaf = (plain lines rack, []) in
    sound_of (list_inserted at leaf xs) (record {
      carriers = t.carriers;
      limit = t.limit;
      known = t.known;
      few_carriers = t.few_carriers;
      few_loops = t.few_loops;
      numbered = t.numbered;
      good = good_both t.carriers t.limit t.known (take at xs) (leaf ∷ drop at xs) (good_taken t.carriers t.limit t.known at xs t.good) (plain_good t.carriers t.limit t.known lines rack, good_dropped t.carriers t.limit t.known at xs t.good);
      few_lines = omega (arith, room, lines_inserted at leaf xs);
    }) (omega (arith, few, length_inserted at leaf xs))

pub sound_instead : (at lines : ℕ) (rack : ℤ) (xs : List Leaf) → AreSound xs → leaf_line_count xs + lines ≤ 1048576 → AreSound (slice_set xs at (plain lines rack, []))
sound_instead at lines rack xs s room =
    let t = sound_leaves_stand_together xs s in
    let leaf : Leaf = (plain lines rack, []) in
    sound_of (slice_set xs at leaf) (record {
      carriers = t.carriers;
      limit = t.limit;
      known = t.known;
      few_carriers = t.few_carriers;
      few_loops = t.few_loops;
      numbered = t.numbered;
      good = good_set t.carriers t.limit t.known at leaf xs (plain_good t.carriers t.limit t.known lines rack) t.good;
      few_lines = omega (arith, room, lines_set at leaf xs);
    }) (omega (arith, s.few_leaves, length-set xs at leaf))

-- the same of a face and a table that are these
pub sound_with_face : (at lines : ℕ) (rack : ℤ) (face : Summary) (table : List LoopRow) (xs : List Leaf) → face ≡ plain lines rack → table ≡ [] → AreSound xs → length xs < 65536 → leaf_line_count xs + lines ≤ 1048576 → AreSound (list_inserted at (face, table) xs)
sound_with_face at lines rack face table xs is none s few room =
    subst (λ (f : Summary). AreSound (list_inserted at (f, table) xs)) (sym is) (subst (λ (t : List LoopRow). AreSound (list_inserted at (plain lines rack, t) xs)) (sym none) (sound_with at lines rack xs s few room))

pub sound_instead_face : (at lines : ℕ) (rack : ℤ) (face : Summary) (table : List LoopRow) (xs : List Leaf) → face ≡ plain lines rack → table ≡ [] → AreSound xs → leaf_line_count xs + lines ≤ 1048576 → AreSound (slice_set xs at (face, table))
sound_instead_face at lines rack face table xs is none s room =
    subst (λ (f : Summary). AreSound (slice_set xs at (f, table))) (sym is) (subst (λ (t : List LoopRow). AreSound (slice_set xs at (plain lines rack, t))) (sym none) (sound_instead at lines rack xs s room))
