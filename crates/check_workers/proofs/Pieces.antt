-- What is made of two texts, one behind the other, and where pieces begin.
use Rattle.std.proofs.Common.{◌≡◌, ℕ, ◌+◌, ◌-◌, ◌*◌, ◌/◌, ◌≤◌, ◌<◌, List, ◌++◌, All, length, map, sym, ap, subst, ◌∙◌, arith, add-zero}
use Rattle.std.specs.List.{Contains, slice_range}
use Rattle.std.proofs.Math.Nat.{div-mul-le_self, mul-le-mul_left}
use Rattle.std.proofs.lemmas.Nat.{div-mul-add, le-div}
use Rattle.std.proofs.lemmas.List.Elements.{All-contains}
use Rattle.knit_base.specs.declared.instr.Read.{Read}
use Rattle.knit_base.specs.declared.needle.Needle.{Needle}
use Rattle.knit_base.specs.declared.setting.Setting.{Setting}
use Rattle.knit_base.specs.Limits.{IsLawfulProfile}
use Rattle.knitout_reader.proofs.SomeReading.{each-reads}
use Rattle.face_data.specs.declared.face.Seg.TheVariants.{New}
use Rattle.face_data.specs.Composition.{composed}
use Rattle.face_data.specs.Goodness.{IsGood}
use Rattle.face_data.specs.Segments.{segments_on}
use Rattle.face_data.specs.Summaries.{Summary}
use Rattle.face_data.proofs.Items.{items_bound}
use Rattle.loop_history.specs.declared.row.LoopRow.{LoopRow}
use Rattle.loop_history.specs.Rows.{row_through}
use Rattle.loop_history.specs.Tables.{IsOfEarlier, IsRowOf, TableStandsFor}
use Rattle.loop_history.proofs.TableLines.{rows_few}
use Rattle.loop_history.proofs.TextTables.{table_both}
use Rattle.block_summary.specs.Prepared.{IsMadeOf}
use Rattle.block_summary.proofs.BedNeedles.{named_numbered}
use Rattle.block_summary.specs.NamedNeedles.{needles_named}
use Rattle.block_summary.proofs.Blocks.{held_earlier, named_known}
use Rattle.block_summary.proofs.LinePlaces.{part_all, part_len}
use Rattle.check_workers.specs.Faces.{IsFaceOf}
use Rattle.check_workers.specs.Pieces.{CanCut, CanJoin, IsOfBoth, IsPieceOf, FaceAndLoops, lines_of_pieces, piece_start}
use Rattle.check_workers.proofs.LineRanges.{both_ranges}
use Rattle.check_workers.proofs.Faces.{SplitReadings, face_both, face_lines, split_readings}

-- the face of a part
part_face : (setting : Setting) (text : List (List ℕ)) (part : FaceAndLoops) → IsPieceOf setting text part → IsFaceOf setting.profile setting.declared text part.0
part_face setting text part is = record { stands = λ lines read. (is lines read).stands; good = λ lines read. (is lines read).good }

-- the new loops on each needle are of the text's own lines
held_before : (carriers limit lines : ℕ) (known : List Needle) (s : Summary) → s.lines ≡ lines → IsGood carriers limit known s → (n : Needle) (o : ℕ) → Contains (segments_on s.changes n) (New o) → o < lines
held_before carriers limit lines known s same good n o there =
    subst (λ k. o < k) same (All-contains (IsOfEarlier s.lines) (segments_on s.changes n) (New o) (held_earlier carriers limit known s n good) there)

-- The parts of two texts, put together, are the part of both.
pub part_both : (setting : Setting) (first second : List (List ℕ)) (front back both : FaceAndLoops) → IsPieceOf setting first front → IsPieceOf setting second back → IsOfBoth front back both → IsPieceOf setting (first ++ second) both
part_both setting first second front back both of_first of_second is lines read =
    let profile = setting.profile in
    let names = setting.declared in
    let split : SplitReadings profile names first second lines = split_readings profile names first second lines read in
    let a = of_first split.xs split.of_first in
    let b = of_second split.ys split.of_second in
    let face : IsFaceOf profile names (first ++ second) (composed front.0 back.0) =
    face_both profile names first second front.0 back.0 (part_face setting first front of_first) (part_face setting second back of_second) in
    let fits = held_before (length names) profile.hold (length split.xs) (needles_named split.xs) front.0 a.stands.lines_are (a.good (needles_named split.xs) (named_known split.xs)) in
    let table : TableStandsFor profile (front.1 ++ map (row_through front.0.changes (length split.xs)) back.1) (split.xs ++ split.ys) =
    table_both profile front.0 front.1 back.1 split.xs split.ys a.stands a.table b.table fits in
    let rows : front.1 ++ map (row_through front.0.changes (length split.xs)) back.1 ≡ both.1 =
    ap (λ k. front.1 ++ map (row_through front.0.changes k) back.1) (sym a.stands.lines_are) ∙ sym is.loops in
    subst (λ (s : Summary). IsMadeOf profile (length names) s both.1 lines) (sym is.face) (record {
      stands = face.stands lines read;
      table = subst (λ (rs : List Read). TableStandsFor profile both.1 rs) (sym split.both) (subst (λ (xs : List LoopRow). TableStandsFor profile xs (split.xs ++ split.ys)) rows table);
      good = face.good lines read;
      bound = λ known knows. items_bound (length names) profile.hold known (composed front.0 back.0) (face.good lines read known knows);
    })

-- Parts of two texts can be put together.
pub can_join : (setting : Setting) (first second : List (List ℕ)) (front back : FaceAndLoops) → IsLawfulProfile setting.profile → length setting.declared ≤ 64 → length first + length second ≤ 4096
    → IsPieceOf setting first front → IsPieceOf setting second back → CanJoin front back
can_join setting first second front back bounds carriers few of_first of_second =
    let profile = setting.profile in
    let names = setting.declared in
    let xs = each-reads profile names first in
    let ys = each-reads profile names second in
    let a = of_first xs.0 xs.1 in
    let b = of_second ys.0 ys.1 in
    let front_lines : front.0.lines ≡ length first = face_lines profile names first front.0 (part_face setting first front of_first) in
    let back_lines : back.0.lines ≡ length second = face_lines profile names second back.0 (part_face setting second back of_second) in
    let rows : All (IsRowOf front.0.lines) front.1 = subst (λ n. All (IsRowOf n) front.1) (sym a.stands.lines_are) a.table.within in
    let later : All (IsRowOf back.0.lines) back.1 = subst (λ n. All (IsRowOf n) back.1) (sym b.stands.lines_are) b.table.within in
    record {
      machine = record {
        carriers = length names;
        limit = profile.hold;
        first_known = needles_named xs.0;
        second_known = needles_named ys.0;
        few = carriers;
        few_loops = omega (arith, bounds.hold);
        first_numbers = named_numbered profile names first xs.0 bounds xs.1;
        second_numbers = named_numbered profile names second ys.0 bounds ys.1;
        first_good = a.good (needles_named xs.0) (named_known xs.0);
        second_good = b.good (needles_named ys.0) (named_known ys.0);
      };
      rows = rows;
      later = later;
      few = omega (arith, few, front_lines, back_lines);
      few_rows = omega (arith, few, front_lines, back_lines, rows_few front.0.lines front.1 a.table.rising rows, rows_few back.0.lines back.1 b.table.rising later);
    }

-- later pieces begin later
pub place_ordered : (lines pieces from to : ℕ) → 1 ≤ pieces → from ≤ to → piece_start lines pieces from ≤ piece_start lines pieces to
place_ordered lines pieces from to some ordered =
    let whole : lines * from / pieces * pieces ≤ lines * from = div-mul-le_self (lines * from) pieces in
    let more : lines * from ≤ lines * to = mul-le-mul_left lines ordered in
    le-div (lines * from / pieces) (lines * to) pieces some (omega (arith, whole, more))

-- the last one ends there
pub place_last : (lines pieces : ℕ) → 1 ≤ pieces → piece_start lines pieces pieces ≡ lines
place_last lines pieces some = ap (λ n. n / pieces) (sym (add-zero (lines * pieces))) ∙ div-mul-add lines pieces 0 some

-- and none behind the last line
pub place_inside : (lines pieces i : ℕ) → 1 ≤ pieces → i ≤ pieces → piece_start lines pieces i ≤ lines
place_inside lines pieces i some inside =
    subst (λ n. piece_start lines pieces i ≤ n) (place_last lines pieces some) (place_ordered lines pieces i pieces some inside)

place_first : (lines pieces : ℕ) → 1 ≤ pieces → piece_start lines pieces 0 ≡ 0
place_first lines pieces some = ap (λ n. n / pieces) (let none : lines * 0 ≡ 0 * pieces + 0 = omega arith in none) ∙ div-mul-add 0 pieces 0 some

pieces_len : (text : List (List ℕ)) (pieces from to : ℕ) → 1 ≤ pieces → to ≤ pieces → length (lines_of_pieces text pieces from to) ≡ piece_start (length text) pieces to - piece_start (length text) pieces from
pieces_len text pieces from to some inside = part_len text (piece_start (length text) pieces from) (piece_start (length text) pieces to) (place_inside (length text) pieces to some inside)

-- some pieces, and those behind them
pub pieces_can_join : (setting : Setting) (text : List (List ℕ)) (pieces from middle to : ℕ) (front back : FaceAndLoops) → length setting.declared ≤ 64 → CanCut setting text pieces from to → from ≤ middle → middle ≤ to
    → IsPieceOf setting (lines_of_pieces text pieces from middle) front → IsPieceOf setting (lines_of_pieces text pieces middle to) back → CanJoin front back
pieces_can_join setting text pieces from middle to front back carriers can before behind of_first of_second =
    let n : ℕ = length text in
    let inside : middle ≤ pieces = omega (arith, behind, can.inside) in
    let begun : piece_start n pieces from ≤ piece_start n pieces middle = place_ordered n pieces from middle can.some before in
    let ended : piece_start n pieces middle ≤ piece_start n pieces to = place_ordered n pieces middle to can.some behind in
    let last : piece_start n pieces to ≤ n = place_inside n pieces to can.some can.inside in
    let first_len = pieces_len text pieces from middle can.some inside in
    let second_len = pieces_len text pieces middle to can.some can.inside in
    can_join setting (lines_of_pieces text pieces from middle) (lines_of_pieces text pieces middle to) front back can.lawful carriers
    (omega (arith, first_len, second_len, begun, ended, last, can.few)) of_first of_second

pub pieces_both : (setting : Setting) (text : List (List ℕ)) (pieces from middle to : ℕ) (front back both : FaceAndLoops) → 1 ≤ pieces → from ≤ middle → middle ≤ to
    → IsPieceOf setting (lines_of_pieces text pieces from middle) front → IsPieceOf setting (lines_of_pieces text pieces middle to) back → IsOfBoth front back both → IsPieceOf setting (lines_of_pieces text pieces from to) both
pieces_both setting text pieces from middle to front back both some before behind of_first of_second is =
    let n : ℕ = length text in
    subst (λ (lines : List (List ℕ)). IsPieceOf setting lines both)
    (both_ranges text (piece_start n pieces from) (piece_start n pieces middle) (piece_start n pieces to) (place_ordered n pieces from middle some before) (place_ordered n pieces middle to some behind))
    (part_both setting (lines_of_pieces text pieces from middle) (lines_of_pieces text pieces middle to) front back both of_first of_second is)

-- All pieces are the whole text.
pub all_pieces : (setting : Setting) (text : List (List ℕ)) (pieces : ℕ) (part : FaceAndLoops) → 1 ≤ pieces → IsPieceOf setting (lines_of_pieces text pieces 0 pieces) part → IsPieceOf setting text part
all_pieces setting text pieces part some is =
    subst (λ (lines : List (List ℕ)). IsPieceOf setting lines part)
    (ap (λ from. slice_range text from (piece_start (length text) pieces pieces)) (place_first (length text) pieces some)
    ∙ part_all text (piece_start (length text) pieces pieces) (place_last (length text) pieces some)) is
