-- How much work an edit takes: the lines after it name no needle but those of the lines before it and of its text.
use Rattle.std.proofs.Common.{◌≡◌, ⊎_elim, ℕ, ◌+◌, ◌*◌, ◌≤◌, Bool, true, false, cond, ◌||◌, ◌==◌, List, [], ◌∷◌, ◌++◌, length, Option, Some, None, sym, subst, ap, ◌∙◌, refl, arith}
use Rattle.std.specs.List.{AllZip, Contains, list_any}
use Rattle.knit_base.specs.declared.instr.Read.{Read}
use Rattle.knit_base.specs.declared.instr.Read.TheVariants as read
use Rattle.knit_base.specs.declared.needle.Needle.{Needle}
use Rattle.knit_base.specs.declared.setting.Setting.{Setting}
use Rattle.knit_base.specs.Instr.{forming_needle}
use Rattle.knit_base.specs.Needle.{own_slider, same_needle, same_needle-true}
use Rattle.knit_base.specs.declared.profile.Profile.{Profile}
use Rattle.knitout_reader.specs.Reading.{CodeReadsAs, ReadsAs}
use Rattle.knitout_reader.specs.Tokens.{before_comment, has_comment, tokens_of}
use Rattle.knitout_reader.proofs.OneShape.{one-reading}
use Rattle.knitout_reader.proofs.SomeReading.{each-reads}
use Rattle.face_data.specs.Items.{most_items}
use Rattle.face_data.specs.Sets.{AreNeedlesWithin}
use Rattle.face_data.proofs.Members.{Contains-cons_cases, Contains-head, Contains-none, Contains-tail}
use Rattle.block_summary.specs.LineSummaries.{NeedlesKnownInLine, SliderKnown}
use Rattle.block_summary.specs.Prepared.{AreNeedlesKnown, AreReadings}
use Rattle.block_summary.specs.NamedNeedles.{needles_named}
use Rattle.block_summary.proofs.Blocks.{named_known}
use Rattle.edit_journal.specs.declared.edit.Anchor.{Anchor}
use Rattle.edit_journal.specs.declared.edit.Anchor.TheVariants.{Start, After}
use Rattle.edit_journal.specs.declared.edit.Edit.{Edit}
use Rattle.edit_journal.specs.declared.edit.Entry.{Entry}
use Rattle.edit_journal.specs.declared.opening.Opening.{Opening}
use Rattle.edit_journal.specs.Documents.{Block, Document, after, body, document_of, lines_in, with_after, blocks_with_new, with_text, blocks_without}
use Rattle.edit_book.specs.Books.{BookView, Each, AreLawfulLeaves, IsLeafOf}
use Rattle.edit_book.specs.Replies.{Request}
use Rattle.edit_book.specs.Headers.{changes_header}
use Rattle.edit_book.specs.Work.{edit_limit, limit_at, needles_in, needles_once, start_limit, work_limit}
use Rattle.edit_book.proofs.KeptHeaders.{setting_stays}
use Rattle.edit_book.proofs.Puts.{doc_snoc}
use Rattle.edit_book.proofs.Trees.{setting_at, zip_count}
use Rattle.summary_tree.specs.Leaves.{AreGoodFor, Leaf}
use Rattle.summary_tree.specs.Trees.{TreeView, change_steps}

any_there : (n : Needle) (ns : List Needle) → list_any (same_needle n) ns ≡ true → Contains ns n
any_there n [] h = absurd (cc)
any_there n (m ∷ ms) h = go (same_needle n m) refl h (any_there n ms)
  where
    go : (t : Bool) → same_needle n m ≡ t → (t || list_any (same_needle n) ms) ≡ true → (list_any (same_needle n) ms ≡ true → Contains ms n) → Contains (m ∷ ms) n
    go true is h later = subst (λ (k : Needle). Contains (m ∷ ms) k) (sym (same_needle-true n m is)) (Contains-head m ms)
    go false is h later = Contains-tail m ms n (later h)

-- no needle is left out
once_keeps : (ns : List Needle) → AreNeedlesWithin ns (needles_once ns)
once_keeps [] n there = there
once_keeps (m ∷ ms) n there = go (list_any (same_needle m) ms) refl (once_keeps ms)
  where
    go : (t : Bool) → list_any (same_needle m) ms ≡ t → AreNeedlesWithin ms (needles_once ms) → Contains (cond t (needles_once ms) (m ∷ needles_once ms)) n
    go true is rest =
        ⊎_elim (λ (same : m ≡ n). rest n (subst (λ (k : Needle). Contains ms k) same (any_there m ms is))) (λ (later : Contains ms n). rest n later) (Contains-cons_cases m ms n there)
    go false is rest =
        ⊎_elim (λ (same : m ≡ n). subst (λ (k : Needle). Contains (m ∷ needles_once ms) k) same (Contains-head m (needles_once ms))) (λ (later : Contains ms n). Contains-tail m (needles_once ms) n (rest n later))
        (Contains-cons_cases m ms n there)

slider_wider : (on : Option Needle) (known wider : List Needle) → AreNeedlesWithin known wider → SliderKnown known on → SliderKnown wider on
slider_wider None known wider within is = tt
slider_wider (Some n) known wider within is = within (own_slider n) is

known_wider : (r : Read) (known wider : List Needle) → AreNeedlesWithin known wider → NeedlesKnownInLine known r → NeedlesKnownInLine wider r
known_wider (read.Instr i) known wider within is = record {
  needles = λ n there. within n (is.needles n there);
  slider = slider_wider (forming_needle i) known wider within is.slider;
}
known_wider r known wider within is = tt

-- the line names these needles alone, as it reads
pub record KnowsLine (setting : Setting) (known : List Needle) (line : List ℕ) : Type 0 where
  pub reading : Read
  pub read : ReadsAs setting.profile setting.declared line reading
  pub knows : NeedlesKnownInLine known reading

zip_known : (setting : Setting) (known : List Needle) (lines : List (List ℕ)) (readings : List Read) → AreReadings setting.profile setting.declared lines readings → AreNeedlesKnown known readings
    → Each (KnowsLine setting known) lines
zip_known setting known [] [] reads all = tt
zip_known setting known [] (r ∷ rs) reads all = tt
zip_known setting known (line ∷ lines) [] reads all = absurd reads
zip_known setting known (line ∷ lines) (r ∷ rs) reads all =
    (record { reading = r; read = reads.0; knows = all r (Contains-head r rs) }, zip_known setting known lines rs reads.1 (λ q there. all q (Contains-tail r rs q there)))

-- the needles in lines are those that each of them names
pub lines_known : (setting : Setting) (lines : List (List ℕ)) → Each (KnowsLine setting (needles_in setting lines)) lines
lines_known setting lines =
    let rs = each-reads setting.profile setting.declared lines in
    zip_known setting (needles_in setting lines) lines rs.0 rs.1 (λ r there. known_wider r (needles_named rs.0) (needles_once (needles_named rs.0)) (once_keeps (needles_named rs.0)) (named_known rs.0 r there))

-- a line has one reading
line_once : (profile : Profile) (names : List (List ℕ)) (tokens : List (List ℕ)) (comment : Bool) (r other : Read) → CodeReadsAs profile names tokens comment r → CodeReadsAs profile names tokens comment other → other ≡ r
line_once profile names [] false r other one two = two ∙ sym one
line_once profile names [] true r other one two = two ∙ sym one
line_once profile names (token ∷ tokens) comment r other one two = one-reading profile names token tokens r other one two

-- and so have some lines
read_once : (profile : Profile) (names lines : List (List ℕ)) (readings others : List Read) → AreReadings profile names lines readings → AreReadings profile names lines others → others ≡ readings
read_once profile names [] [] [] one two = refl
read_once profile names [] [] (r ∷ rs) one two = absurd two
read_once profile names [] (r ∷ rs) others one two = absurd one
read_once profile names (line ∷ lines) [] others one two = absurd one
read_once profile names (line ∷ lines) (r ∷ rs) [] one two = absurd two
read_once profile names (line ∷ lines) (r ∷ rs) (q ∷ qs) one two =
    let first = line_once profile names (tokens_of (before_comment line)) (has_comment line) r q one.0 two.0 in
    let later = read_once profile names lines rs qs one.1 two.1 in
    λ i. first i ∷ later i

-- The needles in lines are those of any readings.
pub needles_are : (setting : Setting) (lines : List (List ℕ)) (readings : List Read) → AreReadings setting.profile setting.declared lines readings → needles_in setting lines ≡ needles_once (needles_named readings)
needles_are setting lines readings reads =
    let some = each-reads setting.profile setting.declared lines in
    ap (λ (rs : List Read). needles_once (needles_named rs)) (read_once setting.profile setting.declared lines readings some.0 reads some.1)

-- readings of lines that name these needles alone
record Known (setting : Setting) (known : List Needle) (lines : List (List ℕ)) : Type 0 where
  readings : List Read
  read : AreReadings setting.profile setting.declared lines readings
  knows : AreNeedlesKnown known readings

readings_known : (setting : Setting) (known : List Needle) (lines : List (List ℕ)) → Each (KnowsLine setting known) lines → Known setting known lines
readings_known setting known [] h = record { readings = []; read = tt; knows = λ r there. absurd (Contains-none r there) }
readings_known setting known (line ∷ lines) h =
    let rest = readings_known setting known lines h.1 in
    record {
      readings = h.0.reading ∷ rest.readings;
      read = (h.0.read, rest.read);
      knows = λ r there. ⊎_elim (λ (same : h.0.reading ≡ r). subst (NeedlesKnownInLine known) same h.0.knows) (λ (later : Contains rest.readings r). rest.knows r later)
          (Contains-cons_cases h.0.reading rest.readings r there);
    }

pub each_split : {X : Type 0} (P : X → Type 0) (xs ys : List X) → Each P (xs ++ ys) → Each P xs × Each P ys
each_split P [] ys h = (tt, h)
each_split P (x ∷ xs) ys h = let rest = each_split P xs ys h.1 in ((h.0, rest.0), rest.1)

each_join : {X : Type 0} (P : X → Type 0) (xs ys : List X) → Each P xs → Each P ys → Each P (xs ++ ys)
each_join P [] ys h k = k
each_join P (x ∷ xs) ys h k = (h.0, each_join P xs ys h.1 k)

module _ (P : List ℕ → Type 0) where
  -- what holds of the lines before an edit and of its text holds of the lines after it
  pub put_lines : (bs : List Block) (id i : ℕ) (text : List (List ℕ)) → Each P (lines_in bs) → Each P text → Each P (lines_in (with_text id i text bs))
  put_lines [] id i text h k = tt
  put_lines (b ∷ bs) id i text h k =
      let both = each_split P b.lines (lines_in bs) h in
      go (b.id == id) both.0 both.1 (put_lines bs id i text both.1 k)
    where
      go : (t : Bool) → Each P b.lines → Each P (lines_in bs) → Each P (lines_in (with_text id i text bs))
          → Each P (lines_in (cond t (record { id = id; stamp = i; lines = text } ∷ bs) (b ∷ with_text id i text bs)))
      go true own others rest = each_join P text (lines_in bs) k others
      go false own others rest = each_join P b.lines (lines_in (with_text id i text bs)) own rest

  pub cut_lines : (bs : List Block) (id : ℕ) → Each P (lines_in bs) → Each P (lines_in (blocks_without id bs))
  cut_lines [] id h = tt
  cut_lines (b ∷ bs) id h =
      let both = each_split P b.lines (lines_in bs) h in
      go (b.id == id) both.0 both.1 (cut_lines bs id both.1)
    where
      go : (t : Bool) → Each P b.lines → Each P (lines_in bs) → Each P (lines_in (blocks_without id bs)) → Each P (lines_in (cond t bs (b ∷ blocks_without id bs)))
      go true own others rest = others
      go false own others rest = each_join P b.lines (lines_in (blocks_without id bs)) own rest

  after_lines : (bs : List Block) (id : ℕ) (new : Block) → Each P (lines_in bs) → Each P new.lines → Each P (lines_in (with_after id new bs))
  after_lines [] id new h k = tt
  after_lines (b ∷ bs) id new h k =
      let both = each_split P b.lines (lines_in bs) h in
      go (b.id == id) both.0 both.1 (after_lines bs id new both.1 k)
    where
      go : (t : Bool) → Each P b.lines → Each P (lines_in bs) → Each P (lines_in (with_after id new bs)) → Each P (lines_in (cond t (b ∷ new ∷ bs) (b ∷ with_after id new bs)))
      go true own others rest = each_join P b.lines (new.lines ++ lines_in bs) own (each_join P new.lines (lines_in bs) k others)
      go false own others rest = each_join P b.lines (lines_in (with_after id new bs)) own rest

  pub new_lines : (anchor : Anchor) (bs : List Block) (new : Block) → Each P (lines_in bs) → Each P new.lines → Each P (lines_in (blocks_with_new anchor new bs))
  new_lines Start bs new h k = each_join P new.lines (lines_in bs) k h
  new_lines (After id) bs new h k = after_lines bs id new h k

pub leaves_known : (setting : Setting) (known : List Needle) (leaves : List Leaf) (bs : List Block) → AllZip (λ (l : Leaf) (b : Block). IsLeafOf setting l b.lines) leaves bs → Each (KnowsLine setting known) (lines_in bs)
    → AreGoodFor (length setting.declared) setting.profile.hold known leaves
leaves_known setting known [] bs h all = tt
leaves_known setting known (l ∷ leaves) [] h all = absurd h
leaves_known setting known (l ∷ leaves) (b ∷ bs) h all =
    let both = each_split (KnowsLine setting known) b.lines (lines_in bs) all in
    let own = readings_known setting known b.lines both.0 in
    ((h.0.made own.readings own.read).good known own.knows, leaves_known setting known leaves bs h.1 both.1)

-- A tree that is made of the leaves of blocks takes no more steps than it may at a book's opening.
pub leaves_work : (setting : Setting) (leaves : List Leaf) (bs : List Block) (before now : ℕ) → AllZip (λ (l : Leaf) (b : Block). IsLeafOf setting l b.lines) leaves bs
    → ((carriers limit : ℕ) (known : List Needle) → AreGoodFor carriers limit known leaves → now ≤ before + 3 * most_items carriers limit (length known) * length leaves)
    → now ≤ before + start_limit setting (length bs) (lines_in bs)
leaves_work setting leaves bs before now h steps =
    let known : List Needle = needles_in setting (lines_in bs) in
    subst (λ (n : ℕ). now ≤ before + 3 * most_items (length setting.declared) setting.profile.hold (length known) * n) (zip_count (λ (l : Leaf) (b : Block). IsLeafOf setting l b.lines) leaves bs h)
    (steps (length setting.declared) setting.profile.hold known (leaves_known setting known leaves bs h (lines_known setting (lines_in bs))))

-- An edit of a block takes no more steps than it may.
pub edit_work : (o : Opening) (es : List Entry) (session count blocks before now : ℕ) (request : Request) (change : Edit) (lines : List (List ℕ)) (v : BookView) (room : Bool) (tree : TreeView) (longer : List Entry) (leaves : List Leaf)
    → record { opening = o; entries = es; journal_room = room; tree = tree } ≡ v → longer ≡ es ++ record { session = session; edit = change } ∷ [] → changes_header change ≡ false → AreLawfulLeaves o longer leaves
    → limit_at (setting_at o es) (document_of o es) request ≡ edit_limit (setting_at o es) blocks lines → count ≡ blocks
    → Each (KnowsLine (setting_at o es) (needles_in (setting_at o es) lines)) (body (after (document_of o es) (length es + 1) change))
    → ((carriers limit : ℕ) (known : List Needle) → AreGoodFor carriers limit known leaves → now ≤ before + change_steps count (most_items carriers limit (length known)))
    → now ≤ before + work_limit v.opening v.entries request
edit_work o es session count blocks before now request change lines v room tree longer leaves view longer_is isnt lawful limit_is count_is all steps =
    let setting : Setting = setting_at o es in
    let e : Entry = record { session = session; edit = change } in
    let next : document_of o longer ≡ after (document_of o es) (length es + 1) change = ap (document_of o) longer_is ∙ doc_snoc o es e in
    let same : setting_at o longer ≡ setting = ap (setting_at o) longer_is ∙ setting_stays o es e isnt in
    let known : List Needle = needles_in setting lines in
    let leaves_are : AllZip (λ (l : Leaf) (b : Block). IsLeafOf setting l b.lines) leaves (document_of o longer).blocks =
    subst (λ (x : Setting). AllZip (λ (l : Leaf) (b : Block). IsLeafOf x l b.lines) leaves (document_of o longer).blocks) same lawful.leaves_are in
    let good = leaves_known setting known leaves (document_of o longer).blocks leaves_are (subst (λ (d : Document). Each (KnowsLine setting known) (body d)) (sym next) all) in
    let most : ℕ = most_items (length setting.declared) setting.profile.hold (length known) in
    let taken : now ≤ before + change_steps blocks most = subst (λ (n : ℕ). now ≤ before + change_steps n most) count_is (steps (length setting.declared) setting.profile.hold known good) in
    let here : now ≤ before + limit_at setting (document_of o es) request = subst (λ (n : ℕ). now ≤ before + n) (sym limit_is) taken in
    subst (λ (w : BookView). now ≤ before + work_limit w.opening w.entries request) view here
