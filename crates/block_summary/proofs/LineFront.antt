-- A line whose conditions are all known to hold, after a draft.
use Rattle.std.proofs.Common.{◌≡◌, ℕ, ◌+◌, ◌≤◌, List, [], ◌∷◌, ◌++◌, length, refl, ap, ◌∙◌, arith}
use Rattle.std.specs.List.{Contains}
use Rattle.knit_base.specs.declared.instr.Instr.TheVariants.{Knit, Tuck}
use Rattle.knit_base.specs.declared.instr.Read.{Read}
use Rattle.knit_base.specs.declared.instr.Read.TheVariants as read
use Rattle.knit_base.specs.declared.needle.Dir.{Dir}
use Rattle.knit_base.specs.declared.needle.Needle.{Needle}
use Rattle.knit_base.specs.declared.profile.Profile.{Profile}
use Rattle.knit_base.specs.declared.yarns.CarrierNo.{CarrierNo}
use Rattle.knit_base.specs.Lawful.{IsLawfulRead}
use Rattle.face_data.specs.declared.face.Effect.{Effect}
use Rattle.face_data.specs.declared.face.Ending.TheVariants.{Through}
use Rattle.face_data.specs.declared.face.Seg.{Seg}
use Rattle.face_data.specs.declared.face.Seg.TheVariants.{New}
use Rattle.face_data.specs.Composition.{composed, changes_merged}
use Rattle.face_data.specs.Drafts.{no_effect}
use Rattle.face_data.specs.declared.face.Last.{Last}
use Rattle.face_data.specs.Items.{items, most_items}
use Rattle.face_data.specs.Lasts.{lasts_of_both}
use Rattle.face_data.specs.Segments.{segments_on}
use Rattle.face_data.specs.Summaries.{Summary}
use Rattle.face_data.proofs.Front.{AllHold, composed-hold, effect-idle}
use Rattle.face_data.proofs.Items.{items_bound}
use Rattle.carrier_rules.specs.Carriers.{lasts_of}
use Rattle.block_summary.specs.LineSummaries.{conditions_of_instr, line_summary, block_summary_of, NeedlesKnownInLine}
use Rattle.block_summary.proofs.LineGoodness.{block_good}
use Rattle.block_summary.proofs.LineLasts.{both_put}

-- a draft, and a line that makes a loop, changes one needle and gives carriers these last needles
abbrev pub with_loop : Summary → Needle → List Seg → List Last → Effect → Summary
with_loop draft n segs lasts e = record {
  lines = draft.lines + 1;
  made = draft.made + 1;
  checks = draft.checks;
  changes = changes_merged draft.changes ((n, segs) ∷ []);
  lasts = lasts_of_both draft.lasts lasts;
  ending = Through e;
}

held_here : (lines : ℕ) (segs : List Seg) → segs ++ New (lines + 0) ∷ [] ≡ segs ++ New lines ∷ []
held_here lines segs = ap (λ offset. segs ++ New offset ∷ []) (let same : lines + 0 ≡ lines = omega arith in same)

-- the same, with last needles that were put together first
with_loop_put : (draft : Summary) (n : Needle) (segs : List Seg) (lasts : List Last) (e : Effect) → with_loop draft n segs (lasts_of_both [] lasts) e ≡ with_loop draft n segs lasts e
with_loop_put draft n segs lasts e = λ i. record (with_loop draft n segs lasts e) { lasts = both_put draft.lasts lasts i }

-- A knit whose conditions are known to hold leaves its new loop alone on the needle.
pub front_knit : (profile : Profile) (draft : Summary) (e : Effect) (dir : Dir) (n : Needle) (c : CarrierNo) (cs : List CarrierNo) → draft.ending ≡ Through e →
    AllHold e draft.lasts draft.changes draft.checks (conditions_of_instr profile (Knit dir n (c ∷ cs))) →
    composed draft (line_summary profile (read.Instr (Knit dir n (c ∷ cs)))) ≡ with_loop draft n (New draft.lines ∷ []) (lasts_of profile.float (Knit dir n (c ∷ cs))) e
front_knit profile draft e dir n c cs goes known =
    composed-hold draft (line_summary profile (read.Instr (Knit dir n (c ∷ cs)))) e no_effect goes refl known
    ∙ (λ i. with_loop draft n (held_here draft.lines [] i) (lasts_of_both [] (lasts_of profile.float (Knit dir n (c ∷ cs)))) (effect-idle e i))
    ∙ with_loop_put draft n (New draft.lines ∷ []) (lasts_of profile.float (Knit dir n (c ∷ cs))) e

-- A tuck puts it behind what the needle holds.
pub front_tuck : (profile : Profile) (draft : Summary) (e : Effect) (dir : Dir) (n : Needle) (c : CarrierNo) (cs : List CarrierNo) → draft.ending ≡ Through e →
    AllHold e draft.lasts draft.changes draft.checks (conditions_of_instr profile (Tuck dir n (c ∷ cs))) →
    composed draft (line_summary profile (read.Instr (Tuck dir n (c ∷ cs))))
    ≡ with_loop draft n (segments_on draft.changes n ++ New draft.lines ∷ []) (lasts_of profile.float (Tuck dir n (c ∷ cs))) e
front_tuck profile draft e dir n c cs goes known =
    composed-hold draft (line_summary profile (read.Instr (Tuck dir n (c ∷ cs)))) e no_effect goes refl known
    ∙ (λ i. with_loop draft n (held_here draft.lines (segments_on draft.changes n) i) (lasts_of_both [] (lasts_of profile.float (Tuck dir n (c ∷ cs)))) (effect-idle e i))
    ∙ with_loop_put draft n (segments_on draft.changes n ++ New draft.lines ∷ []) (lasts_of profile.float (Tuck dir n (c ∷ cs))) e

-- The summary of a block has at most so many items.
pub block_items : (profile : Profile) (carriers : ℕ) (known : List Needle) (rs : List Read) → 1 ≤ profile.hold →
    ((r : Read) → Contains rs r → IsLawfulRead profile carriers r) → ((r : Read) → Contains rs r → NeedlesKnownInLine known r) →
    items (block_summary_of profile rs) ≤ most_items carriers profile.hold (length known)
block_items profile carriers known rs some lawful knows =
    items_bound carriers profile.hold known (block_summary_of profile rs) (block_good profile carriers known rs some lawful knows)
