-- A summary as the lists of a face hold it: parts of a list of needles and of a list of segments.
use Rattle.std.specs.Prelude.{◌≡◌, ◌≤◌, ◌+◌, List, [], length, map, All}
use Rattle.std.specs.List.{flat_map}
use Rattle.knit_base.specs.declared.needle.Needle.{Needle}
use Rattle.face_data.specs.declared.face.Change.{Change}
use Rattle.face_data.specs.declared.face.Check.{Check}
use Rattle.face_data.specs.declared.face.Cond.{Cond}
use Rattle.face_data.specs.declared.face.Cond.TheVariants.{SizeAtMost}
use Rattle.face_data.specs.declared.face.FaceView.{FaceView}
use Rattle.face_data.specs.declared.face.Seg.{Seg}
use Rattle.face_data.specs.Conditions.{ask_of, part_of}
use Rattle.face_data.specs.Segments.{Changed}
use Rattle.face_data.specs.Summaries.{AskedCondition, Summary}

-- a check with its needles written out
abbrev pub asked_of_check : List Needle → Check → AskedCondition
asked_of_check names check = record { fault = check.fault; ask = ask_of names check.cond }

-- a change with its segments written out
abbrev pub changed_of : List Seg → Change → Changed
changed_of segs change = (change.needle, part_of segs change.part)

-- the summary that a view shows
abbrev pub summary_of : FaceView → Summary
summary_of view = record {
  lines = view.lines;
  made = view.made;
  checks = map (asked_of_check view.names.now) view.checks.now;
  changes = map (changed_of view.segs.now) view.changes.now;
  lasts = view.lasts.now;
  ending = view.ending;
}

-- the needles of a condition on sizes
abbrev pub size_needles_of : List Needle → Cond → List Needle
size_needles_of names (SizeAtMost p most) = part_of names p
size_needles_of names cond = []

-- the part of a condition on sizes lies in the list of names
abbrev pub CondFits : List Needle → Cond → Type 0
CondFits names (SizeAtMost p most) = p.start + p.len ≤ length names
CondFits names cond = Unit {0}

-- the parts of the checks lie in the list of names
abbrev pub ChecksFit : List Needle → List Check → Type 0
ChecksFit names checks = All (λ (c : Check). CondFits names c.cond) checks

-- the parts of the changes lie in the list of segments
abbrev pub PartsFit : List Seg → List Change → Type 0
PartsFit segs changes = All (λ (c : Change). c.part.start + c.part.len ≤ length segs) changes

-- the parts of the conditions lie in the list of names, and make it up
pub record AreNamed (names : List Needle) (checks : List Check) : Type 0 where
  pub fit : ChecksFit names checks
  pub whole : flat_map (λ (c : Check). size_needles_of names c.cond) checks ≡ names

-- the parts of the changes lie in the list of segments, and make it up
pub record ArePacked (segs : List Seg) (changes : List Change) : Type 0 where
  pub fit : PartsFit segs changes
  pub whole : flat_map (λ (c : Change). part_of segs c.part) changes ≡ segs

-- each part lies in its list; those of the checks, in their order, make up the list of names, and those of the changes the
-- list of segments
pub record IsPacked (view : FaceView) : Type 0 where
  pub checks_fit : ChecksFit view.names.now view.checks.now
  pub changes_fit : PartsFit view.segs.now view.changes.now
  pub names : flat_map (λ (c : Check). size_needles_of view.names.now c.cond) view.checks.now ≡ view.names.now
  pub segs : flat_map (λ (c : Change). part_of view.segs.now c.part) view.changes.now ≡ view.segs.now
