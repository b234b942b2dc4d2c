-- The change that was found gives what the needle holds; where none is found, the needle holds its own entry.
use Rattle.std.proofs.Common.{◌≡◌, ℕ, List, refl, subst, sym}
use Rattle.std.proofs.lemmas.Bool.{false≢true}
use Rattle.knit_base.specs.declared.needle.Needle.{Needle}
use Rattle.face_data.specs.declared.face.Change.{Change}
use Rattle.summary_compose.specs.Changes.{changed_needles}
use Rattle.summary_compose.specs.Tables.{Leads}
use Rattle.summary_compose.proofs.SegmentPlaces.{segments_own_past, segments_own_at, segments_at}
use Rattle.summary_compose.proofs.places.Places.segments_on.Goals as goal

-- the place that the table gives
leads : (changes : List Change) (n : Needle) (place told : ℕ) → place ≡ told → Leads (changed_needles changes) n told → Leads (changed_needles changes) n place
leads changes n place told same h = subst (λ p. Leads (changed_needles changes) n p) (sym same) h

pub returns-then-place-changes-clause-own : goal.returns-then-place-changes-clause-own
returns-then-place-changes-clause-own c =
    segments_own_past c.args.face.now.segs.now c.args.face.now.changes.now c.args.n c.get-place.result (leads c.args.face.now.changes.now c.args.n c.get-place.result _ c.get-place.ensures (c.requires.noted c.args.n)) c.if-place-changes.true

pub returns-then-not-is_same-clause-own : goal.returns-then-not-is_same-clause-own
returns-then-not-is_same-clause-own c =
    segments_own_at c.args.face.now.segs.now c.args.face.now.changes.now c.args.n c.get-place.result _ (leads c.args.face.now.changes.now c.args.n c.get-place.result _ c.get-place.ensures (c.requires.noted c.args.n)) c.if-place-changes.false
    (λ e. false≢true ((c.if-not-is_same.ensures).1 e))

pub returns-clause-some : goal.returns-clause-some
returns-clause-some c =
    segments_at c.args.face.now.segs.now c.args.face.now.changes.now c.args.n c.get-place.result _ c.requires.order c.if-place-changes.false
    ((c.if-not-is_same.ensures).0 refl)
