use Rattle.std.proofs.Common.{◌≡◌, true, List, sym, ◌∙◌}
use Rattle.std.specs.List.{All}
use Rattle.summary_compose.specs.Composing.{IsNoGreater}
use Rattle.summary_compose.specs.declared.room.Room.{Room}
use Rattle.summary_tree.specs.Faces.{FacesView, AreSpansReserved, spare_in, length_in}
use Rattle.summary_tree.specs.declared.faces.FaceList.TheVariants.{Checks, Names, Changes, Segs, Lasts}
use Rattle.summary_tree.specs.Meeting.{IsMet}
use Rattle.summary_tree.specs.Store.{HasRooms}
use Rattle.summary_tree.proofs.Meets.{test_both_ways_absurd}
use Rattle.summary_tree.proofs.store.FaceStoreValues.meets.Goals as goal
use Rattle.summary_tree.proofs.store.FaceStoreValues.meets.Goals.{then-is_within, else-is_within, then-list_is_met, else-list_is_met, then-list_is_met-2, else-list_is_met-2, then-list_is_met-3, else-list_is_met-3}

each_met : (faces : FacesView) (need : List Room) → IsMet (spare_in faces Checks) (length_in Checks) need → IsMet (spare_in faces Names) (length_in Names) need → IsMet (spare_in faces Changes) (length_in Changes) need
    → IsMet (spare_in faces Segs) (length_in Segs) need → IsMet (spare_in faces Lasts) (length_in Lasts) need → AreSpansReserved faces need
each_met faces need a b c d e Checks = a
each_met faces need a b c d e Names = b
each_met faces need a b c d e Changes = c
each_met faces need a b c d e Segs = d
each_met faces need a b c d e Lasts = e

pub returns-then-list_is_met-4 : goal.returns-then-list_is_met-4
returns-then-list_is_met-4 c =
    let need = c.args.need.now in
    let faces = c.args.self.now.faces in
    let room = c.args.self.now.scratch.room in
    let up0 : HasRooms faces room need → c.if-is_within.value ≡ true = λ h. elim c.if-is_within.branch [
      | then-is_within w ↦ w.value-is ∙ w.list_is_met.ensures.1 (h.spans Checks)
      | else-is_within w ↦ test_both_ways_absurd c.is_within.result w.if-is_within.false (c.is_within.ensures.1 h.scratch_has)
    ] in
    let up1 : HasRooms faces room need → c.if-list_is_met.value ≡ true = λ h. elim c.if-list_is_met.branch [
      | then-list_is_met w ↦ w.value-is ∙ w.list_is_met-then-list_is_met.ensures.1 (h.spans Names)
      | else-list_is_met w ↦ test_both_ways_absurd c.if-is_within.value w.if-list_is_met.false (up0 h)
    ] in
    let up2 : HasRooms faces room need → c.if-list_is_met-2.value ≡ true = λ h. elim c.if-list_is_met-2.branch [
      | then-list_is_met-2 w ↦ w.value-is ∙ w.list_is_met-then-list_is_met-2.ensures.1 (h.spans Changes)
      | else-list_is_met-2 w ↦ test_both_ways_absurd c.if-list_is_met.value w.if-list_is_met-2.false (up1 h)
    ] in
    let up3 : HasRooms faces room need → c.if-list_is_met-3.value ≡ true = λ h. elim c.if-list_is_met-3.branch [
      | then-list_is_met-3 w ↦ w.value-is ∙ w.list_is_met-then-list_is_met-3.ensures.1 (h.spans Segs)
      | else-list_is_met-3 w ↦ test_both_ways_absurd c.if-list_is_met-2.value w.if-list_is_met-3.false (up2 h)
    ] in
    let down0 : c.if-is_within.value ≡ true → All (λ r. IsNoGreater r room) need × IsMet (spare_in faces Checks) (length_in Checks) need = λ e. elim c.if-is_within.branch [
      | then-is_within w ↦ (c.is_within.ensures.0 w.if-is_within.true, w.list_is_met.ensures.0 (sym w.value-is ∙ e))
      | else-is_within w ↦ test_both_ways_absurd c.if-is_within.value (w.value-is ∙ w.if-is_within.false) e
    ] in
    let down1 : c.if-list_is_met.value ≡ true → (c.if-is_within.value ≡ true) × IsMet (spare_in faces Names) (length_in Names) need = λ e. elim c.if-list_is_met.branch [
      | then-list_is_met w ↦ (w.if-list_is_met.true, w.list_is_met-then-list_is_met.ensures.0 (sym w.value-is ∙ e))
      | else-list_is_met w ↦ test_both_ways_absurd c.if-list_is_met.value (w.value-is ∙ w.if-list_is_met.false) e
    ] in
    let down2 : c.if-list_is_met-2.value ≡ true → (c.if-list_is_met.value ≡ true) × IsMet (spare_in faces Changes) (length_in Changes) need = λ e. elim c.if-list_is_met-2.branch [
      | then-list_is_met-2 w ↦ (w.if-list_is_met-2.true, w.list_is_met-then-list_is_met-2.ensures.0 (sym w.value-is ∙ e))
      | else-list_is_met-2 w ↦ test_both_ways_absurd c.if-list_is_met-2.value (w.value-is ∙ w.if-list_is_met-2.false) e
    ] in
    let down3 : c.if-list_is_met-3.value ≡ true → (c.if-list_is_met-2.value ≡ true) × IsMet (spare_in faces Segs) (length_in Segs) need = λ e. elim c.if-list_is_met-3.branch [
      | then-list_is_met-3 w ↦ (w.if-list_is_met-3.true, w.list_is_met-then-list_is_met-3.ensures.0 (sym w.value-is ∙ e))
      | else-list_is_met-3 w ↦ test_both_ways_absurd c.if-list_is_met-3.value (w.value-is ∙ w.if-list_is_met-3.false) e
    ] in (
      λ e.
          let fourth = down3 c.if-list_is_met-4.true in
          let third = down2 fourth.0 in
          let second = down1 third.0 in
          let first = down0 second.0 in
          record { spans = each_met faces need first.1 second.1 third.1 fourth.1 (c.list_is_met-then-list_is_met-4.ensures.0 e); scratch_has = first.0 },
      λ h. c.list_is_met-then-list_is_met-4.ensures.1 (h.spans Lasts),
    )

pub returns-else-list_is_met-4 : goal.returns-else-list_is_met-4
returns-else-list_is_met-4 c =
    let need = c.args.need.now in
    let faces = c.args.self.now.faces in
    let room = c.args.self.now.scratch.room in
    let up0 : HasRooms faces room need → c.if-is_within.value ≡ true = λ h. elim c.if-is_within.branch [
      | then-is_within w ↦ w.value-is ∙ w.list_is_met.ensures.1 (h.spans Checks)
      | else-is_within w ↦ test_both_ways_absurd c.is_within.result w.if-is_within.false (c.is_within.ensures.1 h.scratch_has)
    ] in
    let up1 : HasRooms faces room need → c.if-list_is_met.value ≡ true = λ h. elim c.if-list_is_met.branch [
      | then-list_is_met w ↦ w.value-is ∙ w.list_is_met-then-list_is_met.ensures.1 (h.spans Names)
      | else-list_is_met w ↦ test_both_ways_absurd c.if-is_within.value w.if-list_is_met.false (up0 h)
    ] in
    let up2 : HasRooms faces room need → c.if-list_is_met-2.value ≡ true = λ h. elim c.if-list_is_met-2.branch [
      | then-list_is_met-2 w ↦ w.value-is ∙ w.list_is_met-then-list_is_met-2.ensures.1 (h.spans Changes)
      | else-list_is_met-2 w ↦ test_both_ways_absurd c.if-list_is_met.value w.if-list_is_met-2.false (up1 h)
    ] in
    let up3 : HasRooms faces room need → c.if-list_is_met-3.value ≡ true = λ h. elim c.if-list_is_met-3.branch [
      | then-list_is_met-3 w ↦ w.value-is ∙ w.list_is_met-then-list_is_met-3.ensures.1 (h.spans Segs)
      | else-list_is_met-3 w ↦ test_both_ways_absurd c.if-list_is_met-2.value w.if-list_is_met-3.false (up2 h)
    ] in
    let down0 : c.if-is_within.value ≡ true → All (λ r. IsNoGreater r room) need × IsMet (spare_in faces Checks) (length_in Checks) need = λ e. elim c.if-is_within.branch [
      | then-is_within w ↦ (c.is_within.ensures.0 w.if-is_within.true, w.list_is_met.ensures.0 (sym w.value-is ∙ e))
      | else-is_within w ↦ test_both_ways_absurd c.if-is_within.value (w.value-is ∙ w.if-is_within.false) e
    ] in
    let down1 : c.if-list_is_met.value ≡ true → (c.if-is_within.value ≡ true) × IsMet (spare_in faces Names) (length_in Names) need = λ e. elim c.if-list_is_met.branch [
      | then-list_is_met w ↦ (w.if-list_is_met.true, w.list_is_met-then-list_is_met.ensures.0 (sym w.value-is ∙ e))
      | else-list_is_met w ↦ test_both_ways_absurd c.if-list_is_met.value (w.value-is ∙ w.if-list_is_met.false) e
    ] in
    let down2 : c.if-list_is_met-2.value ≡ true → (c.if-list_is_met.value ≡ true) × IsMet (spare_in faces Changes) (length_in Changes) need = λ e. elim c.if-list_is_met-2.branch [
      | then-list_is_met-2 w ↦ (w.if-list_is_met-2.true, w.list_is_met-then-list_is_met-2.ensures.0 (sym w.value-is ∙ e))
      | else-list_is_met-2 w ↦ test_both_ways_absurd c.if-list_is_met-2.value (w.value-is ∙ w.if-list_is_met-2.false) e
    ] in
    (λ e. test_both_ways_absurd c.if-list_is_met-3.value c.if-list_is_met-4.false e, λ h. test_both_ways_absurd c.if-list_is_met-3.value c.if-list_is_met-4.false (up3 h))
