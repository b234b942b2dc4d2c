use Rattle.std.proofs.Common.{rules, arith, ◌≡◌, nat_le, ℕ, ◌-◌, List, get_or, sym, ap, subst, ◌∙◌}
use Rattle.std.proofs.lemmas.List.Sorted.{IsNonDecreasingBy-from_all_adjacent, IsPartitionPoint-from_clause, IsPartitionedBy-leb}
use Rattle.edit_book.specs.Headers.{AreNumbersRising, last_not_above}
use Rattle.edit_book.proofs.Rising.{rising_next, last_none, last_some}
use Rattle.edit_book.proofs.header.Header.stamp_at.Goals as goal

pub returns-then-count-eq0 : goal.returns-then-count-eq0
returns-then-count-eq0 c =
    let xs : List ℕ = c.deref.result.now in
    let rises : AreNumbersRising xs = subst AreNumbersRising (sym c.deref.ensures.value) c.requires in
    let parted = IsPartitionedBy-leb (λ (y : ℕ). y) xs c.args.version (IsNonDecreasingBy-from_all_adjacent (λ (y : ℕ). y) xs (λ k d below. rising_next xs rises k d below)) in
    let parts = IsPartitionPoint-from_clause (λ (y : ℕ). nat_le y c.args.version) xs c.partition_point-count.result c.partition_point-count.ensures.partitioned parted (λ a r q k. search rules) in
    last_none c.args.version xs c.partition_point-count.result c.if-count-eq0.true (λ k d above below. parts.1 k d above below) ∙ ap (last_not_above c.args.version) c.deref.ensures.value

pub returns : goal.returns
returns c =
    let xs : List ℕ = c.deref.result.now in
    let count : ℕ = c.partition_point-count.result in
    let rises : AreNumbersRising xs = subst AreNumbersRising (sym c.deref.ensures.value) c.requires in
    let parted = IsPartitionedBy-leb (λ (y : ℕ). y) xs c.args.version (IsNonDecreasingBy-from_all_adjacent (λ (y : ℕ). y) xs (λ k d below. rising_next xs rises k d below)) in
    let parts = IsPartitionPoint-from_clause (λ (y : ℕ). nat_le y c.args.version) xs count c.partition_point-count.ensures.partitioned parted (λ a r q k. search rules) in
    let bound = c.partition_point-count.ensures.bound in
    let some = c.if-count-eq0.false in
    let d : ℕ = c.index.result.now in
    let last : get_or xs (count - 1) d ≡ last_not_above c.args.version xs =
    last_some c.args.version xs (count - 1) d (omega arith) (λ k d below. parts.0 k d (omega arith) (omega arith)) (λ k d above below. parts.1 k d (omega arith) below) in
    c.index.ensures ∙ (ap (λ (l : List ℕ). get_or l (count - 1) d) (sym c.deref.ensures.value) ∙ (last ∙ ap (last_not_above c.args.version) c.deref.ensures.value))
