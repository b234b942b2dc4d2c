use Rattle.std.proofs.Common.{arith, sym, ◌∙◌}
use Rattle.tree_shape.specs.Removal.{part_beside, outer}
use Rattle.tree_shape.proofs.OtherParts.{opened_on, once_is, twice_is}
use Rattle.tree_shape.proofs.removal.raise.Goals as goal

pub returns-then-beside-outer : goal.returns-then-beside-outer
returns-then-beside-outer c = λ p before f l.
    let v = opened_on _ c.args.side _ f c.row-high.result l.named l.stands c.row-high.ensures in
    let b = part_beside c.args.side v.left v.right in
    let o = outer c.args.side v.left v.right in
    let eb = c.beside_of.ensures ∙ v.beside_is in
    let eo = c.outer_of.ensures ∙ v.outer_is in
    let hb = c.part_of-beside.ensures.high b eb v.stands_beside in
    let ho = c.part_of-outer.ensures.high o eo v.stands_outer in
    rw (v.is, once_is c.args.side c.args.node p c.args.far b o (omega arith))
    (c.raise_once.ensures c.args.nodes.now p before b o (record { child = l.child; high = l.high; listed = l.listed; named = c.part_of-beside.ensures.child ∙ eb; stands = v.stands_beside; named_outer = c.part_of-outer.ensures.child ∙ eo; high_outer = ho }) hb)

pub raise_twice-requires : goal.raise_twice-requires
raise_twice-requires c =
    let r = c.requires in
    let v = opened_on _ c.args.side _ r.2 c.row-high.result r.3.named r.3.stands c.row-high.ensures in
    let b = part_beside c.args.side v.left v.right in
    let o = outer c.args.side v.left v.right in
    let eb = c.beside_of.ensures ∙ v.beside_is in
    let eo = c.outer_of.ensures ∙ v.outer_is in
    let ho = c.part_of-outer.ensures.high o eo v.stands_outer in (
      r.0,
      r.1,
      b,
      o,
      record { child = r.3.child; high = r.3.high; listed = r.3.listed; named = sym c.in-Inner.is ∙ (c.part_of-beside.ensures.child ∙ eb); stands = v.stands_beside; named_outer = c.part_of-outer.ensures.child ∙ eo; high_outer = ho },
      omega (arith, v.low_beside, r.4),
      omega (arith, v.low_outer, r.4),
      r.5,
      r.6,
    )

pub returns-in-Inner : goal.returns-in-Inner
returns-in-Inner c = λ p before f l.
    let v = opened_on _ c.args.side _ f c.row-high.result l.named l.stands c.row-high.ensures in
    let b = part_beside c.args.side v.left v.right in
    let o = outer c.args.side v.left v.right in
    let eb = c.beside_of.ensures ∙ v.beside_is in
    let eo = c.outer_of.ensures ∙ v.outer_is in
    let hb = c.part_of-beside.ensures.high b eb v.stands_beside in
    let ho = c.part_of-outer.ensures.high o eo v.stands_outer in
    rw (v.is, twice_is c.args.side c.args.node p c.args.far b o (omega arith))
    (c.raise_twice.ensures p before b o (record { child = l.child; high = l.high; listed = l.listed; named = sym c.in-Inner.is ∙ (c.part_of-beside.ensures.child ∙ eb); stands = v.stands_beside; named_outer = c.part_of-outer.ensures.child ∙ eo; high_outer = ho }))
