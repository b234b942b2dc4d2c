use Rattle.std.proofs.Common.{◌∙◌, ap}
use Rattle.std.specs.Option.{option_map}
use Rattle.tree_shape.specs.View.{ShapeView}
use Rattle.tree_shape.specs.Tree.{name}
use Rattle.tree_shape.proofs.Shapes.{root_name}
use Rattle.tree_shape.proofs.shape.Shape.root.Goals as goal

pub returns : goal.returns
returns c = root_name _ _ c.self.invariant.0.sound ∙ ap (λ (v : ShapeView). option_map name v.tree) c.self.view_is
