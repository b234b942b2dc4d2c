use Rattle.std.proofs.lemmas.List.Elements.{All-tail}
use Rattle.summary_compose.specs.Composing.{IsNoGreater}
use Rattle.summary_tree.proofs.Meets.{list_fits, spans_there, spans_left}
use Rattle.summary_tree.proofs.store.FaceStoreTakesTuple2FaceViewLoopTable.set_leaf.Goals as goal

pub put-requires-clause-few : goal.put-requires-clause-few
put-requires-clause-few c = let m = c.requires.memory in λ list. (list_fits c.args.self.now.faces c.args.leaf.0 m.0 m.1 m.3.spans c.requires.lawful m.2 list).1

pub put-requires-clause-spare : goal.put-requires-clause-spare
put-requires-clause-spare c = let m = c.requires.memory in spans_there c.args.self.now.faces c.args.leaf.0 m.0 m.1 m.3.spans c.requires.lawful m.2

pub returns-clause-memory : goal.returns-clause-memory
returns-clause-memory c = λ r rest enough h. record {
  spans = spans_left c.args.self.now.faces c.put.new.self c.args.leaf.0 r rest h.spans c.requires.lawful enough c.put.ensures.spares;
  scratch_has = All-tail (λ x. IsNoGreater x c.args.self.now.scratch.room) r rest h.scratch_has;
}
