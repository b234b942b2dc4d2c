use Rattle.std.proofs.Common.{rules, arith}
use Rattle.std.proofs.lemmas.Grind.{common_steps}
use Rattle.edit_book.proofs.OwnBlocks.{made}
use Rattle.edit_book.proofs.Stamps.{stamps}
use Rattle.edit_book.proofs.sessions.learned.Learned.learn.Goals as goal

pub returns-in-Accepted-clause-learned : goal.returns-in-Accepted-clause-learned
returns-in-Accepted-clause-learned c = λ m had. record {
  stamps = grind (arith, stamps);
  head = grind (arith, stamps);
  made = search (rules, made);
  adds = grind (arith, common_steps);
}

pub returns-in_default-reply-clause-learned : goal.returns-in_default-reply-clause-learned
returns-in_default-reply-clause-learned c = λ m had. record {
  stamps = grind (arith, stamps);
  head = grind (arith, stamps);
  made = search (rules, made);
  adds = grind (arith, common_steps);
}
