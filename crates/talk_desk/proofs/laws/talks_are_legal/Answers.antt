use Rattle.talk_desk.proofs.LegalConversations.{each-legal}
use Rattle.talk_desk.proofs.laws.talks_are_legal.Goals as goal

pub returns : goal.returns
returns c = each-legal
