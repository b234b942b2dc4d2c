use Rattle.knit_ports.proofs.LineFeeds.{feed_found}
use Rattle.knit_ports.proofs.ear.feed_at.Goals as goal

pub returns : goal.returns
returns c = feed_found c.args.rest.now c.memchr.result c.memchr.ensures
