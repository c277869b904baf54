use Rattle.link_change.proofs.MapLemmas.{map_set}
use Rattle.register_interest.proofs.InterestLemmas.{interests_total, exact_interests}
use Rattle.register_interest.proofs.interests.Interests.add.Goals as goal

pub returns-clause-ok : goal.returns-clause-ok
returns-clause-ok g c = map_set interests_total exact_interests c.self.inside.kept c.insert.new.self c.args.self.now c.args.interest c.args.found c.self.view_is c.in_ok-insert.ensures.updates.0
