use Rattle.link_change.proofs.MapLemmas.{map_removed}
use Rattle.register_interest.proofs.InterestLemmas.{interests_total, exact_interests}
use Rattle.register_interest.proofs.interests.Interests.give_up.Goals as goal

pub returns : goal.returns
returns g c = map_removed interests_total exact_interests c.self.inside.kept c.remove.new.self c.args.self.now c.args.interest.now c.self.view_is c.remove.ensures.updates.0
