use Rattle.std.proofs.lemmas.Result.{on_ok_weaker}
use Rattle.register_interest.specs.Width.{width}
use Rattle.register_interest.proofs.InterestLemmas.{at_forward, at_subnet}
use Rattle.register_interest.proofs.interests.Interests.push_at.Goals as goal

pub push_between-requires : goal.push_between-requires
push_between-requires g c = at_forward c.args.subnet

pub returns : goal.returns
returns g c = on_ok_weaker c.push_between.result (at_subnet width c.args.prefix c.args.subnet c.args.self.now c.args.out.now.items c.push_between.new.out.items c.requires) c.push_between.ensures
