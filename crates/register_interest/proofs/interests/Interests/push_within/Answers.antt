use Rattle.std.proofs.Common.{ap, ◌∙◌}
use Rattle.std.proofs.lemmas.Result.{on_ok_weaker}
use Rattle.addr4.specs.Prefixes.{block}
use Rattle.register_interest.specs.Width.{width}
use Rattle.register_interest.proofs.InterestLemmas.{within_forward, within_subnets}
use Rattle.register_interest.proofs.interests.Interests.push_within.Goals as goal

pub push_between-requires : goal.push_between-requires
push_between-requires g c = within_forward width g.F.Family.WIDTH c.args.prefix c.block.result c.last-last.result c.known-2.ensures.narrow c.known.ensures.short c.known.ensures.masked c.last-last.ensures c.known-2.ensures.rest (c.block.ensures ∙ ap (block width c.last-last.result) c.WIDTH.ensures)

pub returns : goal.returns
returns g c =
    on_ok_weaker c.push_between.result
    (within_subnets width g.F.Family.WIDTH c.args.prefix c.block.result c.last-last.result c.args.self.now c.args.out.now.items c.push_between.new.out.items c.known-2.ensures.narrow c.known.ensures.short c.known.ensures.masked c.last-last.ensures c.known-2.ensures.rest (c.block.ensures ∙ ap (block width c.last-last.result) c.WIDTH.ensures) c.requires.proper c.requires.short) c.push_between.ensures
