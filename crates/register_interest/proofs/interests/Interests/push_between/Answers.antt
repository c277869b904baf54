use Rattle.std.proofs.Common.{◌≡◌, ◌∙◌, map, rules}
use Rattle.std.specs.Map.Iter.{deref_pair}
use Rattle.std.proofs.lemmas.Map.Iter.{iter_end}
use Rattle.std.proofs.lemmas.List.{map-append}
use Rattle.register_interest.specs.Width.{width}
use Rattle.register_interest.proofs.InterestLemmas.{no_hits, hits_more, part_hits}
use Rattle.register_interest.proofs.interests.Interests.push_between.Goals as goal

pub loop-interest-init : goal.loop-interest-init
loop-interest-init g c = no_hits width c.args.prefix c.args.out.now.items

pub loop-interest-preserved : goal.loop-interest-preserved
loop-interest-preserved g c =
    rw map-append (hits_more width c.args.prefix (map deref_pair c.loop-interest.yielded) c.args.out.now.items c.loop-interest.out.items c.push_hit.new.out.items (c.in-Some.interest.now, c.in-Some.found.now) c.loop-interest.invariant c.in_ok-push_hit.ensures)

pub returns : goal.returns
returns g c =
    let all : map deref_pair c.loop-interest.yielded ≡ c.range-interest-items.result = (iter_end deref_pair c.range-interest-items.result c.loop-interest.yielded _ _ _ _ c.into_iter-interest-iterator.ensures.into_iter_gives c.loop-interest.yielded_by c.in-None.is c.next.ensures.steps).0 in
    part_hits width c.args.prefix c.self.inside.kept c.args.self.now c.args.from c.args.to (map deref_pair c.loop-interest.yielded) c.args.out.now.items c.loop-interest.out.items c.range-interest-items.ensures.ordered c.self.view_is (all ∙ c.range-interest-items.ensures.between (search rules)) c.loop-interest.invariant
