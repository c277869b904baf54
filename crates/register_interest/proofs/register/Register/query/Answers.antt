use Rattle.std.proofs.Common.{Option, subst, arith}
use Rattle.std.specs.FinMap as map
use Rattle.addr4.specs.Prefixes.{AddressPrefix}
use Rattle.register_interest.specs.Width.{width}
use Rattle.register_interest.specs.Search.{rows_in}
use Rattle.register_interest.specs.Covers.{matched, IsSubnet}
use Rattle.register_interest.specs.Matches.{lent_match}
use Rattle.register_interest.proofs.RegisterLemmas.{added_stands, added_short}
use Rattle.register_interest.proofs.register.Register.query.Goals as goal

pub invariant_of-self-2 : goal.invariant_of-self-2
invariant_of-self-2 g c =
    let subnet : IsSubnet width (map.get (rows_in c.self.inside.rows)) c.args.address (matched (lent_match c.longest_row-found.result)) c.largest_subnet-subnet.result =
    subst (λ (m : Option AddressPrefix). IsSubnet width (map.get (rows_in c.self.inside.rows)) c.args.address m c.largest_subnet-subnet.result) c.prefix_of-prefix.ensures c.largest_subnet-subnet.ensures in
    rw (c.in_ok-add.ensures.ok, c.prefix_of-prefix.ensures) (
      added_stands (rows_in c.self.inside.rows) c.self.inside.interests (record { subnet = c.largest_subnet-subnet.result; client = c.args.client }) c.args.address (lent_match c.longest_row-found.result) (let f = c.ranges.client.fits in omega arith) c.self.invariant.0
          (record { longest_is = c.longest_row-found.ensures; subnet = subnet }),
      c.self.invariant.1,
      added_short g.F.Family.WIDTH c.self.inside.interests (record { subnet = c.largest_subnet-subnet.result; client = c.args.client }) (matched (lent_match c.longest_row-found.result)) c.known.ensures.short c.self.invariant.2,
    )
