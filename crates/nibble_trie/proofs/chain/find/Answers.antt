use Rattle.std.proofs.Common.{subst, arith}
use Rattle.nibble_trie.specs.Keys.{prefix_in, IsNextOf}
use Rattle.nibble_trie.proofs.chain.find.Goals as goal

pub exact-requires : goal.exact-requires
exact-requires g c =
    let r = c.requires.next in
    let next = subst (λ l. IsNextOf (prefix_in c.args.leaves.now) r.address r.from l) c.in-Some.is r.next in
    record { address = r.address; from = c.args.length; within = omega arith; next = c.seek.ensures r.address r.from (omega (arith, r.within)) next }

pub returns : goal.returns
returns g c = λ a next.
    let first = subst (λ l. IsNextOf (prefix_in c.args.leaves.now) a 0 l) c.in-Some.is next in
    c.exact.ensures a (c.seek.ensures a 0 (omega arith) first)
