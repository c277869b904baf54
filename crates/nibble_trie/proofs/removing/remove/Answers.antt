use Rattle.std.proofs.Common.{◌≡◌, ◌∙◌, ◌<◌, Some, None, sym, ap, subst, arith}
use Rattle.addr4.specs.Prefixes.{AddressPrefix}
use Rattle.addr4.proofs.HalfLemmas.{one_address_prefix}
use Rattle.nibble_trie.specs.Keys.{prefix_in, IsNextOf}
use Rattle.nibble_trie.proofs.Chains.{one_found}
use Rattle.nibble_trie.proofs.Rows.{prefix_found, row_none}
use Rattle.nibble_trie.proofs.Wholes.{whole_joined, joins_absent}
use Rattle.nibble_trie.proofs.Searches.{has_found, absent_none, absent_some, head_address}
use Rattle.nibble_trie.proofs.removing.remove.Goals as goal

pub returns-in-None-clause-before : goal.returns-in-None-clause-before
returns-in-None-clause-before g c =
    let keys = prefix_in c.args.leaves.now in
    let p = c.args.prefix in
    let at = subst (λ l. IsNextOf keys p.address 0 l) c.in-None.is c.first_leaf-entry.ensures.head in
    sym (row_none c.args.leaves.now p (absent_none keys p at))

pub returns-in-None-clause-rows : goal.returns-in-None-clause-rows
returns-in-None-clause-rows g c =
    let keys = prefix_in c.args.leaves.now in
    let p = c.args.prefix in
    let at = subst (λ l. IsNextOf keys p.address 0 l) c.in-None.is c.first_leaf-entry.ensures.head in
    (joins_absent c.args.leaves.now p c.requires.chained (absent_none keys p at)).rows

pub index-node-requires : goal.index-node-requires
index-node-requires g c =
    let keys = prefix_in c.args.leaves.now in
    let p = c.args.prefix in
    let first = c.in-Some.first in
    let at = subst (λ l. IsNextOf keys p.address 0 l) c.in-Some.is c.first_leaf-entry.ensures.head in
    has_found c.args.leaves.now first at.0 at.1

pub take_behind-requires-clause-below : goal.take_behind-requires-clause-below
take_behind-requires-clause-below g c =
    let keys = prefix_in c.args.leaves.now in
    let p = c.args.prefix in
    let first = c.in-Some.first in
    let at = subst (λ l. IsNextOf keys p.address 0 l) c.in-Some.is c.first_leaf-entry.ensures.head in
    let n = c.index-node.result.now in
    let found = prefix_found c.args.leaves.now first n c.index-node.ensures in
    λ q there. (head_address keys p.address first q at there, omega (arith, ap (λ (x : AddressPrefix). x.length) (one_found keys first q n.prefix there found), c.length-length.ensures.value, c.length.ensures.value, c.if-length.true))

pub returns-then-length-clause-whole : goal.returns-then-length-clause-whole
returns-then-length-clause-whole g c = whole_joined c.args.leaves.now c.take_behind.new.leaves c.args.index.now c.args.prefix None c.requires c.take_behind.ensures.joins (c.known.ensures.fits, c.known.ensures.masked.0)

pub take_first-requires-clause-head : goal.take_first-requires-clause-head
take_first-requires-clause-head g c =
    let keys = prefix_in c.args.leaves.now in
    let p = c.args.prefix in
    let first = c.in-Some.first in
    let at = subst (λ l. IsNextOf keys p.address 0 l) c.in-Some.is c.first_leaf-entry.ensures.head in
    at

pub take_first-requires-clause-found : goal.take_first-requires-clause-found
take_first-requires-clause-found g c =
    let keys = prefix_in c.args.leaves.now in
    let p = c.args.prefix in
    let first = c.in-Some.first in
    let at = subst (λ l. IsNextOf keys p.address 0 l) c.in-Some.is c.first_leaf-entry.ensures.head in
    let n = c.index-node.result.now in
    let found = prefix_found c.args.leaves.now first n c.index-node.ensures in
    let same : n.prefix ≡ p = one_address_prefix n.prefix p (head_address keys p.address first n.prefix at found) (omega (arith, c.length-length.ensures.value, c.length-2.ensures.value, c.if-length-2.true)) in
    found ∙ ap Some same

pub returns-clause-before : goal.returns-clause-before
returns-clause-before g c =
    let keys = prefix_in c.args.leaves.now in
    let p = c.args.prefix in
    let first = c.in-Some.first in
    let at = subst (λ l. IsNextOf keys p.address 0 l) c.in-Some.is c.first_leaf-entry.ensures.head in
    let n = c.index-node.result.now in
    let found = prefix_found c.args.leaves.now first n c.index-node.ensures in
    let longer : p.length < n.prefix.length = omega (arith, c.length-length.ensures.value, c.length.ensures.value, c.length-2.ensures.value, c.if-length.false, c.if-length-2.false) in
    sym (row_none c.args.leaves.now p (absent_some keys p first n.prefix at found longer))

pub returns-clause-rows : goal.returns-clause-rows
returns-clause-rows g c =
    let keys = prefix_in c.args.leaves.now in
    let p = c.args.prefix in
    let first = c.in-Some.first in
    let at = subst (λ l. IsNextOf keys p.address 0 l) c.in-Some.is c.first_leaf-entry.ensures.head in
    let n = c.index-node.result.now in
    let found = prefix_found c.args.leaves.now first n c.index-node.ensures in
    let longer : p.length < n.prefix.length = omega (arith, c.length-length.ensures.value, c.length.ensures.value, c.length-2.ensures.value, c.if-length.false, c.if-length-2.false) in
    (joins_absent c.args.leaves.now p c.requires.chained (absent_some keys p first n.prefix at found longer)).rows
