use Rattle.std.proofs.Common.{refl, sym, subst}
use Rattle.slab.specs.Slab.{with_value}
use Rattle.nibble_trie.specs.declared.index.Index.{Index}
use Rattle.slab.proofs.SlabLemmas.{Updates-with_value}
use Rattle.nibble_trie.specs.Links.{leads}
use Rattle.nibble_trie.specs.Index.{is_live, link_at, Writes}
use Rattle.nibble_trie.proofs.Written.{written, live_found}
use Rattle.nibble_trie.proofs.index.Index.write.Goals as goal

pub returns-in-Some-clause-writes : goal.returns-in-Some-clause-writes
returns-in-Some-clause-writes c =
    let old = c.args.self.now in
    let new : Index = record { root = old.root; branches = with_value old.branches c.in-Some.branch c.set.new.self } in
    subst (λ at. Writes (is_live old) (is_live new) (link_at old) (link_at new) at (leads c.args.link)) (sym c.in-Some.is)
    (written old new c.in-Some.branch c.in-Some.digit c.index_mut.result.now c.set.new.self c.args.link c.index_mut.ensures.value c.set.ensures refl (Updates-with_value old.branches c.in-Some.branch c.set.new.self (live_found old c.in-Some.branch c.index_mut.result.now c.index_mut.ensures.value)))
