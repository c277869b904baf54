use Rattle.std.proofs.Common.{◌-◌, ◌%◌, refl, sym, ap, subst, ◌∙◌, arith}
use Rattle.std.proofs.lemmas.Nat.{mod_below}
use Rattle.nibble_trie.specs.declared.index.Index.{Index}
use Rattle.nibble_trie.specs.Links.{IsCell}
use Rattle.nibble_trie.specs.Index.{is_live, link_at, Writes, Placed, high}
use Rattle.nibble_trie.proofs.Written.{splits_of, split_placed, inner_cell, one_link}
use Rattle.nibble_trie.proofs.index.Index.split.Goals as goal

pub returns-clause-placed : goal.returns-clause-placed
returns-clause-placed g c = λ heads layout other h way is has lies.
    let old = c.args.self.now in
    let new = c.write.new.self in
    let spot = c.args.spot in
    let key = c.insert_reserved-branch.result in
    let e = c.insert_reserved-branch.ensures in
    let mid : Index = record { root = old.root; branches = c.insert_reserved-branch.new.self } in
    let w = subst (Writes (is_live mid) (is_live new) (link_at mid) (link_at new) spot.at) c.inner.ensures c.write.ensures.writes in
    let one = one_link c.with_one-links.result c.digit_of.result (high (spot.level - 1) c.args.standing % 16) _ c.link-link.result c.with_one-links.ensures c.digit_of.ensures.digit (c.link-link.ensures ∙ way.stands.leads ∙ is) in
    let s = splits_of old mid new spot.at key other (high (spot.level - 1) c.args.standing % 16) c.with_one-links.result way.stands.place e.was_vacant refl e.updates w (way.stands.leads ∙ is) one in
    subst (Placed new heads c.args.address) (sym c.below.ensures) (split_placed old new heads layout spot c.args.address key c.args.standing other h way c.requires.deep has lies (spot.level - 1) (omega (arith, c.requires.deep)) s)

pub returns-clause-cell : goal.returns-clause-cell
returns-clause-cell g c = λ other is.
    let old = c.args.self.now in
    let new = c.write.new.self in
    let spot = c.args.spot in
    let way = c.requires.way.way in
    let key = c.insert_reserved-branch.result in
    let e = c.insert_reserved-branch.ensures in
    let digit = high (spot.level - 1) c.args.standing % 16 in
    let mid : Index = record { root = old.root; branches = c.insert_reserved-branch.new.self } in
    let w = subst (Writes (is_live mid) (is_live new) (link_at mid) (link_at new) spot.at) c.inner.ensures c.write.ensures.writes in
    let one = one_link c.with_one-links.result c.digit_of.result digit _ c.link-link.result c.with_one-links.ensures c.digit_of.ensures.digit (c.link-link.ensures ∙ way.stands.leads ∙ is) in
    let s = splits_of old mid new spot.at key other digit c.with_one-links.result way.stands.place e.was_vacant refl e.updates w (way.stands.leads ∙ is) one in
    subst IsCell (ap (λ s. s.target) (sym c.below.ensures)) (inner_cell (is_live old) (is_live new) (link_at old) (link_at new) spot.at key other digit s (high (spot.level - 1) c.args.address % 16) (mod_below (high (spot.level - 1) c.args.address) 16 (omega arith)))
