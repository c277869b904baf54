use Rattle.std.proofs.Common.{◌<◌, ◌+◌, ◌-◌, ◌*◌, None, refl, sym, subst, ◌∙◌, arith}
use Rattle.nibble_trie.specs.Links.{leads}
use Rattle.nibble_trie.specs.Keys.{prefix_in}
use Rattle.nibble_trie.specs.Next.{CanStart, Starts}
use Rattle.nibble_trie.proofs.Firsts.{in_none}
use Rattle.nibble_trie.proofs.Searches.{IsLeft, leaf_starts, inner_deep, left_first, can_start_digit, left_found, left_next, nothing_starts}
use Rattle.nibble_trie.proofs.reading.+next.Goals as goal
use Rattle.nibble_trie.proofs.reading.+next.Goals.{first_in-then-number-ne0+else-is_some, first_in-else-number-ne0}

pub first_at-first_in-requires : goal.first_at-first_in-requires
first_at-first_in-requires g t c κs within =
    let target = sym c.target.ensures ∙ c.in-Inner.is in (
      subst (λ m. c.args.level * 2 < m) c.decreases (omega arith),
      (within.0, (within.1, (c.requires.chained, subst (λ x. CanStart (prefix_in c.args.leaves.now) c.args.index.now x c.args.level c.args.from c.args.least) target c.requires.start))),
    )

pub first_at-returns-in-Leaf : goal.first_at-returns-in-Leaf
first_at-returns-in-Leaf g t c = λ heads layout at s. leaf_starts (prefix_in c.args.leaves.now) c.args.index.now heads layout at (leads c.args.link) c.args.level c.args.from c.args.least c.in-Leaf.key c.first_from.result s (sym c.target.ensures ∙ c.in-Leaf.is) c.first_from.ensures

pub first_at-returns-in-Inner : goal.first_at-returns-in-Inner
first_at-returns-in-Inner g t c = λ heads layout at s. c.first_in.ensures heads layout at (subst (λ x. Starts (prefix_in c.args.leaves.now) c.args.index.now heads layout at x c.args.level c.args.from c.args.least) (sym c.target.ensures ∙ c.in-Inner.is) s)

pub first_in-digits-init : goal.first_in-digits-init
first_in-digits-init g t c = left_first (prefix_in c.args.leaves.now) c.args.index.now c.args.branch c.args.level c.args.from c.args.least c.digit_of-digit.result c.digit_of-digit.ensures.digit

pub first_in-first_at-found-requires : goal.first_in-first_at-found-requires
first_in-first_at-found-requires g t c κs within = (
  subst (λ m. (c.args.level - 1) * 2 + 1 < m) c.decreases (omega (arith, inner_deep (prefix_in c.args.leaves.now) c.args.index.now c.args.branch c.args.level c.args.from c.args.least c.requires.start)),
  (within.0, (within.1, (c.requires.chained, can_start_digit (prefix_in c.args.leaves.now) c.args.index.now c.args.branch c.args.level c.args.from c.args.least c.digits.digit c.digits.from c.digits.least (omega (arith, c.digits-test.true)) c.index-links.result.now c.link-link.result c.index-links.ensures c.link-link.ensures c.digits.invariant c.requires.start))),
)

pub first_in-returns-then-is_some : goal.first_in-returns-then-is_some
first_in-returns-then-is_some g t c = left_found (prefix_in c.args.leaves.now) c.args.index.now c.args.branch c.args.level c.args.from c.args.least c.digits.digit c.digits.from c.digits.least (omega (arith, c.digits-test.true)) c.index-links.result.now c.link-link.result c.index-links.ensures c.link-link.ensures c.digits.invariant c.first_at-found.result c.first_at-found.ensures (sym c.is_some.ensures ∙ c.if-is_some.true)

pub first_in-digits-preserved : goal.first_in-digits-preserved
first_in-digits-preserved g t c =
    let keys = prefix_in c.args.leaves.now in
    let next = left_next keys c.args.index.now c.args.branch c.args.level c.args.from c.args.least c.digits.digit c.digits.from c.digits.least (omega (arith, c.digits-test.true)) c.index-links.result.now c.link-link.result c.index-links.ensures c.link-link.ensures c.digits.invariant in
    subst (λ f. IsLeft keys c.args.index.now c.args.branch c.args.level c.args.from c.args.least (c.digits.digit + 1) f 0) (sym c.unspecified-from.ensures)
    (elim c.if-number-ne0.branch [
      | first_in-then-number-ne0+else-is_some w ↦ next w.first_at-found.result w.first_at-found.ensures (sym w.is_some.ensures ∙ w.if-is_some.false)
      | first_in-else-number-ne0 w ↦ next None (λ heads layout at s. nothing_starts keys c.args.index.now heads layout at (leads c.link-link.result) (c.args.level - 1) c.digits.from c.digits.least s (c.number.ensures.nothing.0 (omega (arith, w.if-number-ne0.false)))) refl
    ])

pub first_in-returns : goal.first_in-returns
first_in-returns g t c = λ heads layout at s.
    (c.digits.invariant heads layout at s).1 None (in_none (prefix_in c.args.leaves.now) layout c.args.branch c.digits.digit c.digits.from c.digits.least (omega (arith, c.digits-test.false)))
