use Rattle.std.proofs.Common.{◌≤◌, Option, Some, subst, arith, rules}
use Rattle.std.specs.FinMap as map
use Rattle.addr4.specs.Blocks.{width}
use Rattle.addr4.specs.Prefixes.{AddressPrefix, ComesBefore}
use Rattle.link_change.specs.Rows.{IsNextCandidate, with_rows}
use Rattle.rib_tree.proofs.OverLemmas.{begins_behind, is_whole, past_all, passed_before, comes_later, is_found, one_passed, at_next, none_beyond}
use Rattle.rib_tree.proofs.held.is_over.Goals as goal

pub returns-then-is_before : goal.returns-then-is_before
returns-then-is_before g c = begins_behind c.args.deletion.now.rows c.args.address c.loop-bits.next c.is_before.result c.loop-bits.invariant.upto c.is_before.ensures c.if-is_before.true

pub returns-then-is_some : goal.returns-then-is_some
returns-then-is_some g c =
    is_found c.args.deletion.now.rows c.args.address c.loop-bits.bits (omega (arith, c.in-Some.ensures.0, c.known.ensures.narrow)) c.in-Some.prefix c.in-Some.ensures.1 c.held.result c.is_some.result c.held.ensures c.is_some.ensures c.if-is_some.true

pub returns-in-None : goal.returns-in-None
returns-in-None g c =
    none_beyond c.args.deletion.now.rows c.args.address c.loop-bits.bits (omega (arith, c.in-Some.ensures.0, c.known.ensures.narrow)) c.in-Some.prefix c.in-Some.ensures.1 c.held.result c.is_some.result c.held.ensures c.is_some.ensures
    c.loop-bits.invariant.passed c.if-is_some.false (subst (λ (o : Option AddressPrefix). IsNextCandidate (with_rows (map.get c.args.deletion.now.rows)) (Some c.in-Some.prefix) o) c.in-None.is c.next_held.ensures)

pub loop-bits-preserved : goal.loop-bits-preserved
loop-bits-preserved g c =
    let is = c.in-Some.ensures.1 in
    record {
      passed = one_passed c.args.deletion.now.rows c.args.address c.loop-bits.bits (omega (arith, c.in-Some.ensures.0, c.known.ensures.narrow)) c.in-Some.prefix is c.held.result c.is_some.result c.held.ensures c.is_some.ensures c.loop-bits.invariant.passed c.if-is_some.false;
      upto = at_next c.args.deletion.now.rows c.args.address c.loop-bits.bits (omega (arith, c.in-Some.ensures.0, c.known.ensures.narrow)) c.in-Some.prefix is c.held.result c.is_some.result c.held.ensures c.is_some.ensures
          c.loop-bits.invariant.passed c.if-is_some.false c.in-Some-next_held.beyond (subst (λ (o : Option AddressPrefix). IsNextCandidate (with_rows (map.get c.args.deletion.now.rows)) (Some c.in-Some.prefix) o) c.in-Some-next_held.is c.next_held.ensures);
      further =
          let next = subst (λ (o : Option AddressPrefix). IsNextCandidate (with_rows (map.get c.args.deletion.now.rows)) (Some c.in-Some.prefix) o) c.in-Some-next_held.is c.next_held.ensures in
          comes_later c.args.deletion.now.rows c.args.address c.loop-bits.bits (omega (arith, c.in-Some.ensures.0, c.known.ensures.narrow)) c.in-Some.prefix c.in-Some-next_held.beyond is next.0;
    }

pub loop-bits-preserved-then-lt : goal.loop-bits-preserved-then-lt
loop-bits-preserved-then-lt g c =
    let rows = c.args.deletion.now.rows in
    let is = c.in-Some.ensures.1 in
    let le : c.loop-bits.bits ≤ width = omega (arith, c.in-Some.ensures.0, c.known.ensures.narrow) in
    let before : ComesBefore c.in-Some.prefix c.loop-bits.next = search rules in
    record {
      passed = passed_before rows c.args.address c.loop-bits.bits le c.loop-bits.next c.loop-bits.invariant.passed c.loop-bits.invariant.upto (subst (λ (p : AddressPrefix). ComesBefore p c.loop-bits.next) is before);
      upto = c.loop-bits.invariant.upto;
      further = comes_later rows c.args.address c.loop-bits.bits le c.in-Some.prefix c.loop-bits.next is before;
    }

pub returns : goal.returns
returns g c =
    past_all c.args.deletion.now.rows c.args.address g.F.Family.WIDTH c.loop-bits.next c.known-2.ensures.short (is_whole g.F.Family.WIDTH c.args.address c.known.ensures.rest)
    (c.loop-bits.invariant.further g.F.Family.WIDTH (omega (arith, c.WIDTH-bits-end.ensures, c.loop-bits-test.false))) c.loop-bits.invariant.upto
