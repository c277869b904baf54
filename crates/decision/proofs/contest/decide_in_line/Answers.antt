use Rattle.decision.specs.Lineups.{at_prefix, with_own}
use Rattle.decision.proofs.Parts.{few_keys, only_left}
use Rattle.decision.proofs.contest.decide_in_line.Goals as goal

pub winner-latter-requires : goal.winner-latter-requires
winner-latter-requires g c =
    let here = at_prefix (g.B.Branches.rows c.args.all.now) c.args.change.now.prefix in
    few_keys (with_own c.args.branch c.args.change.now.after here) c.take_in.new.self (c.in_ok-take_in.ensures here c.requires.known.others)

pub returns-clause-win : goal.returns-clause-win
returns-clause-win g c =
    let here = at_prefix (g.B.Branches.rows c.args.all.now) c.args.change.now.prefix in
    record {
      former = c.requires.known.best;
      latter = c.winner-latter.ensures.best (with_own c.args.branch c.args.change.now.after here) (c.in_ok-take_in.ensures here c.requires.known.others);
    }

pub returns-clause-known : goal.returns-clause-known
returns-clause-known g c =
    let here = at_prefix (g.B.Branches.rows c.args.all.now) c.args.change.now.prefix in
    let lined = c.in_ok-take_in.ensures here c.requires.known.others in
    record { best = c.winner-latter.ensures.best (with_own c.args.branch c.args.change.now.after here) lined; others = lined }

pub returns-clause-short : goal.returns-clause-short
returns-clause-short g c =
    let here = with_own c.args.branch c.args.change.now.after (at_prefix (g.B.Branches.rows c.args.all.now) c.args.change.now.prefix) in
    let lined = c.in_ok-take_in.ensures (at_prefix (g.B.Branches.rows c.args.all.now) c.args.change.now.prefix) c.requires.known.others in
    only_left here c.take_in.new.self c.winner-latter.result lined c.winner-latter.ensures.listed (c.winner-latter.ensures.best here lined)
