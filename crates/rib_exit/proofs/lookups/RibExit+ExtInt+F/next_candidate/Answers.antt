use Rattle.addr4.specs.Places.{key_of}
use Rattle.rib_split.specs.declared.split.BgpLink.TheVariants as sides
use Rattle.rib_exit.proofs.LentLemmas.{next_on_side, next_on_ext, next_on_fib, covers_fib}
use Rattle.rib_exit.proofs.lookups.RibExit+ExtInt+F.next_candidate.Goals as goal

pub returns-in-Ebgp-clause-next : goal.returns-in-Ebgp-clause-next
returns-in-Ebgp-clause-next g c =
    next_on_side c.args.self.now (g.B.Reading.rows c.args.best.now) c.requires.stands (g.I.Upstream.rows c.args.int.now) (g.I.Upstream.candidates c.args.int.now) c.args.link sides.Ebgp (key_of c.args.after) c.next_on.result
    c.in-Ebgp.is c.next_on.ensures

pub returns-in-Ibgp-clause-next : goal.returns-in-Ibgp-clause-next
returns-in-Ibgp-clause-next g c =
    next_on_side c.args.self.now (g.B.Reading.rows c.args.best.now) c.requires.stands (g.I.Upstream.rows c.args.int.now) (g.I.Upstream.candidates c.args.int.now) c.args.link sides.Ibgp (key_of c.args.after) c.next_on-in-Ibgp.result
    c.in-Ibgp.is c.next_on-in-Ibgp.ensures

pub returns-in-Ext-clause-next : goal.returns-in-Ext-clause-next
returns-in-Ext-clause-next g c =
    next_on_ext c.args.self.now (g.B.Reading.rows c.args.best.now) c.requires.stands (g.I.Upstream.rows c.args.int.now) (g.I.Upstream.candidates c.args.int.now) c.args.link (key_of c.args.after) c.next_external.result
    c.in-Ext.is c.next_external.ensures

pub returns-in-Fib-clause-next : goal.returns-in-Fib-clause-next
returns-in-Fib-clause-next g c =
    next_on_fib c.args.self.now (g.B.Reading.rows c.args.best.now) c.requires.stands (g.I.Upstream.rows c.args.int.now) (g.I.Upstream.candidates c.args.int.now) c.args.link (key_of c.args.after) c.next_candidate.result
    c.in-Fib.is c.next_candidate.ensures.next

pub returns-in-Fib-clause-covers : goal.returns-in-Fib-clause-covers
returns-in-Fib-clause-covers g c =
    covers_fib c.args.self.now (g.B.Reading.rows c.args.best.now) c.requires.stands (g.I.Upstream.rows c.args.int.now) (g.I.Upstream.candidates c.args.int.now) c.args.link
    c.in-Fib.is c.next_candidate.ensures.covers
