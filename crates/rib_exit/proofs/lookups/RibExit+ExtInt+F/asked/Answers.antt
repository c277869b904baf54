use Rattle.rib_split.specs.declared.split.BgpLink.TheVariants as sides
use Rattle.rib_exit.proofs.LentLemmas.{has_on, has_ext, has_fib}
use Rattle.rib_exit.proofs.lookups.RibExit+ExtInt+F.asked.Goals as goal

pub returns-in-Ebgp : goal.returns-in-Ebgp
returns-in-Ebgp g c =
    has_on c.args.self.now (g.B.Reading.rows c.args.best.now) c.requires.stands (g.I.Upstream.rows c.args.int.now) c.args.link sides.Ebgp c.args.prefix c.row_on.result c.external_value.result c.in-Ebgp.is
    c.row_on.ensures c.external_value.ensures

pub returns-in-Ibgp : goal.returns-in-Ibgp
returns-in-Ibgp g c =
    has_on c.args.self.now (g.B.Reading.rows c.args.best.now) c.requires.stands (g.I.Upstream.rows c.args.int.now) c.args.link sides.Ibgp c.args.prefix c.row_on-in-Ibgp.result c.external_value-in-Ibgp.result c.in-Ibgp.is
    c.row_on-in-Ibgp.ensures c.external_value-in-Ibgp.ensures

pub returns-in-Ext : goal.returns-in-Ext
returns-in-Ext g c =
    has_ext c.args.self.now (g.B.Reading.rows c.args.best.now) c.requires.stands (g.I.Upstream.rows c.args.int.now) c.args.link c.args.prefix c.external.result c.external_value-in-Ext.result c.in-Ext.is
    c.external.ensures c.external_value-in-Ext.ensures

pub returns-in_ok-row-in-Fib : goal.returns-in_ok-row-in-Fib
returns-in_ok-row-in-Fib g c =
    has_fib c.args.self.now (g.B.Reading.rows c.args.best.now) c.requires.stands (g.I.Upstream.rows c.args.int.now) c.args.link c.args.prefix c.in_ok-row-in-Fib.row c.fib_value.result c.in-Fib.is
    c.in_ok-row-in-Fib.ensures c.fib_value.ensures
