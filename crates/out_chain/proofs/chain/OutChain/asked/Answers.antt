use Rattle.std.proofs.lemmas.Result.{IfOk-weaker}
use Rattle.out_chain.proofs.LookupLemmas.{asked_read, asked_outf, asked_adv}
use Rattle.out_chain.proofs.chain.OutChain.asked.Goals as goal

pub returns-in_ok-read-in-Read : goal.returns-in_ok-read-in-Read
returns-in_ok-read-in-Read g c =
    asked_read c.args.queue.now (g.U.Upstream.rows c.args.best.now) c.args.self.now _ c.self.view_is c.requires.live c.args.link c.requires.own c.args.p _ _ _ _ c.in-Read.is c.in_ok-read-in-Read.ensures c.route_value.ensures

pub returns-in_ok-sent-in-Outf : goal.returns-in_ok-sent-in-Outf
returns-in_ok-sent-in-Outf g c =
    IfOk-weaker c.value_of.result _ _
    (λ value shown. asked_outf c.args.queue.now (g.U.Upstream.rows c.args.best.now) c.args.self.now _ c.self.view_is c.requires.live c.args.link c.requires.own c.args.p _ _ _ _ value c.in-Outf.is c.in_ok-row-in-Outf.ensures c.in_ok-sent-in-Outf.ensures shown)
    c.value_of.ensures

pub returns-in_ok-sent-in-Adv : goal.returns-in_ok-sent-in-Adv
returns-in_ok-sent-in-Adv g c =
    IfOk-weaker c.value_of-in-Adv.result _ _
    (λ value shown. asked_adv c.args.queue.now (g.U.Upstream.rows c.args.best.now) c.args.self.now _ c.self.view_is c.requires.live c.args.link c.requires.own c.args.p _ _ _ value c.in-Adv.is c.in_ok-sent-in-Adv.ensures shown)
    c.value_of-in-Adv.ensures
