use Rattle.std.proofs.lemmas.Result.{IfOk-weaker}
use Rattle.peer_out.proofs.SentLemmas.{withdrawal_said}
use Rattle.peer_out.proofs.writes.withdrawn.Goals as goal

pub returns-clause-reads : goal.returns-clause-reads
returns-clause-reads g c profile external of =
    IfOk-weaker c.write_withdrawal.result _ _
    (λ octets is. withdrawal_said g.F.Family.V6 profile external c.args.prefix octets.items of c.known.ensures.of is)
    (c.write_withdrawal.ensures profile.as4)
