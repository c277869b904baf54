use Rattle.std.proofs.Common.{sym, subst, OnOk}
use Rattle.std.specs.Option.{ForSome}
use Rattle.peer_out.specs.Changes.{IsSentOf}
use Rattle.out_chain.specs.Chains.{OutChained}
use Rattle.out_chain.specs.Steps.{IsTold}
use Rattle.out_chain.proofs.chain.OutChain.send.Goals as goal

pub say-requires : goal.say-requires
say-requires g c =
    let P : OutChained → Type 0 = λ v. ForSome c.args.change.now.after (IsSentOf v.exit.profile v.exit.external c.args.change.now.prefix) in
    subst P (sym c.self.view_is) c.requires

pub returns-clause-told : goal.returns-clause-told
returns-clause-told g c =
    let P : OutChained → Type 0 = λ v. OnOk c.say.result (IsTold v.exit c.args.change.now) in
    subst P c.self.view_is c.say.ensures.told
