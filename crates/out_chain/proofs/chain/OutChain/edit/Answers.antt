use Rattle.std.specs.Prelude.{option_map}
use Rattle.addr4.specs.Places.{key_of}
use Rattle.out_chain.specs.Chains.{OutChained}
use Rattle.out_chain.proofs.TurnLemmas.{edit_links, edit_stands}
use Rattle.out_chain.proofs.chain.OutChain.edit.Goals as goal

pub returns-clause-links : goal.returns-clause-links
returns-clause-links g c =
    let i = c.self.inside in
    let old : OutChained = record { exit = i.to_peer.out; peer = i.peer; session = i.session; reader = i.reader; filter = i.filter; sent = i.sent; refresh = option_map key_of i.refresh } in
    rw (← c.self.view_is, c.edit.ensures) (edit_links old c.args.rules)

pub returns-clause-stands : goal.returns-clause-stands
returns-clause-stands g c =
    let i = c.self.inside in
    let old : OutChained = record { exit = i.to_peer.out; peer = i.peer; session = i.session; reader = i.reader; filter = i.filter; sent = i.sent; refresh = option_map key_of i.refresh } in
    rw (← c.self.view_is, c.edit.ensures) (edit_stands old c.args.rules)
