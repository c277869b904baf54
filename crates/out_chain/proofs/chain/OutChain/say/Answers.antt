use Rattle.std.proofs.Common.{sym, subst, ◌∙◌}
use Rattle.std.specs.Option.{ForSome}
use Rattle.peer_out.specs.Changes.{IsSentOf}
use Rattle.out_chain.specs.Chains.{OutChained}
use Rattle.out_chain.proofs.TurnLemmas.{said_lines, said_told}
use Rattle.out_chain.proofs.chain.OutChain.say.Goals as goal

pub message-requires : goal.message-requires
message-requires g c =
    let P : OutChained → Type 0 = λ v. ForSome c.args.sent.now.after (IsSentOf v.exit.profile v.exit.external c.args.sent.now.prefix) in
    subst P (sym c.self.view_is) c.requires

pub returns-clause-lines : goal.returns-clause-lines
returns-clause-lines g c =
    said_lines c.args.self.now _ c.self.view_is c.args.sent.now c.from-number.result c.from_vec.result c.args.journal.now c.push_change_on_both.new.self c.push_line.new.self
    c.from-number.ensures (c.from_vec.ensures ∙ c.in_ok-octets.ensures.octets) c.in_ok-push_change_on_both.ensures c.in_ok-push_line.ensures

pub returns-clause-told : goal.returns-clause-told
returns-clause-told g c = said_told c.args.self.now _ c.self.view_is c.args.sent.now c.in_ok-octets.octets.items c.in_ok-octets.ensures.octets c.in_ok-octets.ensures.reads
