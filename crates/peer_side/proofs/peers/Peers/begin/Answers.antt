use Rattle.std.proofs.Common.{◌∙◌, sym, ap, subst}
use Rattle.std.proofs.lemmas.Result.{on_ok_weaker}
use Rattle.in_chain.specs.Chains.{Chained}
use Rattle.link_region.specs.declared.regions.Region.TheVariants.{Inward}
use Rattle.link_region.specs.Regions.{LeadsIn}
use Rattle.peer_side.specs.Peers.{Chains, put_chain, peer_links, begin_entries, IsPeers}
use Rattle.peer_side.proofs.PutLemmas.{set_put}
use Rattle.peer_side.proofs.LinkLemmas.{begin_leads}
use Rattle.peer_side.proofs.StepLemmas.{begun_sound}
use Rattle.peer_side.proofs.peers.Peers.begin.Goals as goal

pub returns-clause-after : goal.returns-clause-after
returns-clause-after g c =
    on_ok_weaker c.push_entry-2.result
    (λ _. set_put c.self.inside.chains c.insert.new.self c.args.self.now c.args.number c.in_ok-chain.chain c.self.view_is c.in_ok-insert.ensures.updates ∙ ap (λ (x : Chained). put_chain c.args.number x c.args.self.now) c.in_ok-chain.ensures)
    c.push_entry-2.ensures

pub returns-clause-leads : goal.returns-clause-leads
returns-clause-leads g c =
    on_ok_weaker c.push_entry-2.result
    (λ _.
    let put = set_put c.self.inside.chains c.insert.new.self c.args.self.now c.args.number c.in_ok-chain.chain c.self.view_is c.in_ok-insert.ensures.updates ∙ ap (λ (x : Chained). put_chain c.args.number x c.args.self.now) c.in_ok-chain.ensures in
    subst (λ (x : Chains). LeadsIn Inward (peer_links c.args.self.now) (begin_entries c.args.number) (peer_links x)) (sym put)
    (begin_leads c.args.self.now c.args.number c.args.me c.args.words c.requires.own c.requires.absent))
    c.push_entry-2.ensures

pub returns-clause-sound : goal.returns-clause-sound
returns-clause-sound g c =
    on_ok_weaker c.push_entry-2.result
    (λ _.
    let put = set_put c.self.inside.chains c.insert.new.self c.args.self.now c.args.number c.in_ok-chain.chain c.self.view_is c.in_ok-insert.ensures.updates ∙ ap (λ (x : Chained). put_chain c.args.number x c.args.self.now) c.in_ok-chain.ensures in
    subst IsPeers (sym put) (begun_sound c.args.self.now c.args.number c.args.me c.args.words c.requires.own c.requires.sound))
    c.push_entry-2.ensures
