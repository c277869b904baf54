use Rattle.std.proofs.Common.{◌≡◌, Some, sym, ◌∙◌}
use Rattle.std.specs.FinMap as map
use Rattle.out_chain.proofs.RefreshLemmas.{again_sayable, again_lines, again_told}
use Rattle.out_chain.proofs.chain.OutChain.say_again.Goals as goal

pub announcement-requires : goal.announcement-requires
announcement-requires g c =
    let at : map.get c.self.inside.sent c.args.prefix ≡ Some c.in-Some.sent.now = sym c.in-Some.ensures in
    again_sayable c.args.self.now _ c.self.view_is c.args.prefix c.in-Some.sent.now at c.requires.sayable

pub returns-clause-lines : goal.returns-clause-lines
returns-clause-lines g c =
    let at : map.get c.self.inside.sent c.args.prefix ≡ Some c.in-Some.sent.now = sym c.in-Some.ensures in
    again_lines c.args.self.now _ c.self.view_is c.args.prefix c.in-Some.sent.now c.from-number.result c.from_vec.result c.args.journal.now c.push_line.new.self at
    c.from-number.ensures (c.from_vec.ensures ∙ c.in_ok-octets.ensures.octets) c.in_ok-push_line.ensures

pub returns-clause-told : goal.returns-clause-told
returns-clause-told g c =
    let at : map.get c.self.inside.sent c.args.prefix ≡ Some c.in-Some.sent.now = sym c.in-Some.ensures in
    again_told c.args.self.now _ c.self.view_is c.args.prefix c.in-Some.sent.now c.in_ok-octets.octets.items at c.in_ok-octets.ensures.octets c.in_ok-octets.ensures.reads
