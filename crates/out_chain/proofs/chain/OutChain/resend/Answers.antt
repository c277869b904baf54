use Rattle.std.proofs.Common.{refl}
use Rattle.out_chain.proofs.RefreshLemmas.{never_over, resent}
use Rattle.out_chain.proofs.chain.OutChain.resend.Goals as goal

pub unreachable-requires : goal.unreachable-requires
unreachable-requires g c =
    never_over c.args.self.now _ c.self.view_is c.self.inside.refresh c.in-Some.place refl c.in-Some.is c.requires.chain c.in_default-next_candidate.ensures.next

pub returns : goal.returns
returns g c =
    resent c.args.self.now _ c.self.view_is c.self.inside.refresh c.in-Some.place refl c.in-Some.is c.in-Some-next_candidate.prefix _ c.args.journal.now c.say_again.new.journal
    c.in-Some-next_candidate.ensures.next c.in_ok-say_again.ensures.lines c.in_ok-say_again.ensures.told c.walk_on-self-inside.ensures
