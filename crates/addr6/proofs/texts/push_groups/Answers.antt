use Rattle.std.proofs.Common.{refl}
use Rattle.addr6.proofs.TextLemmas.{printed}
use Rattle.addr6.proofs.texts.push_groups.Goals as goal

pub returns : goal.returns
returns c =
    printed _ _ _ _ _ _ _ _ _ _ _ refl c.in_ok-push_group.ensures c.in_ok-push_next_group.ensures c.in_ok-push_next_group-2.ensures c.in_ok-push_next_group-3.ensures c.in_ok-push_next_group-4.ensures c.in_ok-push_next_group-5.ensures c.in_ok-push_next_group-6.ensures c.in_ok-push_next_group-7.ensures
