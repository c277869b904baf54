use Rattle.std.proofs.Common.{Option, sym, ap, subst, ◌∙◌}
use Rattle.std.specs.Option.{ForSome}
use Rattle.std.specs.FinMap as tables
use Rattle.bgp_attr.specs.Routes.{Route}
use Rattle.link_change.specs.Changes.{Change}
use Rattle.peer_out.specs.Changes.{MayBeHeard}
use Rattle.part_tests.specs.declared.second_family.TheConstants.{PROFILE}
use Rattle.part_tests.proofs.ExitLemmas.{kept_on, put_ready}
use Rattle.part_tests.proofs.second_exits.decide.Goals as goal

pub returns-clause-stand : goal.returns-clause-stand
returns-clause-stand c =
    let change = c.in-Some.change in
    let is = c.in-Some.ensures in
    let sent = c.in_ok-change.change in
    let best = c.args.best.now in
    let there = ap (tables.get best) is.0 ∙ sym c.in_ok-before.ensures ∙ sym is.1 in
    let after = ap (λ (x : Change Route). x.after) c.in_ok-change.ensures.passed ∙ is.2 in
    (put_ready PROFILE (tables.get best) (tables.get c.take_in.new.self) change.prefix sent c.args.exits.now c.put.new.self c.in_ok-put.ensures.put
    (kept_on best c.take_in.new.self change sent c.in_ok-change.ensures.law there (λ same. is.3 (sym is.2 ∙ same ∙ is.1)))
    (subst (λ (o : Option Route). ForSome o (λ (r : Route). MayBeHeard PROFILE r.attrs)) (sym after) c.requires.heard)
    (record { sound = c.requires.sound; stand = c.requires.stand; profile = c.requires.profile })).stand
