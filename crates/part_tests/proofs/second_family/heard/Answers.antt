use Rattle.std.proofs.Common.{◌≡◌, true, false, Some, sym, ap, subst, ◌∙◌}
use Rattle.bgp_attr.specs.Attributes.{Attrs}
use Rattle.bgp_wire.specs.Readable.{IsReadable, IsReadableMessage, IsReadableUpdate, said_of}
use Rattle.bgp_wire.specs.Said.{Said}
use Rattle.wire_laws.proofs.SaidAgain.{internal_reads}
use Rattle.part_tests.specs.declared.second_family.TheConstants.{PROFILE}
use Rattle.part_tests.proofs.second_family.heard.Goals as goal

pub returns : goal.returns
returns c =
    let read : IsReadableUpdate PROFILE true c.in-Update.update = subst (IsReadableMessage PROFILE true) c.in-Update.is c.in_ok-update.ensures.readable in
    let said : (said_of true c.in-Update.update).attrs ≡ Some c.in-Some.attrs = ap (λ (s : Said). s.attrs) (sym c.second.view_is) ∙ c.in-Some.is in
    subst (λ (a : Attrs). IsReadable true PROFILE false a) (sym c.in_ok-new.ensures) (internal_reads true PROFILE true c.in-Some.attrs ((read true).attrs c.in-Some.attrs said))
