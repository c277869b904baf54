use Rattle.std.proofs.Common.{ℕ, List, Option, Some, None, ap, sym, subst, ◌∙◌}
use Rattle.std.proofs.lemmas.Result.{IfOk-weaker}
use Rattle.bgp_attr.specs.Attributes.{Attrs}
use Rattle.bgp_wire.specs.Spelling.{update_octets}
use Rattle.bgp_wire.specs.Readable.{withdrawing}
use Rattle.peer_out.specs.Changes.{saying, IsReadAs}
use Rattle.peer_out.proofs.SentLemmas.{no_longer}
use Rattle.peer_out.proofs.octets.message.Goals as goal

pub announcement-requires-clause-sent : goal.announcement-requires-clause-sent
announcement-requires-clause-sent g c = c.requires.sent c.in-Some.sent c.in-Some.is

pub returns-in-Some-clause-octets : goal.returns-in-Some-clause-octets
returns-in-Some-clause-octets g c =
    IfOk-weaker c.announcement.result _ _ (λ octets is. is ∙ ap (λ b. update_octets b c.args.profile.as4 (saying c.args.change.now.prefix (Some c.in-Some.sent))) (sym c.requires.of.second) ∙ sym (ap (λ o. update_octets c.args.profile.second c.args.profile.as4 (saying c.args.change.now.prefix o)) c.in-Some.is)) c.announcement.ensures.octets

pub returns-in-Some-clause-reads : goal.returns-in-Some-clause-reads
returns-in-Some-clause-reads g c =
    let P : Option Attrs → List ℕ → Type 0 = λ o octets. IsReadAs c.args.profile c.args.external octets (saying c.args.change.now.prefix o) in
    IfOk-weaker c.announcement.result _ _ (λ octets reads. subst (λ o. P o octets.items) (sym c.in-Some.is) reads) c.announcement.ensures.reads

pub returns-in-None-clause-octets : goal.returns-in-None-clause-octets
returns-in-None-clause-octets g c =
    IfOk-weaker c.withdrawn.result _ _ (λ octets is. is ∙ ap (λ b. update_octets b c.args.profile.as4 (saying c.args.change.now.prefix None)) (sym c.requires.of.second) ∙ sym (ap (λ o. update_octets c.args.profile.second c.args.profile.as4 (saying c.args.change.now.prefix o)) c.in-None.is)) (c.withdrawn.ensures.octets c.args.profile.as4)

pub returns-in-None-clause-reads : goal.returns-in-None-clause-reads
returns-in-None-clause-reads g c =
    let P : Option Attrs → List ℕ → Type 0 = λ o octets. IsReadAs c.args.profile c.args.external octets (saying c.args.change.now.prefix o) in
    IfOk-weaker c.withdrawn.result _ _ (λ octets reads. subst (λ o. P o octets.items) (sym c.in-None.is) reads) (c.withdrawn.ensures.reads c.args.profile c.args.external c.requires.of)

pub returns-in-None-clause-short : goal.returns-in-None-clause-short
returns-in-None-clause-short g c =
    IfOk-weaker c.withdrawn.result _ _
    (λ octets reads. no_longer c.args.profile c.args.external octets.items (withdrawing c.args.change.now.prefix) reads)
    (c.withdrawn.ensures.reads c.args.profile c.args.external c.requires.of)
