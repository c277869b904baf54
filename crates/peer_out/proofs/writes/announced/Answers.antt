use Rattle.std.proofs.lemmas.Result.{IfOk-weaker}
use Rattle.peer_out.specs.Changes.{CanBeRead}
use Rattle.peer_out.proofs.SentLemmas.{sent_is_readable, announcement_said, sent_fits, short_of}
use Rattle.peer_out.proofs.writes.announced.Goals as goal

pub announce-requires-clause-fits : goal.announce-requires-clause-fits
announce-requires-clause-fits g c =
    let can : CanBeRead c.args.profile c.args.external c.args.prefix c.args.attrs.now =
    sent_is_readable c.args.profile c.args.external c.args.prefix c.args.attrs.now c.requires.sent c.known_numbers.ensures in
    sent_fits c.args.profile c.args.external c.args.prefix c.args.attrs.now can

pub announce-requires-clause-short : goal.announce-requires-clause-short
announce-requires-clause-short g c =
    short_of g.F.Family.V6 c.args.profile c.args.external c.args.prefix c.args.attrs.now c.requires.of
    (sent_is_readable c.args.profile c.args.external c.args.prefix c.args.attrs.now c.requires.sent c.known_numbers.ensures)

pub returns-clause-reads : goal.returns-clause-reads
returns-clause-reads g c =
    let can : CanBeRead c.args.profile c.args.external c.args.prefix c.args.attrs.now =
    sent_is_readable c.args.profile c.args.external c.args.prefix c.args.attrs.now c.requires.sent c.known_numbers.ensures in
    IfOk-weaker c.announce.result _ _
    (λ octets is. announcement_said g.F.Family.V6 c.args.profile c.args.external c.args.prefix c.args.attrs.now octets.items c.requires.of c.known.ensures.of can is)
    c.announce.ensures.octets
