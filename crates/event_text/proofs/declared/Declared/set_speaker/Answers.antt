use Rattle.std.proofs.Common.{◌≡◌, None, subst, sym}
use Rattle.bgp_attr.specs.Speakers.{IsSpeaker}
use Rattle.event_text.specs.declared.event.Event.TheVariants as events
use Rattle.event_text.specs.Declarations.{refusal, IsDeclaration}
use Rattle.event_text.proofs.DeclarationLemmas.{speaker_kept}
use Rattle.event_text.proofs.declared.Declared.set_speaker.Goals as goal

pub returns-clause-kept : goal.returns-clause-kept
returns-clause-kept g c =
    λ declared refused ok.
    let before = subst IsDeclaration (sym c.self.view_is) declared in
    let may = subst (λ d. refusal d (events.Local c.args.words) ≡ None) (sym c.self.view_is) refused in
    let words = subst (λ d. IsSpeaker d.v6 d.profile.as4 c.args.words) (sym c.self.view_is) ok in
    speaker_kept (record { v6 = g.F.Family.V6; profile = c.self.inside.profile; speaker = c.self.inside.speaker; peers = c.self.inside.peers.items }) c.args.words before may words
