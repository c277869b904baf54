use Rattle.std.proofs.Common.{◌∷◌, [], refl}
use Rattle.std.specs.Fmt.{decimal}
use Rattle.hex.specs.Hex.{encode_lower}
use Rattle.journal_text.specs.declared.kept.Text.{Text}
use Rattle.journal_text.proofs.KeptLemmas.{chars_appended, appended_then, message_appended}
use Rattle.journal_text.proofs.kept.Text.push_message.Goals as goal

pub returns : goal.returns
returns c =
    let old = c.args.self.now in
    let named : Text = record { content = c.push_peer.new.out; spans = old.spans; end = old.end } in
    let body = appended_then _ _ old named c.push_octets.new.self (chars_appended _ old named c.requires c.in_ok-push_peer.ensures refl refl) c.in_ok-push_octets.ensures in
    message_appended c.args.word.now (decimal c.args.peer) (encode_lower c.args.octets.now) old _
    (appended_then _ _ old c.push_octets.new.self _ body (chars_appended (10 ∷ []) c.push_octets.new.self _ body.whole c.in_ok-push.ensures.items refl refl))
