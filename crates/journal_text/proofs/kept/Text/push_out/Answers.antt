use Rattle.std.proofs.Common.{◌≡◌, ◌++◌, ◌∷◌, [], ◌-◌, ℕ, length, length-drop, take, drop, refl, sym, ap, ◌∙◌, subst, arith}
use Rattle.std.proofs.lemmas.List.{take_all}
use Rattle.hex.specs.Hex.{encode_lower}
use Rattle.journal_text.specs.declared.kept.Text.{Text}
use Rattle.journal_text.specs.declared.kept.TheConstants.{MARKER}
use Rattle.journal_text.specs.Kept.{following, unkept, IsAppended}
use Rattle.journal_text.proofs.KeptLemmas.{chars_appended, message_follows}
use Rattle.journal_text.proofs.kept.Text.push_out.Goals as goal

pub returns-in_ok-push-in-Some : goal.returns-in_ok-push-in-Some
returns-in_ok-push-in-Some c =
    let old = c.args.self.now in
    let next = c.push_span.new.self in
    let found = c.in-Some.ensures in
    let cut : Text = record { content = c.truncate.new.self; spans = old.spans; end = old.end } in
    let said : unkept c.in-Some.span.front ++ encode_lower (MARKER.now ++ c.in-Some.kept.now) ≡ following c.args.peer ++ encode_lower c.args.octets.now =
    ap (λ t. t ++ encode_lower (MARKER.now ++ c.in-Some.kept.now)) found.2 ∙ ap (λ t. following c.args.peer ++ encode_lower t) (sym found.4) in
    let behind = c.deref.result.now in
    let all : drop old.end old.content.items ≡ take (length behind - old.end) (drop old.end behind) = rw c.deref.ensures.value (sym (take_all _ (drop old.end old.content.items) (omega (arith, length-drop {A = ℕ})))) in
    message_follows c.args.peer _ c.args.octets.now old cut next _ c.requires all found.0 c.truncate.ensures.items refl refl
    (subst (λ t. IsAppended t cut next) said c.in_ok-push_span-in-Some.ensures)
    (chars_appended (10 ∷ []) next _ c.in_ok-push_span-in-Some.ensures.whole c.in_ok-push-in-Some.ensures.items refl refl)
