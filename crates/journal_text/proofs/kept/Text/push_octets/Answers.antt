use Rattle.std.proofs.Common.{refl}
use Rattle.std.proofs.lemmas.Result.{on_ok_weaker}
use Rattle.journal_text.proofs.KeptLemmas.{chars_appended}
use Rattle.journal_text.proofs.kept.Text.push_octets.Goals as goal

pub returns-in-None : goal.returns-in-None
returns-in-None c = on_ok_weaker c.push_hex.result (λ made. chars_appended _ _ _ c.requires made refl refl) c.push_hex.ensures
