use Rattle.std.proofs.Common.{refl}
use Rattle.std.proofs.lemmas.Result.{on_ok_weaker}
use Rattle.journal_text.proofs.KeptLemmas.{chars_appended}
use Rattle.journal_text.proofs.kept.Text.push_line.Goals as goal

pub returns-in_default : goal.returns-in_default
returns-in_default g c = on_ok_weaker c.push_line.result (λ made. chars_appended _ _ _ c.requires made refl refl) c.push_line.ensures
