use Rattle.mrt_reader.proofs.OneText.{one_text}
use Rattle.mrt_reader.proofs.laws.texts_are_one.Goals as goal

pub returns : goal.returns
returns c = one_text
