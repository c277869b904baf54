use Rattle.mrt_reader.proofs.OpeningLemmas.{file_opens}
use Rattle.mrt_reader.proofs.laws.files_are_opened.Goals as goal

pub returns : goal.returns
returns c = file_opens
