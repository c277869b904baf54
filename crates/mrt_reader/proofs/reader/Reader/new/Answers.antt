use Rattle.std.proofs.Common.{[], sym, subst}
use Rattle.mrt_reader.specs.Files.{HasRead}
use Rattle.mrt_reader.specs.Sessions.{Written}
use Rattle.mrt_reader.proofs.FileLemmas.{nothing_read}
use Rattle.mrt_reader.proofs.reader.Reader.new.Goals as goal

pub returns-clause-begun : goal.returns-clause-begun
returns-clause-begun c = subst (λ (w : Written). HasRead c.args.as4 [] [] 0 w) (sym c.new.ensures) (nothing_read c.args.as4)
