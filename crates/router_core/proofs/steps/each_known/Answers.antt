use Rattle.journal_laws.proofs.PrintedPeers.{each_octet}
use Rattle.router_core.proofs.steps.each_known.Goals as goal

pub returns : goal.returns
returns c = each_octet c.args.octets.now c.type_inv.octets
