use Rattle.bgp_wire.proofs.MessageLaws.{one_answer}
use Rattle.bgp_wire.proofs.laws.one_of_message_and_fault.Goals as goal

pub returns : goal.returns
returns c = one_answer
