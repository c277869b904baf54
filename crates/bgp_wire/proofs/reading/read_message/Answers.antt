use Rattle.std.proofs.Common.{subst}
use Rattle.bgp_wire.specs.Faults.{Fails}
use Rattle.bgp_wire.specs.Updates.{content_at}
use Rattle.bgp_wire.proofs.MessageLaws.{answers_message, only_message, answers_fault, only_fault}
use Rattle.bgp_wire.proofs.NoticeSizes.{notice_fits}
use Rattle.bgp_wire.proofs.ReadableMessages.{are_octets, answer_is_readable}
use Rattle.bgp_wire.proofs.reading.read_message.Goals as goal

pub returns-in-Ok-clause-answer : goal.returns-in-Ok-clause-answer
returns-in-Ok-clause-answer c = answers_message c.args.profile c.args.external c.args.bytes.now c.in-Ok.message c.in-Ok.ensures

pub returns-in-Ok-clause-only : goal.returns-in-Ok-clause-only
returns-in-Ok-clause-only c = only_message c.args.profile c.args.external c.args.bytes.now c.in-Ok.message c.in-Ok.ensures

pub returns-in-Err-Fault-clause-answer : goal.returns-in-Err-Fault-clause-answer
returns-in-Err-Fault-clause-answer c = answers_fault c.args.profile c.args.external c.args.bytes.now c.in-Err-Fault.notice (subst (λ e. Fails e (content_at c.args.profile c.args.external c.args.bytes.now)) c.in-Err-Fault.field-0-is c.in-Err-Fault.ensures)

pub returns-in-Err-Fault-clause-only : goal.returns-in-Err-Fault-clause-only
returns-in-Err-Fault-clause-only c = only_fault c.args.profile c.args.external c.args.bytes.now c.in-Err-Fault.notice (subst (λ e. Fails e (content_at c.args.profile c.args.external c.args.bytes.now)) c.in-Err-Fault.field-0-is c.in-Err-Fault.ensures)

pub returns-in-Ok-clause-readable : goal.returns-in-Ok-clause-readable
returns-in-Ok-clause-readable c =
    answer_is_readable c.args.profile c.args.external c.args.bytes.now c.in-Ok.message (are_octets c.args.bytes.now c.type_inv.bytes)
    (answers_message c.args.profile c.args.external c.args.bytes.now c.in-Ok.message c.in-Ok.ensures)

pub returns-in-Err-Fault-clause-short : goal.returns-in-Err-Fault-clause-short
returns-in-Err-Fault-clause-short c =
    notice_fits c.args.profile c.args.external c.args.bytes.now c.in-Err-Fault.notice
    (answers_fault c.args.profile c.args.external c.args.bytes.now c.in-Err-Fault.notice (subst (λ e. Fails e (content_at c.args.profile c.args.external c.args.bytes.now)) c.in-Err-Fault.field-0-is c.in-Err-Fault.ensures))
