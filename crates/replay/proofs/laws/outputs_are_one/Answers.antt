use Rattle.replay.proofs.OneOutput as one
use Rattle.replay.proofs.OneLives.{live_is_one}
use Rattle.replay.proofs.laws.outputs_are_one.Goals as goal

pub returns-clause-output : goal.returns-clause-output
returns-clause-output c = one.output_is_one c.blocks_are_one.ensures.block c.first_moment_stands.ensures

pub returns-clause-refusal : goal.returns-clause-refusal
returns-clause-refusal c = one.refusal_is_one c.blocks_are_one.ensures.block c.first_moment_stands.ensures

pub returns-clause-totals : goal.returns-clause-totals
returns-clause-totals c = one.totals_are_one c.blocks_are_one.ensures.block c.first_moment_stands.ensures c.blocks_are_one.ensures.listing

pub returns-clause-live : goal.returns-clause-live
returns-clause-live c = live_is_one c.one_of_message_and_fault.ensures

pub returns-clause-calls : goal.returns-clause-calls
returns-clause-calls c =
    one.calls_are_one c.blocks_are_one.ensures.block c.first_moment_stands.ensures c.blocks_are_one.ensures.listing c.there_is_one_answer.ensures c.texts_are_one.ensures
