use Rattle.router_determinism.proofs.OneLaws as one
use Rattle.router_determinism.proofs.blocks_are_one.Goals as goal

pub returns-clause-block : goal.returns-clause-block
returns-clause-block c = one.block_law c.one_of_message_and_fault.ensures

pub returns-clause-listing : goal.returns-clause-listing
returns-clause-listing c = one.listing_law
