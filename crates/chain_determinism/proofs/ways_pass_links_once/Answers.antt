use Rattle.chain_determinism.proofs.WayLemmas as ways
use Rattle.chain_determinism.proofs.ways_pass_links_once.Goals as goal

pub returns-clause-feeds : goal.returns-clause-feeds
returns-clause-feeds c = ways.feeds_pass_once

pub returns-clause-sweeps : goal.returns-clause-sweeps
returns-clause-sweeps c = ways.sweeps_pass_once

pub returns-clause-routes : goal.returns-clause-routes
returns-clause-routes c = ways.routes_pass_once

pub returns-clause-losses : goal.returns-clause-losses
returns-clause-losses c = ways.losses_pass_once
