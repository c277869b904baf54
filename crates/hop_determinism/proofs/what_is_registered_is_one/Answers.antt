use Rattle.hop_determinism.proofs.RegisterLemmas as register
use Rattle.hop_determinism.proofs.what_is_registered_is_one.Goals as goal

pub returns-clause-reached : goal.returns-clause-reached
returns-clause-reached g c = register.reached_is_one

pub returns-clause-subnet : goal.returns-clause-subnet
returns-clause-subnet g c = register.subnet_is_one

pub returns-clause-cover : goal.returns-clause-cover
returns-clause-cover g c = register.cover_is_one

pub returns-clause-largest : goal.returns-clause-largest
returns-clause-largest g c = register.largest_is_one

pub returns-clause-registered : goal.returns-clause-registered
returns-clause-registered g c = register.registered_is_one
