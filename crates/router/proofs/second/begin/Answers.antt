use Rattle.router.proofs.BeginLemmas.{local_may_step, few_yet, begun_acts}
use Rattle.router.proofs.second.begin.Goals as goal

pub told_second-requires-clause-may : goal.told_second-requires-clause-may
told_second-requires-clause-may c = local_may_step c.args.profile c.args.words c.set_profile.new.self c.set_profile.ensures.value c.requires.words

pub told_second-requires-clause-few : goal.told_second-requires-clause-few
told_second-requires-clause-few c = few_yet c.args.profile c.args.words c.set_profile.new.self c.set_profile.ensures.value

pub returns-clause-acts : goal.returns-clause-acts
returns-clause-acts c = begun_acts c.args.profile c.args.words c.set_profile.new.self c.set_profile.ensures.value c.told_second.new.second _ c.args.journals.now c.told_second.new.journals c.in_ok-told_second.ensures.acts
