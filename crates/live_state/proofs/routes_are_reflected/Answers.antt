use Rattle.live_state.proofs.ReflectedLemmas.{reflection_is_marked}
use Rattle.live_state.proofs.routes_are_reflected.Goals as goal

pub returns : goal.returns
returns c = reflection_is_marked c.pick_is_one_of_them.ensures c.filtered_keeps_attrs.ensures c.what_goes_out.ensures.may_go c.what_goes_out.ensures.form
