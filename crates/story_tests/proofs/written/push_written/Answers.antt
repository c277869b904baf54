use Rattle.std.proofs.Common.{true, false, subst}
use Rattle.bgp_wire.specs.Readable.{IsReadableMessage}
use Rattle.story_tests.proofs.written.push_written.Goals as goal

pub push_said-requires : goal.push_said-requires
push_said-requires c = subst (IsReadableMessage c.args.profile c.args.external) c.in-Update.is c.requires false

pub push_said-requires-in-Update : goal.push_said-requires-in-Update
push_said-requires-in-Update c = subst (IsReadableMessage c.args.profile c.args.external) c.in-Update.is c.requires true
