use Rattle.journal_text.specs.declared.link.Link.TheVariants.{In}
use Rattle.loss_chain.specs.declared.owner.Owner.TheVariants as owners
use Rattle.loss_chain.specs.Tables.{lowest_rows}
use Rattle.loss_chain.specs.Falls.{way_down}
use Rattle.in_chain.specs.Incomings.{in_rows}
use Rattle.in_chain.specs.Chains.{Chained}
use Rattle.in_chain.proofs.FilterLemmas.{falls_on, falls_quietly}
use Rattle.in_chain.proofs.chain.Chain.feed.Goals as goal

pub returns-in_default-clause-lines : goal.returns-in_default-clause-lines
returns-in_default-clause-lines g c =
    let old : Chained = record { incoming = record { number = c.self.inside.number; tables = c.self.inside.stages }; me = c.self.inside.me; peer = c.self.inside.peer; filter = c.self.inside.filter } in
    let same = rw c.in_default.is at c.in_ok-change.ensures.sent in
    let lines = rw c.in_default.is at c.in_ok-change.ensures.lines in
    rw (← c.self.view_is) (falls_quietly old c.feed.new.self c.args.p (way_down (owners.Peer old.incoming.number) (In old.incoming.number) old.incoming.tables.deletions) c.args.journal.now c.feed.new.journal same lines)

pub returns-clause-sent : goal.returns-clause-sent
returns-clause-sent g c =
    let is = rw c.in-Some.is at c.in_ok-change.ensures.sent in
    rw (← c.self.view_is) (c.take_in-sent.ensures (lowest_rows c.self.inside.stages) (lowest_rows c.feed.new.self) c.args.p is)

pub returns-clause-lines : goal.returns-clause-lines
returns-clause-lines g c =
    let old : Chained = record { incoming = record { number = c.self.inside.number; tables = c.self.inside.stages }; me = c.self.inside.me; peer = c.self.inside.peer; filter = c.self.inside.filter } in
    let is = rw c.in-Some.is at c.in_ok-change.ensures.sent in
    let lines = rw c.in-Some.is at c.in_ok-change.ensures.lines in
    let sent = c.take_in-sent.ensures (in_rows old.incoming) (lowest_rows c.feed.new.self) c.args.p is in
    rw (← c.self.view_is)
    (falls_on old c.feed.new.self c.args.p (way_down (owners.Peer old.incoming.number) (In old.incoming.number) old.incoming.tables.deletions) c.in-Some.change c.take_in-sent.result c.args.journal.now c.feed.new.journal c.push_sent.new.self lines sent
    c.in_ok-push_sent.ensures)
