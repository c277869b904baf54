use Rattle.std.proofs.Common.{◌∙◌, sym}
use Rattle.bgp_attr.specs.Attributes.{Attrs}
use Rattle.loss_chain.specs.Lost.{Lost}
use Rattle.journal_text.specs.declared.link.Task.{Task}
use Rattle.journal_text.specs.declared.link.Task.TheVariants.{Del}
use Rattle.in_chain.specs.Steps.{chain_lags}
use Rattle.peer_side.proofs.PlaceLemmas.{behind_all, such, passed_by_one}
use Rattle.peer_side.proofs.tasks.first_stage.Goals as goal

pub returns-in-None : goal.returns-in-None
returns-in-None g c = sym (sym c.loop-place.invariant
    ∙ behind_all (λ (d : Lost Attrs). Del c.args.chain.now.incoming.number d.number) (λ (t : Task). chain_lags c.args.chain.now t c.args.p) c.args.chain.now.incoming.tables.deletions c.loop-place.place (sym c.in-None.ensures))

pub returns-then-holds_up : goal.returns-then-holds_up
returns-then-holds_up g c =
    such (λ (d : Lost Attrs). Del c.args.chain.now.incoming.number d.number) (λ (t : Task). chain_lags c.args.chain.now t c.args.p) c.args.chain.now.incoming.tables.deletions c.loop-place.place c.in-Some.task
    c.loop-place.invariant (sym c.in-Some.ensures) (sym c.holds_up.ensures ∙ c.if-holds_up.true)

pub loop-place-preserved : goal.loop-place-preserved
loop-place-preserved g c =
    passed_by_one (λ (d : Lost Attrs). Del c.args.chain.now.incoming.number d.number) (λ (t : Task). chain_lags c.args.chain.now t c.args.p) c.args.chain.now.incoming.tables.deletions c.loop-place.place c.in-Some.task
    c.loop-place.invariant (sym c.in-Some.ensures) (sym c.holds_up.ensures ∙ c.if-holds_up.false)
