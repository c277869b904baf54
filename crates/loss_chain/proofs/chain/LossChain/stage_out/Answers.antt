use Rattle.std.proofs.Common.{ap, sym, ◌∙◌}
use Rattle.std.specs.Option.{option_map}
use Rattle.journal_text.specs.Values.{valued}
use Rattle.loss_chain.specs.Stages.{rows_of}
use Rattle.loss_chain.specs.declared.stage.Stage.{Stage}
use Rattle.loss_chain.proofs.WholeLemmas.{out_of_loss, out_of_session}
use Rattle.loss_chain.proofs.chain.LossChain.stage_out.Goals as goal

pub returns-then-number-peer-2 : goal.returns-then-number-peer-2
returns-then-number-peer-2 g c =
    rw (c.in-Peer.is, c.in-Peer-link.is, ← c.self.view_is)
    (ap (option_map (λ (s : Stage g.row.R.Denot g.row.F.Denot). valued g.R.Valued.value (rows_of s))) c.above.ensures ∙ out_of_session g.R.Valued.value c.in-Peer.peer c.in-Peer-link.number c.in-Peer-link.session c.self.inside.lowest c.if-number-peer-2.true)

pub returns-then-is_same-2 : goal.returns-then-is_same-2
returns-then-is_same-2 g c =
    rw (c.in-Origin.is, c.in-Lost.is, ← c.self.view_is)
    (ap (option_map (λ (s : Stage g.row.R.Denot g.row.F.Denot). valued g.R.Valued.value (rows_of s))) c.above-then-is_same-2.ensures
    ∙ out_of_loss g.R.Valued.value c.in-Origin.proto c.in-Lost.other c.in-Lost.loss c.self.inside.lowest (sym c.is_same-in-Lost.ensures ∙ c.if-is_same-2.true))
