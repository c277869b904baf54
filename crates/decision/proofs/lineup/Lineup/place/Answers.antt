use Rattle.std.proofs.Common.{◌∙◌, sym, ℕ, Bool, ap, not, nat_lt, length}
use Rattle.std.specs.Option.{unwrap_or}
use Rattle.std.specs.List.{position}
use Rattle.decision.proofs.Parts.{or_end}
use Rattle.decision.proofs.lineup.Lineup.place.Goals as goal

pub returns : goal.returns
returns c =
    let from : ℕ → Bool = λ n. not (nat_lt n c.args.branch) in
    c.unwrap_or.ensures ∙ ap (λ o. unwrap_or o c.len-end.result) (c.first_from.ensures ∙ ap (position from) c.as_slice.ensures.value)
    ∙ ap (unwrap_or (position from c.args.self.now.branches.items)) (c.len-end.ensures ∙ sym c.as_slice.ensures.len ∙ ap length c.as_slice.ensures.value) ∙ or_end from c.args.self.now.branches.items
