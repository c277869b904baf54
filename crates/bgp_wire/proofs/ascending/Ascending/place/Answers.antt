use Rattle.std.proofs.Common.{◌≡◌, length, ◌∙◌}
use Rattle.bgp_wire.proofs.RouteLaws.{placed_at}
use Rattle.bgp_wire.proofs.ascending.Ascending.place.Goals as goal

pub returns-clause-ok : goal.returns-clause-ok
returns-clause-ok c =
    let end : c.len-end.result ≡ length c.self.inside.items.items = c.len-end.ensures ∙ c.self.inside.items.ok.0 in
    rw (c.in_ok-insert.ensures.items, c.unwrap_or-at.ensures, c.first_above.ensures.place, end, c.as_slice.ensures.value, ← c.self.view_is) (placed_at c.args.item c.self.inside.items.items)
