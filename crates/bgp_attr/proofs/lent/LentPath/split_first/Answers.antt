use Rattle.std.proofs.Common.{◌<◌, sym, ap, ◌∙◌, arith}
use Rattle.bgp_attr.specs.Paths.{leading_room, times_in_front}
use Rattle.bgp_attr.proofs.LentLaws.{leading_takes, others_begin}
use Rattle.bgp_attr.proofs.lent.LentPath.split_first.Goals as goal
use Rattle.bgp_attr.proofs.lent.LentPath.split_first.Goals.{After-from}

more : (c : After-from) → leading_room c.self.inside.segments < c.self.inside.times
more c = omega (arith, c.room.ensures, c.from-room.ensures, c.if-self-room.true)

pub returns-then-self-room : goal.returns-then-self-room
returns-then-self-room c =
    let count = c.in_first-times.result in
    rw (c.none.ensures, c.lent-segments.ensures, c.from.ensures)
    (sym c.self.view_is
    ∙ others_begin c.self.inside.times count c.self.inside.asn c.self.inside.segments (more c) (omega arith)
    (λ few. omega (arith, c.room.ensures, c.from-room.ensures, c.in_first-times.ensures.one (omega (arith, c.room.ensures, c.from-room.ensures))))
    (λ many. omega (arith, c.room.ensures, c.from-room.ensures, c.in_first-times.ensures.two (omega (arith, c.room.ensures, c.from-room.ensures)))))

pub returns : goal.returns
returns c =
    let first = c.in_ok-leading.leading in
    sym c.self.view_is ∙ ap (times_in_front c.self.inside.times c.self.inside.asn) c.in_ok-leading.ensures
    ∙ leading_takes c.self.inside.times c.self.inside.asn first.kind first.numbers c.in_ok-leading.segments (omega (arith, c.room.ensures, c.from-room.ensures, c.if-self-room.false, ap leading_room c.in_ok-leading.ensures))
