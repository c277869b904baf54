use Rattle.std.proofs.Common.{◌++◌, take, sym, ap, ◌∙◌, arith, append_assoc}
use Rattle.journal_text.proofs.ReadLemmas.{take_part, room_stays}
use Rattle.journal_text.proofs.reader.TextReader.read.Goals as goal

pub loop-room-preserved : goal.loop-room-preserved
loop-room-preserved c =
    let room = c.loop-room.room in
    let filled = c.loop-room.filled in
    let read = c.read_part-read.result in
    let part = c.read_part-read.new.room in
    let stays = room_stays filled room part c.loop-room.invariant.within c.read_part-read.ensures.same_room in
    record {
      text = c.loop-room.invariant.text ∙ (ap (λ t. take filled room ++ t) c.read_part-read.ensures.text ∙ (sym (append_assoc (take filled room) (take read part) c.read_part-read.new.self) ∙ ap (λ t. t ++ c.read_part-read.new.self) (sym (take_part filled read _ room part c.loop-room.invariant.within (omega (arith, c.read_part-read.ensures.within, c.read_part-read.ensures.same_room))))));
      within = omega (arith, stays, c.read_part-read.ensures.within, c.loop-room.invariant.within);
      same_room = stays ∙ c.loop-room.invariant.same_room;
    }
