use Rattle.std.proofs.Common.{◌≡◌, ◌≤◌, ◌-◌, ◌++◌, length, take}
use Rattle.journal_text.proofs.reader.TextReader.read.Given as goal

abbrev pub invariant-loop-room : goal.invariant-loop-room
invariant-loop-room l = record {
  text : l.fn.self ≡ take l.filled l.room ++ l.self;
  within : l.filled ≤ length l.room;
  same_room : length l.room ≡ length l.fn.room;
}

abbrev pub decreases-loop-room : goal.decreases-loop-room
decreases-loop-room l = length l.room - l.filled
