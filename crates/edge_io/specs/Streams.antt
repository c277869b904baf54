-- What a source over a reader and a sink over a writer hold.
use Rattle.std.specs.Prelude.{ℕ}
use Rattle.edge_io.specs.declared.streams.Reading.{Reading}
use Rattle.edge_io.specs.declared.streams.Writing.{Writing}

-- the reader, and how often it failed
abbrev pub reader : {R : Type 0} → Reading R → R
reader s = s.inner

abbrev pub read_faults : {R : Type 0} → Reading R → ℕ
read_faults s = s.faults

-- the writer, and how often it failed
abbrev pub writer : {W : Type 0} → Writing W → W
writer s = s.inner

abbrev pub write_faults : {W : Type 0} → Writing W → ℕ
write_faults s = s.faults
