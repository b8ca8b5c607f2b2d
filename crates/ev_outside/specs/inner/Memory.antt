-- What the ends in memory tell.
use Rattle.std.specs.Prelude.{ℕ, List, drop}
use Rattle.ev_outside.specs.declared.memory.SureSource.{SureSource}
use Rattle.ev_outside.specs.declared.memory.SureSink.{SureSink}
use Rattle.ev_outside.specs.declared.memory.MemSource.{MemSource}
use Rattle.ev_outside.specs.declared.memory.MemSink.{MemSink}

-- the bytes that are left to read
abbrev pub sure_left : SureSource → List ℕ
sure_left source = drop source.at source.bytes.items

-- the bytes that were written
abbrev pub sure_written : SureSink → List ℕ
sure_written sink = sink.store.bytes.items

-- the bytes that are left to read
abbrev pub source_left : MemSource → List ℕ
source_left source = drop source.at source.bytes.items

-- the bytes that were written
abbrev pub sink_written : MemSink → List ℕ
sink_written sink = sink.store.bytes.items
