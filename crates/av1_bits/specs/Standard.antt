-- The streams behind a sink and a source of the operating system.
use Rattle.std.specs.Prelude.{ℕ}
use Rattle.av1_bits.specs.declared.standard.StdSink.{StdSink}
use Rattle.av1_bits.specs.declared.standard.StdSource.{StdSource}

abbrev pub sink_stream : {W : Type 0} → StdSink W → W
sink_stream s = s.stream

abbrev pub sink_faults : {W : Type 0} → StdSink W → ℕ
sink_faults s = s.faults

abbrev pub source_stream : {R : Type 0} → StdSource R → R
source_stream s = s.stream

abbrev pub source_faults : {R : Type 0} → StdSource R → ℕ
source_faults s = s.faults
