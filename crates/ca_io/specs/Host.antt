-- What the host adapters keep.
use Rattle.std.specs.Prelude.{ℕ, List, map, string_bytes}
use Rattle.ca_io.specs.declared.host.HostFiles.{HostFiles}
use Rattle.ca_io.specs.declared.host.HostSink.{HostSink}

abbrev pub host_asked : {R : Type 0} → HostFiles R → List (List ℕ)
host_asked f = map string_bytes f.asked.items

abbrev pub host_load_faults : {R : Type 0} → HostFiles R → ℕ
host_load_faults f = f.faults

abbrev pub host_put_faults : {W : Type 0} → HostSink W → ℕ
host_put_faults s = s.faults

abbrev pub writer_of : {W : Type 0} → HostSink W → W
writer_of s = s.writer
