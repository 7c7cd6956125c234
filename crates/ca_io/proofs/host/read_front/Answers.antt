use Rattle.ca_io.proofs.Fronts.{reads_enough}
use Rattle.ca_io.proofs.host.read_front.Goals as goal

pub returns : goal.returns
returns g c =
    reads_enough g.F.Read.remaining c.take.result c.args.file c.args.limit c.in-Some.most c.new-bytes.result.items _ c.take.ensures.limit c.take.ensures.inner c.in-Some.ensures.1
    c.new-bytes.ensures.items c.in_ok-read_to_end-2.ensures.bytes
