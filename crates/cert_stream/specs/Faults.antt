-- What a fault of a file is as one of its certificate.
use Rattle.lot_io.specs.declared.files.ReadFault.{ReadFault}
use Rattle.lot_io.specs.declared.files.ReadFault.TheVariants as file
use Rattle.cert_stream.specs.declared.fault.ClaimFault.{ClaimFault}
use Rattle.cert_stream.specs.declared.fault.ClaimFault.TheVariants as stream

abbrev pub stream_fault : ReadFault → ClaimFault
stream_fault file.Missing = stream.Missing
stream_fault file.Failed = stream.Failed
stream_fault file.TooLong = stream.TooLong
stream_fault file.Memory = stream.Memory
