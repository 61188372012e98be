-- What other faults are as one of a certificate's file.
use Rattle.lot_io.specs.declared.files.ReadFault.{ReadFault}
use Rattle.lot_io.specs.declared.files.ReadFault.TheVariants as file
use Rattle.cert_checker.specs.declared.fault.CheckFault.{CheckFault}
use Rattle.cert_checker.specs.declared.fault.CheckFault.TheVariants as check
use Rattle.cert_stream.specs.declared.fault.ClaimFault.{ClaimFault}
use Rattle.cert_stream.specs.declared.fault.ClaimFault.TheVariants as claim
use Rattle.stream_check.specs.declared.fault.StreamFault.{StreamFault}
use Rattle.stream_check.specs.declared.fault.StreamFault.TheVariants as stream

abbrev pub of_file : ReadFault → StreamFault
of_file file.Missing = stream.Missing
of_file file.Failed = stream.Failed
of_file file.TooLong = stream.TooLong
of_file file.Memory = stream.Memory

abbrev pub of_claim : ClaimFault → StreamFault
of_claim claim.Missing = stream.Missing
of_claim claim.Failed = stream.Failed
of_claim claim.TooLong = stream.TooLong
of_claim (claim.Text f) = stream.Text f
of_claim claim.Memory = stream.Memory

abbrev pub of_check : CheckFault → StreamFault
of_check (check.Rejected r) = stream.Rejected r
of_check check.Memory = stream.Memory
