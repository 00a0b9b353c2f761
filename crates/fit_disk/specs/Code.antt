-- The numbers of faults, and which fault an error of the system becomes.
use Rattle.std.specs.Prelude.{ℕ}
use Rattle.std.specs.declared.io.Error.{Error}
use Rattle.std.specs.declared.io.ErrorKind.{ErrorKind}
use Rattle.std.specs.declared.io.ErrorKind.TheVariants.{OutOfMemory}
use Rattle.std.specs.IoError.{error_kind}
use Rattle.fit_disk.specs.declared.files.OpenFault.{OpenFault}
use Rattle.fit_disk.specs.declared.files.OpenFault.TheVariants.{Open, Memory}

abbrev pub open_code : OpenFault → ℕ
open_code Open = 1
open_code Memory = 2

abbrev pub fault_of_kind : ErrorKind → OpenFault
fault_of_kind OutOfMemory = Memory
fault_of_kind _ = Open

-- the fault that an error of the system is reported as
abbrev pub open_fault_of : Error → OpenFault
open_fault_of error = fault_of_kind (error_kind error)
