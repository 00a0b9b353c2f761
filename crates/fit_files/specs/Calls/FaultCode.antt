-- The number of each fault.
use Rattle.std.specs.Prelude.{ℕ}
use Rattle.fit_files.specs.declared.fault.ReportFault.{ReportFault}
use Rattle.fit_files.specs.declared.fault.ReportFault.TheVariants.{File, Activity, Output, Input, Plain}
use Rattle.fit_files.specs.declared.reading.ReadFault.{ReadFault}
use Rattle.fit_files.specs.declared.reading.ReadFault.TheVariants.{Failed, TooLarge, NoMemory}

-- of a fault of reading an input
abbrev pub read_code : ReadFault → ℕ
read_code Failed = 1
read_code TooLarge = 2
read_code NoMemory = 3

-- of a fault of reading, checking, printing or making a file plain
abbrev pub fault_number : ReportFault → ℕ
fault_number (File fault) = 1
fault_number (Activity fault) = 2
fault_number Output = 3
fault_number (Input why) = 4
fault_number (Plain fault) = 5
