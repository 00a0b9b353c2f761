-- Both files of a disk, and what a crash may leave of the two. A sync of one file keeps nothing of the other.
use Rattle.std.specs.Prelude.{ℕ, List}
use Rattle.fit_disk.specs.declared.disk.Which.{Which}
use Rattle.fit_disk.specs.declared.disk.Which.TheVariants.{Data, Journal}
use Rattle.fit_disk.specs.Stored.{Stored, Left}

pub record State : Type 0 where
  pub data_file : Stored
  pub journal_file : Stored

abbrev pub file_of : Which → State → Stored
file_of Data state = state.data_file
file_of Journal state = state.journal_file

-- the state with this file replaced
abbrev pub with_file : Which → Stored → State → State
with_file Data file state = record { data_file = file; journal_file = state.journal_file }
with_file Journal file state = record { data_file = state.data_file; journal_file = file }

-- the contents of both files
pub record Contents : Type 0 where
  pub in_data : List ℕ
  pub in_journal : List ℕ

-- a crash may leave these contents: what is left of one file does not depend on the other
pub record BothLeft (state : State) (contents : Contents) : Type 0 where
  pub data_left : Left state.data_file contents.in_data
  pub journal_left : Left state.journal_file contents.in_journal

-- whatever a crash now leaves of the two files satisfies P
abbrev pub LeavesOnly : (Contents → Type 0) → State → Type 0
LeavesOnly P state = (contents : Contents) → BothLeft state contents → P contents

-- what reads give of both files
abbrev pub seen_in : State → Contents
seen_in state = record { in_data = state.data_file.seen; in_journal = state.journal_file.seen }
