mod Leading
mod Stepping
mod NeverFull
mod NoRecorder
mod Lending
mod ByWindows
