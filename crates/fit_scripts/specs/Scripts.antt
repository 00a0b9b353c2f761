-- Scripts: lines and the command of each, which of them can be replayed, the numbers and names of faults, and choice bytes as a word.
pub mod Words
pub mod Sample
pub mod Script
pub mod Replayed
pub mod Faults
pub mod FaultCode
pub mod FaultName
pub mod Hexadecimal
