-- What the contracts of other public calls state: an input read whole, and the numbers of faults.
pub mod Reading
pub mod FaultCode
