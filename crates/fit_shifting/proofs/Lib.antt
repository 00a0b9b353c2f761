-- Lemmas on the times in bytes, on a message whose times are moved, on the items of a file, on those that are passed over, and on the
-- outcome.
mod Middle
mod MovedValues
mod MovedTimes
mod MovedMessage
mod MovedRow
mod MovedPlain
mod MovedBytes
mod PassedItems
mod ReadItems
mod ShiftOutcome
