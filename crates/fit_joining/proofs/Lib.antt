-- Lemmas on the fields of a definition one by one, on the values in bytes that change, on a message whose content changes, on the makers of
-- developer data, on the events of the timer, on a text that is written piece by piece, on the items of a part and of the joined file, and on
-- laps.
mod FieldsLeft
mod ChangedValues
mod ChangedMessage
mod Declared
mod EventMessage
mod Leaves
mod WrittenRow
mod JoinedRow
mod MadeLaps
