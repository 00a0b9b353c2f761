use Rattle.std.proofs.Common.{◌≡◌, ◌++◌, map}
use Rattle.std.specs.List.{AllByRecursion}
use Rattle.fit_activity.specs.Messages.ProfileField.{message_field, ProfileFieldFits}
use Rattle.fit_activity.proofs.hearing.profile_fields_in.all_of.Given as goal

abbrev pub invariant-loop-field : goal.invariant-loop-field
invariant-loop-field l = (map message_field l.profile_fields.items ++ l.field-iterator ≡ l.initial.field-iterator) × AllByRecursion ProfileFieldFits l.profile_fields.items
