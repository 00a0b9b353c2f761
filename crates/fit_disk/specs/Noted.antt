-- What a note does to a story.
use Rattle.std.specs.Prelude.{ℕ, true, false, List, []}
use Rattle.fit_disk.specs.Changes.{after_write, after_cut, after_sync}
use Rattle.fit_disk.specs.Stored.{at_rest}
use Rattle.fit_disk.specs.State.{with_file}
use Rattle.fit_disk.specs.Story.{Story}
use Rattle.fit_disk.specs.declared.note.Note.{Note}
use Rattle.fit_disk.specs.declared.note.Note.TheVariants.{Found, Written, Refused, Cut, Synced, Mark}

-- the story after a call with these bytes; if the file was found, earlier states are forgotten
abbrev pub noted : Note → List ℕ → Story → Story
noted (Found which) bytes story =
    record { now = with_file which (at_rest bytes) story.now; past = [] }
noted (Written which at) bytes story = after_write true which at bytes story
noted (Refused which at) bytes story = after_write false which at bytes story
noted (Cut which len) bytes story = after_cut true which len story
noted (Synced which) bytes story = after_sync which story
noted Mark bytes story = story

-- the story at the last mark
abbrev pub marked : Note → Story → Story → Story
marked Mark story since = story
marked note story since = since
