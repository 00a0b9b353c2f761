-- What a note does to the story of a folder in memory.
use Rattle.std.specs.Prelude.{ℕ, Bool, true, false, List, [], ◌∷◌, None, Some}
use Rattle.fit_places.specs.declared.folder_note.FolderNote.{FolderNote}
use Rattle.fit_places.specs.declared.folder_note.FolderNote.TheVariants.{Begun, Named, Put, Failed, Created, ModeCopied, Written, FileSynced, Moved, FolderSynced, Removed}
use Rattle.fit_places.specs.Folder.{Thing, Folder}
use Rattle.fit_places.specs.FolderStory.{FolderStory, folder_then, call_failed}
use Rattle.fit_places.specs.Changes.{empty_file, with_name, with_thing, with_change, with_bytes, after_creation, mode_copied, file_synced, moved, folder_synced}

-- a folder with nothing in it
abbrev pub empty_folder : Folder
empty_folder =
    record {
      names = λ name. None;
      earlier = λ name. [];
      things = λ number. empty_file 0;
      created = None;
      keeps_moved = false;
    }

abbrev pub empty_story : FolderStory
empty_story = record { now = empty_folder; past = []; failed = 0 }

-- nothing is there yet
abbrev pub beginning : Bool → FolderStory
beginning keeps_moved = record empty_story { now = record empty_folder { keeps_moved = keeps_moved } }

-- the folder in which a thing that is kept has this name
abbrev pub put_there : List ℕ → ℕ → Thing → Bool → Folder → Folder
put_there name number thing is_locked folder =
    folder_synced (with_thing number (record { thing = thing; is_synced = true; is_locked = is_locked })
    (with_name name (Some number) folder))

-- the story after a note with these bytes, and with those of the note before
abbrev pub noted : FolderNote → List ℕ → List ℕ → FolderStory → FolderStory
noted (Begun keeps_moved) bytes before story = beginning keeps_moved
noted Named bytes before story = story
noted (Put number kind mode is_locked) bytes before story =
    folder_then (put_there before number (record { kind = kind; bytes = bytes; mode = mode }) is_locked story.now) story
noted Failed bytes before story = call_failed story
noted (Created number mode) bytes before story =
    folder_then (after_creation bytes number mode story.now) story
noted ModeCopied bytes before story = folder_then (mode_copied bytes story.now) story
noted Written bytes before story =
    folder_then (with_change story.now.created (with_bytes bytes) story.now) story
noted FileSynced bytes before story = folder_then (file_synced story.now) story
noted Moved bytes before story = folder_then (moved before bytes story.now) story
noted FolderSynced bytes before story = folder_then (folder_synced story.now) story
noted Removed bytes before story = folder_then (with_name bytes None story.now) story

-- the bytes of the newest note
abbrev pub newest_bytes : List (FolderNote × List ℕ) → List ℕ
newest_bytes [] = []
newest_bytes (note ∷ notes) = note.1

-- the story that the notes give, the newest first
abbrev pub story_by : List (FolderNote × List ℕ) → FolderStory
story_by [] = empty_story
story_by (note ∷ notes) = noted note.0 note.1 (newest_bytes notes) (story_by notes)
