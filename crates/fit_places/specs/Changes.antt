-- What each call makes of a folder.
use Rattle.std.specs.Prelude.{ℕ, true, false, ◌&&◌, ◌==◌, if◌then◌else◌, List, [], ◌∷◌, ◌++◌, Option, None, Some}
use Rattle.std.specs.Str.{bytes_eq}
use Rattle.fit_places.specs.declared.place.Kind.TheVariants.{File}
use Rattle.fit_places.specs.Folder.{Numbered, Folder}

-- the folder in which a name stands for another number
abbrev pub with_name : List ℕ → Option ℕ → Folder → Folder
with_name name number folder =
    record folder {
      names = λ other. if bytes_eq other name then number else folder.names other;
      earlier = λ other. if bytes_eq other name then folder.names name ∷ folder.earlier name
          else folder.earlier other;
    }

-- the folder in which another thing has this number
abbrev pub with_thing : ℕ → Numbered → Folder → Folder
with_thing number thing folder =
    record folder { things = λ other. if other == number then thing else folder.things other }

-- the folder with a change of what has a number, if that is the number of something
abbrev pub with_change : Option ℕ → (Numbered → Numbered) → Folder → Folder
with_change None change folder = folder
with_change (Some number) change folder = with_thing number (change (folder.things number)) folder

-- an empty file, which nobody has locked
abbrev pub empty_file : ℕ → Numbered
empty_file mode =
    record {
      thing = record { kind = File; bytes = []; mode = mode };
      is_synced = false;
      is_locked = false;
    }

abbrev pub after_creation : List ℕ → ℕ → ℕ → Folder → Folder
after_creation name number mode folder =
    record (with_thing number (empty_file mode) (with_name name (Some number) folder)) { created = Some number }

-- a change of the bytes or the mode is not synced
abbrev pub with_mode : ℕ → Numbered → Numbered
with_mode mode old = record old { thing = record (old.thing) { mode = mode }; is_synced = false }

abbrev pub with_bytes : List ℕ → Numbered → Numbered
with_bytes bytes old = record old { thing = record (old.thing) { bytes = bytes }; is_synced = false }

abbrev pub with_mode_of : Option ℕ → Folder → Folder
with_mode_of None folder = folder
with_mode_of (Some number) folder =
    with_change folder.created (with_mode (folder.things number).thing.mode) folder

abbrev pub mode_copied : List ℕ → Folder → Folder
mode_copied name folder = with_mode_of (folder.names name) folder

abbrev pub content_written : List ℕ → Folder → Folder
content_written bytes folder =
    with_change folder.created (λ file. with_bytes (file.thing.bytes ++ bytes) file) folder

abbrev pub file_synced : Folder → Folder
file_synced folder =
    with_change folder.created (λ file. record file { is_synced = true }) folder

abbrev pub moved : List ℕ → List ℕ → Folder → Folder
moved from to folder =
    with_change (folder.names from)
    (λ file. record file { is_synced = file.is_synced && folder.keeps_moved })
    (with_name to (folder.names from) (with_name from None folder))

abbrev pub folder_synced : Folder → Folder
folder_synced folder = record folder { earlier = λ name. [] }
