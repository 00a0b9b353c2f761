-- What the place over the system shows: nothing.
use Rattle.std.specs.Prelude.{false, [], None}
use Rattle.fit_places.specs.FolderStory.{FolderStory}
use Rattle.fit_places.specs.Changes.{empty_file}

abbrev pub unknown : FolderStory
unknown =
    record {
      now = record {
        names = λ name. None;
        earlier = λ name. [];
        things = λ number. empty_file 0;
        created = None;
        keeps_moved = false;
      };
      past = [];
      failed = 0;
    }
