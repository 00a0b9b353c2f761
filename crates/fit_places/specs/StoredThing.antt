-- What a stored thing stands for.
use Rattle.fit_places.specs.declared.stored_thing.StoredThing.{StoredThing}
use Rattle.fit_places.specs.Folder.{Numbered}

abbrev pub numbered : StoredThing → Numbered
numbered stored =
    record {
      thing = record { kind = stored.kind; bytes = stored.bytes.items; mode = stored.mode };
      is_synced = stored.is_synced;
      is_locked = stored.is_locked;
    }
