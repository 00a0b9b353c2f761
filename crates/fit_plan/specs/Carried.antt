-- What a call of a plan does once it was carried out, and the numbers by which a host knows its kind and its file.
use Rattle.std.specs.Prelude.{ℕ, true, ◌==◌, if◌then◌else◌, List}
use Rattle.fit_disk.specs.declared.disk.Which.{Which}
use Rattle.fit_disk.specs.declared.disk.Which.TheVariants.{Data, Journal}
use Rattle.fit_disk.specs.Changes.{after_write, after_cut, after_sync}
use Rattle.fit_disk.specs.Story.{Story}

abbrev pub write_kind : ℕ
write_kind = 1

abbrev pub cut_kind : ℕ
cut_kind = 2

abbrev pub sync_kind : ℕ
sync_kind = 3

abbrev pub number_of : Which → ℕ
number_of Data = 0
number_of Journal = 1

abbrev pub which_of : ℕ → Which
which_of number = if number == 0 then Data else Journal

abbrev pub carried : ℕ → Which → ℕ → List ℕ → Story → Story
carried kind which at bytes story =
    if kind == write_kind then after_write true which at bytes story
    else if kind == cut_kind then after_cut true which at story
    else after_sync which story
