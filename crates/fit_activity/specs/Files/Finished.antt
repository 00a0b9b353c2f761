-- The summary of a recording's finished file, by the list of its entries.
use Rattle.std.specs.Prelude.{◌+◌, List, Some, count_by}
use Rattle.fit_activity.specs.declared.activity.Summary.{Summary}
use Rattle.fit_activity.specs.Rides.Recording.{Recorded, is_sample, is_lap, start_time}
use Rattle.fit_activity.specs.Rides.Stretch.{session_of}

-- a record for each sample, a lap for each lap and one more, and the session of the whole list
abbrev pub summary_of_list : List Recorded → Summary
summary_of_list list =
    let whole = (session_of list).stretch in
    record {
      records = count_by is_sample list;
      laps = count_by is_lap list + 1;
      sessions = 1;
      start = Some (start_time list);
      elapsed_ms = Some whole.elapsed;
      timer_ms = Some whole.timer;
      distance_cm = whole.distance;
    }
