-- The story of both files that the honest witness holds.
use Rattle.fit_disk.specs.declared.shadow.Shadow.{Shadow}
use Rattle.fit_disk.specs.Memory.{memory_story}
use Rattle.fit_disk.specs.Story.{Story}

abbrev pub shadow_story : Shadow → Story
shadow_story shadow = memory_story shadow.memory
