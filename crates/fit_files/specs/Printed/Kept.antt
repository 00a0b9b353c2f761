-- What is kept of a damaged file, and what is printed of it.
use Rattle.std.specs.Prelude.{◌≡◌, ℕ, Bool, List, [], ◌++◌, Option, Some, None, codes, decimal, if◌then◌else◌}
use Rattle.fit_files.specs.declared.kept.Heard.{Heard}
use Rattle.fit_files.specs.declared.kept.Kept.{Kept}
use Rattle.fit_files.specs.declared.kept.Kept.TheVariants.{Front, Pieces}
use Rattle.fit_files.specs.declared.salvage.Salvage.{Salvage}
use Rattle.fit_files.specs.Printed.Mended.{mended_text}
use Rattle.fit_files.specs.Printed.Salvaged.{kept_text}

-- what is kept, as one row
abbrev pub IsRowOf : Kept → Salvage → Type 0
IsRowOf (Front front) salvage = salvage ≡ front
IsRowOf (Pieces mended) salvage =
    (salvage.frame ≡ mended.looked.frame) × (salvage.row.now ≡ mended.skipped.row.items)
    × (salvage.looked_at ≡ mended.looked.looked_at)
    × (salvage.not_looked_at ≡ mended.looked.not_looked_at)

-- how many entries were heard and taken, how many left out, and whether a file_id was added
abbrev pub file_id_text : Bool → List ℕ
file_id_text added = if added then codes ", file_id added" else []

abbrev pub heard_text : Heard → List ℕ
heard_text heard =
    codes "heard " ++ decimal heard.taken ++ codes " entries" ++ codes ", " ++ decimal heard.left_out
    ++ codes " left out" ++ file_id_text heard.has_new_file_id

-- the lines of what is kept, and of what is left out
abbrev pub kept_lines : Kept → List ℕ
kept_lines (Front salvage) = kept_text salvage ++ codes "\n"
kept_lines (Pieces mended) = mended_text mended

-- and one for the entries in what is kept, if it was finished
abbrev pub heard_line : Option Heard → List ℕ
heard_line None = []
heard_line (Some heard) = heard_text heard ++ codes "\n"
