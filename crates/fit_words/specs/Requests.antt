-- The request that the words of a subcommand make.
use Rattle.std.specs.Prelude.{◌≡◌, ℕ, Bool, true, false, List, [], ◌∷◌, map, Option, Some, None, codes, unwrap_or, option_map}
use Rattle.std.specs.Borrow.{Bor}
use Rattle.clap.specs.declared.parser.matches.Found.{Found}
use Rattle.clap.specs.Words.{first_value, matched_of, one_text, raw_values}
use Rattle.fit_words.specs.declared.request.Names.{Names}
use Rattle.fit_words.specs.declared.request.Request.{Request}
use Rattle.fit_words.specs.declared.request.TableForm.{TableForm}
use Rattle.fit_words.specs.declared.request.Request.TheVariants.{Show, Check, CheckEach, Table, TableEach, Replay, Record, Save, Repair, Salvage, Split, Plain, Shift, Join, Simulate, Version}

-- this is the word found under a name
abbrev pub IsWord : Found → List ℕ → Bor (List ℕ) → Type 0
IsWord found name word = first_value found name ≡ Some word.now

-- an option without a value is set if `true` was found under its name, and not set if nothing or `false` was found
pub record IsFlag (found : Found) (name : List ℕ) (is_set : Bool) : Type 0 where
  pub none : one_text found name ≡ None → is_set ≡ false
  pub set : one_text found name ≡ Some (codes "true") → is_set ≡ true
  pub not_set : one_text found name ≡ Some (codes "false") → is_set ≡ false

-- how a table is written
pub record IsForm (found : Found) (form : TableForm) : Type 0 where
  pub utc : IsFlag found (codes "utc") form.utc
  pub raw : IsFlag found (codes "raw") form.raw
  pub profile : IsFlag found (codes "profile") form.profile
  pub message : option_map (λ word. word.now) form.message ≡ first_value found (codes "message")
  pub fields : option_map (λ word. word.now) form.fields ≡ first_value found (codes "fields")

abbrev pub names_in : Option (Bor (List (Bor (List ℕ)))) → List (List ℕ)
names_in None = []
names_in (Some names) = map (λ name. name.now) names.now

-- the words found under a name; none if it is not there
abbrev pub words_found : Found → List ℕ → List (List ℕ)
words_found found name = unwrap_or (option_map raw_values (matched_of found name)) []

-- the names of several files: the first one, and those after it
pub record AreNames (found : Found) (names : Names) : Type 0 where
  pub first : List ℕ
  pub first_is : first_value found (codes "FILE") ≡ Some first
  pub all : map (λ name. name.now) names.all.items ≡ first ∷ words_found found (codes "MORE")
  pub null : IsFlag found (codes "null") names.null

-- the subcommand of this name makes this request over several files
abbrev pub IsEachAskedBy : List ℕ → Found → Request → Type 0
IsEachAskedBy name found (CheckEach names json) =
    (name ≡ codes "check") × AreNames found names × IsFlag found (codes "json") json
IsEachAskedBy name found (TableEach names form) =
    (name ≡ codes "table") × AreNames found names × IsForm found form
IsEachAskedBy name found _ = ⊥

-- the subcommand of this name makes this request, with these words
abbrev pub IsAskedBy : List ℕ → Found → Request → Type 0
IsAskedBy name found (Show file utc json profile gpx) =
    (name ≡ codes "show") × IsWord found (codes "FILE") file × IsFlag found (codes "utc") utc
    × IsFlag found (codes "json") json × IsFlag found (codes "profile") profile
    × IsFlag found (codes "gpx") gpx
IsAskedBy name found (Check file) = (name ≡ codes "check") × IsWord found (codes "FILE") file
IsAskedBy name found (CheckEach names json) = ⊥
IsAskedBy name found (Table file form) =
    (name ≡ codes "table") × IsWord found (codes "FILE") file × IsForm found form
IsAskedBy name found (TableEach names form) = ⊥
IsAskedBy name found (Replay script folder checked) =
    (name ≡ codes "replay") × IsWord found (codes "SCRIPT") script
    × IsWord found (codes "FOLDER") folder
    × IsFlag found (codes "checked") checked
IsAskedBy name found (Record folder every) =
    (name ≡ codes "record") × IsWord found (codes "FOLDER") folder
    × (option_map (λ word. word.now) every ≡ first_value found (codes "commit"))
IsAskedBy name found (Save folder to earlier) =
    (name ≡ codes "save") × IsWord found (codes "FOLDER") folder × IsWord found (codes "OUT") to
    × IsFlag found (codes "earlier") earlier
IsAskedBy name found (Repair folder verify) =
    (name ≡ codes "repair") × IsWord found (codes "FOLDER") folder
    × IsFlag found (codes "verify") verify
IsAskedBy name found (Salvage file to form) =
    (name ≡ codes "salvage") × IsWord found (codes "IN") file × IsWord found (codes "OUT") to
    × IsFlag found (codes "all") form.all × IsFlag found (codes "plain") form.plain
    × IsFlag found (codes "skip") form.skip × IsFlag found (codes "finish") form.finish
    × (option_map (λ word. word.now) form.like ≡ first_value found (codes "like"))
IsAskedBy name found (Split file folder all) =
    (name ≡ codes "split") × IsWord found (codes "IN") file × IsWord found (codes "FOLDER") folder
    × IsFlag found (codes "all") all
IsAskedBy name found (Plain file to) =
    (name ≡ codes "plain") × IsWord found (codes "IN") file × IsWord found (codes "OUT") to
IsAskedBy name found (Shift file to form) =
    (name ≡ codes "shift") × IsWord found (codes "IN") file × IsWord found (codes "OUT") to
    × (option_map (λ word. word.now) form.by ≡ first_value found (codes "by"))
    × (option_map (λ word. word.now) form.start ≡ first_value found (codes "start"))
IsAskedBy name found (Join to first others as_given) =
    (name ≡ codes "join") × IsWord found (codes "OUT") to × IsWord found (codes "IN") first
    × (map (λ name. name.now) others.items ≡ words_found found (codes "MORE"))
    × IsFlag found (codes "as-given") as_given
IsAskedBy name found (Simulate script choices checked) =
    (name ≡ codes "simulate") × IsWord found (codes "SCRIPT") script
    × (choices.now ≡ unwrap_or (first_value found (codes "choices")) [])
    × IsFlag found (codes "checked") checked
IsAskedBy name found Version = name ≡ codes "version"
