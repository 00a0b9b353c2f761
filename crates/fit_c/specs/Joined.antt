-- What joining files in memory leaves and returns.
use Rattle.std.specs.Prelude.{◌≡◌, ℕ, ◌+◌, ◌<◌, ◌≤◌, ◌⊎◌, Bool, true, false, List, [], ◌∷◌, ◌++◌, length, Option, None, Some}
use Rattle.std.specs.List.{AllByRecursion}
use Rattle.fit_grammar.specs.Calls.PlainForm.{IsPlain}
use Rattle.fit_grammar.specs.Format.Encoding.{encoded}
use Rattle.fit_grammar.specs.Format.File.{FileValue, FileOf}
use Rattle.fit_grammar.specs.Format.Message.{messages_of}
use Rattle.fit_grammar.specs.Format.Records.{data_size}
use Rattle.fit_mending.specs.Chained.{EndsFirst}
use Rattle.fit_joining.specs.declared.misfit.Misfit.{Misfit}
use Rattle.fit_joining.specs.declared.misfit.MisfitKind.{MisfitKind}
use Rattle.fit_joining.specs.declared.misfit.MisfitKind.TheVariants.{OtherSport, Overlap}
use Rattle.fit_joining.specs.declared.part.Part.{Part}
use Rattle.fit_joining.specs.Compared.{first_misfit, first_time_of}
use Rattle.fit_joining.specs.JoinedItems.{joined_file, joined_items}
use Rattle.fit_c.specs.Files.{IsNoFile}

-- the bytes are a file, and this is the time of its first sample, event or lap that has one
pub record BeginsAt (bytes : List ℕ) (time : Option ℕ) : Type 0 where
  pub file : FileValue
  pub is : FileOf bytes file
  pub time_is : time ≡ first_time_of (messages_of file.items)

-- ---- the parts

-- the bytes are these files, one after another
abbrev pub AreChained : List ℕ → List Part → Type 0
AreChained bytes [] = bytes ≡ []
AreChained bytes (part ∷ parts) =
    (own : List ℕ) × (rest : List ℕ) × (bytes ≡ own ++ rest) × FileOf own part.file
    × AreChained rest parts

-- in none of them a message has a compressed timestamp
abbrev pub ArePlain : List Part → Type 0
ArePlain parts = AllByRecursion (λ part. AllByRecursion IsPlain part.file.items) parts

-- the bytes are parts of an activity
abbrev pub AreParts : List ℕ → List Part → Type 0
AreParts bytes parts = AreChained bytes parts × ArePlain parts

-- each part goes with those before it, which is not asked of parts that are taken as they are given
abbrev pub GoTogether : Bool → List Part → Type 0
GoTogether true parts = Unit {0}
GoTogether false parts = first_misfit parts ≡ None

-- ---- what is written

-- the bytes are parts that go together, and `joined` is what they are written as
pub record IsJoinedOf (as_given : Bool) (bytes joined : List ℕ) : Type 0 where
  pub first : Part
  pub others : List Part
  pub parts : AreParts bytes (first ∷ others)
  pub together : GoTogether as_given (first ∷ others)
  pub joined_is : joined ≡ encoded (joined_file first others)

-- the bytes are such parts, and the new file has so many bytes, more than there is room for
pub record NeedsRoomToJoin (as_given : Bool) (bytes : List ℕ) (room needed : ℕ) : Type 0 where
  pub first : Part
  pub others : List Part
  pub parts : AreParts bytes (first ∷ others)
  pub together : GoTogether as_given (first ∷ others)
  pub needed_is : needed ≡ length (encoded (joined_file first others))
  pub short : room < needed

-- the bytes are such parts, and the records of the new file would exceed 4,294,967,295 bytes
pub record IsTooLongToJoin (as_given : Bool) (bytes : List ℕ) : Type 0 where
  pub parts : List Part
  pub are : AreParts bytes parts
  pub together : GoTogether as_given parts
  pub too_long : 4294967295 < data_size (joined_items parts)

-- ---- what is refused

-- After so many bytes, which are parts, a file begins. It ends where its header says.
pub record BeginsPart (bytes : List ℕ) (place : ℕ) (own : List ℕ) : Type 0 where
  pub before : List ℕ
  pub rest : List ℕ
  pub split : bytes ≡ before ++ (own ++ rest)
  pub place_is : place ≡ length before
  pub parts : List Part
  pub are : AreParts before parts
  pub ends : EndsFirst (own ++ rest) (length own)

-- what begins there is no file; the code and the place are those of its refusal
pub record HasNoFile (bytes : List ℕ) (code place : ℕ) : Type 0 where
  pub at : ℕ
  pub own : List ℕ
  pub begins : BeginsPart bytes at own
  pub within : ℕ
  pub no_file : IsNoFile own code within
  pub place_is : place ≡ at + within

-- what begins there is a file with a compressed timestamp
pub record HasUnplain (bytes : List ℕ) (place : ℕ) : Type 0 where
  pub own : List ℕ
  pub begins : BeginsPart bytes place own
  pub file : FileValue
  pub is : FileOf own file
  pub timed : AllByRecursion IsPlain file.items → ⊥

-- after so many parts another file begins
pub record HasMoreParts (bytes : List ℕ) (most : ℕ) : Type 0 where
  pub before : List ℕ
  pub rest : List ℕ
  pub split : bytes ≡ before ++ rest
  pub parts : List Part
  pub are : AreParts before parts
  pub many : length parts ≡ most
  pub some : 1 ≤ length rest

-- the code of a part that does not go with those before it
abbrev pub misfit_code : MisfitKind → ℕ
misfit_code OtherSport = 29
misfit_code Overlap = 30

-- these bytes are parts, of which so many end at this place
pub record EndParts (bytes : List ℕ) (parts : List Part) (number place : ℕ) : Type 0 where
  pub before : List ℕ
  pub rest : List ℕ
  pub split : bytes ≡ before ++ rest
  pub earlier : List Part
  pub others : List Part
  pub parts_are : parts ≡ earlier ++ others
  pub chained : AreChained before earlier
  pub number_is : number ≡ length earlier
  pub place_is : place ≡ length before

-- the part that begins at this place is the first that does not go with those before it
pub record HasMisfit (bytes : List ℕ) (code place : ℕ) : Type 0 where
  pub parts : List Part
  pub are : AreParts bytes parts
  pub misfit : Misfit
  pub first : first_misfit parts ≡ Some misfit
  pub begins : EndParts bytes parts misfit.number place
  pub code_is : code ≡ misfit_code misfit.kind

-- ---- while parts are read

-- they were read up to the rest of these bytes
pub record IsReadTo (bytes rest : List ℕ) (parts : List Part) : Type 0 where
  pub before : List ℕ
  pub split : bytes ≡ before ++ rest
  pub are : AreParts before parts

-- the bytes are no file, or one with a compressed timestamp
abbrev pub IsNoPart : List ℕ → ℕ → ℕ → Type 0
IsNoPart own code place =
    ((1 ≤ code) × (code ≤ 9) × IsNoFile own code place)
    ⊎ ((code ≡ 31) × (place ≡ 0) × ((file : FileValue) × FileOf own file × (AllByRecursion IsPlain file.items → ⊥)))

-- why the bytes are no parts
abbrev pub IsRefusedPart : List ℕ → ℕ → ℕ → ℕ → Type 0
IsRefusedPart bytes code old new =
    ((1 ≤ code) × (code ≤ 9) × HasNoFile bytes code new) ⊎ ((code ≡ 31) × HasUnplain bytes new)
    ⊎ ((code ≡ 32) × HasMoreParts bytes 64 × (new ≡ old))
