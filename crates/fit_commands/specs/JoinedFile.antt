-- What the subcommand `join` did, and which faults it may report.
use Rattle.std.specs.Prelude.{◌≡◌, ◌⊎◌, ℕ, Bool, true, false, List, [], ◌∷◌, ◌++◌, length, map, Option, Some, None, Result, Ok, Err}
use Rattle.std.specs.Borrow.{Bor}
use Rattle.std.specs.List.{AllByRecursion}
use Rattle.fit_grammar.specs.Format.Encoding.{encoded}
use Rattle.fit_grammar.specs.Format.File.{FileValue}
use Rattle.fit_grammar.specs.Format.Message.{messages_of}
use Rattle.fit_finishing.specs.Finished.{IsFinishing, finished_by}
use Rattle.fit_joining.specs.declared.misfit.Misfit.{Misfit}
use Rattle.fit_joining.specs.declared.misfit.MisfitKind.{MisfitKind}
use Rattle.fit_joining.specs.declared.misfit.MisfitKind.TheVariants as misfits
use Rattle.fit_joining.specs.declared.part.Part.{Part}
use Rattle.fit_joining.specs.Compared.{first_misfit}
use Rattle.fit_joining.specs.Joined.{joined_messages}
use Rattle.fit_joining.specs.Order.{IsInOrder}
use Rattle.fit_commands.specs.Faults.{IsNotFinishedReported}
use Rattle.fit_commands.specs.Reported.{IsFormOfFile, FormsNamed}
use Rattle.fit_commands.specs.declared.fault.Fault.{Fault}
use Rattle.fit_commands.specs.declared.fault.Fault.TheVariants as faults
use Rattle.fit_commands.specs.declared.join.NamedFile.{NamedFile}
use Rattle.fit_commands.specs.Written.{count_line}
use Rattle.fit_commands.specs.declared.content.FinishedFile.{FinishedFile}

-- for a part that does not go with those before it
abbrev pub fault_by : Bor (List ℕ) → MisfitKind → Fault
fault_by name misfits.OtherSport = faults.OtherSport name
fault_by name misfits.Overlap = faults.Overlap name

abbrev pub fault_of_misfit : Misfit → Fault
fault_of_misfit misfit = fault_by misfit.name misfit.kind

-- the parts of these names, in turn: each is the plain form of the file of its name
abbrev pub ArePartsOf : (List ℕ → Option (List ℕ)) → List (Bor (List ℕ)) → List Part → Type 0
ArePartsOf held names parts =
    (map (λ part. part.name) parts ≡ names)
    × AllByRecursion (λ part. IsFormOfFile (held part.name.now) part.file) parts

-- the same of the files that are to be parts
abbrev pub part_lent : NamedFile → Part
part_lent named = record { name = named.name; file = named.file }

abbrev pub AreFilesOf : (List ℕ → Option (List ℕ)) → List (Bor (List ℕ)) → List NamedFile → Type 0
AreFilesOf held names files =
    (map (λ named. named.name) files ≡ names)
    × AllByRecursion (λ named. IsFormOfFile (held named.name.now) named.file) files

-- the file of this name was added to these
abbrev pub AddsFile : Option (List ℕ) → Bor (List ℕ) → List NamedFile → List NamedFile → Type 0
AddsFile held name old new =
    (named : NamedFile) × (named.name ≡ name) × IsFormOfFile held named.file
    × (new ≡ old ++ named ∷ [])

-- Parts as they are joined: in the order of their times, in which each of them goes with those before it. With `as_given` they stay as they
-- are.
abbrev pub ArePut : Bool → List Part → List Part → Type 0
ArePut true given parts = parts ≡ given
ArePut false given parts = IsInOrder given parts × (first_misfit parts ≡ None)

-- The file of the parts of these names is the joined one: its messages are theirs, in turn.
abbrev pub IsJoinedFile : Bool → (List ℕ → Option (List ℕ)) → List (Bor (List ℕ)) → FileValue → Type 0
IsJoinedFile as_given held names joined =
    (given : List Part) × ArePartsOf held names given
    × (parts : List Part) × ArePut as_given given parts
    × (messages_of joined.items ≡ joined_messages (map (λ part. messages_of part.file.items) parts))

-- of making the plain form of the part of this name, which holds this; a file that is refused is named
abbrev pub IsNoPart : Option (List ℕ) → Bor (List ℕ) → Fault → Type 0
IsNoPart held file (faults.NotPart name fault) = (name ≡ file) × FormsNamed held file (Err (faults.File fault))
IsNoPart held file reported = FormsNamed held file (Err reported)

-- the same of one of the parts of these names, for which memory was needed too
abbrev pub AreNoParts : (List ℕ → Option (List ℕ)) → List (Bor (List ℕ)) → Fault → Type 0
AreNoParts held [] reported = reported ≡ faults.NoMemory
AreNoParts held (name ∷ names) reported = IsNoPart (held name.now) name reported ⊎ AreNoParts held names reported

-- of putting them in order: memory was refused, or this is the first that does not go with those before it
abbrev pub AreNotPut : Bool → List Part → Fault → Type 0
AreNotPut true given reported = ⊥
AreNotPut false given reported =
    (reported ≡ faults.NoMemory)
    ⊎ ((parts : List Part) × IsInOrder given parts
    × (misfit : Misfit) × (first_misfit parts ≡ Some misfit) × (reported ≡ fault_of_misfit misfit))

-- of writing the joined file: it is too large, or memory was refused
abbrev pub IsNotWrittenOut : Fault → Type 0
IsNotWrittenOut reported = (reported ≡ faults.TooLarge) ⊎ (reported ≡ faults.NoMemory)

-- of joining them: one of them is none, or does not go with those before it, or they are not joined
abbrev pub IsNotJoined : Bool → (List ℕ → Option (List ℕ)) → List (Bor (List ℕ)) → Fault → Type 0
IsNotJoined as_given held names reported =
    AreNoParts held names reported
    ⊎ ((given : List Part) × ArePartsOf held names given × AreNotPut as_given given reported)
    ⊎ IsNotWrittenOut reported

-- the joined file of the parts of these names, as an activity; or why they are not joined, or are none
abbrev pub JoinsNamed : Bool → (List ℕ → Option (List ℕ)) → List (Bor (List ℕ)) → Result FinishedFile Fault → Type 0
JoinsNamed as_given held names (Ok finished) =
    IsJoinedFile as_given held names finished.file × IsFinishing finished.file finished.finishing
JoinsNamed as_given held names (Err fault) =
    IsNotJoined as_given held names fault
    ⊎ ((joined : FileValue) × IsJoinedFile as_given held names joined × IsNotFinishedReported fault)

-- its bytes, and the number of the messages of the parts
abbrev pub IsJoinedOut : FinishedFile → List ℕ → List ℕ → Type 0
IsJoinedOut finished bytes text =
    (bytes ≡ encoded (finished_by finished.file finished.finishing))
    × (text ≡ count_line (length (messages_of finished.file.items)))
