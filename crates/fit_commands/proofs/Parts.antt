-- One more of the lines of several files: for `split`.
use Rattle.std.proofs.Common.{◌≡◌, ℕ, ◌-◌, ◌≤◌, List, [], ◌∷◌, ◌++◌, length, get_or, take, drop, Option, Result, Ok, Err, refl, sym, ap, ◌∙◌, append_assoc, append-nil, codes, arith}
use Rattle.std.proofs.KnownBytes.{Appends-trans}
use Rattle.std.proofs.lemmas.List.{take_all}
use Rattle.std.specs.Result.{IsErr}
use Rattle.std.specs.Io.KnownBytes.{Appends}
use Rattle.fit_grammar.specs.Calls.Output.{AppendsBeginning}
use Rattle.fit_grammar.specs.declared.file.fault.FileFault.{FileFault}
use Rattle.fit_files.specs.Printed.Parts.{AreLines, IsReadAs, part_line}
use Rattle.fit_mending.specs.declared.chained.Part.{Part}
use Rattle.fit_places.specs.NamedFiles.{ReplacesNamed}
use Rattle.fit_commands.specs.Reported.{PrintsLines, WritesParts, part_name}
use Rattle.fit_commands.specs.declared.fault.Fault.{Fault}

abbrev pub line_of : Part → Option FileFault → List ℕ
line_of part fault = part_line part.number (length part.bytes.now) fault ++ codes "\n"

pub lines_more : (parts : List Part) (text : List ℕ) (part : Part) (fault : Option FileFault) → AreLines parts text
    → IsReadAs part.bytes.now fault → AreLines (parts ++ part ∷ []) (text ++ line_of part fault)
lines_more [] text part fault none is = (
  fault,
  [],
  is,
  ap (λ (l : List ℕ). l ++ line_of part fault) none ∙ sym (append-nil (line_of part fault)),
  refl,
)
lines_more (first ∷ parts) text part fault are is = (
  are.0,
  are.1 ++ line_of part fault,
  are.2,
  ap (λ (l : List ℕ). l ++ line_of part fault) are.3 ∙ append_assoc (line_of first are.0) are.1 (line_of part fault),
  lines_more parts are.1 part fault are.4 is,
)

-- what was appended is a beginning of it
pub begins_all : (old new : Option (List ℕ)) (text : List ℕ) → Appends old new text → AppendsBeginning old new text
begins_all old new text all = record { part = text; rest = []; split = sym (append-nil text); appended = all }

-- and what follows it
pub begins_then : (old mid new : Option (List ℕ)) (text more : List ℕ) → Appends old mid text → AppendsBeginning mid new more
    → AppendsBeginning old new (text ++ more)
begins_then old mid new text more all begins = record {
  part = text ++ begins.part;
  rest = begins.rest;
  split = ap (λ (l : List ℕ). text ++ l) begins.split ∙ sym (append_assoc text begins.part begins.rest);
  appended = Appends-trans old mid new text begins.part all begins.appended;
}

-- the first of some files, and those after it
pub first_of : (rest : List Part) (d : Part) → 1 ≤ length rest
    → rest ≡ get_or rest 0 d ∷ take (length rest - 1) (drop 1 rest)
first_of [] d some = absurd (omega arith)
first_of (part ∷ rest) d some = ap (λ (l : List Part). part ∷ l) (sym (take_all (length (part ∷ rest) - 1) rest (omega arith)))

-- what was printed, one line after others
pub split_more : (parts done rest others : List Part) (part : Part) → parts ≡ done ++ rest → rest ≡ part ∷ others
    → parts ≡ (done ++ part ∷ []) ++ others
split_more parts done rest others part split first =
    split ∙ ap (λ (l : List Part). done ++ l) first ∙ sym (append_assoc done (part ∷ []) others)

-- a call that stops has printed the lines of the first files
pub lines_stop : (parts some others : List Part) (old new : Option (List ℕ)) (text : List ℕ) (r : Result (Unit {0}) Fault) → IsErr r
    → parts ≡ some ++ others → AreLines some text → AppendsBeginning old new text → PrintsLines parts old new r
lines_stop parts some others old new text (Ok x) bad split are begins = absurd (cc)
lines_stop parts some others old new text (Err e) bad split are begins = (some, others, split, text, are, begins)

-- one more file was written
pub written_more : (folder : List ℕ) (parts : List Part) (part : Part) (old mid new : List ℕ → Option (List ℕ)) → WritesParts folder parts old mid
    → ReplacesNamed (part_name folder part) part.bytes.now mid new → WritesParts folder (parts ++ part ∷ []) old new
written_more folder [] part old mid new none is = (new, record { named = is.named; others = λ other not. is.others other not ∙ none other }, λ name. refl)
written_more folder (first ∷ parts) part old mid new were is =
    (were.0, were.1, written_more folder parts part were.0 mid new were.2 is)
