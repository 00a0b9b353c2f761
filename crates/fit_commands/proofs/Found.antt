-- One more of the lines of several files.
use Rattle.std.proofs.Common.{◌≡◌, ◌≢◌, Bool, true, false, ℕ, ◌+◌, ◌-◌, ◌≤◌, List, [], ◌∷◌, ◌++◌, length, get_or, take, drop, map, codes, Result, Ok, Err, Option, Some, None, refl, sym, ap, subst, ◌∙◌, append_assoc, append-nil, arith, Global}
use Rattle.std.proofs.lemmas.List.{take_all, length-take, length-drop}
use Rattle.std.proofs.KnownBytes.{Appends-nil}
use Rattle.std.specs.Prelude.{String, string_bytes, IfSome, is_ok}
use Rattle.std.specs.Fmt.{◌++?◌}
use Rattle.std.specs.Result.{IsErr}
use Rattle.std.specs.Io.KnownBytes.{Appends}
use Rattle.fit_commands.specs.declared.fault.Fault.{Fault}
use Rattle.fit_grammar.specs.Calls.Output.{AppendsBeginning, WritesText}
use Rattle.fit_words.specs.Shown.{shown_text}
use Rattle.std.specs.Borrow.{Bor}
use Rattle.fit_commands.specs.Each.{AreFoundLines, AreNamesOf, ChecksAll, FoundFile, IsFoundLine, name_of, named_line, refused_by}
use Rattle.fit_activity.specs.declared.activity.Summary.{Summary}
use Rattle.fit_commands.specs.Reported.{SumsUpNamed}
use Rattle.fit_files.specs.Exports.Checked.{checked_json}
use Rattle.fit_files.specs.Printed.Summary.{summary_text}

pub found_more : (json : Bool) (held : List ℕ → Option (List ℕ)) (files : List FoundFile) (text : List ℕ) (refused : ℕ) (file : FoundFile) (line : List ℕ)
    → AreFoundLines json held files text refused → SumsUpNamed (held file.name.now) file.name file.found → IsFoundLine json file.name.now file.found line
    → AreFoundLines json held (files ++ file ∷ []) (text ++ line) (refused + refused_by file.found)
found_more json held [] text refused file line are sums is = (
  line,
  [],
  0,
  sums,
  is,
  ap (λ (l : List ℕ). l ++ line) are.0 ∙ sym (append-nil line),
  omega (arith, are.1),
  (refl, refl),
)
found_more json held (first ∷ files) text refused file line are sums is = (
  are.0,
  are.1 ++ line,
  are.2 + refused_by file.found,
  are.3,
  are.4,
  ap (λ (l : List ℕ). l ++ line) are.5 ∙ append_assoc are.0 are.1 line,
  omega (arith, are.6),
  found_more json held files are.1 are.2 file line are.7 sums is,
)

names_append : (files : List FoundFile) (file : FoundFile) → map name_of (files ++ file ∷ []) ≡ map name_of files ++ file.name.now ∷ []
names_append [] file = refl
names_append (first ∷ files) file = ap (λ (l : List (List ℕ)). first.name.now ∷ l) (names_append files file)

-- the first of the names that are left is that of one more file
pub names_more : (names : List (List ℕ)) (files : List FoundFile) (file : FoundFile) (rest : List (String Global)) (d : String Global) → 1 ≤ length rest
    → names ≡ map name_of files ++ map string_bytes rest → file.name.now ≡ string_bytes (get_or rest 0 d)
    → names ≡ map name_of (files ++ file ∷ []) ++ map string_bytes (take (length rest - 1) (drop 1 rest))
names_more names files file [] d some names_are name_is = absurd (omega arith)
names_more names files file (first ∷ rest) d some names_are name_is =
    let less : take (length (first ∷ rest) - 1) rest ≡ rest = take_all (length (first ∷ rest) - 1) rest (omega arith) in
    names_are
    ∙ ap (λ (l : List ℕ). map name_of files ++ l ∷ map string_bytes rest) (sym name_is)
    ∙ sym (append_assoc (map name_of files) (file.name.now ∷ []) (map string_bytes rest))
    ∙ ap (λ (l : List (List ℕ)). l ++ map string_bytes rest) (sym (names_append files file))
    ∙ ap (λ (l : List (String Global)). map name_of (files ++ file ∷ []) ++ map string_bytes l) (sym less)

-- a line that was formatted and written
formatted : (o : Option (List ℕ)) (front name text : List ℕ) (P : List ℕ → Type 0)
    → IfSome (Some front ++? (Some (shown_text name) ++? (Some (codes ": ") ++? (o ++? Some (codes "\n"))))) (λ bs. text ≡ bs)
    → P text → IfSome o (λ t. P (named_line front name t))
formatted None front name text P is holds = tt
formatted (Some t) front name text P is holds = subst P is holds

pub line_printed : {E : Type 0} (o : Option (List ℕ)) (front name text bytes : List ℕ) (old new : Option (List ℕ))
    (done : Result (Unit {0}) E) (told : Result (Unit {0}) Fault)
    → IfSome (Some front ++? (Some (shown_text name) ++? (Some (codes ": ") ++? (o ++? Some (codes "\n"))))) (λ bs. text ≡ bs)
    → bytes ≡ text → is_ok told ≡ is_ok done → WritesText old new done bytes
    → IfSome o (λ t. WritesText old new told (named_line front name t))
line_printed o front name text bytes old new (Ok x) (Ok y) is same alike wrote =
    formatted o front name text (λ l. WritesText {T = Unit {0}} {E = Fault} old new (Ok y) l) is
    (record { all = subst (Appends old new) same wrote.all; beginning = tt })
line_printed o front name text bytes old new (Err x) (Err y) is same alike wrote =
    formatted o front name text (λ l. WritesText {T = Unit {0}} {E = Fault} old new (Err y) l) is
    (record { all = tt; beginning = subst (AppendsBeginning old new) same wrote.beginning })
line_printed o front name text bytes old new (Ok x) (Err y) is same alike wrote = absurd (cc)
line_printed o front name text bytes old new (Err x) (Ok y) is same alike wrote = absurd (cc)

-- a line that was not written
pub nothing_written : (old : Option (List ℕ)) (r : Result (Unit {0}) Fault) (text : List ℕ) → IsErr r → WritesText old old r text
nothing_written old (Ok x) text bad = absurd (cc)
nothing_written old (Err fault) text bad =
    record { all = tt; beginning = record { part = []; rest = text; split = refl; appended = Appends-nil old } }

pub no_line : (o : Option (List ℕ)) (front name : List ℕ) (old : Option (List ℕ)) (r : Result (Unit {0}) Fault) → IsErr r
    → IfSome o (λ t. WritesText old old r (named_line front name t))
no_line None front name old r bad = tt
no_line (Some t) front name old r bad = nothing_written old r (named_line front name t) bad

-- a call that stops has printed the lines of the first files
pub checks_stop : (json : Bool) (held : List ℕ → Option (List ℕ)) (names : List (List ℕ)) (files : List FoundFile) (others : List (List ℕ)) (old new : Option (List ℕ)) (text : List ℕ)
    (refused : ℕ) (r : Result ℕ Fault) → IsErr r → names ≡ map name_of files ++ others → AreFoundLines json held files text refused
    → AppendsBeginning old new text → ChecksAll json held names old new r
checks_stop json held names files others old new text refused (Ok x) bad names_are are begins = absurd (cc)
checks_stop json held names files others old new text refused (Err e) bad names_are are begins =
    (files, others, text, refused, names_are, are, begins)

-- no more are refused than were checked
refused_least : (found : Result Summary Fault) → refused_by found ≤ 1
refused_least (Ok summary) = omega arith
refused_least (Err fault) = omega arith

pub refused_fits : (refused more most : ℕ) (found : Result Summary Fault) (rest : List (String Global)) → 1 ≤ length rest
    → refused + length rest ≤ most → more ≡ refused_by found → refused + more + length (take (length rest - 1) (drop 1 rest)) ≤ most
refused_fits refused more most found rest some fits is =
    omega (arith, some, fits, is, refused_least found, length-take (length rest - 1) (drop 1 rest), length-drop 1 rest)

-- one more name
pub bytes_more : (names more : List (String Global)) (name : String Global) → more ≡ names ++ name ∷ []
    → map string_bytes more ≡ map string_bytes names ++ string_bytes name ∷ []
bytes_more [] more name is = ap (λ (l : List (String Global)). map string_bytes l) is
bytes_more (first ∷ names) more name is =
    ap (λ (l : List (String Global)). map string_bytes l) is
    ∙ ap (λ (l : List (List ℕ)). string_bytes first ∷ l) (bytes_more names (names ++ name ∷ []) name refl)

pub own_more : (old now new : List (List ℕ)) (name : List ℕ) → ((own : List (List ℕ)) × (now ≡ old ++ own)) → new ≡ now ++ name ∷ []
    → (own : List (List ℕ)) × (new ≡ old ++ own)
own_more old now new name has is =
    (has.0 ++ name ∷ [], is ∙ ap (λ (l : List (List ℕ)). l ++ name ∷ []) has.1 ∙ append_assoc old has.0 (name ∷ []))

-- the first of the words that are left stands for these names
abbrev pub now_of : Bor (List ℕ) → List ℕ
now_of word = word.now

abbrev pub no_word : Bor (List ℕ)
no_word = record { ref_ptr = (0, 0); now = [] }

names_first : (words : List (Bor (List ℕ))) (d : Bor (List ℕ)) (own more : List (List ℕ)) → 1 ≤ length words
    → ((get_or words 0 d).now ≢ codes "-" → own ≡ (get_or words 0 d).now ∷ [])
    → AreNamesOf (map now_of (take (length words - 1) (drop 1 words))) more → AreNamesOf (map now_of words) (own ++ more)
names_first [] d own more some is are = absurd (omega arith)
names_first (word ∷ words) d own more some is are = (
  own,
  more,
  refl,
  is,
  subst (λ (l : List (Bor (List ℕ))). AreNamesOf (map now_of l) more) (take_all (length (word ∷ words) - 1) words (omega arith)) are,
)

pub names_step : (rest : List (Bor (List ℕ))) (d : Bor (List ℕ)) (all old new own : List (List ℕ)) → 1 ≤ length rest
    → ((get_or rest 0 d).now ≢ codes "-" → own ≡ (get_or rest 0 d).now ∷ []) → new ≡ old ++ own
    → ((more : List (List ℕ)) → AreNamesOf (map now_of rest) more → AreNamesOf all (old ++ more))
    → (more : List (List ℕ)) → AreNamesOf (map now_of (take (length rest - 1) (drop 1 rest))) more → AreNamesOf all (new ++ more)
names_step rest d all old new own some is new_is has more are =
    subst (AreNamesOf all) (sym (ap (λ (l : List (List ℕ)). l ++ more) new_is ∙ append_assoc old own more))
    (has (own ++ more) (names_first rest d own more some is are))

pub names_end : (rest : List (Bor (List ℕ))) (all old : List (List ℕ)) → rest ≡ []
    → ((more : List (List ℕ)) → AreNamesOf (map now_of rest) more → AreNamesOf all (old ++ more)) → AreNamesOf all old
names_end rest all old none has =
    subst (AreNamesOf all) (append-nil old) (has [] (subst (λ (l : List (Bor (List ℕ))). AreNamesOf (map now_of l) []) (sym none) refl))

-- a line on a file may have any text
pub some_line : (json : Bool) (name : List ℕ) (found : Result Summary Fault) → (line : List ℕ) × IsFoundLine json name found line
some_line false name (Ok summary) = (named_line [] name (summary_text summary), refl)
some_line false name (Err fault) = (named_line [] name [], ([], refl))
some_line true name (Ok summary) = (checked_json name (Ok summary), refl)
some_line true name (Err fault) = (checked_json name (Err no_word), (no_word, refl))
