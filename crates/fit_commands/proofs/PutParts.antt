-- The parts of an activity as they are put: for `joined_of`.
use Rattle.std.proofs.Common.{◌≡◌, ℕ, ◌-◌, ◌<◌, ◌≤◌, Bool, true, false, List, [], ◌∷◌, length, get_or, take, drop, map, Option, refl, sym, ap, subst, ◌∙◌, arith}
use Rattle.std.specs.Borrow.{Bor}
use Rattle.std.specs.List.{AllByRecursion}
use Rattle.std.proofs.lemmas.List.{take_all}
use Rattle.std.proofs.lemmas.List.Elements.{All-from_recursion, recursion_from_All}
use Rattle.std.proofs.lemmas.List.Sorted.{All-permutation, length_permutation}
use Rattle.fit_grammar.specs.Calls.PlainForm.{IsPlain}
use Rattle.fit_joining.specs.declared.part.Part.{Part}
use Rattle.fit_commands.specs.Reported.{IsFormOfFile}
use Rattle.fit_commands.specs.JoinedFile.{AreFilesOf, ArePartsOf, ArePut, part_lent}
use Rattle.fit_commands.specs.declared.join.NamedFile.{NamedFile}

abbrev pub IsForm : (List ℕ → Option (List ℕ)) → Part → Type 0
IsForm held part = IsFormOfFile (held part.name.now) part.file

abbrev pub IsPlainPart : Part → Type 0
IsPlainPart part = AllByRecursion IsPlain part.file.items

-- files are parts where they are lent
names_lent : (files : List NamedFile) → map (λ part. part.name) (map part_lent files) ≡ map (λ named. named.name) files
names_lent [] = refl
names_lent (named ∷ files) = ap (λ (names : List (Bor (List ℕ))). named.name ∷ names) (names_lent files)

forms_lent : (held : List ℕ → Option (List ℕ)) (files : List NamedFile) → AllByRecursion (λ named. IsFormOfFile (held named.name.now) named.file) files
    → AllByRecursion (IsForm held) (map part_lent files)
forms_lent held [] all = tt
forms_lent held (named ∷ files) all = (all.0, forms_lent held files all.1)

pub parts_lent : (held : List ℕ → Option (List ℕ)) (names : List (Bor (List ℕ))) (files : List NamedFile) (parts : List Part)
    → AreFilesOf held names files → parts ≡ map part_lent files → ArePartsOf held names parts
parts_lent held names files parts are is =
    subst (ArePartsOf held names) (sym is) (names_lent files ∙ are.0, forms_lent held files are.1)

-- a form of a file has no compressed timestamp
pub plain_parts : (held : List ℕ → Option (List ℕ)) (parts : List Part) → AllByRecursion (IsForm held) parts → AllByRecursion IsPlainPart parts
plain_parts held [] all = tt
plain_parts held (part ∷ parts) ((bytes, read, (v, is_file, form)), all) = (form.written_out, plain_parts held parts all)

-- what holds of the parts as they are given holds of them as they are put
pub all_put : (P : Part → Type 0) (as_given : Bool) (given parts : List Part) → ArePut as_given given parts → AllByRecursion P given
    → AllByRecursion P parts
all_put P true given parts put all = subst (AllByRecursion P) (sym put) all
all_put P false given parts put all =
    let order = put.0 in recursion_from_All P parts (All-permutation P given parts order.same (All-from_recursion P given all))

pub count_put : (as_given : Bool) (given parts : List Part) → ArePut as_given given parts → length parts ≡ length given
count_put true given parts put = ap length put
count_put false given parts put = let order = put.0 in length_permutation given parts order.same

-- parts of some names are some
pub some_named : (given : List Part) (name : Bor (List ℕ)) (names : List (Bor (List ℕ))) → map (λ part. part.name) given ≡ name ∷ names
    → 1 ≤ length given
some_named [] name names is = absurd (cc)
some_named (part ∷ given) name names is = omega arith

pub none_put : (P : Type 0) (held : List ℕ → Option (List ℕ)) (as_given : Bool) (name : Bor (List ℕ)) (names : List (Bor (List ℕ))) (given parts : List Part)
    → ArePartsOf held (name ∷ names) given → ArePut as_given given parts → length parts < 1 → P
none_put P held as_given name names given parts are put none =
    absurd (omega (arith, none, count_put as_given given parts put, some_named given name names are.0))

-- each of them has no compressed timestamp
pub plain_put : (held : List ℕ → Option (List ℕ)) (as_given : Bool) (names : List (Bor (List ℕ))) (given parts : List Part) → ArePartsOf held names given → ArePut as_given given parts
    → AllByRecursion IsPlainPart parts
plain_put held as_given names given parts are put = plain_parts held parts (all_put (IsForm held) as_given given parts put are.1)

pub first_plain : (parts : List Part) (part : Part) → 1 ≤ length parts → part ≡ get_or parts 0 part → AllByRecursion IsPlainPart parts
    → IsPlainPart part
first_plain [] part some is all = absurd (omega arith)
first_plain (first ∷ parts) part some is all = subst IsPlainPart (sym is) all.0

pub others_plain : (parts : List Part) → AllByRecursion IsPlainPart parts
    → AllByRecursion IsPlainPart (take (length parts - 1) (drop 1 parts))
others_plain [] all = tt
others_plain (first ∷ parts) all =
    subst (AllByRecursion IsPlainPart) (sym (take_all (length (first ∷ parts) - 1) parts (omega arith))) all.1

-- a row of some is one and those after it
pub split_first : {X : Type 0} (xs : List X) (x : X) → 1 ≤ length xs → x ≡ get_or xs 0 x → xs ≡ x ∷ take (length xs - 1) (drop 1 xs)
split_first [] x some is = absurd (omega arith)
split_first {X = X} (first ∷ xs) x some is =
    ap (λ (y : X). y ∷ xs) (sym is) ∙ ap (λ (ys : List X). x ∷ ys) (sym (take_all (length (first ∷ xs) - 1) xs (omega arith)))
