-- A list with one more element at its end: the last value that is given, the part after a mark, sums, and greatest values.
use Rattle.std.proofs.Common.{◌≡◌, ℕ, suc, ◌+◌, ◌-◌, ◌*◌, ◌≤◌, Bool, true, false, not, cond, List, [], ◌∷◌, ◌++◌, length, take, drop, Option, Some, None, refl, sym, ap, ◌∙◌, arith, append-nil, max, mul-suc}
use Rattle.std.specs.Prelude.{sum, option_to_list, IfSome}
use Rattle.std.specs.Option.{option_or}
use Rattle.std.specs.List.{filter_map, cons_option, fold, AllByRecursion, suffix_len, prefix_len, before_last, after_last}
use Rattle.std.proofs.lemmas.List.{reverse-append, drop-append-le, take-append-le, length_push}
use Rattle.std.proofs.lemmas.List.Elements.{filter_map-append}
use Rattle.std.proofs.lemmas.List.Sums.{suffix_len-le-length, fold_push, sum_by-cons}
use Rattle.std.proofs.Math.Seq.{drop-append-add, take-append_seam}
use Rattle.fit_activity.specs.Rides.Recording.{Recorded, last_given}
use Rattle.fit_activity.specs.Rides.Stretch.{greater_of, greatest}

pub option_or-none : {Y : Type 0} (o : Option Y) → option_or o None ≡ o
option_or-none None = refl
option_or-none (Some y) = refl

option_or-assoc : {Y : Type 0} (a b c : Option Y) → option_or (option_or a b) c ≡ option_or a (option_or b c)
option_or-assoc None b c = refl
option_or-assoc (Some y) b c = refl

pub last_given-push : {Y : Type 0} (given : Recorded → Option Y) (list : List Recorded) (r : Recorded)
    → last_given given (list ++ r ∷ []) ≡ option_or (given r) (last_given given list)
last_given-push given [] r = sym (option_or-none (given r))
last_given-push given (x ∷ list) r =
    ap (λ o. option_or o (given x)) (last_given-push given list r) ∙ option_or-assoc (given r) (last_given given list) (given x)

pub All-push : {X : Type 0} (P : X → Type 0) (xs : List X) (x : X) → AllByRecursion P xs → P x → AllByRecursion P (xs ++ x ∷ [])
All-push P [] x all own = (own, tt)
All-push P (y ∷ ys) x all own = (all.0, All-push P ys x all.1 own)

pub All-weaken : {X : Type 0} (P Q : X → Type 0) (xs : List X) → ((x : X) → P x → Q x) → AllByRecursion P xs → AllByRecursion Q xs
All-weaken P Q [] weaken all = tt
All-weaken P Q (x ∷ xs) weaken all = (weaken x all.0, All-weaken P Q xs weaken all.1)

-- how many elements at the end are not marks, with one more element
suffix-push : {X : Type 0} (p : X → Bool) (xs : List X) (x : X) → suffix_len p (xs ++ x ∷ []) ≡ cond (p x) (1 + suffix_len p xs) 0
suffix-push p xs x = ap (prefix_len p) (reverse-append xs (x ∷ []))

after-by : {X : Type 0} (xs : List X) (x : X) (b : Bool) (k : ℕ) → k ≤ length xs
    → drop (length (xs ++ x ∷ []) - cond (not b) (1 + k) 0) (xs ++ x ∷ []) ≡ cond b [] (drop (length xs - k) xs ++ x ∷ [])
after-by xs x true k le =
    let e : length (xs ++ x ∷ []) - 0 ≡ length xs + 1 = omega (arith, length_push xs x) in
    ap (λ n. drop n (xs ++ x ∷ [])) e ∙ drop-append-add xs (x ∷ []) 1
after-by xs x false k le =
    let e : length (xs ++ x ∷ []) - (1 + k) ≡ length xs - k = omega (arith, length_push xs x, le) in
    ap (λ n. drop n (xs ++ x ∷ [])) e ∙ drop-append-le (length xs - k) xs (x ∷ []) (omega arith)

pub after_last-push : {X : Type 0} (p : X → Bool) (xs : List X) (x : X)
    → after_last p (xs ++ x ∷ []) ≡ cond (p x) [] (after_last p xs ++ x ∷ [])
after_last-push {X} p xs x =
    let q : X → Bool = λ y. not (p y) in
    ap (λ n. drop (length (xs ++ x ∷ []) - n) (xs ++ x ∷ [])) (suffix-push q xs x)
    ∙ after-by xs x (p x) (suffix_len q xs) (suffix_len-le-length q xs)

before-by : {X : Type 0} (xs : List X) (x : X) (b : Bool) (k : ℕ) → k ≤ length xs
    → take (length (xs ++ x ∷ []) - cond (not b) (1 + k) 0 - 1) (xs ++ x ∷ []) ≡ cond b xs (take (length xs - k - 1) xs)
before-by xs x true k le =
    let e : length (xs ++ x ∷ []) - 0 - 1 ≡ length xs = omega (arith, length_push xs x) in
    ap (λ n. take n (xs ++ x ∷ [])) e ∙ take-append_seam xs (x ∷ [])
before-by xs x false k le =
    let e : length (xs ++ x ∷ []) - (1 + k) - 1 ≡ length xs - k - 1 = omega (arith, length_push xs x, le) in
    ap (λ n. take n (xs ++ x ∷ [])) e ∙ take-append-le (length xs - k - 1) xs (x ∷ []) (omega arith)

pub before_last-push : {X : Type 0} (p : X → Bool) (xs : List X) (x : X)
    → before_last p (xs ++ x ∷ []) ≡ cond (p x) xs (before_last p xs)
before_last-push {X} p xs x =
    let q : X → Bool = λ y. not (p y) in
    ap (λ n. take (length (xs ++ x ∷ []) - n - 1) (xs ++ x ∷ [])) (suffix-push q xs x)
    ∙ before-by xs x (p x) (suffix_len q xs) (suffix_len-le-length q xs)

-- the values of a list with one more element
filter_map-one : {X Y : Type 0} (h : X → Option Y) (x : X) → filter_map h (x ∷ []) ≡ option_to_list (h x)
filter_map-one {X} {Y} h x =
    let one : (o : Option Y) → cons_option o [] ≡ option_to_list o = λ o. elim o as (λ v. cons_option v [] ≡ option_to_list v) [ None ↦ refl | Some y ↦ refl ] in
    one (h x)

pub filter_map-push : {X Y : Type 0} (h : X → Option Y) (xs : List X) (x : X)
    → filter_map h (xs ++ x ∷ []) ≡ filter_map h xs ++ option_to_list (h x)
filter_map-push h xs x = filter_map-append h xs (x ∷ []) ∙ ap (λ ys. filter_map h xs ++ ys) (filter_map-one h x)

pub greatest-push : (values : List ℕ) (value : ℕ) → greatest (values ++ value ∷ []) ≡ greater_of (greatest values) (Some value)
greatest-push [] value = refl
greatest-push (first ∷ values) value = ap Some (fold_push max first values value)

pub filter_map-none : {X Y : Type 0} (h : X → Option Y) (xs : List X) (x : X) → h x ≡ None → filter_map h (xs ++ x ∷ []) ≡ filter_map h xs
filter_map-none h xs x none =
    filter_map-push h xs x ∙ ap (λ o. filter_map h xs ++ option_to_list o) none ∙ append-nil (filter_map h xs)

pub length-filter_map-le : {X Y : Type 0} (h : X → Option Y) (xs : List X) → length (filter_map h xs) ≤ length xs
length-filter_map-le h [] = omega arith
length-filter_map-le {X} {Y} h (x ∷ xs) =
    let ih = length-filter_map-le h xs in
    let one : (o : Option Y) → length (cons_option o (filter_map h xs)) ≤ suc (length xs) =
    λ o. elim o as (λ v. length (cons_option v (filter_map h xs)) ≤ suc (length xs)) [ None ↦ omega (arith, ih) | Some y ↦ omega (arith, ih) ] in
    one (h x)

pub greatest-with : (values : List ℕ) (o : Option ℕ) → greatest (values ++ option_to_list o) ≡ greater_of (greatest values) o
greatest-with values None = ap greatest (append-nil values)
greatest-with values (Some value) = greatest-push values value

fold-bounded : (bound first : ℕ) (values : List ℕ) → first ≤ bound → AllByRecursion (λ value. value ≤ bound) values → fold max first values ≤ bound
fold-bounded bound first [] own all = own
fold-bounded bound first (value ∷ values) own all = fold-bounded bound (max first value) values (omega (arith, own, all.0)) all.1

-- values of which none is above a bound have a bounded sum
pub sum-bounded : (bound : ℕ) (values : List ℕ) → AllByRecursion (λ value. value ≤ bound) values → sum values ≤ bound * length values
sum-bounded bound [] all = omega arith
sum-bounded bound (value ∷ values) all =
    let ih = sum-bounded bound values all.1 in
    let more : bound * suc (length values) ≡ bound * length values + bound = mul-suc bound (length values) in
    let first : sum (value ∷ values) ≡ value + sum values = sum_by-cons (λ n. n) value values in
    rw (more, first) (omega (arith, ih, all.0))

-- and a bounded greatest value
pub greatest-bounded : (bound : ℕ) (values : List ℕ) → AllByRecursion (λ value. value ≤ bound) values → IfSome (greatest values) (λ most. most ≤ bound)
greatest-bounded bound [] all = tt
greatest-bounded bound (first ∷ values) all = fold-bounded bound first values all.0 all.1
