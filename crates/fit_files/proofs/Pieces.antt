-- What was taken from a reader, piece by piece: for `read_piece` and `read_front`.
use Rattle.std.proofs.Common.{ℕ, List, [], ◌++◌, Option, Some, None, Result, Ok, Err, refl, sym, ap, subst, ◌∙◌, append_assoc}
use Rattle.std.specs.Io.KnownBytes.{Consumes, Keeps, ReadConsumes}

pub consumes_none : (o : Option (List ℕ)) → Consumes o o []
consumes_none None = tt
consumes_none (Some xs) = refl

pub consumes_more : (o m n : Option (List ℕ)) (a b : List ℕ) → Consumes o m a → Consumes m n b → Consumes o n (a ++ b)
consumes_more None m n a b h k = tt
consumes_more (Some xs) None n a b h k = absurd h
consumes_more (Some xs) (Some ys) None a b h k = absurd k
consumes_more (Some xs) (Some ys) (Some zs) a b h k = h ∙ ap (λ t. a ++ t) k ∙ sym (append_assoc a b zs)

-- a read after others that took nothing
pub reads_then : {E : Type 0} (o m n : Option (List ℕ)) (r : Result ℕ E) (piece : List ℕ) → Keeps o m → ReadConsumes m n r piece
    → ReadConsumes o n r piece
reads_then None m n (Ok count) piece kept h = (tt, h.1)
reads_then None m n (Err error) piece kept h = tt
reads_then (Some xs) None n r piece kept h = absurd kept
reads_then (Some xs) (Some ys) n r piece kept h = subst (λ t. ReadConsumes (Some t) n r piece) kept h
