-- Bytes begin with at most one header: for `skip_bytes`.
use Rattle.std.proofs.Common.{◌≡◌, ℕ, List, sym, ap, ◌∙◌}
use Rattle.fit_grammar.specs.declared.file.frame.Frame.{Frame}
use Rattle.fit_grammar.specs.Calls.BeginningHeader.{BeginsWithHeader}

pub one_frame : (bytes : List ℕ) (a b : Frame) (s t : ℕ) → BeginsWithHeader bytes a s → BeginsWithHeader bytes b t → a ≡ b
one_frame bytes a b s t p q =
    let size : a.header_size ≡ b.header_size = sym p.header_size ∙ q.header_size in
    let protocol : a.protocol ≡ b.protocol = sym p.protocol ∙ q.protocol in
    let profile : a.profile ≡ b.profile = sym p.profile ∙ q.profile in
    ap (λ (n : ℕ). record a { header_size = n }) size
    ∙ ap (λ (n : ℕ). record a { header_size = b.header_size; protocol = n }) protocol
    ∙ ap (λ (n : ℕ). record b { profile = n }) profile

pub one_size : (bytes : List ℕ) (a b : Frame) (s t : ℕ) → BeginsWithHeader bytes a s → BeginsWithHeader bytes b t → s ≡ t
one_size bytes a b s t p q = sym p.data_size ∙ q.data_size
