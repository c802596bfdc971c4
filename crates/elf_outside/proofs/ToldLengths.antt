-- What is known of a source that tells its bytes.
use Rattle.std.proofs.Common.{◌≡◌, ℕ, List, Option, Some, None, IfSome, length, sym, ◌∙◌}

-- there are as many bytes as the call `len` answers: its clause `size` with the law `sized`
pub told_len : (holds : Option (List ℕ)) (size len : ℕ) → len ≡ size → IfSome holds (λ bytes. length bytes ≡ size) → IfSome holds (λ bytes. length bytes ≡ len)
told_len None size len is sized = tt
told_len (Some bytes) size len is sized = sized ∙ sym is
