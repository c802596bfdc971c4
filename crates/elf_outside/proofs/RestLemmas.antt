-- The rest of a window gives back what it was made of.
use Rattle.std.proofs.Common.{◌≡◌, ℕ, ◌∷◌, [], List, Option, Some, None, get_or, drop, refl, sym, ap, ◌∙◌}
use Rattle.elf_outside.specs.Windows.{counted_bytes, window_rest}

-- the bytes, or that there are none
abbrev bytes_back : List ℕ → Option (List ℕ)
bytes_back [] = None
bytes_back (n ∷ bytes) = Some bytes

counted_bytes_is : (bytes : Option (List ℕ)) → bytes_back (counted_bytes bytes) ≡ bytes
counted_bytes_is None = refl
counted_bytes_is (Some bytes) = refl

-- the place in the inner source, its length, its bytes and its own rest
pub window_rest_same : (at at' size size' : ℕ) (bytes bytes' : Option (List ℕ)) (rest rest' : List (List ℕ)) → window_rest at size bytes rest ≡ window_rest at' size' bytes' rest'
    → (at ≡ at') × (size ≡ size') × (bytes ≡ bytes') × (rest ≡ rest')
window_rest_same at at' size size' bytes bytes' rest rest' same = (
  ap (λ l. get_or (get_or l 0 []) 0 0) same,
  ap (λ l. get_or (get_or l 0 []) 1 0) same,
  sym (counted_bytes_is bytes) ∙ ap (λ l. bytes_back (get_or l 1 [])) same ∙ counted_bytes_is bytes',
  ap (λ l. drop 2 l) same,
)
