-- What two sources tell as one, of which the bytes of the second stand behind those of the first.
use Rattle.std.proofs.Common.{◌≡◌, ◌+◌, ◌++◌, ℕ, List, Option, Some, None, IfSome, length, ap, ◌∙◌, length-append}
use Rattle.elf_outside.specs.Windows.{window_rest}
use Rattle.elf_outside.specs.declared.sources.Source.{Ghosts}

-- the bytes of both, where both tell them
abbrev pub bytes_of_pair : Option (List ℕ) → Option (List ℕ) → Option (List ℕ)
bytes_of_pair (Some a) (Some b) = Some (a ++ b)
bytes_of_pair _ _ = None

-- the lengths and the bytes of both, and what each keeps besides
abbrev pub rest_of_pair : ℕ → ℕ → Option (List ℕ) → Option (List ℕ) → List (List ℕ)
    → List (List ℕ) → List (List ℕ)
rest_of_pair m n a b mine others =
    window_rest m n a (window_rest (length mine) 0 b (mine ++ others))

-- there are as many bytes as both have: the law of a pair's length
pub pair_sized : (a b : Option (List ℕ)) (m n : ℕ) → IfSome a (λ bytes. length bytes ≡ m)
    → IfSome b (λ bytes. length bytes ≡ n)
    → IfSome (bytes_of_pair a b) (λ bytes. length bytes ≡ m + n)
pair_sized None b m n one other = tt
pair_sized (Some a) None m n one other = tt
pair_sized (Some a) (Some b) m n one other =
    length-append a b ∙ ap (λ k. k + length b) one ∙ ap (λ k. m + k) other

-- a source tells what two others do as one
pub record IsPair {S T P : Type 0} (g : Ghosts S) (h : Ghosts T) (k : Ghosts P) (first : S)
    (second : T) (pair : P) : Type 0 where
  pub size : k.size pair ≡ g.size first + h.size second
  pub holds : k.holds pair ≡ bytes_of_pair (g.holds first) (h.holds second)
  pub rest : k.rest pair ≡ rest_of_pair (g.size first) (h.size second) (g.holds first)
      (h.holds second) (g.rest first) (h.rest second)
  pub faults : k.faults pair ≡ g.faults first + h.faults second
