-- What is left of a line, and a first word that no table has.
use Rattle.std.specs.Prelude.{◌≡◌, ℕ, List, [], ◌∷◌, Option, Some, None}
use Rattle.std.specs.Str.{IsUtf8}
use Rattle.elf_calls_script.specs.declared.faults.CallFault.{CallFault}
use Rattle.elf_calls_script.specs.declared.faults.CallFault.TheVariants.{Why}
use Rattle.elf_calls_script.specs.declared.faults.Why.TheVariants.{BadWords}
use Rattle.elf_calls_script.specs.Parts.{pieces_between}

-- the pieces of what is left, where anything is
abbrev pub pieces_left : ℕ → Option (List ℕ) → List (List ℕ)
pieces_left separator None = []
pieces_left separator (Some rest) = pieces_between separator rest

-- there is no first word, or it is no text: it is not UTF-8
abbrev pub HasNoText : List (List ℕ) → Type 0
HasNoText [] = Unit {0}
HasNoText (w ∷ ws) = ¬ (IsUtf8 w)

-- the refusal of such words
abbrev pub IsNoText : CallFault → List (List ℕ) → Type 0
IsNoText stop words = (stop ≡ Why BadWords) × HasNoText words
