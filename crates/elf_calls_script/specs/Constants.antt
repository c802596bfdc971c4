-- The limit of a script, its name beside its number: the most bytes.
use Rattle.std.specs.Prelude.{ℕ, ◌^◌, List, [], ◌∷◌}
use Rattle.elf_calls_script.specs.declared.script.TheConstants.{MAX_SCRIPT}

abbrev pub script_limits : List (ℕ × ℕ)
script_limits = (MAX_SCRIPT, 2 ^ 20) ∷ []
