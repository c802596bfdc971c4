use Rattle.std.proofs.Common.{◌==◌, ℕ, Option, false, ap}
use Rattle.std.specs.Option.{option_map_or}
use Rattle.gelf_view.proofs.strings.end_in_nul.Goals as goal

pub returns-in-Some : goal.returns-in-Some
returns-in-Some c =
    ap (λ (last : Option ℕ). option_map_or (λ b. b == 0) last false) c.in-Some.ensures.value

pub returns-in-None : goal.returns-in-None
returns-in-None c =
    ap (λ (last : Option ℕ). option_map_or (λ b. b == 0) last false) c.in-None.ensures.value
