-- The texts of the causes for which a script is refused.
use Rattle.std.specs.Prelude.{ℕ, List, codes}
use Rattle.elf_calls_script.specs.declared.faults.Why.{Why}
use Rattle.elf_calls_script.specs.declared.faults.Why.TheVariants.{TooLong, BadCall, BadWords, BadNumber}

unfoldable pub why_text : Why → List ℕ
why_text TooLong = codes "script too long"
why_text BadCall = codes "no such call"
why_text BadWords = codes "wrong words"
why_text BadNumber = codes "number out of range"
