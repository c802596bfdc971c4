-- Lemmas that a proof needs together.
use Rattle.gelf_view.proofs.NulLemmas.{string_ended, string_unended}

-- a string, by where its NUL is found
pub ruleset string = (string_ended, string_unended)
