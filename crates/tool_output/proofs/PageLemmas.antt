-- What a page holds after an append that was refused.
use Rattle.std.proofs.Common.{◌≡◌, ℕ, List, true, length, take}
use Rattle.std.proofs.lemmas.Slice.Eq.{bytes_eq-Decides}
use Rattle.elf_types.specs.Writers.{begins_with}

-- what a list begins with is had again by cutting the rest off
pub restored : (new old : List ℕ) → begins_with new old ≡ true → take (length old) new ≡ old
unfolding begins_with
restored new old h = (bytes_eq-Decides (take (length old) new) old).0 h
