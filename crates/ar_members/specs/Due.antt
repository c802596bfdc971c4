-- How many bytes a call asks for at most, by the bytes of the archive.
use Rattle.std.specs.Prelude.{◌≤◌, ◌+◌, ℕ, List, IfSome}
use Rattle.elf_outside.specs.declared.sources.Source.{Ghosts}

-- where the source tells its bytes, the call asked for no more than is due of them
abbrev pub AsksDue : {S : Type 0} → Ghosts S → S → S → (List ℕ → ℕ) → Type 0
AsksDue g old new due = IfSome (g.holds old) (λ image. g.taken new ≤ g.taken old + due image)
