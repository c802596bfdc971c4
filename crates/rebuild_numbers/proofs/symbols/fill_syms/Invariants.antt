use Rattle.std.proofs.Common.{◌≡◌, ℕ, map, take}
use Rattle.std.specs.Prelude.{slice_get}
use Rattle.std.specs.List.{enumerate_from}
use Rattle.elf_types.specs.declared.records.Sym.{Sym}
use Rattle.rebuild_select.specs.rebuild_model.Followed.{followed_by_word}
use Rattle.rebuild_numbers.proofs.symbols.fill_syms.Given as goal

abbrev pub invariant-loop-i : goal.invariant-loop-i
invariant-loop-i l =
    l.made
    ≡ map (λ (row : ℕ × Sym). followed_by_word l.numbering (slice_get l.words row.0) row.1)
    (enumerate_from 0 (take l.i l.syms))
