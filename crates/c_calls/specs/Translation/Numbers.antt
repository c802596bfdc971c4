-- What the numbers stand for by which C names the kind of items, a class and a byte order.
use Rattle.std.specs.Prelude.{ℕ, ◌==◌, List, [], ◌∷◌, if◌then◌else◌}
use Rattle.elf_types.specs.declared.records.Class.{Class}
use Rattle.elf_types.specs.declared.records.Class.TheVariants.{C32, C64}
use Rattle.elf_types.specs.declared.records.Order.{Order}
use Rattle.elf_types.specs.declared.records.Order.TheVariants.{Least, Greatest}
use Rattle.elf_types.specs.declared.records.Kind.{Kind}
use Rattle.elf_types.specs.declared.records.Kind.TheVariants.{Half, Word, Addr, Sym, Rel, Rela, Dyn}
use Rattle.elf_types.specs.Kinds.{kind_in}

-- the kinds of numbered items, each with its number; what is in no row are bytes
abbrev pub numbered_kinds : List (ℕ × Kind)
numbered_kinds =
    (2, Half)
    ∷ (3, Word)
    ∷ (4, Addr)
    ∷ (5, Sym)
    ∷ (6, Rel)
    ∷ (7, Rela)
    ∷ (8, Dyn) ∷ []

unfoldable pub kind_from : ℕ → Kind
kind_from number = kind_in numbered_kinds number

-- e_ident[EI_CLASS]
unfoldable pub class_from : ℕ → Class
class_from number = if number == 1 then C32 else C64

-- e_ident[EI_DATA]
unfoldable pub order_from : ℕ → Order
order_from number = if number == 2 then Greatest else Least
