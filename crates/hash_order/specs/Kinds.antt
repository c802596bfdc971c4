-- The kinds of items that go by the indexes of symbols.
use Rattle.std.specs.Prelude.{ℕ, ◌≤◌, List, length}
use Rattle.elf_types.specs.declared.records.Kind.{Kind}
use Rattle.elf_types.specs.declared.records.Kind.TheVariants.{Half, Word, Rel, Rela}
use Rattle.elf_xlate.specs.declared.content.Items.{Items}
use Rattle.elf_xlate.specs.Translation.{items_kind, items_count}

abbrev pub IsByIndex : Kind → Type 0
IsByIndex Half = Unit {0}
IsByIndex Word = Unit {0}
IsByIndex Rel = Unit {0}
IsByIndex Rela = Unit {0}
IsByIndex _ = ⊥

-- so many items go along with so many symbols: one for each at least where each symbol has one
abbrev pub CanFollow : ℕ → Kind → ℕ → Type 0
CanFollow count Half held = count ≤ held
CanFollow count Word held = count ≤ held
CanFollow count Rel held = Unit {0}
CanFollow count Rela held = Unit {0}
CanFollow count _ held = ⊥

abbrev pub MovesBy : List ℕ → Items → Type 0
MovesBy order l = CanFollow (length order) (items_kind l) (items_count l)
