-- The debug half as an object that was created and filled with bytes.
use Rattle.std.specs.Prelude.{◌≡◌, ◌<◌, ℕ, List, length}
use Rattle.elf_types.specs.declared.records.Kind.{Kind}
use Rattle.elf_types.specs.declared.records.Kind.TheVariants as kinds
use Rattle.elf_object.specs.Object.{Object}
use Rattle.elf_object.specs.Valid.{IsObject}
use Rattle.rebuild_model.specs.Split.{debug_half}
use Rattle.rebuild_object.specs.Objects.{kind_at}
use Rattle.rebuild_object.specs.Planned.{IsCreatedWith}

abbrev pub HalvesAreCreated : Type 0
HalvesAreCreated =
    (o : Object) (ks : List Kind) → IsObject o
    → ((s : ℕ) → 0 < s → s < length o.sections → kind_at ks s ≡ kinds.Bytes)
    → IsCreatedWith o ks (debug_half o)
