-- For tests: what the law on loaded bytes asks of an image and of a place in it.
use Rattle.std.specs.Prelude.{◌≡◌, ℕ, false, Result, Ok, Err}
use Rattle.elf_types.specs.declared.errors.ElfError.{ElfError}
use Rattle.hash_model.specs.elf_ident.declared.fronts.Front.{Front}
use Rattle.rebuild_model.specs.Laws.{IsUsual, IsLoaded, may_change}

-- a usual header, and a byte that is loaded and may not change
pub record StaysThere (k : ℕ) (f : Front) : Type 0 where
  pub usual : IsUsual f
  pub loaded : IsLoaded f.phdrs k
  pub fixed : may_change f.ehdr.class k ≡ false

abbrev pub StaysIn : ℕ → Result Front ElfError → Type 0
StaysIn k (Ok f) = StaysThere k f
StaysIn k (Err e) = ⊥
