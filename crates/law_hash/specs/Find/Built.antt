-- What elflint finds at a section whose data are a hash section as it is built (gABI chapter 5,
-- "Hash Table"; GNU's hash section).
use Rattle.std.specs.Prelude.{◌≡◌, ℕ, true}
use Rattle.elf_object.specs.Object.{Object}
use Rattle.hash_model.specs.BuiltHashes.{GnuShape}
use Rattle.elf_lint.specs.Reach.{finds_nothing_at}
use Rattle.law_hash.specs.Built.{HoldsSysv, HoldsGnu}

-- nothing by the rule of its kind
pub record BuiltHaveNoFinding : Type 0 where
  pub sysv : (o : Object) (h nbucket : ℕ) → HoldsSysv o h nbucket → finds_nothing_at 31 o h ≡ true
  pub gnu : (o : Object) (h : ℕ) (shape : GnuShape) → HoldsGnu o h shape
      → finds_nothing_at 32 o h ≡ true
