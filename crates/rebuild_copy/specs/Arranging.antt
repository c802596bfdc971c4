-- The places of an image that was changed, given again (gABI chapter 4, "Section Header",
-- sh_offset and sh_addralign).
use Rattle.std.specs.Prelude.{◌≡◌, ◌⊎◌, None, Some, Result, IfOk, IfErr}
use Rattle.elf_types.specs.declared.errors.ElfError.{ElfError}
use Rattle.elf_types.specs.declared.errors.ElfError.TheVariants.{Memory, TooLarge}
use Rattle.elf_object.specs.Object.{Object}
use Rattle.rebuild_edits.specs.rebuild_making.Placing.{arranged_refusal}
use Rattle.rebuild_plan.specs.declared.arranged.Arranged.{Arranged}
use Rattle.rebuild_plan.specs.Plans.{arranged_object, IsListable}
use Rattle.rebuild_copy.specs.Rows.{Origin, IsListedAs}

-- an object that is listed may have its places, and with them it is listed so
pub record IsPlacedAs (o : Origin) (p : Object) (x next : Arranged) : Type 0 where
  pub passed : arranged_refusal p x.tail ≡ None
  pub listed : IsListedAs o (arranged_object p x.tail) next

-- a place is refused
pub record IsTooFar (x : Arranged) (e : ElfError) : Type 0 where
  pub error : e ≡ TooLarge
  pub refused : (o : Origin) (p : Object) → IsListedAs o p x
      → arranged_refusal p x.tail ≡ Some TooLarge

-- the ranges stay
pub record HasSameRanges (x next : Arranged) : Type 0 where
  pub ranges : next.ranges ≡ x.ranges
  pub tail_is : next.tail ≡ x.tail

-- the places are given, or refused
pub record PlacesAgain (x : Arranged) (result : Result Arranged ElfError) : Type 0 where
  pub ok : IfOk result (λ next. (o : Origin) (p : Object) → IsListedAs o p x
      → IsPlacedAs o p x next)
  pub small : IfOk result IsListable
  pub stays : IfOk result (HasSameRanges x)
  pub err : IfErr result (λ e. (e ≡ Memory) ⊎ IsTooFar x e)
