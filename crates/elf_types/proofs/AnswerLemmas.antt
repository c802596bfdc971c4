-- Answers that are the stated ones.
use Rattle.std.proofs.Common.{◌≡◌, Option, Result, Ok, Err, ap}
use Rattle.std.proofs.lemmas.Option.{IfSome_then}
use Rattle.elf_types.specs.declared.errors.ElfError.{ElfError}
use Rattle.elf_types.specs.declared.errors.ElfError.TheVariants.{Memory, Read}
use Rattle.elf_types.specs.Answers.{◌>>=◌, FollowsBy, Follows}

-- the stated answer itself
pub follows_same : {T : Type 0} (r stated : Result T ElfError) → stated ≡ r → Follows r stated
follows_same (Ok x) stated e = e
follows_same (Err Memory) stated e = tt
follows_same (Err Read) stated e = tt
follows_same (Err d) stated e = e

-- what refuses a step refuses the steps from it on, however their answers are seen
pub refused_then : {X Y U Z E D : Type 0} (view : X → Y) (seen : U → Z) (stated_by : E → Option D) (e : E) (stated : Result Y D) (next : Y → Result Z D)
    → FollowsBy view stated_by (Err e) stated → FollowsBy seen stated_by (Err e) (stated >>= next)
refused_then view seen stated_by e stated next h = IfSome_then (stated_by e) h (λ d is. ap (λ r. r >>= next) is)
