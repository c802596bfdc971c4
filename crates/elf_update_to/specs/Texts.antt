-- What goes to a sink through a page: a text waits in the page, and is put page by page.
use Rattle.std.specs.Prelude.{◌≡◌, ℕ, Bool, IsTrue, List, ◌++◌, length, Option, Result, OnOk, OnErr}
use Rattle.elf_types.specs.declared.errors.ElfError.{ElfError}
use Rattle.elf_update_plan.specs.elf_outside.Writes.{Appends, AppendsFront}
use Rattle.elf_update_plan.specs.elf_outside.Puts.{UsesSink}
use Rattle.elf_update_plan.specs.elf_outside.declared.sinks.Sink.{Ghosts}

-- a text is the stated one where the bytes are told, and else as long
pub record IsText (told : Bool) (stated text : List ℕ) : Type 0 where
  pub long : length text ≡ length stated
  pub exact : IsTrue told → text ≡ stated

-- what waited and the text were put, or wait now
pub record Streams (old new : Option (List ℕ)) (waited waits text : List ℕ) : Type 0 where
  pub put : List ℕ
  pub appends : Appends old new put
  pub all : waited ++ text ≡ put ++ waits

-- a step that puts a text through a page: an Ok has put it, or it waits; a refusal has put a front
-- of what waited and of the text
pub record Flows {K T : Type 0} (k : Ghosts K) (result : Result T ElfError) (sink next : K)
    (waited waits text : List ℕ) : Type 0 where
  pub uses : UsesSink k result sink next
  pub ok : OnOk result (Streams (k.wrote sink) (k.wrote next) waited waits text)
  pub err : OnErr result (AppendsFront (k.wrote sink) (k.wrote next) (waited ++ text))
