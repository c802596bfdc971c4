-- What shared bytes are made of: the stretches of a text, and behind them the rest of the text from
-- a place on.
use Rattle.std.specs.Prelude.{◌≡◌, ℕ, ◌+◌, ◌<◌, ◌≤◌, ◌^◌, List, ◌++◌, length, drop, Result, OnOk, OnErr, IfErr}
use Rattle.elf_types.specs.declared.errors.ElfError.{ElfError}
use Rattle.elf_types.specs.declared.errors.ElfError.TheVariants.{Memory}
use Rattle.strtab_shared.specs.Bytes.Stretches.{stretched, StandFrom}
use Rattle.strtab_shared.specs.declared.bytes.parts.StretchParts.{StretchParts}

-- the bytes
abbrev pub whole : StretchParts → List ℕ
whole p = stretched p.text p.stretches ++ drop p.tail p.text

-- the stretches stand, and the bytes can be counted
pub record AreKept (p : StretchParts) : Type 0 where
  pub stand : StandFrom p.text 0 p.stretches
  pub count : p.count ≡ length (stretched p.text p.stretches)
  pub inside : p.tail ≤ length p.text
  pub small : p.count + length p.text < 2 ^ 64 + p.tail

-- bytes were put behind the others, or memory is wanted, and then they are as before
pub record PutsBehind (bytes : List ℕ) (result : Result (Unit {0}) ElfError)
    (old new : StretchParts)
    : Type 0 where
  pub kept : AreKept new
  pub ok : OnOk result (whole new ≡ whole old ++ bytes)
  pub unchanged : OnErr result (whole new ≡ whole old)
  pub err : IfErr result (λ e. e ≡ Memory)

-- the bytes stay, and nothing of the text stands behind the stretches any more
pub record ClosesStretches (text : List ℕ) (result : Result (Unit {0}) ElfError)
    (old new : StretchParts)
    : Type 0 where
  pub kept : AreKept new
  pub same : whole new ≡ whole old
  pub text_is : OnOk result (new.text ≡ text)
  pub closed : OnOk result (new.tail ≡ length new.text)
  pub err : IfErr result (λ e. e ≡ Memory)
