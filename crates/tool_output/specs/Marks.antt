-- What a tool writes on its two outputs, in the order of writing: bytes, each marked with its
-- output.
use Rattle.std.specs.Prelude.{◌≡◌, ◌++◌, ℕ, List, Bool, true, false, map, filter, Option}
use Rattle.elf_outside.specs.Writes.{Appends}
use Rattle.tool_output.specs.declared.outputs.Side.{Side}
use Rattle.tool_output.specs.declared.outputs.Side.TheVariants.{Out, Error}

-- a byte on one of the two outputs
pub record Mark : Type 0 where
  pub side : Side
  pub byte : ℕ

-- a text on one output
unfoldable pub said : Side → List ℕ → List Mark
said side text = map (λ byte. record { side = side; byte = byte }) text

abbrev pub is_same : Side → Side → Bool
is_same Out Out = true
is_same Error Error = true
is_same _ _ = false

-- what one output has of the marks
unfoldable pub on : Side → List Mark → List ℕ
on side marks = map (λ m. m.byte) (filter (λ m. is_same side m.side) marks)

-- each output gained its own of the marks
pub record Gained (out_old out_new err_old err_new : Option (List ℕ)) (marks : List Mark)
    : Type 0 where
  pub out : Appends out_old out_new (on Out marks)
  pub err : Appends err_old err_new (on Error marks)

-- both outputs gained a front of the marks: the writing stopped at one point of their order
pub record GainedFront (out_old out_new err_old err_new : Option (List ℕ)) (marks : List Mark)
    : Type 0 where
  pub put : List Mark
  pub rest : List Mark
  pub all : marks ≡ put ++ rest
  pub gained : Gained out_old out_new err_old err_new put
