-- Passing over operands, one after the other.
use Rattle.std.proofs.Common.{◌≡◌, ℕ, suc, ◌+◌, ◌-◌, ◌<◌, false, List, Result, Ok, Err, IfSome, refl, sym, ◌∙◌, arith}
use Rattle.line_table.specs.declared.faults.LineWhy.{LineWhy}
use Rattle.line_table.specs.declared.faults.UnitFault.{UnitFault}
use Rattle.line_table.specs.declared.faults.UnitFault.TheVariants.{Memory, Why}
use Rattle.elf_types.specs.Answers.{◌>>=◌}
use Rattle.line_table.specs.Reading.{leb128_at}
use Rattle.line_table.specs.Program.{passed}
use Rattle.line_table.specs.Outcomes.{why_of}

-- the operands to come are one and those after it
next_operand : (count i : ℕ) (bytes : List ℕ) → i < count → passed (count - i) bytes ≡ (leb128_at false bytes >>= λ operand. passed (count - (i + 1)) operand.1)
next_operand count i bytes lt = let k : count - i ≡ suc (count - (i + 1)) = omega arith in rw k refl

pub passed_more : (count i : ℕ) (bytes rest : List ℕ) (n : ℕ) (total : Result (List ℕ) LineWhy) → i < count → leb128_at false bytes ≡ Ok (n, rest)
    → passed (count - i) bytes ≡ total → passed (count - (i + 1)) rest ≡ total
passed_more count i bytes rest n total lt e so_far = sym (next_operand count i bytes lt ∙ rw e refl) ∙ so_far

pub passed_refused : (e : UnitFault) (count i : ℕ) (bytes : List ℕ) (total : Result (List ℕ) LineWhy) → i < count → IfSome (why_of e) (λ w. leb128_at false bytes ≡ Err w) → passed (count - i) bytes ≡ total → IfSome (why_of e) (λ w. total ≡ Err w)
passed_refused Memory count i bytes total lt h so_far = tt
passed_refused (Why why) count i bytes total lt h so_far = sym so_far ∙ (next_operand count i bytes lt ∙ rw h refl)
