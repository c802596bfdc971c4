-- The calls of the lines that are read, and the lines that are left.
use Rattle.std.proofs.Common.{◌≡◌, ◌+◌, ◌≤◌, ◌++◌, ◌==◌, ℕ, Bool, List, [], ◌∷◌, length, Option, Some, None, option_to_list, IfSome, Result, Ok, Err, refl, sym, ap, ◌∙◌, append_assoc, append-nil, arith}
use Rattle.std.specs.Str.{byte}
use Rattle.std.proofs.lemmas.List.Splits.{length-slice_split}
use Rattle.std.proofs.lemmas.List.Sums.{count_by-le-length}
use Rattle.std.proofs.lemmas.Option.{IfSome_then}
use Rattle.elf_types.specs.Answers.{◌>>=◌}
use Rattle.elf_calls_script.specs.declared.calls.Call.{Call}
use Rattle.elf_calls_script.specs.declared.faults.Why.{Why}
use Rattle.elf_calls_script.specs.declared.faults.ScriptFault.{ScriptFault}
use Rattle.elf_calls_script.specs.Left.{pieces_left}
use Rattle.elf_calls_script.specs.Parts.{pieces_between}
use Rattle.elf_calls_script.specs.Script.{calls_from, line_call, lines_of, stated_script_fault}

-- the calls of a script are those read so far and those of the lines that are left
pub record ReadSoFar (bytes : List ℕ) (calls : List Call) (number : ℕ) (rest : Option (List ℕ)) : Type 0 where
  pub whole : calls_from 1 (lines_of bytes) ≡ (calls_from (number + 1) (pieces_left (byte "\n") rest) >>= λ more. Ok (calls ++ more))
  pub counted : number + length (pieces_left (byte "\n") rest) ≤ length bytes + 1

none_before : (r : Result (List Call) (ℕ × Why)) → r ≡ (r >>= λ more. Ok ([] ++ more))
none_before (Ok more) = refl
none_before (Err e) = refl

call_before : (a b : List Call) (r : Result (List Call) (ℕ × Why))
    → ((r >>= λ more. Ok (b ++ more)) >>= λ more. Ok (a ++ more)) ≡ (r >>= λ more. Ok ((a ++ b) ++ more))
call_before a b (Ok more) = ap (λ l. Ok l) (sym (append_assoc a b more))
call_before a b (Err e) = refl

pub read_begin : (bytes : List ℕ) → ReadSoFar bytes [] 0 (Some bytes)
read_begin bytes = record {
  whole = none_before (calls_from 1 (lines_of bytes));
  counted =
      let p : ℕ → Bool = λ b. b == byte "\n" in
      omega (arith, length-slice_split p bytes, count_by-le-length p bytes);
}

pub read_more : (bytes : List ℕ) (calls : List Call) (number : ℕ) (text line : List ℕ) (after : Option (List ℕ)) (call : Option Call)
    → ReadSoFar bytes calls number (Some text)
    → pieces_between (byte "\n") text ≡ line ∷ pieces_left (byte "\n") after
    → line_call (number + 1) line ≡ Ok call
    → ReadSoFar bytes (calls ++ option_to_list call) (number + 1) after
unfolding calls_from
read_more bytes calls number text line after call s cut is = record {
  whole = let whole = rw cut at s.whole in whole ∙ rw is (call_before calls (option_to_list call) (calls_from (number + 1 + 1) (pieces_left (byte "\n") after)));
  counted = let fewer = rw cut at s.counted in omega arith;
}

refused_line : (bytes : List ℕ) (calls : List Call) (number : ℕ) (text line : List ℕ) (after : Option (List ℕ)) (fault : ℕ × Why)
    → ReadSoFar bytes calls number (Some text)
    → pieces_between (byte "\n") text ≡ line ∷ pieces_left (byte "\n") after
    → line_call (number + 1) line ≡ Err fault
    → calls_from 1 (lines_of bytes) ≡ Err fault
unfolding calls_from
refused_line bytes calls number text line after fault s cut is =
    let whole = rw cut at s.whole in whole ∙ rw is refl

pub read_refused : (bytes : List ℕ) (calls : List Call) (number : ℕ) (text line : List ℕ) (after : Option (List ℕ)) (fault : ScriptFault)
    → ReadSoFar bytes calls number (Some text)
    → pieces_between (byte "\n") text ≡ line ∷ pieces_left (byte "\n") after
    → IfSome (stated_script_fault fault) (λ d. line_call (number + 1) line ≡ Err d)
    → IfSome (stated_script_fault fault) (λ d. calls_from 1 (lines_of bytes) ≡ Err d)
read_refused bytes calls number text line after fault s cut h =
    IfSome_then (stated_script_fault fault) h (λ d is. refused_line bytes calls number text line after d s cut is)

pub read_end : (bytes : List ℕ) (calls : List Call) (number : ℕ) → ReadSoFar bytes calls number None
    → calls_from 1 (lines_of bytes) ≡ Ok calls
unfolding calls_from
read_end bytes calls number s = s.whole ∙ ap (λ l. Ok l) (append-nil calls)
