-- A script: lines, each ended by a newline, of which the last one may have none.
use Rattle.std.specs.Prelude.{◌+◌, ◌==◌, ◌||◌, ◌++◌, ℕ, Bool, List, [], ◌∷◌, length, slice_index, nat_lt, Option, Some, None, option_to_list, Result, Ok, Err, if◌then◌else◌}
use Rattle.std.specs.Str.{byte}
use Rattle.elf_types.specs.Answers.{FollowsBy, or_refused, ◌>>=◌}
use Rattle.elf_calls_script.specs.declared.script.TheConstants.{MAX_SCRIPT}
use Rattle.elf_calls_script.specs.declared.calls.Call.{Call}
use Rattle.elf_calls_script.specs.declared.faults.Why.{Why}
use Rattle.elf_calls_script.specs.declared.faults.Why.TheVariants.{TooLong, BadCall, BadNumber}
use Rattle.elf_calls_script.specs.declared.faults.ScriptFault.{ScriptFault}
use Rattle.elf_calls_script.specs.declared.faults.ScriptFault.TheVariants.{Memory, Line}
use Rattle.elf_types.specs.Tables.{value_in}
use Rattle.elf_calls_script.specs.Parts.{Phrase, pieces_between, words_of, no_words_left}
use Rattle.elf_calls_script.specs.Lines.{calls}

-- an empty line, and one that begins with `#`, is passed over
abbrev pub is_passed_over : List ℕ → Bool
is_passed_over line = length line == 0 || slice_index line 0 == byte "#"

-- what the first word of a line says, with the words after it
abbrev pub call_at : Phrase Call
call_at [] = Err BadCall
call_at (w ∷ ws) = or_refused (value_in calls w) BadCall >>= λ part. part ws

-- the call of a line: its first word is one of the calls; then the form of all words is that of the
-- call; and then each number is in its range
unfoldable pub call_of : List (List ℕ) → Result Call Why
call_of words = do
  read ← call_at words
  end ← no_words_left read.1
  or_refused read.0 BadNumber

-- a cause, with the number of its line
abbrev pub on_line : {X : Type 0} → ℕ → Result X Why → Result X (ℕ × Why)
on_line n (Ok x) = Ok x
on_line n (Err why) = Err (n, why)

-- the call of a line with a number, if it is not passed over
unfoldable pub line_call : ℕ → List ℕ → Result (Option Call) (ℕ × Why)
line_call n line =
    if is_passed_over line then Ok None
    else (on_line n (call_of (words_of line)) >>= λ call. Ok (Some call))

-- the calls of lines, of which the first has a number: the first bad line counts
unfoldable pub calls_from : ℕ → List (List ℕ) → Result (List Call) (ℕ × Why)
calls_from n [] = Ok []
calls_from n (line ∷ lines) = do
  call ← line_call n line
  later ← calls_from (n + 1) lines
  Ok (option_to_list call ++ later)

-- The lines of a script. Behind the newline of the last one stands an empty line, which is passed
-- over.
abbrev pub lines_of : List ℕ → List (List ℕ)
lines_of bytes = pieces_between (byte "\n") bytes

-- the calls of a script, or its first bad line, from 1, and why; 0 where it is too long
unfoldable pub calls_of : List ℕ → Result (List Call) (ℕ × Why)
calls_of bytes =
    if nat_lt MAX_SCRIPT (length bytes) then Err (0, TooLong) else calls_from 1 (lines_of bytes)

-- a fault that a definition states, or None where memory ran out
abbrev pub stated_script_fault : ScriptFault → Option (ℕ × Why)
stated_script_fault Memory = None
stated_script_fault (Line line why) = Some (line, why)

-- what the reader answered is what the script says, unless memory ran out
abbrev pub ScriptFollows : Result (List Call) ScriptFault → Result (List Call) (ℕ × Why) → Type 0
ScriptFollows result stated = FollowsBy (λ calls. calls) stated_script_fault result stated
