-- The statuses of the program, by their numbers.
use Rattle.std.specs.Prelude.{ℕ, Bool, Result, Ok, Err, if◌then◌else◌}
use Rattle.tool_output.specs.declared.statuses.Status.{Status}
use Rattle.tool_output.specs.declared.statuses.Status.TheVariants.{Done, Refused, BadWords, ReadFailed, WriteFailed, NoMemory}
use Rattle.tool_output.specs.declared.stops.Stop.{Stop}
use Rattle.tool_output.specs.declared.stops.Stop.TheVariants.{Read, Write, Memory}

abbrev pub status_code : Status → ℕ
status_code Done = 0
status_code Refused = 1
status_code BadWords = 2
status_code ReadFailed = 3
status_code WriteFailed = 4
status_code NoMemory = 5

-- of a command that came to its end, by whether something was refused
abbrev pub refused_status : Bool → ℕ
refused_status refused = if refused then 1 else 0

-- of one that stopped
abbrev pub stop_status : Stop → ℕ
stop_status Read = 3
stop_status Write = 4
stop_status Memory = 5

-- of one that is over, by the status of its answer
abbrev pub ended_status : {T : Type 0} → (T → ℕ) → Result T Stop → ℕ
ended_status code (Ok answer) = code answer
ended_status code (Err stop) = stop_status stop
