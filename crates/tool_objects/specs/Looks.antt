-- How a tool looks at the sections of an object.
use Rattle.std.specs.Prelude.{ℕ, Bool, true, false}

-- A tool that reads sections asks for each home once. Where homes overlap it lets go of each
-- section that it went over, and each of its passes over them may ask for each home once more.
pub record SectionLooks : Type 0 where
  pub reads : Bool  -- whether it reads homes of sections
  pub passes : ℕ  -- how many passes over the sections it makes

-- by a tool that reads no sections
abbrev pub no_look : SectionLooks
no_look = record { reads = false; passes = 0 }

-- by one that reads some, and makes so many passes over all of them
abbrev pub looks_over : ℕ → SectionLooks
looks_over passes = record { reads = true; passes = passes }
