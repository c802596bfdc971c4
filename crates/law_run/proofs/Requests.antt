-- What words ask for.
use Rattle.std.proofs.Common.{◌≡◌, ℕ, List, [], ◌∷◌, Option, Some, None, Result, Ok, refl, ap}
use Rattle.std.specs.Option.{ok_or}
use Rattle.elf_outside.specs.Names.{Map}
use Rattle.elfkit_run.specs.elfkit_words.declared.notices.Notice.{Notice}
use Rattle.elfkit_run.specs.elfkit_words.declared.usages.Usage.{Usage}
use Rattle.elfkit_run.specs.elfkit_words.Notices.{notice_named}
use Rattle.elfkit_run.specs.elfkit_words.Usages.{command_named}
use Rattle.elfkit_run.specs.elfkit_words.declared.commands.Command.{Command}
use Rattle.elfkit_run.specs.elfkit_words.declared.commands.Request.{Request}
use Rattle.elfkit_run.specs.elfkit_words.declared.commands.Request.TheVariants.{Run}
use Rattle.elfkit_run.specs.elfkit_words.Forms.{IsWellFormed}
use Rattle.elfkit_run.specs.elfkit_words.Reading.{request_of, request_of_words}
use Rattle.elfkit_run.proofs.elfkit_words.FormsHold.{read_form}
use Rattle.elfkit_run.specs.Program.{command_outcome, request_outcome, outcome_by, program}

-- ---- Words

-- the words after the first one, which names a command
pub record IsRequest (words : List (List ℕ)) (command : Command) : Type 0 where
  pub usage : Usage
  pub name : List ℕ
  pub rest : List (List ℕ)
  pub words_are : words ≡ name ∷ rest
  pub asked : request_of usage rest ≡ Some (Run command)

request_ok : (found : Option Request) (usage : Usage) (command : Command)
    → ok_or found usage ≡ Ok (Run command) → found ≡ Some (Run command)
request_ok None usage command e = cc
request_ok (Some request) usage command e =
    let same : request ≡ Run command = cc in ap (λ (r : Request). Some r) same

pub request_known : (words : List (List ℕ)) (command : Command) → request_of_words words ≡ Ok (Run command)
    → IsRequest words command
unfolding request_of_words
request_known [] command e = absurd (cc)
request_known (name ∷ rest) command e = by_notice (notice_named name) refl
  where
    by_usage : (found : Option Usage) → notice_named name ≡ None → command_named name ≡ found
        → IsRequest (name ∷ rest) command
    by_usage None other is = let asked = rw (other, is) at e in absurd (cc)
    by_usage (Some usage) other is =
        let asked = rw (other, is) at e in
        record {
          usage = usage;
          name = name;
          rest = rest;
          words_are = refl;
          asked = request_ok (request_of usage rest) usage command asked;
        }

    by_notice : (found : Option Notice) → notice_named name ≡ found
        → IsRequest (name ∷ rest) command
    by_notice None is = by_usage (command_named name) is refl
    by_notice (Some notice) is = let asked = rw is at e in absurd (cc)

pub well_formed : (words : List (List ℕ)) (command : Command) → request_of_words words ≡ Ok (Run command)
    → IsWellFormed command
well_formed words command e =
    let is = request_known words command e in read_form is.usage is.rest (Run command) is.asked

-- what a command of such words is to do
pub command_stated : (words : List (List ℕ)) (command : Command) (named : Map)
    → request_of_words words ≡ Ok (Run command) → program words named ≡ command_outcome command named
unfolding program outcome_by request_outcome
command_stated words command named asked =
    ap (λ (r : Result Request Usage). outcome_by r named) asked
