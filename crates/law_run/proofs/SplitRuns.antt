-- A run of strip -f that is done, and one of unstrip of the two files that it made.
use Rattle.std.proofs.Common.{◌≡◌, ◌⊎◌, inl, inr, ℕ, ◌<◌, List, [], Option, Some, IfSome, Ok, refl, sym, ap, ◌∙◌, subst, arith}
use Rattle.std.specs.Prelude.{codes}
use Rattle.tool_output.specs.declared.statuses.Status.{Status}
use Rattle.tool_output.specs.declared.statuses.Status.TheVariants as status
use Rattle.tool_output.specs.Reports.{refusal_report, shown_report}
use Rattle.tool_output.specs.Statuses.{status_code}
use Rattle.tool_output.specs.Outcomes.{FileWrite, Outcome, write_of, held_after}
use Rattle.tool_output.specs.Made.{made_file_alone, written_outcome}
use Rattle.elfkit_run.specs.elfkit_words.declared.commands.Command.TheVariants.{Strip, Unstrip}
use Rattle.elfkit_run.specs.elfkit_words.Forms.{ThreeDiffer}
use Rattle.elfkit_outcomes.specs.Strip.{strip_outcome, unstrip_outcome}
use Rattle.law_split.specs.Files.SplitFiles.{WasSplit, too_large_outcome, Rejoins, SplitFilesRejoin}
use Rattle.law_files.proofs.strip.Written.{first_found}
use Rattle.elfkit_run.specs.Program.{command_outcome, program}
use Rattle.law_run.specs.Rejoined.{SplitsAndJoins, BothStay, EndsRejoined, RunsRejoin}
use Rattle.law_run.specs.Runs.{Around, Ran}
use Rattle.law_run.proofs.Requests.{command_stated, well_formed}
use Rattle.law_run.proofs.Written.{IsRunOf}

-- ---- Outcomes that say little

too_large_status : (stripped : List ℕ) → (too_large_outcome stripped).status ≡ 1
unfolding written_outcome refusal_report
too_large_status stripped = refl

joined_status : (out bytes : List ℕ)
    → (written_outcome (codes "unstrip") (Ok (made_file_alone out bytes))).status ≡ 0
unfolding written_outcome shown_report
joined_status out bytes = refl

joined_held : (out bytes : List ℕ) (old : Option (List ℕ))
    → held_after (write_of (written_outcome (codes "unstrip") (Ok (made_file_alone out bytes))).writes out) old
    ≡ Some bytes
unfolding written_outcome
joined_held out bytes old =
    ap (λ (w : Option FileWrite). held_after w old) (first_found out bytes [])

-- ---- Both runs

module _ (law : SplitFilesRejoin) (split join : List (List ℕ)) (first second : Status)
    (one other : Around) (one_ran : Ran split first one) (other_ran : Ran join second other)
    (is : SplitsAndJoins split join first one.named_old)
    (stay : BothStay is.options.out is.debug one.named_new other.named_old) where
  split_run : IsRunOf (strip_outcome is.options one.named_old is.file) first one
  unfolding command_outcome
  split_run =
      let stated : program split one.named_old ≡ strip_outcome is.options one.named_old is.file =
      command_stated split (Strip is.options is.file) one.named_old is.asked in
      subst (λ (x : Outcome). IsRunOf x first one) stated one_ran

  below : status_code first < 3
  below = let code : status_code first ≡ 0 = ap status_code is.done in omega (arith, code)

  apart : ThreeDiffer is.options.out is.file is.debug
  apart =
      let form = well_formed split (Strip is.options is.file) is.asked in
      subst (λ (d : Option (List ℕ)). IfSome d (λ x. ThreeDiffer is.options.out is.file x))
      is.has_debug form.1

  was : WasSplit is.options one.named_old is.file is.image is.whole other.named_old is.options.out
      is.debug
  was = record {
    held = is.held;
    bytes = is.bytes;
    is_whole = is.is_whole;
    first = is.zeroth;
    debug_out = is.debug;
    asked = is.has_debug;
    apart = apart.third_differs;
    ended = sym (split_run.status_is below) ∙ ap status_code is.done;
    stripped_held = stay.stripped_stays ∙ split_run.files below is.options.out;
    debug_held = stay.debug_stays ∙ split_run.files below is.debug;
  }

  abbrev joining : Outcome
  joining = unstrip_outcome other.named_old is.out is.options.out is.debug

  join_run : IsRunOf joining second other
  unfolding command_outcome
  join_run =
      let stated : program join other.named_old ≡ joining =
      command_stated join (Unstrip is.out is.options.out is.debug) other.named_old is.asked_back in
      subst (λ (x : Outcome). IsRunOf x second other) stated other_ran

  -- its status is that of the outcome
  not_done : (x : Outcome) → IsRunOf x second other → x.status ≡ 1 → second ≡ status.Done → ⊥
  not_done x run refused done =
      let code : status_code second ≡ 0 = ap status_code done in
      let same = run.status_is (omega (arith, code)) in
      absurd (omega (arith, code, same, refused))

  not_refused : (x : Outcome) → IsRunOf x second other → x.status ≡ 0
      → second ≡ status.Refused → ⊥
  not_refused x run done refused =
      let code : status_code second ≡ 1 = ap status_code refused in
      let same = run.status_is (omega (arith, code)) in
      absurd (omega (arith, code, same, done))

  abbrev Ends : Type 0
  Ends = EndsRejoined is.whole is.out is.options.out second other

  too_large : IsRunOf (too_large_outcome is.options.out) second other → Ends
  too_large run = record {
    joined = λ done.
        absurd (not_done (too_large_outcome is.options.out) run
        (too_large_status is.options.out) done);
    refused = λ refused.
        let code : status_code second ≡ 1 = ap status_code refused in
        run.whole (omega (arith, code));
  }

  rejoined : (back : Rejoins is.whole is.out joining)
      → IsRunOf (written_outcome (codes "unstrip") (Ok (made_file_alone is.out back.bytes))) second other
      → Ends
  rejoined back run = record {
    joined = λ done.
        let code : status_code second ≡ 0 = ap status_code done in
        record {
          bytes = back.bytes;
          is_held = run.files (omega (arith, code)) is.out
              ∙ joined_held is.out back.bytes (other.named_old is.out);
          object = back.object;
          opens = back.opens;
          same = back.same;
          answers = back.answers;
        };
    refused = λ refused.
        absurd (not_refused (written_outcome (codes "unstrip") (Ok (made_file_alone is.out back.bytes))) run
        (joined_status is.out back.bytes) refused);
  }

  ends : Ends
  ends =
      by_end (law is.options one.named_old is.file is.image is.whole other.named_old is.out
      is.options.out is.debug was)
    where
      by_end : (joining ≡ too_large_outcome is.options.out) ⊎ Rejoins is.whole is.out joining
          → Ends
      by_end (inl large) =
          too_large (subst (λ (x : Outcome). IsRunOf x second other) large join_run)
      by_end (inr back) =
          rejoined back (subst (λ (x : Outcome). IsRunOf x second other) back.is join_run)

pub runs_rejoin : SplitFilesRejoin → RunsRejoin
runs_rejoin law split join first second one other one_ran other_ran is stay =
    ends law split join first second one other one_ran other_ran is stay
