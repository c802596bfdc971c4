-- What the self test gives for each number of sections (`SelftestLaw`).
use Rattle.std.proofs.Common.{◌≡◌, ℕ, ◌≤◌, List, [], ◌∷◌, length, Ok, refl, sym, ap, ◌∙◌}
use Rattle.std.specs.Prelude.{codes}
use Rattle.elfkit_outcomes.specs.elf_object.Object.{Object}
use Rattle.elfkit_outcomes.specs.elf_object.Image.{image}
use Rattle.elfkit_outcomes.specs.elf_object.Refusal.{refusal}
use Rattle.elfkit_outcomes.specs.law_object.Laws.{ReopenLaw, SettlingKeepsItems}
use Rattle.elfkit_outcomes.specs.rebuild_model.Files.{file_of}
use Rattle.tool_output.specs.Made.{Done, written_outcome, made_file}
use Rattle.elfkit_outcomes.specs.rebuild_model.Generated.{generated_and_shifted}
use Rattle.elfkit_outcomes.specs.Selftest.{selftest_done, selftest_outcome}
use Rattle.law_files.specs.Commands.SelftestSizes.{selftest_lines}
use Rattle.law_files.specs.Commands.SelftestLaw.{SelftestGives, SelftestLaw}
use Rattle.law_files.proofs.commands.GeneratedObject.{shifted_object, shifted_is}
use Rattle.law_files.proofs.commands.GeneratedIs.{generated_object}
use Rattle.law_files.proofs.commands.GeneratedImage.{refusal_passes, length-selftest}
use Rattle.law_files.proofs.commands.GeneratedAgain.{again, reopened}
use Rattle.law_files.proofs.commands.LookupLemmas.{told}

module _
    (reopens : (o : Object) → ReopenLaw o) (keeps : (o : Object) → SettlingKeepsItems o)
    (out : List ℕ) (n : ℕ) (from : 1 ≤ n) (small : n ≤ 60000) where
  written : file_of (shifted_object n) ≡ Ok (image (shifted_object n))
  unfolding file_of
  written = rw (refusal_passes n small) refl

  -- the lines, and an object's image as OUT
  given_of : Object → Done
  given_of o = record { shown = selftest_lines n; writes = made_file out (image o) ∷ [] }

  done_shifted : selftest_done out n ≡ Ok (given_of (shifted_object n))
  unfolding selftest_done given_of
  done_shifted =
      let is = reopened n from small reopens keeps in
      let opens = is.opens in
      let lines = told n (again n from small reopens keeps) from small is (length-selftest n small) in
      rw (shifted_is n, written, opens, lines) refl

  done_is : selftest_done out n ≡ Ok (given_of (generated_and_shifted n))
  done_is = done_shifted ∙ ap (λ o. Ok (given_of o)) (sym (shifted_is n))

  pub gives : SelftestGives out n
  unfolding selftest_outcome written_outcome given_of
  gives = record {
    object = generated_object n small;
    updated = ap refusal (shifted_is n) ∙ refusal_passes n small;
    done = done_is;
    outcome = ap (written_outcome (codes "selftest")) done_is;
    bytes = ap (λ (o : Object). length (image o)) (shifted_is n) ∙ length-selftest n small;
  }

pub selftest_law : ((o : Object) → ReopenLaw o) → ((o : Object) → SettlingKeepsItems o) → SelftestLaw
selftest_law reopens keeps out n from small = gives reopens keeps out n from small
