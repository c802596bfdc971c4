-- What is kept of two halves that match, and why nothing is.
use Rattle.std.proofs.Common.{◌≡◌, ◌-◌, ◌≤◌, ◌&&◌, ◌++◌, ℕ, true, [], length, map, None, Result, Ok, Err, sym, ap, ◌∙◌, subst, arith}
use Rattle.std.specs.List.{range_with_len}
use Rattle.std.specs.Option.{option_map}
use Rattle.std.proofs.lemmas.List.FromFn.{length-map-range_with_len, length-range_with_len}
use Rattle.elf_types.specs.Answers.{first_refusal, answered}
use Rattle.elf_types.specs.declared.errors.ElfError.{ElfError}
use Rattle.elf_types.specs.declared.errors.ElfError.TheVariants.{Memory}
use Rattle.elf_object.specs.Calls.{newphdr_refusal}
use Rattle.elf_object.specs.Layout.{section_numbers}
use Rattle.elf_object.specs.Valid.{IsObject}
use Rattle.rebuild_keep.specs.elf_descriptor.State.{State}
use Rattle.rebuild_keep.proofs.elf_update_plan.PlacingLaws.{passed_from}
use Rattle.rebuild_model.specs.Rebuilt.{index_refusal}
use Rattle.rebuild_model.specs.Split.{combined_section, combined_sections, combined_raw_refusal, combine_fault, matches}
use Rattle.rebuild_model.specs.Split.{UnstripFault as stated}
use Rattle.rebuild_keep.specs.rebuild_making.Refused.{RefusedBy}
use Rattle.rebuild_keep.proofs.rebuild_making.RefusedLaws.{answer_refused}
use Rattle.rebuild_keep.proofs.MakeLaws.{refused_unread}
use Rattle.rebuild_plan.specs.declared.contents.Contents.{Contents}
use Rattle.rebuild_plan.specs.Checks.{index_beyond}
use Rattle.rebuild_plan.proofs.CheckLaws.{index_is, index_states}
use Rattle.rebuild_plan.proofs.KeepingLaws.{none_has, some_has}
use Rattle.rebuild_plan.proofs.WholeLaws.{segments_state}
use Rattle.rebuild_join.specs.declared.joined.faults.UnstripFault.{UnstripFault as Fault}
use Rattle.rebuild_join.specs.declared.joined.faults.UnstripFault.TheVariants as faults
use Rattle.rebuild_join.specs.Joined.Answers.{stated_fault}
use Rattle.rebuild_join.proofs.joined.FaultLaws.{debug_fault, fault_on}
use Rattle.rebuild_join.proofs.joined.FilledLaws.{segments_refused, sections_refused, combine_third}
use Rattle.rebuild_join.specs.Keeping.{joined_header, joined_bytes, AddsAllJoined, ListsJoined, KeepsJoined}
use Rattle.rebuild_join.proofs.AddLaws.{elf_unread, debug_unread}

module _ {S T : Type 0} (s : State S) (d : State T) where
  -- ---- All sections

  pub none_listed : (x : Contents) → length d.o.sections ≡ 0 → x.headers ≡ [] → x.sizes ≡ []
      → ListsJoined s d (Ok x)
  none_listed x none headers sizes = record {
    ok = none_has (s.told && d.told) (s.o.base ++ d.o.base) (joined_header s.o d.o)
        (joined_bytes s.o d.o) (section_numbers d.o) (length d.o.sections) x none headers sizes;
    passed = ap (λ (n : ℕ). first_refusal
        (map (combined_raw_refusal s.o d.o) (range_with_len 1 (n - 1)))) none;
    fault = tt;
    unread = tt;
  }

  pub some_listed : (x : Contents) → IsObject d.o → (length d.o.sections ≡ 0 → ⊥)
      → AddsAllJoined s d (Ok tt) x → ListsJoined s d (Ok x)
  some_listed x is some adds =
      let few : length (section_numbers d.o) ≤ length d.o.sections - 1 =
      let long = length-range_with_len 1 (length d.o.sections - 1) in omega (arith, long) in
      record {
        ok = some_has (s.told && d.told) (s.o.base ++ d.o.base) (joined_header s.o d.o)
            (joined_bytes s.o d.o) (section_numbers d.o) (length d.o.sections) x some
            is.section_count few adds.ok;
        passed = adds.passed;
        fault = tt;
        unread = tt;
      }

  pub not_listed : (f : Fault) (x : Contents) → AddsAllJoined s d (Err f) x
      → ListsJoined s d (Err f)
  not_listed f x adds = record {
    ok = tt;
    passed = tt;
    fault = adds.fault;
    unread = adds.unread;
  }

  pub list_wanted : (e : ElfError) → e ≡ Memory → ListsJoined s d (Err (faults.Elf e))
  list_wanted e want =
      subst (λ (c : ElfError). ListsJoined s d (Err (faults.Elf c))) (sym want)
      (record { ok = tt; passed = tt; fault = tt; unread = tt })

  -- ---- What else is refused

  module _ (same : matches s.o d.o ≡ true) where
    pub many_segments : (e : ElfError) (n : ℕ) → n ≡ length s.o.phdrs
        → ◌≡◌ {A = Result (Unit {0}) ElfError} (Err e) (answered (newphdr_refusal n) tt)
        → KeepsJoined s d (Err (faults.Elf e))
    many_segments e n at came =
        let by : RefusedBy (newphdr_refusal n) e =
        answer_refused (newphdr_refusal n) (tt {0}) e (segments_state n) came in
        record {
          ok = tt;
          passed = tt;
          fault = segments_refused s.o d.o same e
              (subst (λ (m : ℕ). RefusedBy (newphdr_refusal m) e) at by);
          unread = elf_unread (newphdr_refusal n) e by;
        }

    module _ (few : newphdr_refusal (length s.o.phdrs) ≡ None) where
      pub not_kept : (f : Fault) → ListsJoined s d (Err f) → KeepsJoined s d (Err f)
      not_kept f lists = record {
        ok = tt;
        passed = tt;
        fault = sections_refused s.o d.o same few (stated_fault f) lists.fault;
        unread = lists.unread;
      }

      module _ (x : Contents) (is : IsObject s.o) (lists : ListsJoined s d (Ok x)) (i count : ℕ)
          (index_as : i ≡ d.o.header.shstrndx) (count_as : count ≡ length d.o.sections) where
        index_stated : index_refusal s.o (combined_sections s.o d.o) d.o.header.shstrndx
            ≡ index_beyond i count
        index_stated =
            index_is s.o (combined_sections s.o d.o) d.o.header.shstrndx is
            ∙ ap (λ (j : ℕ). index_beyond j (length (combined_sections s.o d.o))) (sym index_as)
            ∙ ap (index_beyond i)
            (length-map-range_with_len (combined_section s.o d.o) 0 (length d.o.sections)
            ∙ sym count_as)

        fault_is : combine_fault s.o d.o ≡ option_map stated.Debug (index_beyond i count)
        fault_is =
            combine_third s.o d.o same few lists.passed
            ∙ ap (option_map stated.Debug) index_stated

        pub joined_kept : ◌≡◌ {A = Result (Unit {0}) ElfError} (Ok tt)
            (answered (index_beyond i count) tt) → KeepsJoined s d (Ok x)
        joined_kept came = record {
          ok = lists.ok;
          passed = fault_is ∙ ap (option_map stated.Debug) (passed_from (index_beyond i count) came);
          fault = tt;
          unread = tt;
        }

        pub no_index : (e : ElfError) → ◌≡◌ {A = Result (Unit {0}) ElfError} (Err e)
            (answered (index_beyond i count) tt) → KeepsJoined s d (Err (faults.Debug e))
        no_index e came =
            let by : RefusedBy (index_beyond i count) e =
            answer_refused (index_beyond i count) (tt {0}) e (index_states i count) came in
            record {
              ok = tt;
              passed = tt;
              fault = fault_on (option_map stated.Debug (index_beyond i count))
                  (combine_fault s.o d.o) (stated.Debug e) (λ is. fault_is ∙ is)
                  (debug_fault (index_beyond i count) e
                  (refused_unread (index_beyond i count) e by));
              unread = debug_unread (index_beyond i count) e by;
            }
