-- What is made of an object without some of its sections is an object.
use Rattle.std.proofs.Common.{◌≡◌, ℕ, ◌^◌, ◌<◌, ◌≤◌, Bool, true, false, not, ◌&&◌, List, [], ◌∷◌, length, take, Option, Some, None, Ok, refl, ap, ◌∙◌, arith, lit<, ⊎_elim}
use Rattle.std.specs.Prelude.{All, nat_le, if◌then◌else◌, ◌==◌, map}
use Rattle.std.proofs.lemmas.Bool.{and_cases, not-false, eqb-true, leb-false}
use Rattle.std.proofs.lemmas.List.{length-map, length-replicate, length-take}
use Rattle.std.proofs.lemmas.List.Elements.{All-nil, All-take, All-replicate}
use Rattle.elf_types.specs.Answers.{first_refusal}
use Rattle.elf_types.specs.Lists.{AreBytes}
use Rattle.elf_types.specs.declared.records.Part.TheVariants as part
use Rattle.elf_types.specs.declared.errors.ElfError.TheVariants.{NoSection, Unfit}
use Rattle.hash_model.specs.elf_xlate.Headers.{ehdr_fits}
use Rattle.hash_model.proofs.elf_ident.Refusals.{bind_ok, answered_ok}
use Rattle.hash_model.specs.elf_object.Object.{Object, Section}
use Rattle.hash_model.specs.elf_object.Open.{created_over}
use Rattle.hash_model.specs.elf_object.Steps.{stored_ehdr, with_ehdr, with_phdrs, with_layout}
use Rattle.hash_model.specs.elf_object.Calls.{newphdr_refusal, update_ehdr_refusal}
use Rattle.hash_model.specs.elf_object.Valid.{IsSection, IsObject}
use Rattle.hash_model.proofs.elf_object.PassedLaws.{none_first, none_rest, passed_two}
use Rattle.law_object.proofs.RangeLaws.{each_made}
use Rattle.rebuild_model.specs.Followed.{kept_sections, kept_from_1}
use Rattle.rebuild_model.specs.Arranged.{Rebuilt, over_base, arranged}
use Rattle.rebuild_model.specs.Rebuilt.{renews_names, kept_names, kept_refusal, table_refusal, index_refusal, rebuild_refusal, rebuilt, rebuilt_section, rebuilt_sections, rebuilt_index, rebuilt_tail, rebuilt_object, assembled}
use Rattle.law_rebuild.proofs.strip.KeptLaws.{kept_few, followed_small}
use Rattle.law_rebuild.proofs.strip.SectionLaws.{HasSmallTable, rebuilt_section_is}
use Rattle.law_rebuild.proofs.strip.ArrangedLaws.{arranged_keeps, placed_from_is}

-- ---- What is not refused

-- the refusals that did not come, in their order, and what is arranged then
pub record IsRebuilt (o : Object) (removed : List ℕ) (r : Rebuilt) : Type 0 where
  pub segments : newphdr_refusal (length o.phdrs) ≡ None
  pub kept : first_refusal (map (kept_refusal o removed) (kept_from_1 o removed)) ≡ None
  pub index : index_refusal o (rebuilt_sections o removed) (rebuilt_index o removed) ≡ None
  pub names : HasSmallTable o removed
  pub is : arranged (record { object = rebuilt_object o removed; tail = rebuilt_tail o removed })
      ≡ Ok r

pub rebuilt_known : (o : Object) (removed : List ℕ) (r : Rebuilt) → rebuilt o removed ≡ Ok r
    → IsRebuilt o removed r
unfolding rebuilt rebuild_refusal
rebuilt_known o removed r e =
    let made : Rebuilt =
    record { object = rebuilt_object o removed; tail = rebuilt_tail o removed } in
    let names = (if renews_names o removed then table_refusal (kept_names o removed) else None)
    ∷ [] in
    let index = index_refusal o (rebuilt_sections o removed) (rebuilt_index o removed) ∷ names in
    let kept = first_refusal (map (kept_refusal o removed) (kept_from_1 o removed)) ∷ index in
    let whole = bind_ok _ arranged r e in
    let value = answered_ok (first_refusal (newphdr_refusal (length o.phdrs) ∷ kept)) made
    whole.0 whole.1 in
    let rest = none_rest (newphdr_refusal (length o.phdrs)) kept value.0 in
    let later =
    none_rest (first_refusal (map (kept_refusal o removed) (kept_from_1 o removed))) index rest in
    let last =
    none_rest (index_refusal o (rebuilt_sections o removed) (rebuilt_index o removed)) names later
    in
    record {
      segments = none_first (newphdr_refusal (length o.phdrs)) kept value.0;
      kept = none_first
          (first_refusal (map (kept_refusal o removed) (kept_from_1 o removed))) index rest;
      index = none_first
          (index_refusal o (rebuilt_sections o removed) (rebuilt_index o removed)) names later;
      names = none_first
          (if renews_names o removed then table_refusal (kept_names o removed) else None) [] last;
      is = ap arranged value.1 ∙ whole.2;
    }

-- ---- Before its places are given

index_none : (index count : ℕ) → (not (index == 0) && nat_le count index) ≡ false → count ≡ 0
    → index ≡ 0
index_none index count passed none =
    ⊎_elim
    (λ zero_is. eqb-true index 0 (not-false (index == 0) zero_is))
    (λ below. absurd (omega (arith, leb-false count index below)))
    (and_cases (not (index == 0)) (nat_le count index) passed)

-- a string index that is not refused is 0 where there are no sections
no_index : (o : Object) (sections : List Section) (index : ℕ)
    → index_refusal o sections index ≡ None → sections ≡ [] → index ≡ 0
unfolding index_refusal update_ehdr_refusal stored_ehdr
no_index o sections index passed none =
    let tests = passed_two (not (index == 0) && nat_le (length sections) index)
    (not (ehdr_fits (stored_ehdr (record o.header { shnum = length sections })
    (record o.header { shstrndx = index }))))
    (NoSection index (length sections)) (Unfit part.Header 0) passed in
    index_none index (length sections) tests.0 (ap length none)

-- over any base and with any sections
assembled_is : (o : Object) (base : List ℕ) (layout : Bool) (index : ℕ) (sections : List Section)
    → IsObject o → AreBytes base → length base < 2 ^ 64
    → All (IsSection o.header.class) sections → length sections ≤ 2 ^ 20 → index < 2 ^ 32
    → (sections ≡ [] → index ≡ 0)
    → IsObject (assembled
    (with_layout (created_over o.header.class o.header.order base) layout) o index sections)
unfolding assembled with_ehdr stored_ehdr with_phdrs created_over ehdr_fits
assembled_is o base layout index sections ok are small each few low none =
    let segments = ok.phdr_count in
    record {
      header = record {
        osabi = ok.header.osabi;
        abiversion = ok.header.abiversion;
        etype = ok.header.etype;
        machine = ok.header.machine;
        version = lit< tt;
        entry = ok.header.entry;
        phoff = ok.header.phoff;
        shoff = ok.header.shoff;
        flags = ok.header.flags;
        ehsize = lit< tt;
        phentsize = lit< tt;
        phnum = omega (arith, segments);
        shentsize = lit< tt;
        shnum = omega (arith, few);
        shstrndx = low;
      };
      fitting = ok.fitting;
      phnum = refl;
      shnum = refl;
      pad = length-replicate {A = ℕ} 7 0;
      pad_bytes = All-replicate (λ n. n < 2 ^ 8) 7 0 (lit< tt);
      phdr_count = segments;
      sections = each;
      section_count = few;
      string_index = none;
      base = are;
      base_length = small;
      fill = lit< tt;
    }

-- over the base that a tail leaves
pub over_base_is : (o : Object) (tail : Option ℕ) (index : ℕ) (sections : List Section)
    → IsObject o → All (IsSection o.header.class) sections → length sections ≤ 2 ^ 20
    → index < 2 ^ 32 → index_refusal o sections index ≡ None
    → IsObject (assembled (over_base o tail) o index sections)
unfolding over_base created_over
over_base_is o None index sections ok each few low passed =
    assembled_is o [] false index sections ok (All-nil (λ n. n < 2 ^ 8)) (lit< tt) each few low
    (no_index o sections index passed)
over_base_is o (Some tail) index sections ok each few low passed =
    let size = length-take tail o.base in
    let small = ok.base_length in
    assembled_is o (take tail o.base) true index sections ok
    (All-take (λ n. n < 2 ^ 8) tail o.base ok.base) (omega (arith, size, small)) each few low
    (no_index o sections index passed)

pub rebuilt_object_is : (o : Object) (removed : List ℕ) (r : Rebuilt) → IsObject o
    → IsRebuilt o removed r → IsObject (rebuilt_object o removed)
unfolding rebuilt_object rebuilt_sections rebuilt_index
rebuilt_object_is o removed r ok known =
    let count = length-map (kept_sections o removed) (rebuilt_section o removed) in
    let all = ok.section_count in
    over_base_is o (rebuilt_tail o removed) (rebuilt_index o removed)
    (rebuilt_sections o removed) ok
    (each_made (IsSection o.header.class) (rebuilt_section o removed) (kept_sections o removed)
    (λ s. rebuilt_section_is o removed s ok known.names))
    (omega (arith, count, kept_few o removed, all))
    (followed_small o removed o.header.shstrndx ok ok.header.shstrndx) known.index

-- ---- With its places

pub rebuilt_is_object : (o : Object) (removed : List ℕ) (r : Rebuilt) → IsObject o
    → rebuilt o removed ≡ Ok r → IsObject r.object
rebuilt_is_object o removed r ok e =
    let known = rebuilt_known o removed r e in
    let is = rebuilt_object_is o removed r ok known in
    arranged_keeps IsObject
    (record { object = rebuilt_object o removed; tail = rebuilt_tail o removed }) r known.is is
    (λ tail stated passed. placed_from_is (rebuilt_object o removed) tail is passed)
