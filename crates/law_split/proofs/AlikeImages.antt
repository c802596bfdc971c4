-- Two images that are the same but for places answer each getter alike (`AlikeImagesAnswerAlike`).
use Rattle.std.proofs.Common.{◌≡◌, ℕ, List, length, Option, None, Result, Ok, ap, ◌∙◌, sym}
use Rattle.std.specs.Prelude.{◌==◌, if◌then◌else◌}
use Rattle.elf_types.specs.declared.records.Phdr.{Phdr}
use Rattle.elf_types.specs.declared.records.Shdr.{Shdr}
use Rattle.elf_types.specs.declared.errors.ElfError.{ElfError}
use Rattle.elf_ident.specs.Front.{zero_shdr}
use Rattle.elf_object.specs.Object.{Object, Section, section_at}
use Rattle.elf_object.specs.Answers.{entry_answer}
use Rattle.elf_object.specs.Calls.{phdr_answer}
use Rattle.elf_object.specs.Strings.{string_answer, readable, section_name}
use Rattle.symbol_lookup.specs.gelf_view.declared.symbols.SymPlace.TheVariants as special
use Rattle.law_split.specs.Getters.{AlikeImagesAnswerAlike}
use Rattle.law_split.proofs.AlikeSections.{IsAlike, link_same, alike_of, zeroth_empty, opened_untouched}
use Rattle.law_split.proofs.Getters.{pieces_same, kind_same, align_same, data_same, raw_same, string_same, half_same, word_same, addr_same, sym_same, rel_same, rela_same, dyn_same, note_same, first_entry_same, verdef_same, verdaux_same, verneed_same, vernaux_same, flags_same}
use Rattle.law_split.proofs.Lookups.{AreAlike, place_same, linear_same, find_sysv_same, find_gnu_same}

-- ---- Names

-- the name of section 0 too, which is at 0 in both
name_same : (a b : Object) (s : ℕ) → a.header.shstrndx ≡ b.header.shstrndx
    → ((t : ℕ) → IsAlike a b t) → section_name a s ≡ section_name b s
unfolding section_name
name_same a b s index alike =
    let named : ℕ → ℕ → Option (List ℕ) =
    λ n place. if n == 0 then None else readable (string_answer a n place) in
    ap (λ (n : ℕ). named n (section_at a s).header.name) index
    ∙ ap (λ (c : Section). named b.header.shstrndx c.header.name) (alike s).section
    ∙ ap (λ (r : Result (List ℕ) ElfError).
    if b.header.shstrndx == 0 then None else readable r)
    (string_same a b b.header.shstrndx (alike b.header.shstrndx) (section_at b s).header.name)

-- ---- The law

phdr_same : (a b : Object) (i : ℕ) → a.phdrs ≡ b.phdrs → phdr_answer a i ≡ phdr_answer b i
unfolding phdr_answer
phdr_same a b i same = ap (λ (l : List Phdr). entry_answer None l i) same

null_type : (h : Shdr) → record h { size = 0; link = 0; info = 0 } ≡ zero_shdr → h.stype ≡ 0
unfolding zero_shdr
null_type h is = ap (λ (x : Shdr). x.stype) is

pub alike_images_answer_alike : AlikeImagesAnswerAlike
alike_images_answer_alike image out a b is_a is_b zeroth same =
    let told : ℕ → Result ℕ ElfError = λ n. Ok n in
    let alike : (s : ℕ) → IsAlike a b s = alike_of image out a b is_a is_b same zeroth in
    let one = opened_untouched image a is_a in
    let other = opened_untouched out b is_b in
    let all : AreAlike a b = record {
      section = alike;
      link = link_same image out a b is_a is_b same;
      none_a = zeroth_empty image a is_a zeroth;
      none_b = zeroth_empty out b is_b same.first;
      null = null_type (section_at b 0).header same.first;
    } in
    record {
      phnum = ap (λ (l : List Phdr). told (length l)) same.phdrs;
      shnum = ap told same.count;
      shstrndx = ap told same.header.shstrndx;
      phdr = λ i. phdr_same a b i same.phdrs;
      flags = λ part. flags_same a b one other alike part;
      fill = ap told (one.fill ∙ sym other.fill);
      pieces = λ s. pieces_same a b s (alike s);
      piece_kind = λ s p. kind_same a b s (alike s) p;
      piece_align = λ s p. align_same a b s (alike s) p;
      section_data = λ s p. data_same a b s (alike s) p;
      raw = λ s. raw_same a b s (alike s);
      half = λ s p i. half_same a b s (alike s) p i;
      word = λ s p i. word_same a b s (alike s) p i;
      addr = λ s p i. addr_same a b s (alike s) p i;
      sym = λ s p i. sym_same a b s (alike s) p i;
      rel = λ s p i. rel_same a b s (alike s) p i;
      rela = λ s p i. rela_same a b s (alike s) p i;
      dynent = λ s p i. dyn_same a b s (alike s) p i;
      note = λ s p at. note_same a b s (alike s) p at;
      first_entry = λ s p. first_entry_same a b s (alike s) p;
      verdef = λ s p at. verdef_same a b s (alike s) p at;
      verdaux = λ s p at. verdaux_same a b s (alike s) p at;
      verneed = λ s p at. verneed_same a b s (alike s) p at;
      vernaux = λ s p at. vernaux_same a b s (alike s) p at;
      symshndx = λ told s p i. place_same a b all special.Special special.Section s p i;
      strptr = λ s offset. string_same a b s (alike s) offset;
      name = λ s. name_same a b s same.header.shstrndx alike;
      find_linear = λ s name. linear_same a b all s name;
      find_sysv = λ h name. find_sysv_same a b all h name;
      find_gnu = λ h name. find_gnu_same a b all h name;
    }
