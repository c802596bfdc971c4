-- A section whose one piece is its home: what stands in it, and the strings that are read there.
use Rattle.std.proofs.Common.{◌≡◌, ℕ, ◌+◌, ◌-◌, ◌<◌, Bool, true, false, List, [], ◌∷◌, length, drop, Option, Some, None, Result, Ok, Err, refl, sym, ap, ◌∙◌, arith}
use Rattle.std.specs.Prelude.{not, nat_le, nat_lt, ◌&&◌, if◌then◌else◌}
use Rattle.std.proofs.lemmas.Bool.{lt-leb, lt-ltb, le-leb}
use Rattle.elf_types.specs.Answers.{refused_if, first_refusal, answered}
use Rattle.elf_types.specs.declared.errors.ElfError.{ElfError}
use Rattle.elf_types.specs.declared.errors.ElfError.TheVariants.{OutOfFile, Ragged, Unended}
use Rattle.elf_types.specs.Kinds.{section_kind}
use Rattle.elf_types.specs.declared.records.Kind.{Kind}
use Rattle.elf_types.specs.declared.records.Kind.TheVariants as kinds
use Rattle.elf_types.specs.declared.records.Shdr.{Shdr}
use Rattle.elf_xlate.specs.declared.content.Items.{Items}
use Rattle.elf_xlate.specs.Translation.{decoded}
use Rattle.elf_layout.specs.Layout.{rounded_up}
use Rattle.strtab_build.specs.Table.{string_at}
use Rattle.elfkit_outcomes.specs.elf_object.Blocks.{Block, block_covers, block_end, stacked}
use Rattle.elfkit_outcomes.specs.elf_object.Object.{Object, Section, section_at, home_piece, home_is_clean}
use Rattle.elfkit_outcomes.specs.elf_object.Open.{home_of, home_len}
use Rattle.elfkit_outcomes.specs.elf_object.Answers.{content}
use Rattle.elfkit_outcomes.specs.elf_object.Joined.{piece_bytes, aligned_pieces, piece_blocks}
use Rattle.elfkit_outcomes.specs.elf_object.Strings.{holds_strings, piece_over, has_nul, bytes_from, string_in, string_refusal_unread, string_refusal, string_answer}
use Rattle.elfkit_outcomes.specs.elf_object.Settled.{settled_section}

-- ---- A settled section

-- a section of a kind that lies in the file, with its bytes
abbrev pub at_home : Shdr → Kind → List ℕ → Section
at_home h kind bytes = record {
  header = h;
  home = record { at = h.offset; len = home_len h; kind = kind; out = false };
  raw = bytes;
  pieces = home_piece ∷ [];
  marked = false;
}

pub settled_is : (len : ℕ) (bytes : List ℕ) (h : Shdr) (kind : Kind) → section_kind h ≡ kind → (home_of len h).out ≡ false → settled_section len bytes h ≡ at_home h kind bytes
unfolding settled_section home_of
settled_is len bytes h kind same inside = λ j. record {
  header = h;
  home = record { at = h.offset; len = home_len h; kind = same j; out = inside j };
  raw = bytes;
  pieces = home_piece ∷ [];
  marked = false;
}

-- where the content is there, the home lies in the file
pub content_inside : (o : Object) (s : ℕ) (items : Items) → content o s ≡ Ok items → (section_at o s).home.out ≡ false
unfolding content
content_inside o s items is = by (section_at o s).home.out refl
  where
    by : (b : Bool) → (section_at o s).home.out ≡ b → b ≡ false
    by false e = refl
    by true e =
        let bad : ◌≡◌ {A = Result Items ElfError} (Err (OutOfFile s)) (Ok items) =
        sym (ap (λ (b : Bool). if b then Err (OutOfFile s) else (elim (decoded (section_at o s).home.kind o.header.class o.header.order (section_at o s).raw) [ None ↦ Err (Ragged s) | Some l ↦ Ok l ])) e) ∙ is in
        cc

-- ---- Its strings

module _ (o : Object) (s : ℕ) (h : Shdr) (bytes : List ℕ) (at : section_at o s ≡ at_home h kinds.Bytes bytes) (below : s < length o.sections) (strings : h.stype ≡ 3) where
  abbrev whole : Block
  whole = record { at = 0; bytes = bytes }

  over : (offset : ℕ) → offset < length bytes → piece_over o s offset ≡ Some whole
  unfolding piece_over piece_blocks aligned_pieces piece_bytes stacked rounded_up block_covers block_end
  over offset within =
      let from : nat_le 0 offset ≡ true = le-leb 0 offset (omega arith) in
      let upto : nat_lt offset (0 + length bytes) ≡ true = lt-ltb offset (0 + length bytes) (omega arith) in
      rw (at, from, upto) refl

  strings_held : holds_strings (at_home h kinds.Bytes bytes) ≡ true
  unfolding holds_strings
  strings_held = rw strings refl

  unread_passes : (offset : ℕ) → offset < length bytes → string_refusal_unread o s offset ≡ None
  unfolding string_refusal_unread
  unread_passes offset within =
      let inside : nat_le (length o.sections) s ≡ false = lt-leb (length o.sections) s below in
      let holds : holds_strings (section_at o s) ≡ true = ap holds_strings at ∙ strings_held in
      let home : (section_at o s).home.out ≡ false = ap (λ (c : Section). c.home.out) at in
      let found = over offset within in
      rw (inside, holds, found) (neither (home_is_clean (section_at o s)) (section_at o s).home.out home)
    where
      neither : (a b : Bool) → b ≡ false → first_refusal (refused_if (a && b) (OutOfFile s) ∷ None ∷ []) ≡ None
      neither true true h = cc
      neither true false h = refl
      neither false b h = refl

  not_refused : (b : Bool) (e : ElfError) → b ≡ true → first_refusal (None ∷ refused_if (not b) e ∷ []) ≡ None
  not_refused true e h = refl
  not_refused false e h = cc

  passes : (offset : ℕ) → offset < length bytes → has_nul (drop offset bytes) ≡ true → string_refusal o s offset ≡ None
  unfolding string_refusal
  passes offset within ends =
      let start : offset - 0 ≡ offset = omega arith in
      rw (unread_passes offset within)
      (ap (λ (x : Option Block). first_refusal (None ∷ (elim x [ None ↦ None | Some b ↦ refused_if (not (has_nul (bytes_from b offset))) (Unended offset) ]) ∷ [])) (over offset within)
      ∙ not_refused (has_nul (drop (offset - 0) bytes)) (Unended offset) (ap (λ (k : ℕ). has_nul (drop k bytes)) start ∙ ends))

  pub string_alone : (offset : ℕ) → offset < length bytes → has_nul (drop offset bytes) ≡ true → string_answer o s offset ≡ Ok (string_at bytes offset)
  unfolding string_answer
  string_alone offset within ends =
      let start : offset - 0 ≡ offset = omega arith in
      ap (λ (r : Option ElfError). answered r (string_in o s offset)) (passes offset within ends)
      ∙ ap {B = Result (List ℕ) ElfError} (λ (l : List ℕ). Ok l)
      (ap (λ (x : Option Block). elim x [ None ↦ [] | Some b ↦ string_at b.bytes (offset - b.at) ]) (over offset within) ∙ ap (string_at bytes) start)
