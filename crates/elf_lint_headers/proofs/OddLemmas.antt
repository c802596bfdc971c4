-- What one look at a section's header tells.
use Rattle.std.proofs.Common.{◌≡◌, ℕ, ◌/◌, ◌%◌, ◌==◌, Bool, true, false, refl, sym, ap, ◌∙◌}
use Rattle.std.specs.Prelude.{◌&&◌, not}
use Rattle.elf_types.specs.declared.constants.TheConstants.{SHF_TLS}
use Rattle.elf_types.specs.declared.records.Kind.{Kind}
use Rattle.elf_types.specs.declared.records.Kind.TheVariants as kinds
use Rattle.elf_types.specs.Kinds.{section_kind}
use Rattle.elf_xlate.specs.Items.{item_size}
use Rattle.tool_objects.specs.elf_xlate.Translation.{is_whole}
use Rattle.tool_objects.specs.elf_object.Object.{Object}
use Rattle.tool_objects.specs.elf_object.Open.{home_len}
use Rattle.tool_objects.specs.elf_object.Sections.{header_at, is_allocated}
use Rattle.elf_lint_findings.specs.Looking.{is_outside_file, is_ragged_section, is_intact, is_looked_at}
use Rattle.elf_lint_findings.proofs.WholeLemmas.{whole_bytes}
use Rattle.elf_lint_headers.specs.Sections.{has_entries, has_wrong_entry_size, is_unallocated_storage}

never : (a : Bool) → (a && false) ≡ false
never true = refl
never false = refl

-- a test that is asked first fails
pub fails_first : (a b c : Bool) → b ≡ false → (a && (b && c)) ≡ false
fails_first a b c is = ap (λ (t : Bool). a && (t && c)) is ∙ never a

-- a section of single bytes is not ragged
pub bytes_are_whole : (o : Object) (s : ℕ) → kinds.Bytes ≡ section_kind (header_at o s)
    → false ≡ is_ragged_section o s
unfolding is_ragged_section
bytes_are_whole o s is =
    let class = o.header.class in
    let len = home_len (header_at o s) in
    let inside = not (is_outside_file o s) in
    sym (ap (λ (k : Kind). inside && not (is_whole k class len)) (sym is)
    ∙ ap (λ (b : Bool). inside && not b) (sym (whole_bytes class len)) ∙ never inside)

-- without entries they have no wrong size
pub no_entries : (o : Object) (s : ℕ) → has_entries (section_kind (header_at o s)) ≡ false
    → has_wrong_entry_size o s ≡ false
unfolding has_wrong_entry_size
no_entries o s none =
    let h = header_at o s in
    fails_first (is_looked_at o s) (has_entries (section_kind h))
    (not (h.entsize == item_size (section_kind h) o.header.class)) none

-- nor is what is no thread-local storage not allocated
pub no_storage : (o : Object) (s : ℕ) → ((header_at o s).flags / SHF_TLS % 2 == 1) ≡ false
    → is_unallocated_storage o s ≡ false
unfolding is_unallocated_storage
no_storage o s none =
    let h = header_at o s in
    fails_first (is_intact o s) (h.flags / SHF_TLS % 2 == 1) (not (is_allocated h)) none
