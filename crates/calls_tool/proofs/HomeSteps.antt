-- No edit changes the home of a section, and a new section has an empty one.
use Rattle.std.proofs.Common.{◌≡◌, ℕ, zero, suc, Bool, true, false, List, [], ◌∷◌, ◌++◌, length, get_or, set, Result, Ok, Err, refl, sym, ap, ◌∙◌, subst, arith, ⊎_elim}
use Rattle.std.specs.Prelude.{if◌then◌else◌, ◌==◌, ◌&&◌}
use Rattle.std.proofs.lemmas.Bool.{eqb-true, cases_lt}
use Rattle.elf_layout.specs.declared.parts.Places.{Places}
use Rattle.symbol_lookup.specs.elf_object.Layout.{places_of, placed_section, placed_by, placed}
use Rattle.symbol_lookup.proofs.law_object.ImageLaws.{section_at-placed, placed-dirty, placed-clean}
use Rattle.symbol_lookup.proofs.law_object.StandLaws.{section_count-placed, section_at-past}
use Rattle.elf_types.specs.declared.records.Part.{Part}
use Rattle.elf_types.specs.declared.records.Part.TheVariants as part
use Rattle.elf_types.specs.declared.records.Ehdr.{Ehdr}
use Rattle.elf_types.specs.declared.records.Phdr.{Phdr}
use Rattle.elf_types.specs.declared.records.Shdr.{Shdr}
use Rattle.elf_types.specs.declared.records.Kind.{Kind}
use Rattle.elf_types.specs.declared.records.Kind.TheVariants as kinds
use Rattle.elf_types.specs.declared.errors.ElfError.{ElfError}
use Rattle.elf_xlate.specs.declared.content.Items.{Items}
use Rattle.symbol_lookup.specs.elf_object.Object.{Object, Section, Piece, section_at, piece_at, absent_section, new_section, is_dirty}
use Rattle.symbol_lookup.specs.elf_object.Steps.{with_section, with_piece_at, with_ehdr, with_phdrs, with_phdr, with_new_phdrs, with_shdr, with_new_section, with_new_piece, with_own, own_piece, with_mark, with_layout, with_flags, with_fill, is_whole}
use Rattle.symbol_lookup.specs.elf_object.Answers.{has_dirty, has_layout}
use Rattle.symbol_lookup.specs.elf_object.Runs.{or_same, after_look}

abbrev pub KeepsHomes : Object → Object → Type 0
KeepsHomes old new = (s : ℕ) → (section_at new s).home ≡ (section_at old s).home

pub homes_same : (o : Object) → KeepsHomes o o
homes_same o s = refl

pub homes_then : (a b c : Object) → KeepsHomes a b → KeepsHomes b c → KeepsHomes a c
homes_then a b c first second s = second s ∙ first s

-- ---- One section that changes

set_home : (l : List Section) (s t : ℕ) (c : Section) → c.home ≡ (get_or l s absent_section).home
    → (get_or (set l s c) t absent_section).home ≡ (get_or l t absent_section).home
set_home [] s t c same = refl
set_home (x ∷ l) zero zero c same = same
set_home (x ∷ l) zero (suc t) c same = refl
set_home (x ∷ l) (suc s) zero c same = refl
set_home (x ∷ l) (suc s) (suc t) c same = set_home l s t c same

pub keeps_section : (o : Object) (s : ℕ) (c : Section) → c.home ≡ (section_at o s).home → KeepsHomes o (with_section o s c)
unfolding with_section section_at
keeps_section o s c same = λ t. set_home o.sections s t c same

keeps_piece : (o : Object) (s p : ℕ) (piece : Piece) → KeepsHomes o (with_piece_at o s p piece)
unfolding with_piece_at
keeps_piece o s p piece = keeps_section o s (record (section_at o s) { pieces = set (section_at o s).pieces p piece }) refl

pub keeps_own : (o : Object) (s p : ℕ) (items : Items) → KeepsHomes o (with_own o s p items)
unfolding with_own
keeps_own o s p items = keeps_piece o s p (own_piece items (piece_at o s p).align)

pub keeps_new_piece : (o : Object) (s : ℕ) (items : Items) (align : ℕ) → KeepsHomes o (with_new_piece o s items align)
unfolding with_new_piece
keeps_new_piece o s items align = keeps_section o s (record (section_at o s) { pieces = (section_at o s).pieces ++ own_piece items align ∷ [] }) refl

pub keeps_shdr : (o : Object) (s : ℕ) (h : Shdr) → KeepsHomes o (with_shdr o s h)
unfolding with_shdr
keeps_shdr o s h = keeps_section o s (record (section_at o s) { header = h; marked = true }) refl

-- ---- Headers, and the byte of gaps

pub keeps_ehdr : (o : Object) (h : Ehdr) → KeepsHomes o (with_ehdr o h)
unfolding with_ehdr section_at
keeps_ehdr o h = λ s. refl

keeps_phdrs : (o : Object) (l : List Phdr) → KeepsHomes o (with_phdrs o l)
unfolding with_phdrs section_at
keeps_phdrs o l = λ s. refl

pub keeps_phdr : (o : Object) (i : ℕ) (p : Phdr) → KeepsHomes o (with_phdr o i p)
unfolding with_phdr
keeps_phdr o i p = keeps_phdrs o (set o.phdrs i p)

pub keeps_new_phdrs : (o : Object) (n : ℕ) → KeepsHomes o (with_new_phdrs o n)
unfolding with_new_phdrs
keeps_new_phdrs o n = keeps_phdrs o _

pub keeps_fill : (o : Object) (byte : ℕ) → KeepsHomes o (with_fill o byte)
unfolding with_fill section_at
keeps_fill o byte = λ s. refl

-- ---- Flags

keeps_mark : (o : Object) (p : Part) → KeepsHomes o (with_mark o p)
unfolding with_mark section_at
keeps_mark o part.Object = λ s. refl
keeps_mark o part.Table = λ s. refl
keeps_mark o part.Header = λ s. refl
keeps_mark o part.Segments = λ s. refl
keeps_mark o (part.Section s) = keeps_section o s (record (section_at o s) { marked = true }) refl
keeps_mark o (part.Piece s p) = keeps_piece o s p (record (piece_at o s p) { marked = true })

keeps_either : (test : Bool) (o a b : Object) → KeepsHomes o a → KeepsHomes o b → KeepsHomes o (if test then a else b)
keeps_either true o a b one other = one
keeps_either false o a b one other = other

keeps_layout : (o : Object) (layout : Bool) → KeepsHomes o (with_layout o layout)
unfolding section_at
keeps_layout o layout = λ s. refl

pub keeps_flags : (o : Object) (p : Part) (mark : Bool) (bits : ℕ) → KeepsHomes o (with_flags o p mark bits)
unfolding with_flags
keeps_flags o p mark bits =
    let dirtied = if mark && has_dirty bits then with_mark o p else o in
    let marks = keeps_either (mark && has_dirty bits) o (with_mark o p) o (keeps_mark o p) (homes_same o) in
    keeps_either (is_whole p && has_layout bits) o (with_layout dirtied mark) dirtied
    (homes_then o dirtied (with_layout dirtied mark) marks (keeps_layout dirtied mark)) marks

-- ---- A section more

grown_home : (l : List Section) (s : ℕ) → (get_or (l ++ new_section ∷ []) s absent_section).home ≡ (get_or l s absent_section).home
grown_home [] zero = refl
grown_home [] (suc s) = refl
grown_home (x ∷ l) zero = refl
grown_home (x ∷ l) (suc s) = grown_home l s

grown_twice : (s : ℕ) → (get_or (new_section ∷ new_section ∷ []) s absent_section).home ≡ (get_or [] s absent_section).home
grown_twice zero = refl
grown_twice (suc zero) = refl
grown_twice (suc (suc s)) = refl

grown : (l : List Section) (s : ℕ)
    → (get_or (l ++ (if length l == 0 then new_section ∷ new_section ∷ [] else new_section ∷ [])) s absent_section).home ≡ (get_or l s absent_section).home
grown [] s = grown_twice s
grown (x ∷ l) s = by_test (length (x ∷ l) == 0) (λ is. let none = eqb-true (length (x ∷ l)) 0 is in omega (arith, none))
  where
    by_test : (test : Bool) → (test ≡ true → ⊥)
        → (get_or ((x ∷ l) ++ (if test then new_section ∷ new_section ∷ [] else new_section ∷ [])) s absent_section).home ≡ (get_or (x ∷ l) s absent_section).home
    by_test true not_empty = absurd (not_empty refl)
    by_test false not_empty = grown_home (x ∷ l) s

pub keeps_new_section : (o : Object) → KeepsHomes o (with_new_section o)
unfolding with_new_section section_at
keeps_new_section o = λ s. grown o.sections s

-- ---- Calls that look first

pub keeps_look : {A : Type 0} (o : Object) (r : Result A ElfError) (after : A → Object) → ((x : A) → KeepsHomes o (after x)) → KeepsHomes o (after_look r after o)
keeps_look o (Ok x) after keeps = keeps x
keeps_look o (Err e) after keeps = homes_same o

pub keeps_or_same : (o : Object) (kind : Kind) (after : Object) → KeepsHomes o after → KeepsHomes o (or_same kind o after)
keeps_or_same o kinds.Empty after keeps = homes_same o
keeps_or_same o kinds.Bytes after keeps = keeps
keeps_or_same o kinds.Half after keeps = keeps
keeps_or_same o kinds.Word after keeps = keeps
keeps_or_same o kinds.Addr after keeps = keeps
keeps_or_same o kinds.Sym after keeps = keeps
keeps_or_same o kinds.Rel after keeps = keeps
keeps_or_same o kinds.Rela after keeps = keeps
keeps_or_same o kinds.Dyn after keeps = keeps

-- ---- An update that stores the places

placed_home : (places : Places) (o : Object) → KeepsHomes o (placed_by places o)
unfolding placed_section
placed_home places o s = ⊎_elim
    (λ h. ap (λ (c : Section). c.home) (section_at-placed places o s h))
    (λ h. let count = section_count-placed places o in
    ap (λ (c : Section). c.home)
    (section_at-past (placed_by places o) s (omega arith) ∙ sym (section_at-past o s h)))
    (cases_lt s (length o.sections))

pub keeps_placed : (o : Object) → KeepsHomes o (placed o)
keeps_placed o = by (is_dirty o) refl
  where
    by : (b : Bool) → is_dirty o ≡ b → KeepsHomes o (placed o)
    by true dirty = subst (λ (q : Object). KeepsHomes o q) (sym (placed-dirty o dirty))
        (placed_home (places_of o) o)
    by false clean = subst (λ (q : Object). KeepsHomes o q) (sym (placed-clean o clean))
        (homes_same o)
