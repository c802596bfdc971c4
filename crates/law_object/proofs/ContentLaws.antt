-- Objects with the same items and homes are refused alike.
use Rattle.std.proofs.Common.{◌≡◌, ℕ, suc, ◌+◌, Bool, false, not, ◌&&◌, ◌||◌, List, [], ◌∷◌, length, get_or, Option, Some, None, refl, sym, ap, ◌∙◌, arith}
use Rattle.std.specs.Prelude.{nat_le, is_none, slice_get, if◌then◌else◌, ◌==◌, map}
use Rattle.std.specs.List.{enumerate_from, position}
use Rattle.std.specs.Option.{option_map}
use Rattle.elf_types.specs.declared.records.Class.{Class}
use Rattle.elf_types.specs.declared.errors.ElfError.{ElfError}
use Rattle.elf_types.specs.declared.errors.ElfError.TheVariants.{OutOfFile, TooMany, Unfit}
use Rattle.elf_object.specs.Object.{Object, Section, Piece, home_is_clean, absent_section, section_at, has_file_bytes}
use Rattle.elf_types.specs.Answers.{refused_if, first_refusal}
use Rattle.elf_object.specs.Refusal.{too_many, unfit_segment, unfit_in_piece, unfit_in_section, unfit_item, missing_in_section, missing_home, content_refusal}
use Rattle.elf_types.specs.declared.records.Part.TheVariants as part
use Rattle.elf_types.specs.declared.records.Phdr.{Phdr}
use Rattle.elf_object.specs.elf_xlate.declared.content.Items.{Items}
use Rattle.elf_object.specs.elf_xlate.Headers.{phdr_fits}
use Rattle.elf_object.specs.elf_xlate.Translation.{first_unfit}

-- ---- The same content

-- the own items of pieces
abbrev pub owns : List Piece → List (Option Items)
owns pieces = map (λ p. p.own) pieces

-- two objects with the same items and homes
pub record SameContent (t o : Object) : Type 0 where
  pub class : t.header.class ≡ o.header.class
  pub phdrs : t.phdrs ≡ o.phdrs
  pub count : length t.sections ≡ length o.sections
  pub stype : (s : ℕ) → (section_at t s).header.stype ≡ (section_at o s).header.stype
  pub pieces : (s : ℕ) → owns (section_at t s).pieces ≡ owns (section_at o s).pieces
  pub out : (s : ℕ) → (section_at t s).home.out ≡ (section_at o s).home.out

-- what does not fit, by the own items
unfit_own : Class → ℕ → ℕ → Option Items → Option ElfError
unfit_own class s p own = elim own [ None ↦ None | Some items ↦ option_map (Unfit (part.Piece s p)) (first_unfit class items) ]

unfits : Class → ℕ → ℕ → List (Option Items) → List (Option ElfError)
unfits class s p [] = []
unfits class s p (own ∷ l) = unfit_own class s p own ∷ unfits class s (p + 1) l

unfits-of : (class : Class) (s n : ℕ) (l : List Piece) → map (λ row. unfit_in_piece class s row.0 row.1) (enumerate_from n l) ≡ unfits class s n (owns l)
unfolding unfit_in_piece unfits unfit_own
unfits-of class s n [] = refl
unfits-of class s n (p ∷ l) = ap (λ (rest : List (Option ElfError)). elim (p.own) [ None ↦ None | Some items ↦ option_map (Unfit (part.Piece s n)) (first_unfit class items) ] ∷ rest) (unfits-of class s (n + 1) l)

abbrev file_bytes_by : ℕ → ℕ → Bool
file_bytes_by s stype = not (s == 0) && not (stype == 0 || stype == 8)

unfit-by : (class : Class) (s : ℕ) (c : Section) → unfit_in_section class s c ≡ (if file_bytes_by s c.header.stype then first_refusal (unfits class s 0 (owns c.pieces)) else None)
unfolding unfit_in_section has_file_bytes
unfit-by class s c = ap (λ (l : List (Option ElfError)). if file_bytes_by s c.header.stype then first_refusal l else None) (unfits-of class s 0 c.pieces)

clean_own : List (Option Items) → Bool
clean_own [] = false
clean_own (own ∷ l) = is_none own

clean-by : (l : List Piece) → elim (slice_get l 0) [ None ↦ false | Some p ↦ is_none p.own ] ≡ clean_own (owns l)
unfolding clean_own
clean-by [] = refl
clean-by (p ∷ l) = refl

missing-by : (s : ℕ) (c : Section) → missing_in_section s c ≡ refused_if (file_bytes_by s c.header.stype && clean_own (owns c.pieces) && c.home.out) (OutOfFile s)
unfolding missing_in_section has_file_bytes home_is_clean
missing-by s c = ap (λ (b : Bool). refused_if (file_bytes_by s c.header.stype && b && c.home.out) (OutOfFile s)) (clean-by c.pieces)

unfit-same : (class : Class) (s : ℕ) (c d : Section) → c.header.stype ≡ d.header.stype → owns c.pieces ≡ owns d.pieces → unfit_in_section class s c ≡ unfit_in_section class s d
unfit-same class s c d stype pieces =
    unfit-by class s c
    ∙ ap (λ (t : ℕ). if file_bytes_by s t then first_refusal (unfits class s 0 (owns c.pieces)) else None) stype
    ∙ ap (λ (l : List (Option Items)). if file_bytes_by s d.header.stype then first_refusal (unfits class s 0 l) else None) pieces
    ∙ sym (unfit-by class s d)

missing-same : (s : ℕ) (c d : Section) → c.header.stype ≡ d.header.stype → owns c.pieces ≡ owns d.pieces → c.home.out ≡ d.home.out → missing_in_section s c ≡ missing_in_section s d
missing-same s c d stype pieces out =
    missing-by s c
    ∙ ap (λ (t : ℕ). refused_if (file_bytes_by s t && clean_own (owns c.pieces) && c.home.out) (OutOfFile s)) stype
    ∙ ap (λ (l : List (Option Items)). refused_if (file_bytes_by s d.header.stype && clean_own l && c.home.out) (OutOfFile s)) pieces
    ∙ ap (λ (b : Bool). refused_if (file_bytes_by s d.header.stype && clean_own (owns d.pieces) && b) (OutOfFile s)) out
    ∙ sym (missing-by s d)

-- rows of two lists that are alike at each index
rows_same : {X : Type 0} (f : ℕ → X → Option ElfError) (n : ℕ) (l m : List X) (d : X) → length l ≡ length m → ((i : ℕ) → f (n + i) (get_or l i d) ≡ f (n + i) (get_or m i d)) → map (λ row. f row.0 row.1) (enumerate_from n l) ≡ map (λ row. f row.0 row.1) (enumerate_from n m)
rows_same f n [] [] d len each = refl
rows_same f n [] (y ∷ m) d len each = absurd (omega arith)
rows_same f n (x ∷ l) [] d len each = absurd (omega arith)
rows_same f n (x ∷ l) (y ∷ m) d len each =
    let at : n + 0 ≡ n = omega arith in
    let here : f n x ≡ f n y = sym (ap (λ (k : ℕ). f k x) at) ∙ each 0 ∙ ap (λ (k : ℕ). f k y) at in
    let rest = rows_same f (n + 1) l m d (omega arith) (λ i.
    let further : n + suc i ≡ n + 1 + i = omega arith in
    sym (ap (λ (k : ℕ). f k (get_or l i d)) further) ∙ each (suc i) ∙ ap (λ (k : ℕ). f k (get_or m i d)) further) in
    cc

pub content-again : (t o : Object) → SameContent t o → content_refusal t ≡ content_refusal o
unfolding content_refusal too_many unfit_segment unfit_item missing_home section_at
content-again t o same =
    let class = same.class in
    let phdrs = same.phdrs in
    let count = same.count in
    let first = same.stype 0 in
    let many : too_many t ≡ too_many o =
    ap (λ (n : ℕ). refused_if (nat_le 0xffff n && length t.sections == 0 || nat_le 0xff00 (length t.sections) && not ((get_or t.sections 0 absent_section).header.stype == 0 || (get_or t.sections 0 absent_section).header.stype == 8)) TooMany) (ap length phdrs)
    ∙ ap (λ (n : ℕ). refused_if (nat_le 0xffff (length o.phdrs) && n == 0 || nat_le 0xff00 n && not ((get_or t.sections 0 absent_section).header.stype == 0 || (get_or t.sections 0 absent_section).header.stype == 8)) TooMany) count
    ∙ ap (λ (k : ℕ). refused_if (nat_le 0xffff (length o.phdrs) && length o.sections == 0 || nat_le 0xff00 (length o.sections) && not (k == 0 || k == 8)) TooMany) first in
    let segment : unfit_segment t ≡ unfit_segment o =
    ap (λ (c : Class). option_map (Unfit part.Segments) (position (λ p. not (phdr_fits c p)) t.phdrs)) class
    ∙ ap (λ (l : List Phdr). option_map (Unfit part.Segments) (position (λ p. not (phdr_fits o.header.class p)) l)) phdrs in
    let items : unfit_item t ≡ unfit_item o =
    ap (λ (c : Class). first_refusal (map (λ row. unfit_in_section c row.0 row.1) (enumerate_from 0 t.sections))) class
    ∙ ap first_refusal (rows_same (unfit_in_section o.header.class) 0 t.sections o.sections absent_section count (λ i.
    let at : 0 + i ≡ i = omega arith in
    rw at (unfit-same o.header.class i (get_or t.sections i absent_section) (get_or o.sections i absent_section) (same.stype i) (same.pieces i)))) in
    let missing : missing_home t ≡ missing_home o =
    ap first_refusal (rows_same missing_in_section 0 t.sections o.sections absent_section count (λ i.
    let at : 0 + i ≡ i = omega arith in
    rw at (missing-same i (get_or t.sections i absent_section) (get_or o.sections i absent_section) (same.stype i) (same.pieces i) (same.out i)))) in
    ap (λ (r : Option ElfError). first_refusal (r ∷ unfit_segment t ∷ unfit_item t ∷ missing_home t ∷ [])) many
    ∙ ap (λ (r : Option ElfError). first_refusal (too_many o ∷ r ∷ unfit_item t ∷ missing_home t ∷ [])) segment
    ∙ ap (λ (r : Option ElfError). first_refusal (too_many o ∷ unfit_segment o ∷ r ∷ missing_home t ∷ [])) items
    ∙ ap (λ (r : Option ElfError). first_refusal (too_many o ∷ unfit_segment o ∷ unfit_item o ∷ r ∷ [])) missing
