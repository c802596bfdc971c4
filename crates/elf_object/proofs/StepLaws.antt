-- What an edit leaves of the object, for callers that see the words alone.
use Rattle.std.proofs.Common.{◌≡◌, ◌≢◌, ℕ, zero, suc, ◌<◌, Bool, true, false, ◌||◌, List, [], ◌∷◌, ◌++◌, length, get_or, set, Option, Some, None, refl, sym, ap, ◌∙◌, arith}
use Rattle.std.specs.Prelude.{if◌then◌else◌, ◌==◌}
use Rattle.std.specs.List.{list_any}
use Rattle.std.specs.Option.{option_or}
use Rattle.std.proofs.lemmas.Bool.{eqb-true, eq-eqb}
use Rattle.std.proofs.lemmas.List.{length-set, get_or-set_same, get_or-set_other}
use Rattle.elf_types.specs.declared.records.Kind.{Kind}
use Rattle.elf_types.specs.declared.records.Kind.TheVariants as kinds
use Rattle.elf_types.specs.declared.records.Shdr.{Shdr}
use Rattle.elf_types.specs.declared.errors.ElfError.{ElfError}
use Rattle.elf_ident.specs.elf_xlate.declared.content.Items.{Items}
use Rattle.elf_ident.specs.elf_xlate.Translation.{items_kind}
use Rattle.elf_types.specs.Answers.{first_refusal}
use Rattle.elf_object.specs.Object.{Object, Section, Piece, section_at, piece_at, absent_section, home_piece, is_dirty, some_section_marked, some_piece_marked}
use Rattle.elf_object.specs.Answers.{content, or_empty, items_at, kind_at, piece_count, kind_code, same_kind}
use Rattle.elf_object.specs.Steps.{with_section, with_piece_at, with_own, own_piece, with_shdr}

-- ---- Lists of refusals

pub first_refusal-append : (xs ys : List (Option ElfError)) → first_refusal (xs ++ ys) ≡ option_or (first_refusal xs) (first_refusal ys)
first_refusal-append [] ys = refl
first_refusal-append (None ∷ xs) ys = first_refusal-append xs ys
first_refusal-append (Some e ∷ xs) ys = refl

-- a loop that has met no refusal so far goes on
pub first_refusal-more : (xs : List (Option ElfError)) (r : Option ElfError) → first_refusal xs ≡ None → first_refusal (xs ++ r ∷ []) ≡ first_refusal (r ∷ [])
first_refusal-more xs r h = first_refusal-append xs (r ∷ []) ∙ ap (λ (o : Option ElfError). option_or o (first_refusal (r ∷ []))) h

-- a refusal that was met is the first one of all
pub first_refusal-met : (xs ys : List (Option ElfError)) (e : ElfError) → first_refusal xs ≡ Some e → first_refusal (xs ++ ys) ≡ Some e
first_refusal-met xs ys e h = first_refusal-append xs ys ∙ ap (λ (o : Option ElfError). option_or o (first_refusal ys)) h

-- ---- Kinds

kind_by_code : ℕ → Kind
kind_by_code n =
    if n == 0 then kinds.Empty else (if n == 1 then kinds.Bytes else (if n == 2 then kinds.Half else (if n == 3 then kinds.Word else (if n == 4 then kinds.Addr else (if n == 5 then kinds.Sym else (if n == 6 then kinds.Rel else (if n == 7 then kinds.Rela else kinds.Dyn)))))))

code_back : (k : Kind) → kind_by_code (kind_code k) ≡ k
unfolding kind_by_code
code_back kinds.Empty = refl
code_back kinds.Bytes = refl
code_back kinds.Half = refl
code_back kinds.Word = refl
code_back kinds.Addr = refl
code_back kinds.Sym = refl
code_back kinds.Rel = refl
code_back kinds.Rela = refl
code_back kinds.Dyn = refl

pub same_kind-true : (a b : Kind) → same_kind a b ≡ true → a ≡ b
same_kind-true a b h = sym (code_back a) ∙ ap kind_by_code (eqb-true (kind_code a) (kind_code b) h) ∙ code_back b

pub same_kind-same : (a b : Kind) → a ≡ b → same_kind a b ≡ true
same_kind-same a b e = eq-eqb (kind_code a) (kind_code b) (ap kind_code e)

-- ---- One section that changes

pub section_count-with_section : (o : Object) (s : ℕ) (c : Section) → length (with_section o s c).sections ≡ length o.sections
unfolding with_section
section_count-with_section o s c = length-set o.sections s c

pub section_at-with_section : (o : Object) (s : ℕ) (c : Section) → s < length o.sections → section_at (with_section o s c) s ≡ c
unfolding with_section section_at
section_at-with_section o s c h = get_or-set_same o.sections s c absent_section h

pub section_at-with_section_other : (o : Object) (s t : ℕ) (c : Section) → t ≢ s → section_at (with_section o s c) t ≡ section_at o t
unfolding with_section section_at
section_at-with_section_other o s t c h = get_or-set_other o.sections s t c absent_section h

-- ---- A piece that becomes own

pub section_at-with_own : (o : Object) (s p : ℕ) (items : Items) → s < length o.sections → section_at (with_own o s p items) s ≡ record (section_at o s) { pieces = set (section_at o s).pieces p (own_piece items (piece_at o s p).align) }
unfolding with_own with_piece_at
section_at-with_own o s p items h =
    section_at-with_section o s (record (section_at o s) { pieces = set (section_at o s).pieces p (own_piece items (piece_at o s p).align) }) h

pub section_at-with_own_other : (o : Object) (s t p : ℕ) (items : Items) → t ≢ s → section_at (with_own o s p items) t ≡ section_at o t
unfolding with_own with_piece_at
section_at-with_own_other o s t p items h =
    section_at-with_section_other o s t (record (section_at o s) { pieces = set (section_at o s).pieces p (own_piece items (piece_at o s p).align) }) h

pub section_count-with_own : (o : Object) (s p : ℕ) (items : Items) → length (with_own o s p items).sections ≡ length o.sections
unfolding with_own with_piece_at
section_count-with_own o s p items =
    section_count-with_section o s (record (section_at o s) { pieces = set (section_at o s).pieces p (own_piece items (piece_at o s p).align) })

pub piece_count-with_own : (o : Object) (s p : ℕ) (items : Items) → s < length o.sections → piece_count (with_own o s p items) s ≡ piece_count o s
unfolding piece_count
piece_count-with_own o s p items h =
    ap (λ (c : Section). length c.pieces) (section_at-with_own o s p items h)
    ∙ length-set (section_at o s).pieces p (own_piece items (piece_at o s p).align)

pub piece_at-with_own : (o : Object) (s p : ℕ) (items : Items) → s < length o.sections → p < piece_count o s → piece_at (with_own o s p items) s p ≡ own_piece items (piece_at o s p).align
unfolding piece_at piece_count
piece_at-with_own o s p items h below =
    ap (λ (c : Section). get_or c.pieces p home_piece) (section_at-with_own o s p items h)
    ∙ get_or-set_same (section_at o s).pieces p (own_piece items (piece_at o s p).align) home_piece below

pub piece_at-with_own_other : (o : Object) (s p q : ℕ) (items : Items) → s < length o.sections → q ≢ p → piece_at (with_own o s p items) s q ≡ piece_at o s q
unfolding piece_at
piece_at-with_own_other o s p q items h other =
    ap (λ (c : Section). get_or c.pieces q home_piece) (section_at-with_own o s p items h)
    ∙ get_or-set_other (section_at o s).pieces p q (own_piece items (piece_at o s p).align) home_piece other

-- its items are those that were stored
pub items_at-with_own : (o : Object) (s p : ℕ) (items : Items) → s < length o.sections → p < piece_count o s → items_at (with_own o s p items) s p ≡ items
unfolding items_at
items_at-with_own o s p items h below =
    ap (λ (q : Piece). elim (q.own) [ None ↦ or_empty (content (with_own o s p items) s) | Some l ↦ l ]) (piece_at-with_own o s p items h below)

pub kind_at-with_own : (o : Object) (s p : ℕ) (items : Items) → s < length o.sections → p < piece_count o s → kind_at (with_own o s p items) s p ≡ items_kind items
unfolding kind_at
kind_at-with_own o s p items h below =
    ap (λ (q : Piece). elim (q.own) [ None ↦ (section_at (with_own o s p items) s).home.kind | Some l ↦ items_kind l ]) (piece_at-with_own o s p items h below)

-- the home's bytes stay
pub raw-with_own : (o : Object) (s p : ℕ) (items : Items) → s < length o.sections → (section_at (with_own o s p items) s).raw ≡ (section_at o s).raw
raw-with_own o s p items h = ap (λ (c : Section). c.raw) (section_at-with_own o s p items h)

-- ---- A header that changes

pub section_at-with_shdr : (o : Object) (s : ℕ) (h : Shdr) → s < length o.sections → section_at (with_shdr o s h) s ≡ record (section_at o s) { header = h; marked = true }
unfolding with_shdr
section_at-with_shdr o s h inside = section_at-with_section o s (record (section_at o s) { header = h; marked = true }) inside

pub section_at-with_shdr_other : (o : Object) (s t : ℕ) (h : Shdr) → t ≢ s → section_at (with_shdr o s h) t ≡ section_at o t
unfolding with_shdr
section_at-with_shdr_other o s t h other = section_at-with_section_other o s t (record (section_at o s) { header = h; marked = true }) other

-- ---- Marks

some_true : {X : Type 0} (test : X → Bool) (l : List X) (i : ℕ) (d : X) → i < length l → test (get_or l i d) ≡ true → list_any test l ≡ true
some_true test [] i d h e = absurd (omega arith)
some_true test (x ∷ l) zero d h e = rw e refl
some_true test (x ∷ l) (suc i) d h e = rw (some_true test l i d (omega arith) e) (or_true (test x))
  where
    or_true : (b : Bool) → (b || true) ≡ true
    or_true true = refl
    or_true false = refl

pub last_true : (b : Bool) → (b || true) ≡ true
last_true true = refl
last_true false = refl

-- an object with a marked section is dirty
pub dirty_by_section : (o : Object) (s : ℕ) → s < length o.sections → ((section_at o s).marked || some_piece_marked (section_at o s)) ≡ true → is_dirty o ≡ true
unfolding is_dirty some_section_marked section_at
dirty_by_section o s h e =
    rw (some_true (λ c. c.marked || some_piece_marked c) o.sections s absent_section h e) (last_true (o.marked || o.header_marked || o.segments_marked))

-- a marked piece marks its section
pub marked_by_piece : (c : Section) (p : ℕ) → p < length c.pieces → (get_or c.pieces p home_piece).marked ≡ true → (c.marked || some_piece_marked c) ≡ true
unfolding some_piece_marked
marked_by_piece c p h e = rw (some_true (λ x. x.marked) c.pieces p home_piece h e) (last_true c.marked)

pub dirty-with_own : (o : Object) (s p : ℕ) (items : Items) → s < length o.sections → p < piece_count o s → is_dirty (with_own o s p items) ≡ true
unfolding piece_at piece_count
dirty-with_own o s p items h below =
    let count = section_count-with_own o s p items in
    let pieces = piece_count-with_own o s p items h in
    let piece = piece_at-with_own o s p items h below in
    dirty_by_section (with_own o s p items) s (omega arith)
    (marked_by_piece (section_at (with_own o s p items) s) p (omega arith) (ap (λ (x : Piece). x.marked) piece))

pub dirty-with_shdr : (o : Object) (s : ℕ) (h : Shdr) → s < length o.sections → is_dirty (with_shdr o s h) ≡ true
unfolding with_shdr
dirty-with_shdr o s h inside =
    let count = section_count-with_section o s (record (section_at o s) { header = h; marked = true }) in
    dirty_by_section (with_section o s (record (section_at o s) { header = h; marked = true })) s (omega arith)
    (rw (section_at-with_section o s (record (section_at o s) { header = h; marked = true }) inside) refl)
