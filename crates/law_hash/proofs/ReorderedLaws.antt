-- Symbols in another order: which sections change, and how, and that what is made is an object.
use Rattle.std.proofs.Common.{◌≡◌, ◌≢◌, ◌+◌, ◌<◌, ◌≤◌, ◌⊎◌, inl, inr, ℕ, zero, suc, ◌==◌, ◌&&◌, Bool, true, false, not, List, [], ◌∷◌, length, get_or, set, map, Option, Some, None, refl, sym, ap, ◌∙◌, subst, arith}
use Rattle.std.specs.Prelude.{nat_lt, if◌then◌else◌}
use Rattle.std.specs.List.{fold, range_with_len}
use Rattle.std.proofs.lemmas.Bool.{and_parts, not-true, cases_eq, cond_both, eq-eqb, lt-leb}
use Rattle.elf_types.specs.Answers.{refused_if, first_refusal, err_of}
use Rattle.elf_types.specs.declared.constants.TheConstants.{SHT_STRTAB, SHT_DYNSYM, SHT_GROUP}
use Rattle.elf_types.specs.declared.errors.ElfError.{ElfError}
use Rattle.elf_types.specs.declared.errors.ElfError.TheVariants.{NoSection, NoData, WrongKind}
use Rattle.elf_types.specs.declared.records.Kind.{Kind}
use Rattle.elf_types.specs.declared.records.Kind.TheVariants as kinds
use Rattle.elf_types.specs.declared.records.Shdr.{Shdr}
use Rattle.elf_xlate.specs.declared.content.Items.{Items}
use Rattle.elf_xlate.specs.declared.content.Items.TheVariants as items
use Rattle.rebuild_model.specs.elf_object.Object.{Object, Section, Piece, section_at, piece_at, home_piece}
use Rattle.rebuild_model.specs.elf_object.Answers.{content, items_at, count_at, syms_of, kind_at, piece_count, no_section, no_data, wrong_kind, no_content, lend_refusal}
use Rattle.rebuild_model.specs.elf_object.Steps.{own_piece, with_own, with_piece_at, with_section, with_shdr}
use Rattle.rebuild_model.specs.elf_object.Due.{all_sections}
use Rattle.rebuild_model.proofs.elf_object.PassedLaws.{none_first, none_rest}
use Rattle.rebuild_model.proofs.elf_object.StepLaws.{same_kind-same, section_at-with_own, section_at-with_own_other, section_count-with_own, piece_count-with_own, piece_at-with_own, items_at-with_own, kind_at-with_own, section_count-with_section, section_at-with_shdr, section_at-with_shdr_other}
use Rattle.rebuild_model.specs.elf_object.Sections.{header_at}
use Rattle.rebuild_model.specs.hash_model.Reordered.{in_order, new_index, kind_by_symbols, items_by_symbols, with_signature, reordered_section, reordered, too_few_items, reorder_refusal_of, reorder_refusal}
use Rattle.law_hash.proofs.TypeLaws.{apart_types, there_by_type, lent_there, lent_piece}
use Rattle.hash_order.proofs.StoreLaws.{IsSameAt, same_items, same_lend}
use Rattle.law_hash.proofs.SameLaws.{SameStrings, strings_stay, strings_both}

-- ---- A step on one section

-- section n alone has changed, and keeps its type and its link
pub record StepOf (o p : Object) (n : ℕ) : Type 0 where
  pub strings : SameStrings o p
  pub others : (t : ℕ) → t ≢ n → section_at p t ≡ section_at o t

same_step : (o : Object) (n : ℕ) → StepOf o o n
same_step o n = record { strings = strings_stay o; others = λ t other. refl }

module _ (o p : Object) (n : ℕ) (others : (t : ℕ) → t ≢ n → section_at p t ≡ section_at o t) where
  each_kept : (f : Section → ℕ) → f (section_at p n) ≡ f (section_at o n) → (t : ℕ)
      → f (section_at p t) ≡ f (section_at o t)
  each_kept f here t = by (cases_eq t n)
    where
      by : (t ≡ n) ⊎ (t ≡ n → ⊥) → f (section_at p t) ≡ f (section_at o t)
      by (inl same) =
          ap (λ (k : ℕ). f (section_at p k)) same ∙ here
          ∙ ap (λ (k : ℕ). f (section_at o k)) (sym same)
      by (inr other) = ap f (others t other)

  step_from : p.header ≡ o.header → p.phdrs ≡ o.phdrs → length p.sections ≡ length o.sections
      → (header_at p n).stype ≡ (header_at o n).stype
      → (header_at p n).link ≡ (header_at o n).link → (header_at o n).stype ≢ SHT_STRTAB
      → StepOf o p n
  step_from header phdrs count stype link no_strings = record {
    strings = record {
      header = header;
      phdrs = phdrs;
      count = count;
      stype = each_kept (λ c. c.header.stype) stype;
      link = each_kept (λ c. c.header.link) link;
      strings = λ t is. others t (λ same.
          no_strings (ap (λ (k : ℕ). (header_at o k).stype) (sym same) ∙ is));
    };
    others = others;
  }

pub own_header : (o : Object) (n : ℕ) (left : Items) → (with_own o n 0 left).header ≡ o.header
unfolding with_own with_piece_at with_section
own_header o n left = refl

own_phdrs : (o : Object) (n : ℕ) (left : Items) → (with_own o n 0 left).phdrs ≡ o.phdrs
unfolding with_own with_piece_at with_section
own_phdrs o n left = refl

shdr_phdrs : (o : Object) (n : ℕ) (h : Shdr) → (with_shdr o n h).phdrs ≡ o.phdrs
unfolding with_shdr with_section
shdr_phdrs o n h = refl

shdr_header : (o : Object) (n : ℕ) (h : Shdr) → (with_shdr o n h).header ≡ o.header
unfolding with_shdr with_section
shdr_header o n h = refl

shdr_count : (o : Object) (n : ℕ) (h : Shdr)
    → length (with_shdr o n h).sections ≡ length o.sections
unfolding with_shdr
shdr_count o n h =
    section_count-with_section o n (record (section_at o n) { header = h; marked = true })

pub own_step : (o : Object) (n : ℕ) (left : Items) → n < length o.sections
    → (header_at o n).stype ≢ SHT_STRTAB → StepOf o (with_own o n 0 left) n
own_step o n left inside no_strings =
    step_from o (with_own o n 0 left) n
    (λ t other. section_at-with_own_other o n t 0 left other) (own_header o n left)
    (own_phdrs o n left) (section_count-with_own o n 0 left)
    (ap (λ (c : Section). c.header.stype) (section_at-with_own o n 0 left inside))
    (ap (λ (c : Section). c.header.link) (section_at-with_own o n 0 left inside)) no_strings

info_step : (o : Object) (n info : ℕ) → n < length o.sections
    → (header_at o n).stype ≢ SHT_STRTAB
    → StepOf o (with_shdr o n (record (header_at o n) { info = info })) n
info_step o n info inside no_strings =
    let h : Shdr = record (header_at o n) { info = info } in
    step_from o (with_shdr o n (record (header_at o n) { info = info })) n
    (λ t other. section_at-with_shdr_other o n t h other) (shdr_header o n h)
    (shdr_phdrs o n h) (shdr_count o n h)
    (ap (λ (c : Section). c.header.stype) (section_at-with_shdr o n h inside))
    (ap (λ (c : Section). c.header.link) (section_at-with_shdr o n h inside)) no_strings

-- ---- A section that became own

-- a section whose first piece has these items of its own
abbrev pub owned : Section → Items → Section
owned c left =
    record c { pieces = set c.pieces 0 (own_piece left (get_or c.pieces 0 home_piece).align) }

pub owned_is : (o : Object) (n : ℕ) (left : Items) → n < length o.sections
    → section_at (with_own o n 0 left) n ≡ owned (section_at o n) left
unfolding piece_at
owned_is o n left inside = section_at-with_own o n 0 left inside

-- ---- A section that follows the order

module _ (s : ℕ) (order : List ℕ) where
  abbrev next : Object → ℕ → Object
  next o n = reordered_section s order o n

  abbrev by_kind : Object → ℕ → Option Kind → Object
  by_kind o n kind = elim kind [
    | None ↦ o
    | Some k ↦ with_own o n 0 (items_by_symbols order (items_at o n 0))
  ]

  abbrev by_group : Object → ℕ → Bool → ℕ → Object
  by_group o n group stype =
      if group && not (n == 0) then with_signature o order n
      else by_kind o n (kind_by_symbols stype)

  -- what holds of an object and of its three edits holds of the next one
  pub by_step : (P : Object → Type 0) (o : Object) (n : ℕ) → P o
      → ((n == 0) ≡ false
      → P (with_shdr o n (record (header_at o n) { info = new_index order (header_at o n).info })))
      → ((left : Items) → P (with_own o n 0 left)) → P (reordered_section s order o n)
  unfolding reordered_section
  by_step P o n same signed own =
      cond_both (not ((header_at o n).link == s)) o _ P (λ _. same)
      (λ _. cond_both ((header_at o n).stype == SHT_GROUP && not (n == 0))
      (with_signature o order n) _ P
      (λ group. cond_both (nat_lt (header_at o n).info (length order)) _ o P
      (λ _. signed (not-true (n == 0) (and_parts _ _ group).1)) (λ _. same))
      (λ _. kinds_of (kind_by_symbols (header_at o n).stype)))
    where
      kinds_of : (kind : Option Kind) → P (by_kind o n kind)
      kinds_of None = same
      kinds_of (Some kind) = own (items_by_symbols order (items_at o n 0))

  -- a section of a type that does not go by the symbols
  passes_over : (o : Object) (n stype : ℕ) → (header_at o n).stype ≡ stype
      → (stype == SHT_GROUP) ≡ false → kind_by_symbols stype ≡ None → next o n ≡ o
  unfolding reordered_section
  passes_over o n stype is no_group none =
      ap (λ (t : ℕ). if not ((header_at o n).link == s) then o
      else by_group o n (t == SHT_GROUP) t) is
      ∙ ap (λ (b : Bool). if not ((header_at o n).link == s) then o
      else by_group o n b stype) no_group
      ∙ ap (λ (k : Option Kind). if not ((header_at o n).link == s) then o
      else by_kind o n k) none
      ∙ either (not ((header_at o n).link == s))
    where
      either : (b : Bool) → ◌≡◌ {A = Object} (if b then o else o) o
      either true = refl
      either false = refl

  -- and one of a type that does
  follows : (o : Object) (n stype : ℕ) (kind : Kind) → (header_at o n).stype ≡ stype
      → (header_at o n).link ≡ s → (stype == SHT_GROUP) ≡ false
      → kind_by_symbols stype ≡ Some kind
      → next o n ≡ with_own o n 0 (items_by_symbols order (items_at o n 0))
  unfolding reordered_section
  follows o n stype kind is link no_group some =
      ap (λ (b : Bool). if not b then o
      else by_group o n ((header_at o n).stype == SHT_GROUP) (header_at o n).stype)
      (eq-eqb (header_at o n).link s link)
      ∙ ap (λ (t : ℕ). by_group o n (t == SHT_GROUP) t) is
      ∙ ap (λ (b : Bool). by_group o n b stype) no_group
      ∙ ap (by_kind o n) some

  pub reorder_step : (o : Object) (n : ℕ) → n < length o.sections → StepOf o (next o n) n
  reorder_step o n inside = by (cases_eq (header_at o n).stype SHT_STRTAB)
    where
      by : ((header_at o n).stype ≡ SHT_STRTAB) ⊎ ((header_at o n).stype ≡ SHT_STRTAB → ⊥)
          → StepOf o (next o n) n
      by (inl is) =
          subst (λ (p : Object). StepOf o p n) (sym (passes_over o n SHT_STRTAB is refl refl))
          (same_step o n)
      by (inr other) =
          by_step (λ p. StepOf o p n) o n (same_step o n)
          (λ _. info_step o n (new_index order (header_at o n).info) inside other)
          (λ left. own_step o n left inside other)

  -- ---- One section after the other

  abbrev through : Object → ℕ → ℕ → Object
  through o a m = fold next o (range_with_len a m)

  strings_through : (m a : ℕ) (o : Object) → a + m ≤ length o.sections
      → SameStrings o (through o a m)
  strings_through zero a o within = strings_stay o
  strings_through (suc m) a o within =
      let step = reorder_step o a (omega (arith, within)) in
      strings_both o (next o a) (through (next o a) (a + 1) m) step.strings
      (strings_through m (a + 1) (next o a) (omega (arith, within, step.strings.count)))

  before_stays : (m a t : ℕ) (o : Object) → a + m ≤ length o.sections → t < a
      → section_at (through o a m) t ≡ section_at o t
  before_stays zero a t o within low = refl
  before_stays (suc m) a t o within low =
      let step = reorder_step o a (omega (arith, within)) in
      before_stays m (a + 1) t (next o a) (omega (arith, within, step.strings.count))
      (omega (arith, low))
      ∙ step.others t (λ same. omega (arith, same, low))

  -- what a section is afterwards: the step on it, of an object in which it is as before
  record Reaches (o p : Object) (t : ℕ) : Type 0 where
    mid : Object
    strings : SameStrings o mid
    before : section_at mid t ≡ section_at o t
    after : section_at p t ≡ section_at (next mid t) t

  reaches : (m a t : ℕ) (o : Object) → a + m ≤ length o.sections → a ≤ t → t < a + m
      → Reaches o (through o a m) t
  reaches zero a t o within from below = absurd (omega (arith, from, below))
  reaches (suc m) a t o within from below =
      by (λ other. reaches m (a + 1) t (next o a) (omega (arith, within, step.strings.count))
      (omega (arith, from, other)) (omega (arith, below))) (cases_eq t a)
    where
      step : StepOf o (next o a) a
      step = reorder_step o a (omega (arith, within))

      by : ((t ≡ a → ⊥) → Reaches (next o a) (through (next o a) (a + 1) m) t)
          → (t ≡ a) ⊎ (t ≡ a → ⊥) → Reaches o (through o a (suc m)) t
      by rest (inl same) = record {
        mid = o;
        strings = strings_stay o;
        before = refl;
        after = before_stays m (a + 1) t (next o a) (omega (arith, within, step.strings.count))
            (omega (arith, same))
            ∙ ap (λ (k : ℕ). section_at (next o k) t) (sym same);
      }
      by rest (inr other) =
          let later = rest other in
          record {
            mid = later.mid;
            strings = strings_both o (next o a) later.mid step.strings later.strings;
            before = later.before ∙ step.others t other;
            after = later.after;
          }

-- ---- The whole

pub four_none : (a b c d : Option ElfError) → a ≡ None → b ≡ None → c ≡ None → d ≡ None
    → first_refusal (a ∷ b ∷ c ∷ d ∷ []) ≡ None
four_none a b c d first second third fourth =
    ap (λ (x : Option ElfError). first_refusal (x ∷ b ∷ c ∷ d ∷ [])) first
    ∙ ap (λ (x : Option ElfError). first_refusal (x ∷ c ∷ d ∷ [])) second
    ∙ ap (λ (x : Option ElfError). first_refusal (x ∷ d ∷ [])) third
    ∙ ap (λ (x : Option ElfError). first_refusal (x ∷ [])) fourth

each_none : (f : ℕ → Option ElfError) (a m t : ℕ)
    → first_refusal (map f (range_with_len a m)) ≡ None → a ≤ t → t < a + m → f t ≡ None
each_none f a zero t none from below = absurd (omega (arith, from, below))
each_none f a (suc m) t none from below =
    by (λ other. each_none f (a + 1) m t
    (none_rest (f a) (map f (range_with_len (a + 1) m)) none) (omega (arith, from, other))
    (omega (arith, below))) (cases_eq t a)
  where
    by : ((t ≡ a → ⊥) → f t ≡ None) → (t ≡ a) ⊎ (t ≡ a → ⊥) → f t ≡ None
    by rest (inl same) =
        ap f same ∙ none_first (f a) (map f (range_with_len (a + 1) m)) none
    by rest (inr other) = rest other

module _ (o : Object) (s : ℕ) (order : List ℕ) (is_table : (header_at o s).stype ≡ SHT_DYNSYM)
    (passed : reorder_refusal o s ≡ None) where
  abbrev moved : Items
  moved = items.Sym (in_order order (syms_of (items_at o s 0)))

  abbrev first : Object
  first = with_own o s 0 moved

  abbrev after : Object
  after = fold (reordered_section s order) first (range_with_len 0 (length o.sections))

  pub symbols_lent : lend_refusal o kinds.Sym s 0 ≡ None
  unfolding reorder_refusal
  symbols_lent =
      none_first (lend_refusal o kinds.Sym s 0) (map (reorder_refusal_of o s) (all_sections o))
      passed

  pub section_lent : (n : ℕ) → n < length o.sections → reorder_refusal_of o s n ≡ None
  unfolding reorder_refusal
  section_lent n below =
      each_none (reorder_refusal_of o s) 0 (length o.sections) n
      (none_rest (lend_refusal o kinds.Sym s 0) (map (reorder_refusal_of o s) (all_sections o))
      passed) (omega arith) (omega (arith, below))

  inside : s < length o.sections
  inside = lent_there o kinds.Sym s symbols_lent

  piece : 0 < piece_count o s
  piece = lent_piece o kinds.Sym s symbols_lent

  begun : StepOf o first s
  begun =
      own_step o s moved inside (λ is. apart_types SHT_DYNSYM SHT_STRTAB refl _ is_table is)

  bound : 0 + length o.sections ≤ length first.sections
  bound = omega (arith, begun.strings.count)

  strings_after : SameStrings first after
  strings_after = strings_through s order (length o.sections) 0 first bound

  pub reordered_strings : SameStrings o (reordered o s order)
  unfolding reordered
  reordered_strings = strings_both o first after begun.strings strings_after

  reach : (n : ℕ) → n < length o.sections → Reaches s order first after n
  reach n below =
      reaches s order (length o.sections) 0 n first bound (omega arith) (omega (arith, below))

  -- ---- The symbols

  symbols_stay : section_at after s ≡ section_at first s
  symbols_stay =
      let r = reach s inside in
      r.after
      ∙ ap (λ (p : Object). section_at p s)
      (passes_over s order r.mid s SHT_DYNSYM
      (r.strings.stype s ∙ begun.strings.stype s ∙ is_table) refl refl)
      ∙ r.before

  -- a section of a type that does not go by the symbols stays
  pub unmoved : (n stype : ℕ) → (header_at o n).stype ≡ stype → (stype == 0) ≡ false
      → (stype == SHT_GROUP) ≡ false → (stype == SHT_DYNSYM) ≡ false
      → kind_by_symbols stype ≡ None → section_at (reordered o s order) n ≡ section_at o n
  unfolding reordered
  unmoved n stype is some no_group no_table none =
      let r = reach n (there_by_type o n stype is some) in
      r.after
      ∙ ap (λ (p : Object). section_at p n)
      (passes_over s order r.mid n stype (r.strings.stype n ∙ begun.strings.stype n ∙ is) no_group
      none)
      ∙ r.before
      ∙ begun.others n (λ same. apart_types stype SHT_DYNSYM no_table (header_at o n).stype is
      (ap (λ (k : ℕ). (header_at o k).stype) same ∙ is_table))

  same_symbols : IsSameAt first after s
  same_symbols = record {
    header = strings_after.header;
    count = strings_after.count;
    section = symbols_stay;
  }

  pub reordered_symbols : items_at (reordered o s order) s 0
      ≡ items.Sym (in_order order (syms_of (items_at o s 0)))
  unfolding reordered
  reordered_symbols =
      same_items first after s same_symbols ∙ items_at-with_own o s 0 moved inside piece

  pub reordered_table : section_at (reordered o s order) s
      ≡ owned (section_at o s) (items.Sym (in_order order (syms_of (items_at o s 0))))
  unfolding reordered
  reordered_table = symbols_stay ∙ owned_is o s moved inside

  own_content : no_content first s 0 ≡ None
  unfolding no_content
  own_content =
      ap (λ (q : Piece). elim (q.own) [
        | None ↦ err_of (content first s)
        | Some left ↦ None
      ]) (piece_at-with_own o s 0 moved inside piece)

  own_lent : lend_refusal first kinds.Sym s 0 ≡ None
  unfolding lend_refusal
  own_lent =
      four_none (no_section first s) (no_data first s 0) (wrong_kind first kinds.Sym s 0)
      (no_content first s 0)
      (ap (λ (b : Bool). refused_if b (NoSection s (length first.sections)))
      (lt-leb (length first.sections) s (omega (arith, inside, begun.strings.count))))
      (ap (λ (b : Bool). refused_if b (NoData 0 (piece_count first s)))
      (lt-leb (piece_count first s) 0
      (omega (arith, piece, piece_count-with_own o s 0 moved inside))))
      (ap (λ (b : Bool). refused_if (not b) (WrongKind (kind_at first s 0)))
      (same_kind-same (kind_at first s 0) kinds.Sym
      (kind_at-with_own o s 0 moved inside piece)))
      own_content

  pub reordered_lent : lend_refusal (reordered o s order) kinds.Sym s 0 ≡ None
  unfolding reordered
  reordered_lent = same_lend first after s same_symbols kinds.Sym ∙ own_lent

  -- ---- A section that goes by the symbols

  module _ (n stype : ℕ) (kind : Kind) (is : (header_at o n).stype ≡ stype)
      (link : (header_at o n).link ≡ s) (some : (stype == 0) ≡ false)
      (no_group : (stype == SHT_GROUP) ≡ false) (no_table : (stype == SHT_DYNSYM) ≡ false)
      (goes : kind_by_symbols stype ≡ Some kind) where
    below : n < length o.sections
    below = there_by_type o n stype is some

    apart : n ≢ s
    apart same =
        apart_types stype SHT_DYNSYM no_table (header_at o n).stype is
        (ap (λ (k : ℕ). (header_at o k).stype) same ∙ is_table)

    abbrev refused_by : Option Kind → Option ElfError
    refused_by goes = elim goes [
      | None ↦ None
      | Some k ↦ first_refusal (lend_refusal o k n 0 ∷ too_few_items o (count_at o s 0) n ∷ [])
    ]

    refused_as : reorder_refusal_of o s n ≡ refused_by (Some kind)
    unfolding reorder_refusal_of
    refused_as =
        ap (λ (b : Bool). if not b then None
        else refused_by (kind_by_symbols (header_at o n).stype))
        (eq-eqb (header_at o n).link s link)
        ∙ ap refused_by (ap kind_by_symbols is ∙ goes)

    pub item_lent : lend_refusal o kind n 0 ≡ None
    item_lent =
        none_first (lend_refusal o kind n 0) (too_few_items o (count_at o s 0) n ∷ [])
        (sym refused_as ∙ section_lent n below)

    abbrev r : Reaches s order first after n
    r = reach n below

    mid_same : IsSameAt o r.mid n
    mid_same = record {
      header = r.strings.header ∙ begun.strings.header;
      count = r.strings.count ∙ begun.strings.count;
      section = r.before ∙ begun.others n apart;
    }

    mid_inside : n < length r.mid.sections
    mid_inside = omega (arith, below, mid_same.count)

    mid_piece : 0 < piece_count r.mid n
    unfolding piece_count
    mid_piece =
        subst (λ (c : Section). 0 < length c.pieces) (sym mid_same.section)
        (lent_piece o kind n item_lent)

    stepped : StepOf r.mid (next s order r.mid n) n
    stepped = reorder_step s order r.mid n mid_inside

    at_end : IsSameAt (next s order r.mid n) after n
    at_end = record {
      header = strings_after.header ∙ sym (stepped.strings.header ∙ r.strings.header);
      count = strings_after.count ∙ sym (stepped.strings.count ∙ r.strings.count);
      section = r.after;
    }

    -- the section itself
    pub reordered_section_is : section_at (reordered o s order) n
        ≡ owned (section_at o n) (items_by_symbols order (items_at o n 0))
    unfolding reordered
    reordered_section_is =
        r.after
        ∙ ap (λ (p : Object). section_at p n)
        (follows s order r.mid n stype kind
        (r.strings.stype n ∙ begun.strings.stype n ∙ is)
        (r.strings.link n ∙ begun.strings.link n ∙ link) no_group goes)
        ∙ owned_is r.mid n (items_by_symbols order (items_at r.mid n 0)) mid_inside
        ∙ ap (λ (c : Section). owned c (items_by_symbols order (items_at r.mid n 0)))
        mid_same.section
        ∙ ap (λ (l : Items). owned (section_at o n) (items_by_symbols order l))
        (same_items o r.mid n mid_same)

    pub reordered_items : items_at (reordered o s order) n 0
        ≡ items_by_symbols order (items_at o n 0)
    unfolding reordered
    reordered_items =
        same_items (next s order r.mid n) after n at_end
        ∙ ap (λ (p : Object). items_at p n 0)
        (follows s order r.mid n stype kind
        (r.strings.stype n ∙ begun.strings.stype n ∙ is)
        (r.strings.link n ∙ begun.strings.link n ∙ link) no_group goes)
        ∙ items_at-with_own r.mid n 0 (items_by_symbols order (items_at r.mid n 0)) mid_inside
        mid_piece
        ∙ ap (items_by_symbols order) (same_items o r.mid n mid_same)
