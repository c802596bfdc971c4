-- What sections get, stored one after another.
use Rattle.std.proofs.Common.{◌≡◌, ◌+◌, ◌-◌, ◌<◌, ◌≤◌, ◌⊎◌, ℕ, zero, suc, Bool, true, false, not, List, [], ◌∷◌, length, get_or, Option, Some, None, Result, Ok, Err, refl, sym, ap, ◌∙◌, subst, inl, inr, arith}
use Rattle.std.specs.Prelude.{Contains, is_none, is_some, nat_le, unwrap_or, slice_get, ◌==◌, ◌||◌, if◌then◌else◌}
use Rattle.std.proofs.lemmas.Bool.{cases_eq, leb-false, ltb-true}
use Rattle.std.proofs.lemmas.List.Sums.{sum_by-cons}
use Rattle.elf_types.specs.declared.records.Class.{Class}
use Rattle.elf_types.specs.declared.records.Order.{Order}
use Rattle.elf_types.specs.declared.records.Kind.{Kind}
use Rattle.elf_types.specs.declared.records.Ehdr.{Ehdr}
use Rattle.elf_types.specs.declared.records.Shdr.{Shdr}
use Rattle.elf_types.specs.declared.records.Part.TheVariants as part
use Rattle.elf_types.specs.declared.errors.ElfError.{ElfError}
use Rattle.elf_types.specs.declared.errors.ElfError.TheVariants.{Memory, Read, NoSection, NoData, WrongKind, OutOfFile, Ragged, Reserved, Unfit}
use Rattle.elf_types.specs.Answers.{refused_if, first_refusal, answered, err_of}
use Rattle.elf_xlate.specs.declared.content.Items.{Items}
use Rattle.elf_xlate.specs.Headers.{shdr_fits}
use Rattle.elf_xlate.specs.Translation.{decoded, items_kind}
use Rattle.elf_outside.specs.declared.sources.Source.{Ghosts}
use Rattle.elf_outside.specs.Asks.{Asks}
use Rattle.elf_outside.proofs.AskLemmas.{asks_both, asks_then, asks_fewer}
use Rattle.symbol_lookup.specs.elf_object.Words.{Answers}
use Rattle.symbol_lookup.specs.elf_object.Object.{Object, Section, Piece, section_at, piece_at, home_piece}
use Rattle.symbol_lookup.specs.elf_object.Answers.{content, or_empty, items_at, kind_at, piece_count, same_kind, no_content, lend_refusal, no_section}
use Rattle.symbol_lookup.specs.elf_object.Due.{is_loaded, holds_items, home_due, homes_due, is_refused_unread, unless_refused, when_piece_clean}
use Rattle.symbol_lookup.specs.elf_object.Steps.{with_own, with_piece_at, with_section, with_shdr}
use Rattle.symbol_lookup.specs.elf_object.Calls.{due, update_shdr_refusal}
use Rattle.symbol_lookup.specs.elf_object.Calls as calls
use Rattle.symbol_lookup.proofs.elf_object.PassedLaws.{none_first, not_refused}
use Rattle.symbol_lookup.proofs.elf_object.StepLaws.{section_count-with_own, section_count-with_section, section_at-with_own, section_at-with_own_other, section_at-with_shdr, section_at-with_shdr_other}
use Rattle.symbol_lookup.specs.elf_descriptor.State.{State}
use Rattle.symbol_lookup.specs.elf_descriptor.Reads.{wanted}
use Rattle.symbol_lookup.specs.elf_descriptor.Lends.{IsLent}
use Rattle.symbol_lookup.specs.elf_descriptor.Edits.{stepped}
use Rattle.symbol_lookup.proofs.elf_descriptor.LendLaws.{lend_there}
use Rattle.symbol_lookup.specs.elf_object.Sections.{header_at}
use Rattle.hash_order.specs.declared.nexts.Next.{Next}
use Rattle.hash_order.specs.declared.nexts.Next.TheVariants as nexts
use Rattle.hash_order.specs.Plans.{signed, gets, stored, IsAtHand, IsReadyNext, IsNoItems}
use Rattle.hash_order.specs.Reading.{Stores, StoresOne}

-- ---- Refusals and items by the section alone

abbrev content_by : Section → Class → Order → ℕ → Result Items ElfError
content_by c class order n =
    if c.home.out then Err (OutOfFile n)
    else (elim (decoded c.home.kind class order c.raw) as
    (λ (x : Option Items). Result Items ElfError) [
      | None ↦ Err (Ragged n)
      | Some l ↦ Ok l
    ])

abbrev kind_in : Section → Kind
kind_in c = elim ((get_or c.pieces 0 home_piece).own) as (λ (x : Option Items). Kind) [
  | None ↦ c.home.kind
  | Some l ↦ items_kind l
]

abbrev lend_by : Kind → ℕ → ℕ → Section → Class → Order → Option ElfError
lend_by kind n count c class order =
    first_refusal
    (refused_if (nat_le count n) (NoSection n count)
    ∷ refused_if (nat_le (length c.pieces) 0) (NoData 0 (length c.pieces))
    ∷ refused_if (not (same_kind (kind_in c) kind)) (WrongKind (kind_in c))
    ∷ (elim ((get_or c.pieces 0 home_piece).own) as (λ (x : Option Items). Option ElfError) [
      | None ↦ err_of (content_by c class order n)
      | Some l ↦ None
    ])
    ∷ [])

lend_is : (o : Object) (kind : Kind) (n : ℕ)
    → lend_refusal o kind n 0
    ≡ lend_by kind n (length o.sections) (section_at o n) o.header.class o.header.order
unfolding lend_refusal no_content content kind_at piece_at piece_count
lend_is o kind n = refl

abbrev items_by : ℕ → Section → Class → Order → Items
items_by n c class order =
    elim ((get_or c.pieces 0 home_piece).own) as (λ (x : Option Items). Items) [
      | None ↦ or_empty (content_by c class order n)
      | Some l ↦ l
    ]

items_are : (o : Object) (n : ℕ)
    → items_at o n 0 ≡ items_by n (section_at o n) o.header.class o.header.order
unfolding items_at content piece_at
items_are o n = refl

piece_is : (o : Object) (n : ℕ) → piece_at o n 0 ≡ get_or (section_at o n).pieces 0 home_piece
unfolding piece_at
piece_is o n = refl

-- an object in which a section is as it was
pub record IsSameAt (o z : Object) (n : ℕ) : Type 0 where
  pub header : z.header ≡ o.header
  pub count : length z.sections ≡ length o.sections
  pub section : section_at z n ≡ section_at o n

module _ (o z : Object) (n : ℕ) (same : IsSameAt o z n) where
  pub same_lend : (kind : Kind) → lend_refusal z kind n 0 ≡ lend_refusal o kind n 0
  same_lend kind =
      lend_is z kind n
      ∙ ap (λ (c : Section).
      lend_by kind n (length z.sections) c z.header.class z.header.order) same.section
      ∙ ap (λ (m : ℕ).
      lend_by kind n m (section_at o n) z.header.class z.header.order) same.count
      ∙ ap (λ (h : Ehdr).
      lend_by kind n (length o.sections) (section_at o n) h.class h.order) same.header
      ∙ sym (lend_is o kind n)

  pub same_items : items_at z n 0 ≡ items_at o n 0
  same_items =
      items_are z n
      ∙ ap (λ (c : Section). items_by n c z.header.class z.header.order) same.section
      ∙ ap (λ (h : Ehdr). items_by n (section_at o n) h.class h.order) same.header
      ∙ sym (items_are o n)

  pub same_piece : piece_at z n 0 ≡ piece_at o n 0
  same_piece =
      piece_is z n ∙ ap (λ (c : Section). get_or c.pieces 0 home_piece) same.section
      ∙ sym (piece_is o n)

  same_update : (h : Shdr) → update_shdr_refusal z n h ≡ update_shdr_refusal o n h
  unfolding update_shdr_refusal
  same_update h =
      ap (λ (m : ℕ). first_refusal (refused_if (nat_le m n) (NoSection n m)
      ∷ refused_if (n == 0) Reserved
      ∷ refused_if (not (shdr_fits z.header.class h)) (Unfit (part.Section n) 0) ∷ [])) same.count
      ∙ ap (λ (e : Ehdr). first_refusal
      (refused_if (nat_le (length o.sections) n) (NoSection n (length o.sections))
      ∷ refused_if (n == 0) Reserved
      ∷ refused_if (not (shdr_fits e.class h)) (Unfit (part.Section n) 0) ∷ [])) same.header

-- an object in which the header of a section is as it was
pub record HasSameHeader (o z : Object) (n : ℕ) : Type 0 where
  pub header : z.header ≡ o.header
  pub count : length z.sections ≡ length o.sections
  pub section : header_at z n ≡ header_at o n

pub signed_stays : (o z : Object) (n info : ℕ) → HasSameHeader o z n
    → update_shdr_refusal o n (signed o n info) ≡ None
    → update_shdr_refusal z n (signed z n info) ≡ None
unfolding update_shdr_refusal
signed_stays o z n info same passed =
    ap (λ (h : Shdr). first_refusal
    (refused_if (nat_le (length z.sections) n) (NoSection n (length z.sections))
    ∷ refused_if (n == 0) Reserved
    ∷ refused_if (not (shdr_fits z.header.class (record h { info = info })))
    (Unfit (part.Section n) 0) ∷ [])) same.section
    ∙ ap (λ (m : ℕ). first_refusal (refused_if (nat_le m n) (NoSection n m)
    ∷ refused_if (n == 0) Reserved
    ∷ refused_if (not (shdr_fits z.header.class (signed o n info)))
    (Unfit (part.Section n) 0) ∷ [])) same.count
    ∙ ap (λ (e : Ehdr). first_refusal
    (refused_if (nat_le (length o.sections) n) (NoSection n (length o.sections))
    ∷ refused_if (n == 0) Reserved
    ∷ refused_if (not (shdr_fits e.class (signed o n info))) (Unfit (part.Section n) 0) ∷ []))
    same.header
    ∙ passed

-- ---- What an edit leaves of the others

own_header : (o : Object) (n : ℕ) (l : Items) → (with_own o n 0 l).header ≡ o.header
unfolding with_own with_piece_at with_section
own_header o n l = refl

shdr_header : (o : Object) (n : ℕ) (h : Shdr) → (with_shdr o n h).header ≡ o.header
unfolding with_shdr with_section
shdr_header o n h = refl

shdr_count : (o : Object) (n : ℕ) (h : Shdr)
    → length (with_shdr o n h).sections ≡ length o.sections
unfolding with_shdr
shdr_count o n h =
    section_count-with_section o n (record (section_at o n) { header = h; marked = true })

pub own_same : (o : Object) (n m : ℕ) (l : Items) → (m ≡ n → ⊥)
    → IsSameAt o (with_own o n 0 l) m
own_same o n m l other = record {
  header = own_header o n l;
  count = section_count-with_own o n 0 l;
  section = section_at-with_own_other o n m 0 l other;
}

-- its own header too
pub own_headers : (o : Object) (n m : ℕ) (l : Items) → n < length o.sections
    → HasSameHeader o (with_own o n 0 l) m
own_headers o n m l below = record {
  header = own_header o n l;
  count = section_count-with_own o n 0 l;
  section = by (cases_eq m n);
}
  where
    by : (m ≡ n) ⊎ (m ≡ n → ⊥) → header_at (with_own o n 0 l) m ≡ header_at o m
    by (inl same) =
        ap (λ (k : ℕ). header_at (with_own o n 0 l) k) same
        ∙ ap (λ (c : Section). c.header) (section_at-with_own o n 0 l below)
        ∙ ap (λ (k : ℕ). header_at o k) (sym same)
    by (inr other) = ap (λ (c : Section). c.header) (section_at-with_own_other o n m 0 l other)

pub gets_same : (o : Object) (n m : ℕ) (x : Next) → (m ≡ n → ⊥) → IsSameAt o (gets o n x) m
gets_same o n m nexts.Stay other = record { header = refl; count = refl; section = refl }
gets_same o n m (nexts.Items l) other = own_same o n m l other
gets_same o n m (nexts.Signature info) other = record {
  header = shdr_header o n (signed o n info);
  count = shdr_count o n (signed o n info);
  section = section_at-with_shdr_other o n m (signed o n info) other;
}

pub gets_count : (o : Object) (n : ℕ) (x : Next) → length (gets o n x).sections ≡ length o.sections
gets_count o n nexts.Stay = refl
gets_count o n (nexts.Items l) = section_count-with_own o n 0 l
gets_count o n (nexts.Signature info) = shdr_count o n (signed o n info)

-- ---- What is at hand stays so

module _ {S : Type 0} (g : Ghosts S) (old new : State S) (after : Object)
    (one : StoresOne g old new after) where
  hand_after : (n : ℕ) (kind : Kind) → IsSameAt old.o after n → IsAtHand old n kind
      → IsAtHand new n kind
  hand_after n kind same hand =
      let now : IsSameAt old.o new.o n =
      subst (λ (z : Object). IsSameAt old.o z n) (sym one.stores.object) same in
      record {
        passed = same_lend old.o new.o n now kind ∙ hand.passed;
        holds = one.holds_on n (lend_there old.o kind n 0 hand.passed).1 hand.holds;
        loaded = λ clean. one.stores.same n
            ∙ hand.loaded (ap (λ (p : Piece). p.own) (sym (same_piece old.o new.o n now)) ∙ clean);
      }

  -- of a section that is as it was
  pub ready_after : (n : ℕ) (x : Next) → IsSameAt old.o after n → IsReadyNext old n x
      → IsReadyNext new n x
  ready_after n nexts.Stay same ready = tt
  ready_after n (nexts.Items l) same ready =
      (ready.0, hand_after n (items_kind l) same ready.1)
  ready_after n (nexts.Signature info) same ready =
      signed_stays old.o new.o n info
      (subst (λ (z : Object). HasSameHeader old.o z n) (sym one.stores.object) (record {
        header = same.header;
        count = same.count;
        section = ap (λ (c : Section). c.header) same.section;
      })) ready

  -- of one that gets no items, and whose header is as it was
  pub ready_apart : (n : ℕ) (x : Next) → HasSameHeader old.o after n → IsNoItems x → IsReadyNext old n x
      → IsReadyNext new n x
  ready_apart n nexts.Stay same apart ready = tt
  ready_apart n (nexts.Items l) same apart ready = absurd apart
  ready_apart n (nexts.Signature info) same apart ready =
      signed_stays old.o new.o n info
      (subst (λ (z : Object). HasSameHeader old.o z n) (sym one.stores.object) same) ready

-- ---- One after another

module _ {S : Type 0} (g : Ghosts S) where
  asks_none : (source : S) → Asks {T = Unit {0}} g (Ok tt) source source 0
  asks_none source = record {
    leaves = record { same_len = refl; same_bytes = refl; same_rest = refl };
    later = omega arith;
    read = tt;
    taken = record { later = omega arith; no_more = omega arith };
  }

  pub stores_none : (state : State S) → Stores g state state state.o
  stores_none state = record {
    object = refl;
    told = refl;
    asks = asks_none state.source;
    same = λ i. refl;
  }

  pub one_none : (state : State S) → StoresOne g state state state.o
  one_none state = record { stores = stores_none state; holds_on = λ i there is. is }

  pub stores_both : (old mid new : State S) (a b : Object) → Stores g old mid a
      → Stores g mid new b → Stores g old new b
  stores_both old mid new a b first second = record {
    object = second.object;
    told = second.told ∙ first.told;
    asks = asks_fewer g (Ok tt) old.source new.source (0 + 0) 0 (omega arith)
        (asks_both g (Ok tt) (Ok tt) old.source mid.source new.source 0 0 first.asks second.asks);
    same = λ i. second.same i ∙ first.same i;
  }

-- ---- A list that is lent

no_own : (own : Option Items) → is_none own ≡ true → own ≡ None
no_own None is = refl
no_own (Some l) is = cc

no_item : (i : ℕ) → Contains [] i → ⊥
no_item i found = let below = found.1 in absurd (omega (arith, below))

one_item : (n i : ℕ) → Contains (n ∷ []) i → i ≡ n
one_item n i found = by found.0 found.1 found.2
  where
    by : (k : ℕ) → k < length (n ∷ []) → get_or (n ∷ []) k i ≡ i → i ≡ n
    by zero below is = sym is
    by (suc k) below is = absurd (omega (arith, below))

not_there : (n : ℕ) (refused clean : Bool) (i : ℕ) → (clean ≡ true → i ≡ n → ⊥)
    → ¬ Contains (if refused then [] else (if clean then n ∷ [] else [])) i
not_there n true clean i other = λ found. no_item i found
not_there n false true i other = λ found. other refl (one_item n i found)
not_there n false false i other = λ found. no_item i found

module _ {S : Type 0} (g : Ghosts S) (kind : Kind) (n : ℕ) (old : State S)
    (hand : IsAtHand old n kind) where
  clean_due : (own : Option Items) → (piece_at old.o n 0).own ≡ own
      → homes_due old.o old.loaded (if is_none own then n ∷ [] else []) ≡ 0
  unfolding homes_due home_due
  clean_due (Some l) is = refl
  clean_due None is =
      let zero : home_due old.o old.loaded n ≡ 0 =
      ap (λ (b : Bool).
      if b || (section_at old.o n).home.out then 0 else (section_at old.o n).home.len)
      (hand.loaded is) in
      omega (arith, zero, sum_by-cons (home_due old.o old.loaded) n [])

  hand_due : homes_due old.o old.loaded
      (unless_refused (lend_refusal old.o kind n 0) (when_piece_clean old.o n 0)) ≡ 0
  unfolding when_piece_clean
  hand_due =
      ap (λ (r : Option ElfError). homes_due old.o old.loaded
      (unless_refused r (if is_none (piece_at old.o n 0).own then n ∷ [] else []))) hand.passed
      ∙ clean_due (piece_at old.o n 0).own refl

  -- it is due nothing
  lend_due : (l : Items) → items_kind l ≡ kind → due (calls.lend n 0 l) old.o old.loaded ≡ 0
  lend_due l is =
      ap (λ (k : Kind). homes_due old.o old.loaded
      (unless_refused (lend_refusal old.o k n 0) (when_piece_clean old.o n 0))) is
      ∙ hand_due

  -- what is loaded: of a piece that is not own the home is by now
  lent_alone : {T : Type 0} (r : Result T ElfError) (new : State S) (left : Items)
      → IsLent g r old new n 0 left → (i : ℕ)
      → (is_none (piece_at old.o n 0).own ≡ true → i ≡ n → ⊥)
      → is_loaded new.loaded i ≡ is_loaded old.loaded i
  unfolding when_piece_clean
  lent_alone r new left lent i other =
      lent.reads.loads i
      (not_there n (is_refused_unread (lend_refusal old.o (items_kind left) n 0))
      (is_none (piece_at old.o n 0).own) i other)

  lent_loaded : {T : Type 0} (r : Result T ElfError) (new : State S) (left : Items)
      → IsLent g r old new n 0 left → (i : ℕ)
      → is_loaded new.loaded i ≡ is_loaded old.loaded i
  lent_loaded r new left lent i = by (is_none (piece_at old.o n 0).own) refl (cases_eq i n)
    where
      by : (clean : Bool) → is_none (piece_at old.o n 0).own ≡ clean → (i ≡ n) ⊎ (i ≡ n → ⊥)
          → is_loaded new.loaded i ≡ is_loaded old.loaded i
      by clean own (inr other) = lent_alone r new left lent i (λ is same. other same)
      by false own (inl same) =
          lent_alone r new left lent i
          (λ is at. let never : false ≡ true = sym own ∙ is in cc)
      by true own (inl same) =
          let before : is_loaded old.loaded i ≡ true =
          ap (λ (k : ℕ). is_loaded old.loaded k) same
          ∙ hand.loaded (no_own (piece_at old.o n 0).own own) in
          lent.reads.stays i before ∙ sym before

  pub lent_stores : {T : Type 0} (r : Result T ElfError) (new : State S) (left : Items)
      → items_kind left ≡ kind → IsLent g r old new n 0 left
      → StoresOne g old new (with_own old.o n 0 left)
  lent_stores r new left is lent =
      let none = lend_due left is in
      record {
        stores = record {
          object = lent.object;
          told = lent.reads.told;
          asks = asks_fewer g (Ok tt) old.source new.source
              (due (calls.lend n 0 left) old.o old.loaded) 0 (omega (arith, none))
              (asks_then g r (Ok tt) old.source new.source
              (due (calls.lend n 0 left) old.o old.loaded) lent.reads.source tt);
          same = λ i. lent_loaded r new left lent i;
        };
        holds_on = λ i there held. lent.reads.holds_on i 0 there held;
      }

  -- it is never refused
  pub never_lent : (e : ElfError) (l : Items) → items_kind l ≡ kind
      → Answers {A = Unit {0}} true (wanted (calls.lend n 0 l) old) (Err e)
      (answered (lend_refusal old.o kind n 0) (tt {0})) → ⊥
  never_lent Memory l is came =
      let never : false ≡ true = sym (ap not hand.holds) ∙ came.0 in cc
  never_lent Read l is came =
      let some = ltb-true 0 (due (calls.lend n 0 l) old.o old.loaded) came.0 in
      let none = lend_due l is in
      absurd (omega (arith, some, none))
  never_lent e l is came =
      let never : ◌≡◌ {A = Result (Unit {0}) ElfError} (Ok tt) (Err e) =
      sym (ap (λ (r : Option ElfError). answered r (tt {0})) hand.passed) ∙ came in
      cc

-- ---- A header that is stored

pub shdr_there : (o : Object) (n : ℕ) (h : Shdr) → update_shdr_refusal o n h ≡ None
    → n < length o.sections
unfolding update_shdr_refusal
shdr_there o n h passed =
    leb-false (length o.sections) n
    (not_refused (nat_le (length o.sections) n) (NoSection n (length o.sections))
    (none_first (no_section o n) _ passed))

shdr_piece : (o : Object) (n i : ℕ) (h : Shdr) → n < length o.sections
    → piece_at (with_shdr o n h) i 0 ≡ piece_at o i 0
shdr_piece o n i h below =
    piece_is (with_shdr o n h) i
    ∙ ap (λ (l : List Piece). get_or l 0 home_piece) (by (cases_eq i n))
    ∙ sym (piece_is o i)
  where
    by : (i ≡ n) ⊎ (i ≡ n → ⊥) → (section_at (with_shdr o n h) i).pieces ≡ (section_at o i).pieces
    by (inl same) =
        ap (λ (k : ℕ). (section_at (with_shdr o n h) k).pieces) same
        ∙ ap (λ (c : Section). c.pieces) (section_at-with_shdr o n h below)
        ∙ ap (λ (k : ℕ). (section_at o k).pieces) (sym same)
    by (inr other) =
        ap (λ (c : Section). c.pieces) (section_at-with_shdr_other o n i h other)

pub shdr_stores : {S : Type 0} (g : Ghosts S) (old new : State S) (n : ℕ) (h k : Shdr)
    → update_shdr_refusal old.o n h ≡ None → k ≡ h → new ≡ stepped (calls.update_shdr n k) old
    → StoresOne g old new (with_shdr old.o n h)
unfolding holds_items
shdr_stores {S} g old new n h k passed same is =
    let below = shdr_there old.o n h passed in
    let state : new ≡ record old { o = with_shdr old.o n h; ready = false } =
    is ∙ ap (λ (x : Shdr). record old { o = with_shdr old.o n x; ready = false }) same in
    subst (λ (z : State S). StoresOne g old z (with_shdr old.o n h)) (sym state) (record {
      stores = record {
        object = refl;
        told = refl;
        asks = asks_none g old.source;
        same = λ i. refl;
      };
      holds_on = λ i there held.
          ap (λ (p : Piece). is_some p.own || unwrap_or (slice_get old.held i) false)
          (shdr_piece old.o n i h below) ∙ held;
    })

pub never_stored : (o : Object) (n : ℕ) (h k : Shdr) (e : ElfError)
    → update_shdr_refusal o n h ≡ None → k ≡ h
    → ◌≡◌ {A = Result (Unit {0}) ElfError} (Err e) (answered (update_shdr_refusal o n k) (tt {0}))
    → ⊥
never_stored o n h k e passed same came =
    let never : ◌≡◌ {A = Result (Unit {0}) ElfError} (Err e) (Ok tt) =
    came ∙ ap (λ (x : Shdr). answered (update_shdr_refusal o n x) (tt {0})) same
    ∙ ap (λ (r : Option ElfError). answered r (tt {0})) passed in
    cc

-- ---- What is planned, section by section

pub stored_more : (given : ℕ → Next) (n count : ℕ) (o : Object) → n < count
    → stored given n (count - n) o
    ≡ stored given (n + 1) (count - (n + 1)) (gets o n (given n))
unfolding stored
stored_more given n count o below =
    ap (λ (k : ℕ). stored given n k o)
    (let one : count - n ≡ suc (count - (n + 1)) = omega (arith, below) in one)

pub stored_all : (given : ℕ → Next) (n count : ℕ) (o : Object) → count ≤ n
    → stored given n (count - n) o ≡ o
unfolding stored
stored_all given n count o past =
    ap (λ (k : ℕ). stored given n k o)
    (let none : count - n ≡ 0 = omega (arith, past) in none)
