-- What is held of rows, some of them after others, and what is asked for.
use Rattle.std.proofs.Common.{◌≡◌, ◌+◌, ◌-◌, ◌*◌, ◌/◌, ◌<◌, ◌≤◌, ◌^◌, ℕ, Bool, List, [], ◌++◌, None, Result, Ok, Err, refl, sym, ap, ◌∙◌, subst, append_assoc, arith}
use Rattle.std.specs.Prelude.{IsTrue, min}
use Rattle.std.proofs.lemmas.Nat.{mul-le}
use Rattle.std.proofs.lemmas.List.{append-nil}
use Rattle.elf_types.specs.declared.records.Class.{Class}
use Rattle.elf_types.specs.declared.records.Kind.TheVariants as kinds
use Rattle.elf_types.specs.declared.records.Sym.{Sym}
use Rattle.elf_types.specs.declared.errors.ElfError.{ElfError}
use Rattle.elf_types.specs.declared.errors.ElfError.TheVariants.{Memory}
use Rattle.elf_outside.specs.declared.sources.Source.{Ghosts}
use Rattle.elf_xlate.specs.declared.content.Items.TheVariants as items
use Rattle.elf_xlate.specs.Items.{item_size}
use Rattle.elf_xlate.specs.Translation.{encoded, first_unfit}
use Rattle.rebuild_image.specs.elf_object.Object.{Object}
use Rattle.rebuild_keep.specs.elf_descriptor.State.{State}
use Rattle.rebuild_image.specs.rebuild_model.Followed.{Renumbering, followed_syms}
use Rattle.rebuild_keep.specs.Makes.{AsksFor}
use Rattle.rebuild_keep.proofs.AskLaws.{asks_stop, asks_more, asks_nothing, asks_memory, asks_twice}
use Rattle.rebuild_keep.proofs.FitLaws.{followed_fit}
use Rattle.rebuild_tables.specs.declared.rows.TableAt.{TableAt}
use Rattle.rebuild_tables.specs.declared.rows.FollowedRows.{FollowedRows}
use Rattle.rebuild_tables.specs.Rows.{AreInBase, rows_made, rows_made_between, row_count, items_within, rows_due, tables_due, HoldsMade}
use Rattle.rebuild_tables.proofs.PieceLaws.{sizes_add}
use Rattle.rebuild_tables.proofs.FollowLaws.{form_to, form_none, form_more, form_all}

-- ---- What fits

-- symbols that follow, where they are told as another list
pub made_syms_fit : (class : Class) (m : Renumbering) (words : List ℕ) (syms made : List Sym)
    → first_unfit class (items.Sym syms) ≡ None → made ≡ followed_syms m words syms
    → first_unfit class (items.Sym made) ≡ None
made_syms_fit class m words syms made fits is =
    ap (λ (l : List Sym). first_unfit class (items.Sym l)) is
    ∙ followed_fit class m words syms fits

pub made_words_fit : (class : Class) (l : List ℕ) → first_unfit class (items.Word l) ≡ None
unfolding first_unfit
made_words_fit class l = refl

-- ---- Numbers

-- what is due of rows that stand one behind the other
within_more : (t : TableAt) (size a b : ℕ) → a ≤ b
    → items_within t 0 a * size + items_within t a b * size ≡ items_within t 0 b * size
within_more t size a b order =
    sizes_add (items_within t 0 a) (items_within t a b) size
    ∙ ap (λ (n : ℕ). n * size)
    (let sum : items_within t 0 a + items_within t a b ≡ items_within t 0 b =
    omega (arith, order) in sum)

four_parts : (a b c d e f : ℕ) → a + c ≡ e → b + d ≡ f → (a + b) + (c + d) ≡ e + f
four_parts a b c d e f first second = omega (arith, first, second)

due_more : (x : FollowedRows) (a b : ℕ) → a ≤ b
    → rows_due x 0 a + rows_due x a b ≡ rows_due x 0 b
due_more x a b order =
    four_parts (items_within x.words 0 a * item_size kinds.Word x.class)
    (items_within x.syms 0 a * item_size kinds.Sym x.class)
    (items_within x.words a b * item_size kinds.Word x.class)
    (items_within x.syms a b * item_size kinds.Sym x.class)
    (items_within x.words 0 b * item_size kinds.Word x.class)
    (items_within x.syms 0 b * item_size kinds.Sym x.class)
    (within_more x.words (item_size kinds.Word x.class) a b order)
    (within_more x.syms (item_size kinds.Sym x.class) a b order)

within_all : (t : TableAt) (size n : ℕ) → items_within t 0 n * size ≤ t.count * size
within_all t size n =
    mul-le (items_within t 0 n) size t.count size
    (let less : items_within t 0 n ≤ t.count = omega arith in less) (omega arith)

two_parts : (a b c d : ℕ) → a ≤ c → b ≤ d → a + b ≤ c + d
two_parts a b c d first second = omega (arith, first, second)

due_all : (x : FollowedRows) (n : ℕ) → rows_due x 0 n ≤ tables_due x
due_all x n =
    two_parts (items_within x.words 0 n * item_size kinds.Word x.class)
    (items_within x.syms 0 n * item_size kinds.Sym x.class)
    (x.words.count * item_size kinds.Word x.class) (x.syms.count * item_size kinds.Sym x.class)
    (within_all x.words (item_size kinds.Word x.class) n)
    (within_all x.syms (item_size kinds.Sym x.class) n)

-- the rows of a step: the last one may have fewer, and one more may have none
module _ (p n count : ℕ) (inside : p < n / 2048 + 1) (is : n ≡ count) where
  pub step_first : min (p * 2048) count ≡ p * 2048
  step_first = omega (arith, inside, is)

  module _ (sum to : ℕ) (small : n < 2 ^ 64) (sum_is : sum ≡ min (p * 2048 + 2048) (2 ^ 64 - 1))
      (to_is : to ≡ min sum n) where
    pub step_order : p * 2048 ≤ to
    step_order = omega (arith, inside, small, sum_is, to_is)

    pub step_next : to ≡ min ((p + 1) * 2048) count
    step_next = omega (arith, inside, is, small, sum_is, to_is)

pub steps_begin : (count : ℕ) → 0 ≡ min (0 * 2048) count
steps_begin count = omega arith

pub steps_end : (p n count : ℕ) → n / 2048 + 1 ≤ p → n ≡ count → min (p * 2048) count ≡ count
steps_end p n count past is = omega (arith, past, is)

-- ---- Some rows

pub stays_in_base : {S T : Type 0} (g : Ghosts S) (x : FollowedRows) (r : Result T ElfError)
    (old new : State S) (n : ℕ) → AsksFor g r old new n → AreInBase old.o.base x
    → AreInBase new.o.base x
stays_in_base g x r old new n asks inside =
    subst (λ (o : Object). AreInBase o.base x) (sym asks.object) inside

module _ {S : Type 0} (g : Ghosts S) (m : Renumbering) (x : FollowedRows) (from to : ℕ)
    (old mid : State S) where
  abbrev words_due : ℕ
  words_due = items_within x.words from to * item_size kinds.Word x.class

  abbrev syms_due : ℕ
  syms_due = items_within x.syms from to * item_size kinds.Sym x.class

  pub words_refused : {T U : Type 0} (e : ElfError) → AsksFor {T = T} g (Err e) old mid words_due
      → AsksFor {T = U} g (Err e) old mid (rows_due x from to)
  words_refused {T} {U} e asks =
      asks_more g (Err e) old mid words_due (rows_due x from to) (omega arith)
      (asks_stop g {T = T} {U = U} e old mid words_due asks)

  module _ (new : State S) (words : List ℕ)
      (first : AsksFor {T = List ℕ} g (Ok words) old mid words_due) where
    pub syms_refused : {T U : Type 0} (e : ElfError)
        → AsksFor {T = T} g (Err e) mid new syms_due
        → AsksFor {T = U} g (Err e) old new (rows_due x from to)
    syms_refused {T} {U} e asks =
        asks_stop g {T = T} {U = U} e old new (rows_due x from to)
        (asks_twice g {U = T} (Ok words) (Err e) old mid new words_due syms_due first asks)

-- ---- One step after another

-- what is made of the first rows is held, and no more was asked for than their bytes
pub record HeldSoFar {S : Type 0} (g : Ghosts S) (m : Renumbering) (x : FollowedRows)
    (first now : State S) (start held : List ℕ) (n : ℕ) : Type 0 where
  pub made : HoldsMade first.told (form_to m first.o.base x n) start held
  pub asks : AsksFor {T = Unit {0}} g (Ok tt) first now (rows_due x 0 n)

module _ {S : Type 0} (g : Ghosts S) (m : Renumbering) (x : FollowedRows) (first : State S)
    (start : List ℕ) where
  pub held_none : HeldSoFar g m x first first start start 0
  held_none = record {
    made = record {
      added = [];
      all = sym (append-nil start);
      is = λ t. form_none m first.o.base x;
    };
    asks = asks_nothing g (Ok tt) first (rows_due x 0 0) tt;
  }

  module _ (now : State S) (held : List ℕ) (a b : ℕ) (order : a ≤ b)
      (so_far : HeldSoFar g m x first now start held a) where
    asks_behind : (r : Result (Unit {0}) ElfError) (next : State S)
        → AsksFor g r now next (rows_due x a b) → AsksFor g r first next (rows_due x 0 b)
    asks_behind r next asks =
        subst (λ (n : ℕ). AsksFor g r first next n) (due_more x a b order)
        (asks_twice g (Ok (tt {0})) r first now next (rows_due x 0 a) (rows_due x a b)
        so_far.asks asks)

    pub held_more : (next : State S) (later : List ℕ)
        → HoldsMade now.told
        (encoded x.class x.order (rows_made_between m now.o.base x a b)) held later
        → AsksFor {T = Unit {0}} g (Ok tt) now next (rows_due x a b)
        → HeldSoFar g m x first next start later b
    held_more next later adds asks = record {
      made = record {
        added = so_far.made.added ++ adds.added;
        all = adds.all
            ∙ ap (λ (l : List ℕ). l ++ adds.added) so_far.made.all
            ∙ append_assoc start so_far.made.added adds.added;
        is = λ t.
            form_more m first.o.base x a b so_far.made.added adds.added order
            (so_far.made.is t)
            (adds.is (subst (λ (told : Bool). IsTrue told) (sym so_far.asks.told) t)
            ∙ ap (λ (o : Object). encoded x.class x.order (rows_made_between m o.base x a b))
            so_far.asks.object);
      };
      asks = asks_behind (Ok tt) next asks;
    }

    pub held_stops : (e : ElfError) (next : State S)
        → AsksFor {T = Unit {0}} g (Err e) now next (rows_due x a b)
        → AsksFor {T = Unit {0}} g (Err e) first next (tables_due x)
    held_stops e next asks =
        asks_more g (Err e) first next (rows_due x 0 b) (tables_due x) (due_all x b)
        (asks_behind (Err e) next asks)

  module _ (now : State S) (held : List ℕ) (n : ℕ) (all : n ≡ row_count x)
      (so_far : HeldSoFar g m x first now start held n) where
    pub held_all : HoldsMade first.told
        (encoded x.class x.order (rows_made m first.o.base x)) start held
    held_all =
        subst (λ (l : List ℕ). HoldsMade first.told l start held)
        (ap (form_to m first.o.base x) all ∙ form_all m first.o.base x) so_far.made

    pub asked_all : AsksFor {T = Unit {0}} g (Ok tt) first now (tables_due x)
    asked_all =
        asks_more g (Ok (tt {0})) first now (rows_due x 0 n) (tables_due x) (due_all x n)
        so_far.asks

  -- memory is wanted before the first
  pub room_wanted : (e : ElfError) → e ≡ Memory
      → AsksFor {T = Unit {0}} g (Err e) first first (tables_due x)
  room_wanted e is = asks_memory g {U = Unit {0}} first (tables_due x) e is
