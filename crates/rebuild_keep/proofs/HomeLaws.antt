-- What is found in a home.
use Rattle.std.proofs.Common.{◌≡◌, ◌≢◌, ◌+◌, ◌<◌, ◌==◌, ℕ, Bool, true, false, not, List, [], ◌∷◌, length, Option, Some, None, Result, Ok, Err, if◌then◌else◌, refl, sym, ap, ◌∙◌, subst, arith}
use Rattle.std.specs.Prelude.{IsTrue, IsOk, IfOk, IfErr, OnOk, IfSome, nat_le, nat_lt}
use Rattle.std.proofs.lemmas.Bool.{lt-leb, and_parts, ltb-true}
use Rattle.elf_types.specs.declared.records.Class.{Class}
use Rattle.elf_types.specs.declared.records.Order.{Order}
use Rattle.elf_types.specs.declared.records.Kind.{Kind}
use Rattle.elf_types.specs.declared.records.Ehdr.{Ehdr}
use Rattle.elf_types.specs.declared.records.Sym.{Sym}
use Rattle.elf_types.specs.declared.errors.ElfError.{ElfError}
use Rattle.elf_types.specs.declared.errors.ElfError.TheVariants.{Memory, Read, Write, NoSection, NoData, OutOfFile}
use Rattle.elf_types.specs.Answers.{answered, err_of, refused_if, first_refusal, IsRefusal}
use Rattle.rebuild_making.specs.elf_outside.declared.sources.Source.{Ghosts}
use Rattle.rebuild_names.specs.elf_xlate.declared.content.Items.{Items}
use Rattle.rebuild_names.specs.elf_xlate.declared.content.Items.TheVariants as items
use Rattle.rebuild_names.specs.elf_xlate.Translation.{first_unfit}
use Rattle.rebuild_making.specs.elf_object.Words.{Wants, Answers, AlikeBytes, IsLike}
use Rattle.rebuild_making.specs.elf_object.Object.{Object, section_at, header_of}
use Rattle.rebuild_making.specs.elf_object.Answers.{no_section, no_data, out_of_file, piece_count, kind_at, piece_refusal, raw_refusal, words_of}
use Rattle.rebuild_making.specs.elf_object.Due.{homes_due, unless_refused, is_refused_unread}
use Rattle.rebuild_making.specs.elf_object.Calls.{raw_answer, piece_kind_answer}
use Rattle.rebuild_making.specs.elf_object.Calls as calls
use Rattle.rebuild_making.proofs.elf_object.AnswerLaws.{answered_refusal, piece_kind_value, raw_value}
use Rattle.rebuild_making.proofs.elf_object.PassedLaws.{none_first, none_rest}
use Rattle.elf_update_plan.specs.elf_descriptor.State.{State}
use Rattle.elf_update_plan.specs.elf_descriptor.Reads.{Reads, Queries, Looks}
use Rattle.elf_update_plan.proofs.elf_descriptor.ReadsLaws.{reads_wider, reads_within}
use Rattle.elf_update_plan.proofs.RowLaws.{ok_is}
use Rattle.rebuild_making.specs.Making.{reading_homes}
use Rattle.rebuild_making.specs.Refused.{RefusedBy, UnreadBy}
use Rattle.rebuild_making.proofs.MakingLaws.{memory_unread, passes_on, read_then_memory, one_unread}
use Rattle.rebuild_making.proofs.RefusedLaws.{alone}
use Rattle.rebuild_keep.specs.Makes.{MakesStated, FitsAs}
use Rattle.rebuild_keep.specs.Homes.{decoded_items, decoded_refusal, Decodes, DecodesIf, items_at_home, home_refusal, bytes_at_home, is_there, words_at_home, syms_at_home, words_found, syms_found}
use Rattle.rebuild_keep.proofs.DecodeLaws.{refusal_alike}
use Rattle.rebuild_keep.proofs.MakeLaws.{IsQuiet, refused_quiet, stated_quiet, refused_unread, unread_stated, looks_quiet}

-- ---- Refusals by number

pub no_section_there : (o : Object) (s : ℕ) → s < length o.sections → no_section o s ≡ None
no_section_there o s below =
    ap (λ (b : Bool). refused_if b (NoSection s (length o.sections)))
    (lt-leb (length o.sections) s below)

-- of a section that is there
pub raw_there : (o : Object) (s : ℕ) → s < length o.sections → raw_refusal o s ≡ out_of_file o s
unfolding raw_refusal
raw_there o s below =
    ap (λ (r : Option ElfError). first_refusal (r ∷ out_of_file o s ∷ []))
    (no_section_there o s below)
    ∙ alone (out_of_file o s)

raw_states : (o : Object) (s : ℕ) → IfSome (raw_refusal o s) IsRefusal
unfolding raw_refusal
raw_states o s = by_tests (nat_le (length o.sections) s) (section_at o s).home.out
  where
    by_tests : (a b : Bool) → IfSome (first_refusal (refused_if a (NoSection s (length o.sections))
        ∷ refused_if b (OutOfFile s) ∷ [])) IsRefusal
    by_tests true b = tt
    by_tests false true = tt
    by_tests false false = tt

piece_states : (o : Object) (s p : ℕ) → IfSome (piece_refusal o s p) IsRefusal
unfolding piece_refusal
piece_states o s p = by_tests (nat_le (length o.sections) s) (nat_le (piece_count o s) p)
  where
    by_tests : (a b : Bool) → IfSome (first_refusal (refused_if a (NoSection s (length o.sections))
        ∷ refused_if b (NoData p (piece_count o s)) ∷ [])) IsRefusal
    by_tests true b = tt
    by_tests false true = tt
    by_tests false false = tt

stated_is : (r : Option ElfError) (e : ElfError) → IfSome r IsRefusal → r ≡ Some e → IsRefusal e
stated_is r e are is = subst (λ (x : Option ElfError). IfSome x IsRefusal) is are

-- ---- What a read of a home answers

ok_passed : {A : Type 0} (r : Option ElfError) (v : A) → IsOk (answered r v) → r ≡ None
ok_passed None v is = refl
ok_passed (Some e) v is = cc

module _ (told : Bool) (wants : Wants) (o : Object) (s : ℕ) where
  pub raw_passed : (bytes : List ℕ) → Answers told wants (Ok bytes) (raw_answer o s)
      → raw_refusal o s ≡ None
  unfolding raw_answer
  raw_passed bytes came = ok_passed (raw_refusal o s) (section_at o s).raw came.0

  pub raw_bytes : (bytes : List ℕ) → Answers told wants (Ok bytes) (raw_answer o s)
      → IsTrue told → bytes ≡ (section_at o s).raw
  raw_bytes bytes came tells = (raw_value o s bytes (came.1 tells)).1

  pub raw_long : (bytes : List ℕ) → IsLike AlikeBytes (Ok bytes) (raw_answer o s)
      → length bytes ≡ length (section_at o s).raw
  unfolding raw_answer
  raw_long bytes like = by (raw_refusal o s) like
    where
      by : (r : Option ElfError)
          → IsLike AlikeBytes (Ok bytes) (answered r (section_at o s).raw)
          → length bytes ≡ length (section_at o s).raw
      by None is = is
      by (Some e) is = absurd is

  pub raw_unread : (e : ElfError) → Answers told wants (Err e) (raw_answer o s)
      → UnreadBy (raw_refusal o s) e
  unfolding raw_answer
  raw_unread Memory came = tt
  raw_unread Read came = tt
  raw_unread Write came =
      stated_is (raw_refusal o s) Write (raw_states o s)
      (answered_refusal (raw_refusal o s) (section_at o s).raw Write came)
  raw_unread e came = answered_refusal (raw_refusal o s) (section_at o s).raw e came

-- ---- What it looks at

homes_none : (o : Object) (loaded : List Bool) → homes_due o loaded [] ≡ 0
unfolding homes_due
homes_none o loaded = refl

module _ {S T : Type 0} (g : Ghosts S) (r : Result T ElfError) (old new : State S) (s : ℕ) where
  wider : (l : List ℕ) (b : Bool) → l ≡ (if b then [] else s ∷ [])
      → Reads g r old new l [] (homes_due old.o old.loaded l)
      → Reads g r old new (s ∷ []) (s ∷ []) (homes_due old.o old.loaded (s ∷ []))
  wider l true same is =
      let due = homes_due old.o old.loaded in
      let none : Reads g r old new [] [] (due []) =
      subst (λ (m : List ℕ). Reads g r old new m [] (due m)) same is in
      reads_within g r old new (s ∷ []) (s ∷ []) (due [] + due (s ∷ [])) (due (s ∷ []))
      (omega (arith, homes_none old.o old.loaded))
      (reads_wider g r old new [] (s ∷ []) [] (s ∷ []) (due []) (due (s ∷ [])) none)
  wider l false same is =
      let due = homes_due old.o old.loaded in
      let one : Reads g r old new (s ∷ []) [] (due (s ∷ [])) =
      subst (λ (m : List ℕ). Reads g r old new m [] (due m)) same is in
      reads_within g r old new (s ∷ []) (s ∷ []) (due (s ∷ []) + 0) (due (s ∷ []))
      (omega arith)
      (reads_wider g r old new (s ∷ []) [] [] (s ∷ []) (due (s ∷ [])) 0 one)

  pub raw_looks : Queries g (calls.raw s) [] r old new
      → Looks g (reading_homes (λ o. s ∷ [])) r old new
  raw_looks is = record {
    object = is.object;
    reads = wider (unless_refused (err_of (raw_answer old.o s)) (s ∷ []))
        (is_refused_unread (err_of (raw_answer old.o s))) refl is.reads;
  }

-- ---- A home that is refused

pub home_unread : {S T U : Type 0} (g : Ghosts S) (stated : Object → T) (Fits : Class → T → Type 0)
    (wants : Wants) (s : ℕ) (e : ElfError) (old new : State S)
    → Answers old.told wants (Err e) (raw_answer old.o s)
    → Queries {T = U} g (calls.raw s) [] (Err e) old new
    → MakesStated {T = T} g stated Fits (λ o. raw_refusal o s) (λ o. s ∷ []) (Err e) old new
home_unread {S} {T} {U} g stated Fits wants s e old new came queries = record {
  told = λ t. tt;
  fits = tt;
  passed = tt;
  err = raw_unread old.told wants old.o s e came;
  looks = one_unread {T = U} {U = T} g e old new (λ (o : Object). s ∷ [])
      (raw_looks g (Err e) old new s queries);
}

-- ---- The refusals of a home, one after another

home_first : (o : Object) (s : ℕ) (e : ElfError) → UnreadBy (raw_refusal o s) e
    → UnreadBy (home_refusal o s) e
unfolding home_refusal
home_first o s Memory by = tt
home_first o s Read by = tt
home_first o s Write by = by
home_first o s e by =
    ap (λ (r : Option ElfError). first_refusal (r ∷ no_data o s 0
    ∷ decoded_refusal s (kind_at o s 0) o.header.class o.header.order (section_at o s).raw ∷ []))
    by

pub home_refused : {S T U : Type 0} (g : Ghosts S) (stated : Object → T)
    (Fits : Class → T → Type 0) (wants : Wants) (s : ℕ) (e : ElfError) (old new : State S)
    → Answers old.told wants (Err e) (raw_answer old.o s)
    → Queries {T = U} g (calls.raw s) [] (Err e) old new
    → MakesStated {T = T} g stated Fits (λ o. home_refusal o s) (λ o. s ∷ []) (Err e) old new
home_refused {S} {T} {U} g stated Fits wants s e old new came queries = record {
  told = λ t. tt;
  fits = tt;
  passed = tt;
  err = home_first old.o s e (raw_unread old.told wants old.o s e came);
  looks = one_unread {T = U} {U = T} g e old new (λ (o : Object). s ∷ [])
      (raw_looks g (Err e) old new s queries);
}

-- behind the first, that of the piece
home_second : (o : Object) (s : ℕ) → raw_refusal o s ≡ None
    → home_refusal o s ≡ first_refusal (no_data o s 0
    ∷ decoded_refusal s (kind_at o s 0) o.header.class o.header.order (section_at o s).raw ∷ [])
unfolding home_refusal
home_second o s passed =
    ap (λ (r : Option ElfError). first_refusal (r ∷ no_data o s 0
    ∷ decoded_refusal s (kind_at o s 0) o.header.class o.header.order (section_at o s).raw ∷ []))
    passed

-- and behind both, that of the bytes
pub home_third : (o : Object) (s : ℕ) → raw_refusal o s ≡ None → no_data o s 0 ≡ None
    → home_refusal o s
    ≡ decoded_refusal s (kind_at o s 0) o.header.class o.header.order (section_at o s).raw
home_third o s passed there =
    home_second o s passed
    ∙ ap (λ (r : Option ElfError). first_refusal (r
    ∷ decoded_refusal s (kind_at o s 0) o.header.class o.header.order (section_at o s).raw ∷ []))
    there
    ∙ alone _

-- ---- The items of a home

-- the class and the byte order of an object, as its header is told
module _ (o : Object) (h : Ehdr)
    (is : ◌≡◌ {A = Result Ehdr ElfError} (Ok h) (Ok (header_of o))) where
  pub class_told : h.class ≡ o.header.class
  unfolding header_of
  class_told = ap (λ (x : Ehdr). x.class) (ok_is h (header_of o) is)

  pub order_told : h.order ≡ o.header.order
  unfolding header_of
  order_told = ap (λ (x : Ehdr). x.order) (ok_is h (header_of o) is)

module _ {S : Type 0} (g : Ghosts S) (old new : State S) (s : ℕ) (there : s < length old.o.sections)
    (class : Class) (order : Order) (class_is : class ≡ old.o.header.class)
    (order_is : order ≡ old.o.header.order) (wants : Wants) (bytes : List ℕ)
    (came : Answers old.told wants (Ok bytes) (raw_answer old.o s))
    (like : IsLike AlikeBytes (Ok bytes) (raw_answer old.o s)) where
  abbrev Found : Result Items ElfError → Type 0
  Found q =
      MakesStated g (λ o. items_at_home o s) FitsAs (λ o. home_refusal o s) (λ o. s ∷ []) q old new

  -- the refusal of the bytes that were read is that of the home
  bytes_refusal : (kind : Kind) → kind ≡ kind_at old.o s 0
      → decoded_refusal s kind class order bytes
      ≡ decoded_refusal s (kind_at old.o s 0) old.o.header.class old.o.header.order
      (section_at old.o s).raw
  bytes_refusal kind is =
      ap (λ (k : Kind). decoded_refusal s k class order bytes) is
      ∙ ap (λ (c : Class). decoded_refusal s (kind_at old.o s 0) c order bytes) class_is
      ∙ ap (λ (x : Order). decoded_refusal s (kind_at old.o s 0) old.o.header.class x bytes)
      order_is
      ∙ refusal_alike s (kind_at old.o s 0) old.o.header.class old.o.header.order bytes
      (section_at old.o s).raw (raw_long old.told wants old.o s bytes like)

  bytes_items : (kind : Kind) → kind ≡ kind_at old.o s 0 → bytes ≡ (section_at old.o s).raw
      → decoded_items kind class order bytes ≡ items_at_home old.o s
  unfolding items_at_home
  bytes_items kind is same =
      ap (λ (k : Kind). decoded_items k class order bytes) is
      ∙ ap (λ (c : Class). decoded_items (kind_at old.o s 0) c order bytes) class_is
      ∙ ap (λ (x : Order). decoded_items (kind_at old.o s 0) old.o.header.class x bytes) order_is
      ∙ ap (λ (l : List ℕ).
      decoded_items (kind_at old.o s 0) old.o.header.class old.o.header.order l) same

  found_decoded : {T : Type 0} (x : T) (kind : Kind) (q : Result Items ElfError)
      → Ok kind ≡ piece_kind_answer old.o s 0 → Decodes s kind class order bytes q
      → Queries g (calls.raw s) [] (Ok x) old new → Found q
  unfolding piece_refusal
  found_decoded x kind q kind_is is queries =
      let passed = raw_passed old.told wants old.o s bytes came in
      let value = piece_kind_value old.o s 0 kind (sym kind_is) in
      let data_there : no_data old.o s 0 ≡ None =
      none_first (no_data old.o s 0) []
      (none_rest (no_section old.o s) (no_data old.o s 0 ∷ []) value.0) in
      let refusal : decoded_refusal s kind class order bytes ≡ home_refusal old.o s =
      bytes_refusal kind value.1 ∙ sym (home_third old.o s passed data_there) in
      record {
        told = λ t.
            subst (λ (v : Items). IfOk q (λ y. y ≡ v))
            (bytes_items kind value.1 (raw_bytes old.told wants old.o s bytes came t))
            is.items_are;
        fits = subst (λ (c : Class). IfOk q (FitsAs c)) class_is is.fits;
        passed = subst (λ (r : Option ElfError). OnOk q (r ≡ None)) refusal is.passed;
        err = unread q (subst (λ (r : Option ElfError). IfErr q (RefusedBy r)) refusal is.err);
        looks = looks_quiet g x q old new (λ (o : Object). s ∷ []) (quiet q is.err)
            (raw_looks g (Ok x) old new s queries);
      }
    where
      unread : (r : Result Items ElfError) → IfErr r (RefusedBy (home_refusal old.o s))
          → IfErr r (UnreadBy (home_refusal old.o s))
      unread (Ok y) by = tt
      unread (Err e) by = refused_unread (home_refusal old.o s) e by

      quiet : (r : Result Items ElfError)
          → IfErr r (RefusedBy (decoded_refusal s kind class order bytes)) → IfErr r IsQuiet
      quiet (Ok y) by = tt
      quiet (Err e) by = refused_quiet (decoded_refusal s kind class order bytes) e by

  -- the piece is not there
  piece_second : (e : ElfError) → piece_refusal old.o s 0 ≡ Some e → home_refusal old.o s ≡ Some e
  unfolding piece_refusal
  piece_second e refused =
      let absent : no_data old.o s 0 ≡ Some e =
      sym (alone (no_data old.o s 0))
      ∙ sym (ap (λ (r : Option ElfError). first_refusal (r ∷ no_data old.o s 0 ∷ []))
      (no_section_there old.o s there))
      ∙ refused in
      home_second old.o s (raw_passed old.told wants old.o s bytes came)
      ∙ ap (λ (r : Option ElfError). first_refusal (r
      ∷ decoded_refusal s (kind_at old.o s 0) old.o.header.class old.o.header.order
      (section_at old.o s).raw ∷ [])) absent

  found_refused : {T : Type 0} (x : T) (e : ElfError) (q : Result Items ElfError)
      → Err e ≡ piece_kind_answer old.o s 0 → q ≡ Err e
      → Queries g (calls.raw s) [] (Ok x) old new → Found q
  unfolding piece_kind_answer
  found_refused x e q kind_is is queries =
      let refused = answered_refusal (piece_refusal old.o s 0) (kind_at old.o s 0) e (sym kind_is)
      in
      let states = stated_is (piece_refusal old.o s 0) e (piece_states old.o s 0) refused in
      subst (λ (r : Result Items ElfError). Found r) (sym is) (record {
        told = λ t. tt;
        fits = tt;
        passed = tt;
        err = unread_stated (home_refusal old.o s) e states (piece_second e refused);
        looks = looks_quiet {U = Items} g x (Err e) old new (λ (o : Object). s ∷ [])
            (stated_quiet e states) (raw_looks g (Ok x) old new s queries);
      })

  pub home_found : {T : Type 0} (x : T) (kind : Result Kind ElfError) (q : Result Items ElfError)
      → kind ≡ piece_kind_answer old.o s 0 → DecodesIf s kind class order bytes q
      → Queries g (calls.raw s) [] (Ok x) old new → Found q
  home_found x (Ok kind) q is decodes queries = found_decoded x kind q is decodes queries
  home_found x (Err e) q is refused queries = found_refused x e q is refused queries

copied_fit : (class : Class) (bytes : List ℕ) → first_unfit class (items.Bytes bytes) ≡ None
unfolding first_unfit
copied_fit class bytes = refl

-- the home as it is, copied
pub bytes_found : {S T : Type 0} (g : Ghosts S) (wants : Wants) (x : T) (bytes : List ℕ) (s : ℕ)
    (old new : State S) (q : Result Items ElfError)
    → Answers old.told wants (Ok bytes) (raw_answer old.o s)
    → Queries g (calls.raw s) [] (Ok x) old new
    → IfOk q (λ made. made ≡ items.Bytes bytes) → IfErr q (λ e. e ≡ Memory)
    → MakesStated g (λ o. bytes_at_home o s) FitsAs (λ o. raw_refusal o s) (λ o. s ∷ []) q old new
bytes_found {S} {T} g wants x bytes s old new q came queries is only = record {
  told = λ t.
      subst (λ (l : List ℕ). IfOk q (λ made. made ≡ items.Bytes l))
      (raw_bytes old.told wants old.o s bytes came t) is;
  fits = fitting q is;
  passed = passes_on q (raw_refusal old.o s ≡ None) (raw_passed old.told wants old.o s bytes came);
  err = memory_unread q (raw_refusal old.o s) only;
  looks = read_then_memory g x q old new (λ (o : Object). s ∷ []) only
      (raw_looks g (Ok x) old new s queries);
}
  where
    fitting : (r : Result Items ElfError) → IfOk r (λ made. made ≡ items.Bytes bytes)
        → IfOk r (FitsAs old.o.header.class)
    fitting (Ok made) same =
        subst (λ (i : Items). first_unfit old.o.header.class i ≡ None) (sym same)
        (copied_fit old.o.header.class bytes)
    fitting (Err e) same = tt

-- ---- Lists

-- items of another kind have none of these
pub no_words : (l : Items) → ((x : List ℕ) → l ≢ items.Word x) → [] ≡ words_of l
no_words items.Empty other = refl
no_words (items.Bytes l) other = refl
no_words (items.Half l) other = refl
no_words (items.Word l) other = absurd (other l refl)
no_words (items.Addr l) other = refl
no_words (items.Sym l) other = refl
no_words (items.Rel l) other = refl
no_words (items.Rela l) other = refl
no_words (items.Dyn l) other = refl

-- a number that is a section's
pub there_below : (o : Object) (s : ℕ) → is_there o s ≡ true → s < length o.sections
there_below o s is =
    ltb-true s (length o.sections) (and_parts (not (s == 0)) (nat_lt s (length o.sections)) is).1

-- where there is such a section, and where there is none
pub words_there : (o : Object) (s : ℕ) → is_there o s ≡ true → words_at_home o s ≡ words_found o s
unfolding words_found
words_there o s is = sym (ap (λ (b : Bool). if b then words_at_home o s else []) is)

pub words_absent : (o : Object) (s : ℕ) → is_there o s ≡ false → [] ≡ words_found o s
unfolding words_found
words_absent o s is = sym (ap (λ (b : Bool). if b then words_at_home o s else []) is)

pub syms_there : (o : Object) (s : ℕ) → is_there o s ≡ true → syms_at_home o s ≡ syms_found o s
unfolding syms_found
syms_there o s is = sym (ap (λ (b : Bool). if b then syms_at_home o s else []) is)

pub syms_absent : (o : Object) (s : ℕ) → is_there o s ≡ false → [] ≡ syms_found o s
unfolding syms_found
syms_absent o s is = sym (ap (λ (b : Bool). if b then syms_at_home o s else []) is)
