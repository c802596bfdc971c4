-- What a stated answer says where it is a value, and how an answer comes to be the stated one.
use Rattle.std.proofs.Common.{◌≡◌, ℕ, Bool, true, false, not, List, [], ◌∷◌, length, Option, Some, None, Result, Ok, Err, refl, sym, ap, ◌∙◌}
use Rattle.std.specs.Prelude.{IsTrue, slice_get, if◌then◌else◌}
use Rattle.elf_types.specs.declared.records.Kind.{Kind}
use Rattle.elf_types.specs.declared.records.Kind.TheVariants as kinds
use Rattle.elf_types.specs.declared.records.Part.{Part}
use Rattle.elf_types.specs.declared.records.Phdr.{Phdr}
use Rattle.elf_types.specs.declared.records.Shdr.{Shdr}
use Rattle.elf_types.specs.declared.records.Sym.{Sym}
use Rattle.elf_types.specs.declared.records.Rel.{Rel}
use Rattle.elf_types.specs.declared.records.Rela.{Rela}
use Rattle.elf_types.specs.declared.records.Dyn.{Dyn}
use Rattle.elf_types.specs.declared.errors.ElfError.{ElfError}
use Rattle.elf_types.specs.declared.errors.ElfError.TheVariants.{Memory, Read, NoEntry, OutOfFile, Ragged}
use Rattle.elf_object.specs.SymbolSections.{symshndx, place_of_symbol}
use Rattle.elf_types.specs.Answers.{◌>>=◌, answered, err_of, IsRefusal}
use Rattle.elf_ident.specs.elf_xlate.declared.content.Items.{Items}
use Rattle.elf_ident.specs.elf_xlate.Translation.{decoded, items_kind}
use Rattle.elf_ident.proofs.elf_xlate.Decoded.{decoded_kind}
use Rattle.elf_object.specs.Words.{Wants, Answers, Edits}
use Rattle.elf_object.specs.Object.{Object, section_at, piece_at}
use Rattle.elf_object.specs.Answers.{content, or_empty, no_section, no_data, wrong_kind, no_content, same_kind, piece_count, kind_at, items_at, flags_of, entry_answer, piece_refusal, data_refusal, raw_refusal, lend_refusal, part_refusal, halves_of, words_of, addrs_of, syms_of, rels_of, relas_of, dyns_of}
use Rattle.elf_object.specs.Calls.{phdr_answer, shdr_answer, pieces_answer, home_answer, piece_kind_answer, piece_align_answer, flags_answer, data_answer, raw_answer, half_answer, word_answer, addr_answer, sym_answer, rel_answer, rela_answer, dyn_answer}
use Rattle.elf_object.proofs.PassedLaws.{none_first, none_rest, not_refused, not_not}
use Rattle.elf_object.proofs.StepLaws.{same_kind-true}

-- ---- A stated answer that is a value

-- nothing refused it, and it is the value
pub answered_value : {A E : Type 0} (refusal : Option E) (v x : A) → answered refusal v ≡ Ok x → (refusal ≡ None) × (x ≡ v)
answered_value None v x e = (refl, cc)
answered_value (Some d) v x e = cc

pub answered_refusal : {A E : Type 0} (refusal : Option E) (v : A) (e : E) → answered refusal v ≡ Err e → refusal ≡ Some e
answered_refusal None v e h = cc
answered_refusal (Some d) v e h = let same : d ≡ e = cc in ap Some same

entry_there : {A : Type 0} (i n : ℕ) (x : A) (there : Option A) → ◌≡◌ {A = Result A ElfError} (elim there [ None ↦ Err (NoEntry i n) | Some y ↦ Ok y ]) (Ok x) → there ≡ Some x
entry_there i n x None e = cc
entry_there i n x (Some y) e = let same : y ≡ x = cc in ap Some same

-- an entry stands at its index
pub entry_value : {A : Type 0} (refusal : Option ElfError) (l : List A) (i : ℕ) (x : A) → entry_answer refusal l i ≡ Ok x → (refusal ≡ None) × (slice_get l i ≡ Some x)
entry_value None l i x e = (refl, entry_there i (length l) x (slice_get l i) e)
entry_value (Some d) l i x e = cc

pub phdr_value : (o : Object) (i : ℕ) (x : Phdr) → phdr_answer o i ≡ Ok x → slice_get o.phdrs i ≡ Some x
unfolding phdr_answer
phdr_value o i x e = (entry_value None o.phdrs i x e).1

pub shdr_value : (o : Object) (s : ℕ) (x : Shdr) → shdr_answer o s ≡ Ok x → (no_section o s ≡ None) × (x ≡ (section_at o s).header)
unfolding shdr_answer
shdr_value o s x e = answered_value (no_section o s) (section_at o s).header x e

pub pieces_value : (o : Object) (s n : ℕ) → pieces_answer o s ≡ Ok n → (no_section o s ≡ None) × (n ≡ piece_count o s)
unfolding pieces_answer
pieces_value o s n e = answered_value (no_section o s) (piece_count o s) n e

pub home_value : (o : Object) (s : ℕ) (x : ℕ × ℕ) → home_answer o s ≡ Ok x → (no_section o s ≡ None) × (x.0 ≡ (section_at o s).home.at) × (x.1 ≡ (section_at o s).home.len)
unfolding home_answer
home_value o s x e =
    let value = answered_value (no_section o s) ((section_at o s).home.at, (section_at o s).home.len) x e in
    (value.0, ap (λ (y : ℕ × ℕ). y.0) value.1, ap (λ (y : ℕ × ℕ). y.1) value.1)

pub piece_kind_value : (o : Object) (s p : ℕ) (kind : Kind) → piece_kind_answer o s p ≡ Ok kind → (piece_refusal o s p ≡ None) × (kind ≡ kind_at o s p)
unfolding piece_kind_answer
piece_kind_value o s p kind e = answered_value (piece_refusal o s p) (kind_at o s p) kind e

pub piece_align_value : (o : Object) (s p align : ℕ) → piece_align_answer o s p ≡ Ok align → (piece_refusal o s p ≡ None) × (align ≡ (piece_at o s p).align)
unfolding piece_align_answer
piece_align_value o s p align e = answered_value (piece_refusal o s p) (piece_at o s p).align align e

pub flags_value : (o : Object) (part : Part) (bits : ℕ) → flags_answer o part ≡ Ok bits → (part_refusal o part ≡ None) × (bits ≡ flags_of o part)
unfolding flags_answer
flags_value o part bits e = answered_value (part_refusal o part) (flags_of o part) bits e

pub data_value : (o : Object) (s p : ℕ) (x : Items) → data_answer o s p ≡ Ok x → (data_refusal o s p ≡ None) × (x ≡ items_at o s p)
unfolding data_answer
data_value o s p x e = answered_value (data_refusal o s p) (items_at o s p) x e

pub raw_value : (o : Object) (s : ℕ) (x : List ℕ) → raw_answer o s ≡ Ok x → (raw_refusal o s ≡ None) × (x ≡ (section_at o s).raw)
unfolding raw_answer
raw_value o s x e = answered_value (raw_refusal o s) (section_at o s).raw x e

pub half_value : (o : Object) (s p i x : ℕ) → half_answer o s p i ≡ Ok x → (lend_refusal o kinds.Half s p ≡ None) × (slice_get (halves_of (items_at o s p)) i ≡ Some x)
unfolding half_answer
half_value o s p i x e = entry_value (lend_refusal o kinds.Half s p) (halves_of (items_at o s p)) i x e

pub word_value : (o : Object) (s p i x : ℕ) → word_answer o s p i ≡ Ok x → (lend_refusal o kinds.Word s p ≡ None) × (slice_get (words_of (items_at o s p)) i ≡ Some x)
unfolding word_answer
word_value o s p i x e = entry_value (lend_refusal o kinds.Word s p) (words_of (items_at o s p)) i x e

pub addr_value : (o : Object) (s p i x : ℕ) → addr_answer o s p i ≡ Ok x → (lend_refusal o kinds.Addr s p ≡ None) × (slice_get (addrs_of (items_at o s p)) i ≡ Some x)
unfolding addr_answer
addr_value o s p i x e = entry_value (lend_refusal o kinds.Addr s p) (addrs_of (items_at o s p)) i x e

pub sym_value : (o : Object) (s p i : ℕ) (x : Sym) → sym_answer o s p i ≡ Ok x → (lend_refusal o kinds.Sym s p ≡ None) × (slice_get (syms_of (items_at o s p)) i ≡ Some x)
unfolding sym_answer
sym_value o s p i x e = entry_value (lend_refusal o kinds.Sym s p) (syms_of (items_at o s p)) i x e

pub rel_value : (o : Object) (s p i : ℕ) (x : Rel) → rel_answer o s p i ≡ Ok x → (lend_refusal o kinds.Rel s p ≡ None) × (slice_get (rels_of (items_at o s p)) i ≡ Some x)
unfolding rel_answer
rel_value o s p i x e = entry_value (lend_refusal o kinds.Rel s p) (rels_of (items_at o s p)) i x e

pub rela_value : (o : Object) (s p i : ℕ) (x : Rela) → rela_answer o s p i ≡ Ok x → (lend_refusal o kinds.Rela s p ≡ None) × (slice_get (relas_of (items_at o s p)) i ≡ Some x)
unfolding rela_answer
rela_value o s p i x e = entry_value (lend_refusal o kinds.Rela s p) (relas_of (items_at o s p)) i x e

pub dyn_value : (o : Object) (s p i : ℕ) (x : Dyn) → dyn_answer o s p i ≡ Ok x → (lend_refusal o kinds.Dyn s p ≡ None) × (slice_get (dyns_of (items_at o s p)) i ≡ Some x)
unfolding dyn_answer
dyn_value o s p i x e = entry_value (lend_refusal o kinds.Dyn s p) (dyns_of (items_at o s p)) i x e

-- the section of a symbol is found by the symbol
pub symshndx_value : {A : Type 0} (told : Bool) (special numbered : ℕ → A) (o : Object) (s p i : ℕ) (x : A) → (symshndx told special numbered s p i).answer o ≡ Ok x
    → (y : Sym) × (sym_answer o s p i ≡ Ok y) × (place_of_symbol special numbered o s i y ≡ Ok x)
symshndx_value {A} told special numbered o s p i x e = by_answer (sym_answer o s p i) refl e
  where
    by_answer : (r : Result Sym ElfError) → sym_answer o s p i ≡ r → (r >>= λ y. place_of_symbol special numbered o s i y) ≡ Ok x → (y : Sym) × (sym_answer o s p i ≡ Ok y) × (place_of_symbol special numbered o s i y ≡ Ok x)
    by_answer (Ok y) known e = (y, known, e)
    by_answer (Err d) known e = cc

-- ---- What is lent is of the kind

-- a lend that is not refused has passed each of its tests
pub lend_passed : (o : Object) (kind : Kind) (s p : ℕ) → lend_refusal o kind s p ≡ None
    → (no_section o s ≡ None) × (no_data o s p ≡ None) × (kind_at o s p ≡ kind) × (no_content o s p ≡ None)
unfolding lend_refusal
lend_passed o kind s p passed =
    let third = wrong_kind o kind s p ∷ no_content o s p ∷ [] in
    let after_section = none_rest (no_section o s) (no_data o s p ∷ third) passed in
    let after_data = none_rest (no_data o s p) third after_section in
    let kind_right = not_refused (not (same_kind (kind_at o s p) kind)) _ (none_first (wrong_kind o kind s p) (no_content o s p ∷ []) after_data) in (
      none_first (no_section o s) (no_data o s p ∷ third) passed,
      none_first (no_data o s p) third after_section,
      same_kind-true (kind_at o s p) kind (not_not (same_kind (kind_at o s p) kind) kind_right),
      none_first (no_content o s p) [] (none_rest (wrong_kind o kind s p) (no_content o s p ∷ []) after_data),
    )

-- the items of a piece are of the kind that it holds, where its content is there
pub items_kind_at : (o : Object) (s p : ℕ) → no_content o s p ≡ None → items_kind (items_at o s p) ≡ kind_at o s p
unfolding no_content items_at kind_at content
items_kind_at o s p there = by_own (piece_at o s p).own there
  where
    by_content : (out : Bool) (made : Option Items) → decoded (section_at o s).home.kind o.header.class o.header.order (section_at o s).raw ≡ made
        → err_of (if out then Err (OutOfFile s) else (elim made [ None ↦ Err (Ragged s) | Some items ↦ Ok items ])) ≡ None
        → items_kind (or_empty (if out then Err (OutOfFile s) else (elim made [ None ↦ Err (Ragged s) | Some items ↦ Ok items ]))) ≡ (section_at o s).home.kind
    by_content true made e there = cc
    by_content false None e there = cc
    by_content false (Some items) e there = decoded_kind (section_at o s).home.kind o.header.class o.header.order (section_at o s).raw items e

    by_own : (own : Option Items) → ◌≡◌ {A = Option ElfError} (elim own [ None ↦ err_of (content o s) | Some items ↦ None ]) None
        → ◌≡◌ {A = Kind} (items_kind (elim own [ None ↦ or_empty (content o s) | Some items ↦ items ])) (elim own [ None ↦ (section_at o s).home.kind | Some items ↦ items_kind items ])
    by_own None there = by_content (section_at o s).home.out (decoded (section_at o s).home.kind o.header.class o.header.order (section_at o s).raw) refl there
    by_own (Some items) there = refl

-- the items that are lent are of the kind that is named
pub lend_kind : (o : Object) (kind : Kind) (s p : ℕ) → lend_refusal o kind s p ≡ None → items_kind (items_at o s p) ≡ kind
lend_kind o kind s p passed =
    let past = lend_passed o kind s p passed in
    items_kind_at o s p past.3 ∙ past.2

-- ---- An answer that came is the stated one

-- where the source tells its bytes, the value is the stated one
pub answers_value : {A : Type 0} (wants : Wants) (x : A) (stated : Result A ElfError) → Answers true wants (Ok x) stated → stated ≡ Ok x
answers_value wants x stated came = came.1 refl

-- a refusal is the stated one
pub answers_refusal : {A : Type 0} (told : Bool) (wants : Wants) (e : ElfError) (stated : Result A ElfError) → IsRefusal e → Answers told wants (Err e) stated → stated ≡ Err e
answers_refusal told wants Memory stated is came = absurd is
answers_refusal told wants Read stated is came = absurd is
answers_refusal told wants e stated is came = came

-- a value comes where nothing refuses it
pub answers_seen : {A : Type 0} (told : Bool) (wants : Wants) (refusal : Option ElfError) (v x : A) → refusal ≡ None → (IsTrue told → x ≡ v) → Answers told wants (Ok x) (answered refusal v)
answers_seen told wants None v x passed same = (refl, λ t. ap Ok (sym (same t)))
answers_seen told wants (Some e) v x passed same = cc

-- the refusal comes that is stated
pub answers_refused : {A : Type 0} (told : Bool) (wants : Wants) (refusal : Option ElfError) (v : A) (e : ElfError) → IsRefusal e → refusal ≡ Some e → Answers told wants (Err e) (answered refusal v)
answers_refused {A} told wants refusal v e is h = stated_as e is (ap (λ (r : Option ElfError). answered r v) h)
  where
    stated_as : (d : ElfError) → IsRefusal d → answered refusal v ≡ Err d → Answers told wants (Err d) (answered refusal v)
    stated_as Memory is same = absurd is
    stated_as Read is same = absurd is
    stated_as d is same = same

-- Memory and Read come where nothing refuses it
pub answers_memory : {A : Type 0} (told : Bool) (wants : Wants) (refusal : Option ElfError) (v : A) → refusal ≡ None → IsTrue wants.memory → Answers told wants (Err Memory) (answered refusal v)
answers_memory told wants None v passed want = (want, tt)
answers_memory told wants (Some e) v passed want = cc

pub answers_read : {A : Type 0} (told : Bool) (wants : Wants) (refusal : Option ElfError) (v : A) → refusal ≡ None → IsTrue wants.read → Answers told wants (Err Read) (answered refusal v)
answers_read told wants None v passed want = (want, tt)
answers_read told wants (Some e) v passed want = cc

-- what did not become a value answers the same for any other value behind the same refusal: a step that prepares a
-- call, and then the call
pub read_passed : {A B : Type 0} (told : Bool) (wants : Wants) (refusal : Option ElfError) (v : A) (w : B) (e : ElfError) → Answers told wants (Err e) (answered refusal v) → Answers told wants (Err e) (answered refusal w)
read_passed told wants None v w Memory came = came
read_passed told wants None v w Read came = came
read_passed {A} told wants None v w e came = no_value e came
  where
    no_value : (d : ElfError) → Answers told wants (Err d) (answered None v) → Answers told wants (Err d) (answered None w)
    no_value Memory came = came
    no_value Read came = came
    no_value d came = cc
read_passed told wants (Some d) v w Memory came = came
read_passed told wants (Some d) v w Read came = came
read_passed told wants (Some d) v w e came = let same : d ≡ e = cc in ap Err same

-- ---- Edits

-- an edit that is not refused leaves the stepped state
pub edited : {A S : Type 0} (old stepped : S) (refusal : Option ElfError) (v : A) → refusal ≡ None → Edits (Ok v) old stepped (answered refusal v) stepped
edited old stepped None v passed = (refl, refl)
edited old stepped (Some e) v passed = cc

-- one that is refused leaves it as it was
pub edit_refused : {A S : Type 0} (old stepped : S) (refusal : Option ElfError) (v : A) (e : ElfError) → IsRefusal e → refusal ≡ Some e → Edits (Err e) old old (answered refusal v) stepped
edit_refused {A} {S} old stepped refusal v e is h = stated_as e is (ap (λ (r : Option ElfError). answered r v) h)
  where
    stated_as : (d : ElfError) → IsRefusal d → answered refusal v ≡ Err d → Edits (Err d) old old (answered refusal v) stepped
    stated_as Memory is same = absurd is
    stated_as Read is same = absurd is
    stated_as d is same = (same, refl)

-- and so does one that wants memory
pub edit_wants : {A S : Type 0} (old stepped : S) (refusal : Option ElfError) (v : A) → refusal ≡ None → Edits (Err Memory) old old (answered refusal v) stepped
edit_wants old stepped None v passed = (refl, refl)
edit_wants old stepped (Some e) v passed = cc
