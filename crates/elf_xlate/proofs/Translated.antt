-- The two laws of translation.
use Rattle.std.proofs.Common.{◌≡◌, ℕ, ◌<◌, ◌^◌, List, get_or, refl, ap, arith}
use Rattle.std.specs.Prelude.{Option, Some, None, IfSome, Bool, true, ◌≢◌}
use Rattle.std.specs.Option.{option_map}
use Rattle.std.specs.List.{All, AllByRecursion}
use Rattle.std.proofs.lemmas.List.{get_or_default}
use Rattle.std.proofs.lemmas.List.Elements.{recursion_from_All}
use Rattle.elf_types.specs.declared.records.Class.{Class}
use Rattle.elf_types.specs.declared.records.Class.TheVariants.{C32, C64}
use Rattle.elf_types.specs.declared.records.Order.{Order}
use Rattle.elf_types.specs.declared.records.Kind.{Kind}
use Rattle.elf_types.specs.declared.records.Kind.TheVariants as kinds
use Rattle.elf_xlate.specs.declared.content.Items.{Items}
use Rattle.elf_xlate.specs.declared.content.Items.TheVariants.{Empty, Bytes, Half, Word, Addr, Sym, Rel, Rela, Dyn}
use Rattle.elf_xlate.specs.Fields.{fits}
use Rattle.elf_xlate.specs.Items.{item_size, half_of, half_bytes, word_of, word_bytes, addr_of, addr_bytes, sym_of, sym_bytes, sym_fits, IsSym, rel_of, rel_bytes, rel_fits, IsRel, rela_of, rela_bytes, rela_fits, IsRela, dyn_of, dyn_bytes, dyn_fits, IsDyn}
use Rattle.elf_xlate.specs.Translation.{decoded, encoded, listed, first_not, first_unfit, EncodesAsDecoded, DecodesAsEncoded}
use Rattle.elf_xlate.proofs.Bytes.{lowest_same}
use Rattle.elf_xlate.proofs.Digits.{are_bytes}
use Rattle.elf_xlate.proofs.Pieces.{each_passes}
use Rattle.elf_xlate.proofs.BothWays.{written_all, listed_again}
use Rattle.elf_xlate.proofs.Lengths.{length_half, length_word, length_addr, length_sym, length_rel, length_rela, length_dyn}
use Rattle.elf_xlate.proofs.EachItem.{half_read, half_written, word_read, word_written, addr_read, addr_written, sym_read, sym_written, rel_read, rel_written, rela_read, rela_written, dyn_read, dyn_written}

-- what is said of a list that was read is said of the items
of_listed : {X : Type 0} (variant : List X → Items) (o : Option (List X)) (P : Items → Type 0) → ((l : List X) → o ≡ Some l → P (variant l)) → IfSome (option_map variant o) P
of_listed variant None P h = tt
of_listed variant (Some l) P h = h l refl

-- each kind has bytes
size_is_some : (kind : Kind) (class : Class) → kind ≢ kinds.Empty → 0 < item_size kind class
size_is_some kinds.Empty class h = absurd (h refl)
size_is_some kinds.Bytes class h = omega arith
size_is_some kinds.Half class h = omega arith
size_is_some kinds.Word class h = omega arith
size_is_some kinds.Addr C32 h = omega arith
size_is_some kinds.Addr C64 h = omega arith
size_is_some kinds.Sym C32 h = omega arith
size_is_some kinds.Sym C64 h = omega arith
size_is_some kinds.Rel C32 h = omega arith
size_is_some kinds.Rel C64 h = omega arith
size_is_some kinds.Rela C32 h = omega arith
size_is_some kinds.Rela C64 h = omega arith
size_is_some kinds.Dyn C32 h = omega arith
size_is_some kinds.Dyn C64 h = omega arith

pub encodes_as_decoded : (kind : Kind) (class : Class) (order : Order) (bytes : List ℕ) → EncodesAsDecoded kind class order bytes
unfolding decoded encoded
encodes_as_decoded kinds.Empty class order bytes some bs = absurd (some refl)
encodes_as_decoded kinds.Bytes class order bytes some bs = lowest_same bytes bs
encodes_as_decoded kinds.Half class order bytes some bs =
    of_listed Half (listed (half_of class order) (item_size kinds.Half class) bytes) (λ items. encoded class order items ≡ bytes)
    (λ l given. written_all (half_of class order) (half_bytes class order) (item_size kinds.Half class) bytes l (half_written class order) (are_bytes bytes bs) given)
encodes_as_decoded kinds.Word class order bytes some bs =
    of_listed Word (listed (word_of class order) (item_size kinds.Word class) bytes) (λ items. encoded class order items ≡ bytes)
    (λ l given. written_all (word_of class order) (word_bytes class order) (item_size kinds.Word class) bytes l (word_written class order) (are_bytes bytes bs) given)
encodes_as_decoded kinds.Addr class order bytes some bs =
    of_listed Addr (listed (addr_of class order) (item_size kinds.Addr class) bytes) (λ items. encoded class order items ≡ bytes)
    (λ l given. written_all (addr_of class order) (addr_bytes class order) (item_size kinds.Addr class) bytes l (addr_written class order) (are_bytes bytes bs) given)
encodes_as_decoded kinds.Sym class order bytes some bs =
    of_listed Sym (listed (sym_of class order) (item_size kinds.Sym class) bytes) (λ items. encoded class order items ≡ bytes)
    (λ l given. written_all (sym_of class order) (sym_bytes class order) (item_size kinds.Sym class) bytes l (sym_written class order) (are_bytes bytes bs) given)
encodes_as_decoded kinds.Rel class order bytes some bs =
    of_listed Rel (listed (rel_of class order) (item_size kinds.Rel class) bytes) (λ items. encoded class order items ≡ bytes)
    (λ l given. written_all (rel_of class order) (rel_bytes class order) (item_size kinds.Rel class) bytes l (rel_written class order) (are_bytes bytes bs) given)
encodes_as_decoded kinds.Rela class order bytes some bs =
    of_listed Rela (listed (rela_of class order) (item_size kinds.Rela class) bytes) (λ items. encoded class order items ≡ bytes)
    (λ l given. written_all (rela_of class order) (rela_bytes class order) (item_size kinds.Rela class) bytes l (rela_written class order) (are_bytes bytes bs) given)
encodes_as_decoded kinds.Dyn class order bytes some bs =
    of_listed Dyn (listed (dyn_of class order) (item_size kinds.Dyn class) bytes) (λ items. encoded class order items ≡ bytes)
    (λ l given. written_all (dyn_of class order) (dyn_bytes class order) (item_size kinds.Dyn class) bytes l (dyn_written class order) (are_bytes bytes bs) given)

-- ---- The other way

-- in range and passing
pub record IsGood {X : Type 0} (InRange : X → Type 0) (passes : X → Bool) (x : X) : Type 0 where
  pub in_range : InRange x
  pub passing : passes x ≡ true

all_good : {X : Type 0} (InRange : X → Type 0) (passes : X → Bool) (l : List X) → All InRange l → first_not passes l ≡ None
    → AllByRecursion (IsGood InRange passes) l
all_good InRange passes l in_range none =
    recursion_from_All (IsGood InRange passes) l
    (λ k d low. record { in_range = in_range k d low; passing = each_passes passes l k (get_or l k d) none low (get_or_default l k d (get_or l k d) low) })

pub decodes_as_encoded : (class : Class) (order : Order) (items : Items) → DecodesAsEncoded class order items
unfolding decoded encoded first_unfit
decodes_as_encoded class order Empty is none = refl
decodes_as_encoded class order (Bytes l) is none = ap (λ (bytes : List ℕ). Some (Bytes bytes)) (lowest_same l is)
decodes_as_encoded class order (Half l) is none =
    ap (option_map Half) (listed_again (half_of class order) (half_bytes class order) (λ n. n < 2 ^ 16) (item_size kinds.Half class) l (size_is_some kinds.Half class (λ e. cc))
    (λ x good. length_half class order x) (λ x good. half_read class order x good) (recursion_from_All (λ n. n < 2 ^ 16) l is))
decodes_as_encoded class order (Word l) is none =
    ap (option_map Word) (listed_again (word_of class order) (word_bytes class order) (λ n. n < 2 ^ 32) (item_size kinds.Word class) l (size_is_some kinds.Word class (λ e. cc))
    (λ x good. length_word class order x) (λ x good. word_read class order x good) (recursion_from_All (λ n. n < 2 ^ 32) l is))
decodes_as_encoded class order (Addr l) is none =
    ap (option_map Addr) (listed_again (addr_of class order) (addr_bytes class order) (IsGood (λ n. n < 2 ^ 64) (fits class)) (item_size kinds.Addr class) l (size_is_some kinds.Addr class (λ e. cc))
    (λ x good. length_addr class order x) (λ x good. addr_read class order x good.in_range good.passing) (all_good (λ n. n < 2 ^ 64) (fits class) l is none))
decodes_as_encoded class order (Sym l) is none =
    ap (option_map Sym) (listed_again (sym_of class order) (sym_bytes class order) (IsGood IsSym (sym_fits class)) (item_size kinds.Sym class) l (size_is_some kinds.Sym class (λ e. cc))
    (λ x good. length_sym class order x) (λ x good. sym_read class order x good.in_range good.passing) (all_good IsSym (sym_fits class) l is none))
decodes_as_encoded class order (Rel l) is none =
    ap (option_map Rel) (listed_again (rel_of class order) (rel_bytes class order) (IsGood IsRel (rel_fits class)) (item_size kinds.Rel class) l (size_is_some kinds.Rel class (λ e. cc))
    (λ x good. length_rel class order x) (λ x good. rel_read class order x good.in_range good.passing) (all_good IsRel (rel_fits class) l is none))
decodes_as_encoded class order (Rela l) is none =
    ap (option_map Rela) (listed_again (rela_of class order) (rela_bytes class order) (IsGood IsRela (rela_fits class)) (item_size kinds.Rela class) l (size_is_some kinds.Rela class (λ e. cc))
    (λ x good. length_rela class order x) (λ x good. rela_read class order x good.in_range good.passing) (all_good IsRela (rela_fits class) l is none))
decodes_as_encoded class order (Dyn l) is none =
    ap (option_map Dyn) (listed_again (dyn_of class order) (dyn_bytes class order) (IsGood IsDyn (dyn_fits class)) (item_size kinds.Dyn class) l (size_is_some kinds.Dyn class (λ e. cc))
    (λ x good. length_dyn class order x) (λ x good. dyn_read class order x good.in_range good.passing) (all_good IsDyn (dyn_fits class) l is none))
