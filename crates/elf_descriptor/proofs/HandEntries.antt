-- An item that is at hand, without a step before.
use Rattle.std.proofs.Common.{◌≡◌, ℕ, ◌<◌, Bool, true, false, not, List, [], ◌∷◌, length, Option, Some, None, Ok, refl, sym, ap, ◌∙◌}
use Rattle.std.specs.Prelude.{nat_le, IfSome, IsTrue, is_some, ◌||◌, ◌&&◌}
use Rattle.std.specs.Option.{option_map}
use Rattle.std.proofs.lemmas.Bool.{lt-leb}
use Rattle.elf_types.specs.declared.records.Class.{Class}
use Rattle.elf_types.specs.declared.records.Kind.{Kind}
use Rattle.elf_types.specs.declared.errors.ElfError.{ElfError}
use Rattle.elf_types.specs.declared.errors.ElfError.TheVariants.{NoSection, NoData, WrongKind, OutOfFile, Ragged}
use Rattle.elf_types.specs.Answers.{refused_if, first_refusal}
use Rattle.section_table.specs.elf_xlate.declared.content.Items.{Items}
use Rattle.section_table.specs.elf_xlate.Translation.{decoded, listed}
use Rattle.section_table.specs.elf_object.Words.{Wants, Answers}
use Rattle.section_table.specs.elf_object.Answers.{items_at, entry_answer, lend_refusal}
use Rattle.section_table.proofs.elf_object.StepLaws.{same_kind-same}
use Rattle.section_table.specs.section_data.Views.{CellView, IsCell}
use Rattle.section_table.specs.section_data.Held.{piece_in, kind_in, cell_is_loaded, is_ragged, is_at_hand, items_in, TellsItem}
use Rattle.section_table.specs.section_data.Refused.{no_home_items, kind_refused}
use Rattle.elf_descriptor.specs.declared.body.Body.{Body}
use Rattle.elf_descriptor.specs.Views.{object_of, scn_at, no_scn}
use Rattle.elf_descriptor.specs.Bodies.{no_list_in}
use Rattle.elf_descriptor.specs.Sound.{IsElf}
use Rattle.elf_descriptor.proofs.PieceCalls.{lend_refusal_is}
use Rattle.elf_descriptor.proofs.EntryCalls.{entry_stated, given_entry, lists_alike}

-- ---- Nothing is refused

let_pass : (test : Bool) (e : ElfError) (later : List (Option ElfError)) → test ≡ false → first_refusal (refused_if test e ∷ later) ≡ first_refusal later
let_pass test e later is = rw is refl

one_none : (r : Option ElfError) → r ≡ None → first_refusal (r ∷ []) ≡ None
one_none r is = rw is refl

-- of a piece whose items are at hand
hand_home : (class : Class) (c : CellView) (p : ℕ) → IsCell c → IsTrue (is_at_hand class c p) → no_home_items class c p ≡ None
unfolding is_at_hand no_home_items
hand_home class c p cell hand = by_own (piece_in c p).own hand
  where
    by_tests : (raw : Option (List ℕ)) (out ragged : Bool) → (out ≡ true → raw ≡ None) → IsTrue (is_some raw && not ragged)
        → first_refusal (refused_if out (OutOfFile c.section) ∷ refused_if ragged (Ragged c.section) ∷ []) ≡ None
    by_tests None out ragged outside hand = cc
    by_tests (Some bytes) out true outside hand = cc
    by_tests (Some bytes) false false outside hand = refl
    by_tests (Some bytes) true false outside hand = let none = outside refl in cc

    by_own : (o : Option Items) → IsTrue (is_some o || (cell_is_loaded c && not (is_ragged class c)))
        → ◌≡◌ {A = Option ElfError} (elim o [ None ↦ first_refusal (refused_if c.home.out (OutOfFile c.section) ∷ refused_if (is_ragged class c) (Ragged c.section) ∷ []) | Some items ↦ None ]) None
    by_own (Some items) hand = refl
    by_own None hand = by_tests c.raw c.home.out (is_ragged class c) cell.outside hand

-- of a piece of a kind that is there
hand_passes : (b : Body) (kind : Kind) (s p : ℕ) → s < length b.sections
    → p < length (scn_at b s).cell.pieces → kind_in (scn_at b s).cell p ≡ kind
    → no_home_items b.header.class (scn_at b s).cell p ≡ None → no_list_in b kind s p ≡ None
unfolding no_list_in kind_refused no_scn
hand_passes b kind s p there piece of_kind home =
    let c = (scn_at b s).cell in
    let_pass (nat_le (length b.sections) s) (NoSection s (length b.sections))
    (kind_refused b.header.class c kind p ∷ []) (lt-leb (length b.sections) s there)
    ∙ one_none (kind_refused b.header.class c kind p)
    (let_pass (nat_le (length c.pieces) p) (NoData p (length c.pieces)) _ (lt-leb (length c.pieces) p piece)
    ∙ let_pass _ (WrongKind (kind_in c p)) (no_home_items b.header.class c p ∷ []) (ap not (same_kind-same (kind_in c p) kind of_kind))
    ∙ one_none (no_home_items b.header.class c p) home)

-- ---- The item

pub told_entry : {X : Type 0} (image : Option (List ℕ)) (size : ℕ) (b : Body) (kind : Kind) (variant : List X → Items) (list_of : Items → List X) → ((l : List X) → list_of (variant l) ≡ l)
    → (item : List ℕ → X) (width s p i : ℕ) → ((bytes : List ℕ) → decoded kind b.header.class b.header.order bytes ≡ option_map variant (listed item width bytes))
    → (wants : Wants) (r : Option X) → IsElf image size b → s < length b.sections
    → IfSome r (TellsItem kind list_of b.header.class b.header.order (scn_at b s).cell p i)
    → IfSome r (λ x. Answers (is_some image) wants (Ok x)
    (entry_answer (lend_refusal (object_of image size b) kind s p) (list_of (items_at (object_of image size b) s p)) i))
told_entry image size b kind variant list_of back item width s p i listed_in wants None is there tells = tt
told_entry image size b kind variant list_of back item width s p i listed_in wants (Some x) is there tells =
    let home = hand_home b.header.class (scn_at b s).cell p tells.cell tells.hand in
    let passed = lend_refusal_is image size b kind s p is ∙ hand_passes b kind s p there tells.piece tells.of_kind home in
    let alike = lists_alike image size b kind variant list_of back item width s p listed_in is there tells.cell tells.of_kind home tells.hand in
    let stated = list_of (items_at (object_of image size b) s p) in
    given_entry (is_some image) wants (lend_refusal (object_of image size b) kind s p) stated i (Ok x) passed
    (entry_stated (is_some image) wants (list_of (items_in b.header.class b.header.order (scn_at b s).cell p)) stated i (Ok x) (sym tells.entry) alike.0 alike.1)
