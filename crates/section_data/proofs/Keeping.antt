-- What is kept of a cell.
use Rattle.std.proofs.Common.{◌≡◌, ℕ, ◌<◌, ◌≤◌, Bool, true, false, List, [], ◌∷◌, ◌++◌, length, Option, Some, None, Result, Ok, Err, refl, sym, ap, ◌∙◌, subst, arith, length-append}
use Rattle.std.specs.Prelude.{is_some, IfSome, OnOk, OnErr, ◌||◌, ◌&&◌}
use Rattle.std.specs.Option.{option_map}
use Rattle.elf_types.specs.declared.records.Kind.TheVariants as kinds
use Rattle.elf_types.specs.declared.constants.TheConstants.{MAX_PIECES}
use Rattle.elf_object.specs.elf_xlate.declared.content.Items.{Items}
use Rattle.elf_object.specs.elf_xlate.declared.content.Items.TheVariants.{Bytes}
use Rattle.elf_object.specs.elf_xlate.Translation.{items_kind}
use Rattle.elf_object.specs.Object.{Home, Piece}
use Rattle.elf_object.specs.Answers.{bytes_of}
use Rattle.section_data.specs.Views.{CellView, pieces_view}
use Rattle.section_data.specs.Leaves.{bytes_or_none, IsReadFrom, RawBecomes, FillsRoom}
use Rattle.section_data.proofs.Loading.{read_from}
use Rattle.elf_types.specs.declared.errors.ElfError.{ElfError}
use Rattle.section_data.specs.Held.{cell_is_loaded}
use Rattle.section_data.specs.declared.held.HomeItems.{HomeItems}
use Rattle.section_data.specs.declared.held.HomeItems.TheVariants.{Nothing, Translated, Raw}
use Rattle.section_data.specs.declared.used.Used.{Used}
use Rattle.section_data.specs.Kept.{raw_view, held_view, UsedView, used_view, kept_view, IsRoomFor, IsUse, IsUsed, IsKept, Opens, Forgets, Fills}
use Rattle.section_data.proofs.Holdings.{bytes_back, none_of}

pub loaded_is : (empty_read : Bool) (bytes : Option (List ℕ)) → is_some (raw_view empty_read bytes) ≡ (is_some bytes || empty_read)
loaded_is empty_read (Some bytes) = refl
loaded_is true None = refl
loaded_is false None = refl

pub bytes_are : (empty_read : Bool) (bytes : Option (List ℕ)) → bytes_or_none (raw_view empty_read bytes) ≡ bytes_or_none bytes
bytes_are empty_read (Some bytes) = refl
bytes_are true None = refl
bytes_are false None = refl

-- ---- What is kept of a section that is used

abbrev with_raw : Used → List ℕ → Used
with_raw u bytes = record u { raw = Some (Bytes bytes) }

raw_none : (u : Used) → is_some (option_map bytes_of u.raw) ≡ false → u.raw ≡ None
raw_none u unread = by_raw u.raw unread
  where
    by_raw : (raw : Option Items) → is_some (option_map bytes_of raw) ≡ false → raw ≡ None
    by_raw None e = refl
    by_raw (Some items) e = cc

unread_bytes : (empty_read : Bool) (bytes : Option (List ℕ)) → is_some (raw_view empty_read bytes) ≡ false → is_some bytes ≡ false
unread_bytes empty_read None e = refl
unread_bytes empty_read (Some bytes) e = e

-- where no bytes are kept, there is no room for a copy of them
no_copy : (raw : Option Items) (bytes : Items) (held : HomeItems) → raw ≡ None → IsRoomFor raw held
    → IsRoomFor (Some bytes) held × (held_view (Some bytes) held ≡ held_view raw held)
no_copy raw bytes Nothing none room = (tt, refl)
no_copy raw bytes (Translated items) none room = (tt, refl)
no_copy None bytes (Raw n) none room = cc
no_copy (Some items) bytes (Raw n) none room = cc

raw_use : (len : ℕ) (u : Used) (bytes : List ℕ) → u.raw ≡ None → IsUse len u → IsUse len (with_raw u bytes)
raw_use len u bytes none good = record { bytes = refl; copy = (no_copy u.raw (Bytes bytes) u.held none good.copy).0; room = good.room }

raw_used : (len : ℕ) (u : Used) (bytes : List ℕ) → u.raw ≡ None → IsUse len u
    → used_view (Some (with_raw u bytes)) ≡ record (used_view (Some u)) { bytes = Some bytes }
raw_used len u bytes none good =
    ap (λ (held : Option Items). record (used_view (Some u)) { bytes = Some bytes; held = held })
    (no_copy u.raw (Bytes bytes) u.held none good.copy).1

-- ---- The place for it

pub opened_view : (old opened : Option Used) (u : Used) → Opens old opened → opened ≡ Some u → used_view (Some u) ≡ used_view old
opened_view old opened u opens is = ap (λ (o : Option Used). used_view o) (sym is) ∙ opens.same

pub opened_use : (len : ℕ) (old opened : Option Used) (u : Used) → Opens old opened → opened ≡ Some u → IsUsed len old → IsUse len u
opened_use len old opened u opens is used = subst (λ (o : Option Used). IsUsed len o) is (opens.stays len used)

-- what is kept is so again where the other pieces stay
kept_again : (len : ℕ) (has_first : Bool) (first : Piece) (old new : Option Used) → IsKept len has_first first old
    → (used_view new).others ≡ (used_view old).others → IsUsed len new → IsKept len has_first first new
kept_again len has_first first old new kept same used = record {
  used = used;
  few = subst (λ (l : List Piece). length (pieces_view has_first first l) ≤ MAX_PIECES) (sym same) kept.few;
  none = λ none. same ∙ kept.none none;
}

pub forgets_kept : (len : ℕ) (has_first : Bool) (first : Piece) (old new : Option Used) → IsKept len has_first first old
    → Forgets old new → IsKept len has_first first new
forgets_kept len has_first first old new kept forgets =
    kept_again len has_first first old new kept (ap (λ (w : UsedView). w.others) forgets.view) (forgets.stays len kept.used)

pub forgets_used : (old : Option Used) (u v : Used) → old ≡ Some u → v ≡ record u { raw = None; held = Nothing } → Forgets old (Some v)
forgets_used old u v is now =
    subst (λ (o : Option Used). Forgets o (Some v)) (sym is)
    (subst (λ (w : Used). Forgets (Some u) (Some w)) (sym now)
    (record { view = refl; stays = λ len good. record { bytes = tt; copy = tt; room = good.room } }))

-- bytes that are held are kept, where there are some
copied : (empty_read : Bool) (raw : Option Items) → IfSome raw (λ items. items_kind items ≡ kinds.Bytes)
    → 0 < length (bytes_or_none (raw_view empty_read (option_map bytes_of raw))) → raw ≡ option_map Bytes (raw_view empty_read (option_map bytes_of raw))
copied empty_read None kind some = absurd (omega (arith, some, ap length (bytes_are empty_read None)))
copied empty_read (Some items) kind some = ap Some (sym (bytes_back items kind))

room_for : (empty_read : Bool) (raw : Option Items) (room : ℕ) → 0 < length (bytes_or_none (raw_view empty_read (option_map bytes_of raw)))
    → length (bytes_or_none (raw_view empty_read (option_map bytes_of raw))) ≤ room → IsRoomFor raw (Raw room)
room_for empty_read None room some fits = absurd (omega (arith, some, ap length (bytes_are empty_read None)))
room_for empty_read (Some items) room some fits = (refl, fits)

grown : (has_first : Bool) (first : Piece) (l : List Piece) (q : Piece) → has_first ≡ true
    → pieces_view has_first first (l ++ q ∷ []) ≡ pieces_view has_first first l ++ q ∷ []
grown true first l q there = refl
grown false first l q there = cc

pub opens_same : (slot : Option Used) (u : Used) → slot ≡ Some u → Opens slot slot
opens_same slot u is = record { there = ap (λ (o : Option Used). is_some o) is; same = refl; stays = λ len used. used }

-- ---- What the calls keep

module _ (section : ℕ) (home : Home) (empty_read has_first : Bool) (first : Piece) where
  abbrev view_of : Option Used → CellView
  view_of used = kept_view section home empty_read has_first first (used_view used)

  module _ (len : ℕ) (old opened : Option Used) (u v : Used) (c : CellView) (kept : IsKept len has_first first old)
      (opens : Opens old opened) (is : opened ≡ Some u) (seen : view_of old ≡ c) where
    same_view : used_view (Some u) ≡ used_view old
    same_view = opened_view old opened u opens is

    good : IsUse len u
    good = opened_use len old opened u opens is kept.used

    again : (w : Used) → v ≡ w → w.others ≡ u.others → IsUse len w
        → IsKept len has_first first (Some v)
    again w now same good =
        subst (λ (w : Used). IsKept len has_first first (Some w)) (sym now)
        (kept_again len has_first first old (Some w) kept (same ∙ ap (λ (w : UsedView). w.others) same_view) good)

    none : cell_is_loaded c ≡ false → u.raw ≡ None
    none unread =
        let before : is_some (raw_view empty_read (used_view old).bytes) ≡ false = ap (λ (c : CellView). cell_is_loaded c) seen ∙ unread in
        raw_none u (ap (λ (w : UsedView). is_some w.bytes) same_view ∙ unread_bytes empty_read (used_view old).bytes before)

    pub bytes_kept : (bytes : List ℕ) → cell_is_loaded c ≡ false → v ≡ with_raw u bytes → IsKept len has_first first (Some v)
    bytes_kept bytes unread now = again (with_raw u bytes) now refl (raw_use len u bytes (none unread) good)

    pub bytes_seen : (bytes : List ℕ) → cell_is_loaded c ≡ false → v ≡ with_raw u bytes → view_of (Some v) ≡ record c { raw = Some bytes }
    bytes_seen bytes unread now =
        ap (λ (w : Used). view_of (Some w)) now
        ∙ ap (λ (w : UsedView). kept_view section home empty_read has_first first w) (raw_used len u bytes (none unread) good)
        ∙ ap (λ (w : UsedView). kept_view section home empty_read has_first first (record w { bytes = Some bytes })) same_view
        ∙ ap (λ (c : CellView). record c { raw = Some bytes }) seen

    pub items_kept : (items : Items) → v ≡ record u { held = Translated items } → IsKept len has_first first (Some v)
    items_kept items now = again (record u { held = Translated items }) now refl (record { bytes = good.bytes; copy = tt; room = good.room })

    pub items_seen : (items : Items) → v ≡ record u { held = Translated items } → view_of (Some v) ≡ record c { held = Some items }
    items_seen items now =
        ap (λ (w : Used). view_of (Some w)) now
        ∙ ap (λ (w : UsedView). kept_view section home empty_read has_first first (record w { held = Some items })) same_view
        ∙ ap (λ (c : CellView). record c { held = Some items }) seen

    pub room_kept : (zeros : List ℕ) → length zeros ≡ len → v ≡ record u { room = Some zeros } → IsKept len has_first first (Some v)
    room_kept zeros long now = again (record u { room = Some zeros }) now refl (record { bytes = good.bytes; copy = good.copy; room = long })

    pub room_seen : (zeros : List ℕ) → v ≡ record u { room = Some zeros } → view_of (Some v) ≡ record c { room = true }
    room_seen zeros now =
        ap (λ (w : Used). view_of (Some w)) now
        ∙ ap (λ (w : UsedView). kept_view section home empty_read has_first first (record w { room = true })) same_view
        ∙ ap (λ (c : CellView). record c { room = true }) seen

    -- ---- A copy of the bytes

    raw_seen : raw_view empty_read (option_map bytes_of u.raw) ≡ c.raw
    raw_seen = ap (λ (w : UsedView). raw_view empty_read w.bytes) same_view ∙ ap (λ (c : CellView). c.raw) seen

    pub copy_kept : (room : ℕ) → 0 < length (bytes_or_none c.raw) → length (bytes_or_none c.raw) ≤ room
        → v ≡ record u { held = Raw room } → IsKept len has_first first (Some v)
    copy_kept room some fits now =
        again (record u { held = Raw room }) now refl
        (record { bytes = good.bytes; copy = room_for empty_read u.raw room (rw raw_seen some) (rw raw_seen fits); room = good.room })

    pub copy_seen : (room : ℕ) → 0 < length (bytes_or_none c.raw) → v ≡ record u { held = Raw room }
        → view_of (Some v) ≡ record c { held = option_map Bytes c.raw }
    copy_seen room some now =
        ap (λ (w : Used). view_of (Some w)) now
        ∙ ap (λ (held : Option Items). kept_view section home empty_read has_first first (record (used_view (Some u)) { held = held }))
        (copied empty_read u.raw good.bytes (rw raw_seen some))
        ∙ ap (λ (w : UsedView). kept_view section home empty_read has_first first (record w { held = option_map Bytes (raw_view empty_read w.bytes) })) same_view
        ∙ ap (λ (c : CellView). record c { held = option_map Bytes c.raw }) seen

    -- ---- One piece more

    grown_seen : (q : Piece) → has_first ≡ true → u.others ++ q ∷ [] ≡ v.others
        → pieces_view has_first first v.others ≡ c.pieces ++ q ∷ []
    grown_seen q there more =
        ap (λ (l : List Piece). pieces_view has_first first l) (sym more)
        ∙ grown has_first first u.others q there
        ∙ ap (λ (w : UsedView). pieces_view has_first first w.others ++ q ∷ []) same_view
        ∙ ap (λ (c : CellView). c.pieces ++ q ∷ []) seen

    pub pushed_kept : {T E : Type 0} (r : Result T E) (q : Piece) → has_first ≡ true → length c.pieces < MAX_PIECES
        → v ≡ record u { others = v.others } → OnOk r (v.others ≡ u.others ++ q ∷ [])
        → OnErr r (v.others ≡ u.others)
        → IsKept len has_first first (Some v)
    pushed_kept (Ok x) q there few rest more same = record {
      used = subst (λ (w : Used). IsUse len w) (sym rest) (record { bytes = good.bytes; copy = good.copy; room = good.room });
      few = let longer = ap length (grown_seen q there (sym more)) in omega (arith, few, longer, length-append c.pieces (q ∷ []));
      none = λ none. let never = sym there ∙ none in cc;
    }
    pushed_kept (Err e) q there few rest more same =
        kept_again len has_first first old (Some v) kept (same ∙ ap (λ (w : UsedView). w.others) same_view)
        (subst (λ (w : Used). IsUse len w) (sym rest) (record { bytes = good.bytes; copy = good.copy; room = good.room }))

    rest_seen : v ≡ record u { others = v.others } → (pieces : List Piece)
        → pieces_view has_first first v.others ≡ pieces
        → view_of (Some v) ≡ record c { pieces = pieces }
    rest_seen rest pieces is =
        ap (λ (w : Used).
        record (view_of (Some w)) { pieces = pieces_view has_first first v.others }) rest
        ∙ ap (λ (l : List Piece). record (view_of (Some u)) { pieces = l }) is
        ∙ ap (λ (w : UsedView). record (kept_view section home empty_read has_first first w) { pieces = pieces }) same_view
        ∙ ap (λ (c : CellView). record c { pieces = pieces }) seen

    pub pushed_seen : {T E : Type 0} (r : Result T E) (q : Piece) → has_first ≡ true → v ≡ record u { others = v.others }
        → OnOk r (v.others ≡ u.others ++ q ∷ [])
        → OnOk r (view_of (Some v) ≡ record c { pieces = c.pieces ++ q ∷ [] })
    pushed_seen (Ok x) q there rest more = rest_seen rest (c.pieces ++ q ∷ []) (grown_seen q there (sym more))
    pushed_seen (Err e) q there rest more = tt

    pub unpushed_seen : {T E : Type 0} (r : Result T E) → v ≡ record u { others = v.others }
        → OnErr r (v.others ≡ u.others) → OnErr r (view_of (Some v) ≡ c)
    unpushed_seen (Ok x) rest same = tt
    unpushed_seen (Err e) rest same =
        rest_seen rest c.pieces
        (ap (λ (l : List Piece). pieces_view has_first first l) same
        ∙ ap (λ (w : UsedView). pieces_view has_first first w.others) same_view
        ∙ ap (λ (c : CellView). c.pieces) seen)

  -- ---- Reading into memory that was kept aside

  pub room_filled : (r : Result (Unit {0}) ElfError) (image : Option (List ℕ)) (u v : Used) (c : CellView) → view_of (Some u) ≡ c
      → cell_is_loaded c ≡ false → c.home.out ≡ false → IsUse home.len u → OnOk r (Fills image home.at home.len u v)
      → OnOk r (FillsRoom image c (view_of (Some v)))
  room_filled (Err e) image u v c seen unread inside is fills = tt
  room_filled (Ok x) image u v c seen unread inside is fills =
      let bytes = fills.bytes in
      let before : is_some (raw_view empty_read (option_map bytes_of u.raw)) ≡ false = ap (λ (c : CellView). cell_is_loaded c) seen ∙ unread in
      let none = raw_none u (unread_bytes empty_read (option_map bytes_of u.raw) before) in
      let same : home ≡ c.home = ap (λ (c : CellView). c.home) seen in
      record {
        raw = bytes;
        cell = ap (λ (w : Used). view_of (Some w)) fills.now
            ∙ ap (λ (held : Option Items). record (view_of (Some u)) { raw = Some bytes; held = held; room = false }) (no_copy u.raw (Bytes bytes) u.held none is.copy).1
            ∙ ap (λ (c : CellView). record c { raw = Some bytes; room = false }) seen
            ∙ ap (λ (loaded : Bool). record c { raw = Some bytes; room = loaded && c.room }) (sym unread);
        bytes = subst (λ (raw : Option (List ℕ)). RawBecomes image c.home raw (Some bytes)) (sym (none_of c.raw unread))
            (subst (λ (h : Home). IsReadFrom image h bytes) same
            (read_from image home bytes (ap (λ (h : Home). h.out) same ∙ inside) fills.long fills.told));
      }
