-- A part of an image, piece by piece.
use Rattle.std.proofs.Common.{◌≡◌, ℕ, zero, suc, ◌+◌, ◌-◌, ◌<◌, ◌≤◌, max, Bool, false, List, [], ◌∷◌, ◌++◌, Result, Ok, Err, length, take, drop, replicate, get_or, refl, sym, ap, ◌∙◌, subst, append_assoc, arith}
use Rattle.std.specs.Prelude.{if◌then◌else◌, ◌==◌, map}
use Rattle.std.specs.List.{range_with_len}
use Rattle.std.specs.Int.{next_multiple_of}
use Rattle.std.proofs.lemmas.Bool.{ne_eqb}
use Rattle.std.proofs.lemmas.List.{drop_more, drop_all, take_all, append-nil}
use Rattle.elf_types.specs.declared.errors.ElfError.{ElfError}
use Rattle.elf_types.specs.declared.errors.ElfError.TheVariants.{Write}
use Rattle.elf_types.specs.declared.records.Part.{Part}
use Rattle.elf_update_plan.specs.elf_outside.declared.sinks.Sink.{Ghosts as SinkGhosts}
use Rattle.elf_update_plan.specs.elf_layout.Layout.{rounded_up}
use Rattle.elf_update_plan.specs.elf_object.Blocks.{block_end, stacked, last_end}
use Rattle.elf_update_plan.proofs.law_object.writing.LineLaws.{line_within, length-in_line}
use Rattle.elf_update_plan.proofs.law_object.writing.PieceLaws.{stacked_line}
use Rattle.elf_update_to.specs.declared.parts.ImageParts.{Ghosts}
use Rattle.elf_update_to.specs.declared.parts.Origin.TheVariants.{Piece}
use Rattle.elf_update_to.specs.Origins.{absent_piece, origin_due}
use Rattle.elf_update_to.specs.Pieces.{filled_piece, pieces_length, joined_from, stacked_text}
use Rattle.elf_update_to.specs.Texts.{Flows}
use Rattle.elf_update_to.specs.Emits.{Emits, due_in}
use Rattle.elf_update_to.proofs.EmitLaws.{emits_none, emits_both, emits_stop, emits_as, emits_still, emits_value}

-- ---- Pieces in a line

const_range : (fill a n : ℕ) → map (λ _. fill) (range_with_len a n) ≡ replicate n fill
const_range fill a zero = refl
const_range fill a (suc n) = ap (λ (l : List ℕ). fill ∷ l) (const_range fill (a + 1) n)

-- what is left of a part begins with the fill and the first piece
pub joined_step : (fill all end : ℕ) (piece : ℕ × List ℕ) (rest : List (ℕ × List ℕ))
    → joined_from fill all end (piece ∷ rest)
    ≡ (filled_piece piece end fill)
    ++ joined_from fill all (rounded_up end piece.0 + length piece.1) rest
unfolding stacked block_end
joined_step fill all end piece rest =
    ap (λ (l : List ℕ). l ++ (piece.1 ++ joined_from fill all (rounded_up end piece.0 + length piece.1) rest))
    (const_range fill end (rounded_up end piece.0 - end))
    ∙ sym (append_assoc (replicate (rounded_up end piece.0 - end) fill) piece.1
    (joined_from fill all (rounded_up end piece.0 + length piece.1) rest))

pub last_step : (end : ℕ) (piece : ℕ × List ℕ) (rest : List (ℕ × List ℕ))
    → last_end end (stacked end (piece ∷ rest))
    ≡ last_end (rounded_up end piece.0 + length piece.1) (stacked (rounded_up end piece.0 + length piece.1) rest)
unfolding stacked last_end block_end
last_step end piece rest = refl

-- the last end is not below an end so far
pub last_within : (end : ℕ) (rest : List (ℕ × List ℕ)) → end ≤ last_end end (stacked end rest)
last_within end rest = line_within (last_end end (stacked end rest)) end (stacked end rest) (stacked_line end rest)

pub last_none : (end : ℕ) → last_end end (stacked end []) ≡ end
unfolding stacked last_end
last_none end = refl

pub joined_none : (fill all end : ℕ) → all ≡ end → joined_from fill all end [] ≡ []
unfolding stacked
joined_none fill all end is =
    let none : all - end ≡ 0 = omega (arith, is) in
    ap (λ (n : ℕ). map (λ _. fill) (range_with_len end n)) none

-- a part is as long as its pieces are
pub length-joined_pieces : (fill : ℕ) (pieces : List (ℕ × List ℕ))
    → length (stacked_text fill pieces) ≡ pieces_length pieces
unfolding stacked_text pieces_length
length-joined_pieces fill pieces =
    let all = length-in_line (last_end 0 (stacked 0 pieces)) (λ _. fill) 0 (stacked 0 pieces) (stacked_line 0 pieces) in
    omega (arith, all)

-- ---- One piece

-- where it stands
pub stands_at : (end align given one at : ℕ) → given ≡ align → one ≡ max given 1 → at ≡ next_multiple_of end one
    → at ≡ rounded_up end align
unfolding rounded_up
stands_at end align given one at is most place =
    place ∙ ap (next_multiple_of end) (most ∙ ap (λ (n : ℕ). max n 1) is)

module _ {P K : Type 0} (p : Ghosts P) (k : SinkGhosts K) (part : Part) (i end fill : ℕ) where
  piece_at : P → ℕ × List ℕ
  piece_at o = get_or (p.pieces (p.kept o) part) i absent_piece

  -- the fill before it was refused
  pub piece_stops : {T : Type 0} (e : ElfError) (o : P) (s t : K) (w v : List ℕ) (count : ℕ)
      → count ≡ rounded_up end (get_or (p.pieces (p.kept o) part) i absent_piece).0 - end → e ≡ Write
      → Flows {T = Unit {0}} k (Err e) s t w v (replicate count fill)
      → Emits {T = T} p k (Err e) o o s t w v
      (filled_piece (get_or (p.pieces (p.kept o) part) i absent_piece) end fill)
      (origin_due (p.due (p.kept o)) 0 (Piece part i))
  piece_stops {T} e o s t w v count is err flows =
      let piece = get_or (p.pieces (p.kept o) part) i absent_piece in
      emits_as {T = T} p k (Err e) o o s t w v (replicate count fill ++ piece.1)
      (filled_piece (get_or (p.pieces (p.kept o) part) i absent_piece) end fill)
      (origin_due (p.due (p.kept o)) 0 (Piece part i)) (origin_due (p.due (p.kept o)) 0 (Piece part i))
      (ap (λ (n : ℕ). replicate n fill ++ piece.1) is) (omega arith)
      (emits_stop {T = Unit {0}} {U = T} p k e o o s t w v v (replicate count fill) piece.1 0
      (origin_due (p.due (p.kept o)) 0 (Piece part i)) (omega arith)
      (emits_still p k (Err e) o s t w v (replicate count fill) 0 err flows))

  -- the fill and the piece
  pub piece_ends : (r : Result (Unit {0}) ElfError) (o o' : P) (s t u : K) (w v v' : List ℕ) (count len : ℕ)
      → count ≡ rounded_up end (get_or (p.pieces (p.kept o) part) i absent_piece).0 - end
      → len ≡ length (get_or (p.pieces (p.kept o) part) i absent_piece).1
      → Flows k (Ok (tt {0})) s t w v (replicate count fill)
      → Emits p k r o o' t u v v' (take (len - 0)
      (drop 0 (get_or (p.pieces (p.kept o) part) i absent_piece).1)) (due_in p o (Piece part i) 0 len)
      → Emits p k r o o' s u w v' (filled_piece (get_or (p.pieces (p.kept o) part) i absent_piece) end
      fill) (origin_due (p.due (p.kept o)) 0 (Piece part i))
  piece_ends r o o' s t u w v v' count len is long flows step =
      let piece = get_or (p.pieces (p.kept o) part) i absent_piece in
      emits_as p k r o o' s u w v' (replicate count fill ++ take (len - 0) (drop 0 piece.1))
      (filled_piece (get_or (p.pieces (p.kept o) part) i absent_piece) end fill)
      (0 + due_in p o (Piece part i) 0 len) (origin_due (p.due (p.kept o)) 0 (Piece part i))
      (ap (λ (n : ℕ). replicate n fill ++ take (len - 0) (drop 0 piece.1)) is
      ∙ ap (λ (l : List ℕ). replicate (rounded_up end piece.0 - end) fill ++ l)
      (take_all (len - 0) piece.1 (omega (arith, long))))
      (omega arith)
      (emits_both p k tt r o o o' s t u w v v' (replicate count fill)
      (take (len - 0) (drop 0 piece.1)) 0 (due_in p o (Piece part i) 0 len)
      (emits_still p k (Ok tt) o s t w v (replicate count fill) 0 tt flows) step)

  -- the same as an answer of another type
  pub piece_unread : {T : Type 0} (e : ElfError) (o o' : P) (s t u : K) (w v v' : List ℕ) (count len : ℕ)
      → count ≡ rounded_up end (get_or (p.pieces (p.kept o) part) i absent_piece).0 - end
      → len ≡ length (get_or (p.pieces (p.kept o) part) i absent_piece).1
      → Flows k (Ok (tt {0})) s t w v (replicate count fill)
      → Emits {T = Unit {0}} p k (Err e) o o' t u v v'
      (take (len - 0) (drop 0 (get_or (p.pieces (p.kept o) part) i absent_piece).1))
      (due_in p o (Piece part i) 0 len)
      → Emits {T = T} p k (Err e) o o' s u w v'
      (filled_piece (get_or (p.pieces (p.kept o) part) i absent_piece) end fill)
      (origin_due (p.due (p.kept o)) 0 (Piece part i))
  piece_unread {T} e o o' s t u w v v' count len is long flows step =
      let due = origin_due (p.due (p.kept o)) 0 (Piece part i) in
      let all = piece_ends (Err e) o o' s t u w v v' count len is long flows step in
      emits_as {T = T} p k (Err e) o o' s u w v'
      (filled_piece (get_or (p.pieces (p.kept o) part) i absent_piece) end fill ++ [])
      (filled_piece (get_or (p.pieces (p.kept o) part) i absent_piece) end fill) due due
      (append-nil (filled_piece (get_or (p.pieces (p.kept o) part) i absent_piece) end fill)) (omega arith)
      (emits_stop {T = Unit {0}} {U = T} p k e o o' s u w v' v'
      (filled_piece (get_or (p.pieces (p.kept o) part) i absent_piece) end fill) [] due due
      (omega arith) all)

  pub piece_done : {T : Type 0} (x : T) (o o' : P) (s t u : K) (w v v' : List ℕ) (count len : ℕ)
      → count ≡ rounded_up end (get_or (p.pieces (p.kept o) part) i absent_piece).0 - end
      → len ≡ length (get_or (p.pieces (p.kept o) part) i absent_piece).1
      → Flows k (Ok (tt {0})) s t w v (replicate count fill)
      → Emits p k (Ok (tt {0})) o o' t u v v'
      (take (len - 0) (drop 0 (get_or (p.pieces (p.kept o) part) i absent_piece).1))
      (due_in p o (Piece part i) 0 len)
      → Emits p k (Ok x) o o' s u w v' (filled_piece (get_or (p.pieces (p.kept o) part) i absent_piece)
      end fill) (origin_due (p.due (p.kept o)) 0 (Piece part i))
  piece_done x o o' s t u w v v' count len is long flows step =
      emits_value p k (tt {0}) x o o' s u w v'
      (filled_piece (get_or (p.pieces (p.kept o) part) i absent_piece) end fill)
      (origin_due (p.due (p.kept o)) 0 (Piece part i))
      (piece_ends (Ok tt) o o' s t u w v v' count len is long flows step)

-- ---- All pieces

-- what the first piece is due, until it is put
abbrev pub first_due : ℕ → ℕ → ℕ
first_due i due = if i == 0 then due else 0

-- of a part the pieces before the one with a number are put, and end there
pub record IsPartPut {P K : Type 0} (p : Ghosts P) (k : SinkGhosts K) (fill due : ℕ) (pieces : List (ℕ × List ℕ))
    (o o' : P) (s t : K) (w v : List ℕ) (i end : ℕ) : Type 0 where
  pub done : List ℕ
  pub spent : ℕ
  pub emits : Emits p k (Ok (tt {0})) o o' s t w v done spent
  pub all : done ++ joined_from fill (pieces_length pieces) end (drop i pieces) ≡ stacked_text fill pieces
  pub last : last_end end (stacked end (drop i pieces)) ≡ pieces_length pieces
  pub left : spent + first_due i due ≤ due

module _ {P K : Type 0} (p : Ghosts P) (k : SinkGhosts K) (fill due : ℕ) (pieces : List (ℕ × List ℕ)) where
  pub part_starts : (o : P) (s : K) (w : List ℕ) → IsPartPut p k fill due pieces o o s s w w 0 0
  unfolding stacked_text pieces_length
  part_starts o s w = record {
    done = [];
    spent = 0;
    emits = emits_none p k o s w;
    all = refl;
    last = refl;
    left = omega arith;
  }

  -- the next piece ends within the part
  pub next_within : (o o' : P) (s t : K) (w v : List ℕ) (i end : ℕ) → i < length pieces
      → IsPartPut p k fill due pieces o o' s t w v i end
      → rounded_up end (get_or pieces i absent_piece).0 + length (get_or pieces i absent_piece).1 ≤ pieces_length pieces
  next_within o o' s t w v i end there put =
      let piece = get_or pieces i absent_piece in
      let next = drop_more pieces i absent_piece there in
      let last = ap (λ (l : List (ℕ × List ℕ)). last_end end (stacked end l)) (sym next) ∙ put.last in
      let step = last_step end (get_or pieces i absent_piece) (drop (i + 1) pieces) in
      let within = last_within (rounded_up end (get_or pieces i absent_piece).0 + length
      (get_or pieces i absent_piece).1) (drop (i + 1) pieces) in
      omega (arith, last, step, within)

  pub part_goes_on : {T : Type 0} (x : T) (o o' o'' : P) (s t u : K) (w v v' : List ℕ)
      (i end after : ℕ) → i < length pieces
      → after ≡ rounded_up end (get_or pieces i absent_piece).0 + length (get_or pieces i absent_piece).1
      → IsPartPut p k fill due pieces o o' s t w v i end
      → Emits p k (Ok x) o' o'' t u v v' (filled_piece (get_or pieces i absent_piece) end fill) (first_due i due)
      → IsPartPut p k fill due pieces o o'' s u w v' (i + 1) after
  part_goes_on x o o' o'' s t u w v v' i end after there is put step =
      let piece : ℕ × List ℕ = get_or pieces i absent_piece in
      let text : List ℕ = filled_piece (get_or pieces i absent_piece) end fill in
      let next = drop_more pieces i absent_piece there in
      let later : (i + 1 == 0) ≡ false = ne_eqb (i + 1) 0 (λ e. omega (arith, e)) in
      let none : first_due (i + 1) due ≡ 0 = ap (λ (b : Bool). if b then due else 0) later in
      record {
        done = put.done ++ (filled_piece (get_or pieces i absent_piece) end fill);
        spent = put.spent + first_due i due;
        emits =
            emits_value p k x (tt {0}) o o'' s u w v'
            (put.done ++ (filled_piece (get_or pieces i absent_piece) end fill))
            (put.spent + first_due i due)
            (emits_both p k tt (Ok x) o o' o'' s t u w v v' put.done
            (filled_piece (get_or pieces i absent_piece) end fill) put.spent (first_due i due) put.emits
            step);
        all =
            ap (λ (n : ℕ). (put.done ++ (filled_piece (get_or pieces i absent_piece) end fill))
            ++ joined_from fill (pieces_length pieces) n (drop (i + 1) pieces)) is
            ∙ append_assoc put.done (filled_piece (get_or pieces i absent_piece) end fill)
            (joined_from fill (pieces_length pieces)
            (rounded_up end (get_or pieces i absent_piece).0 + length (get_or pieces i absent_piece).1)
            (drop (i + 1) pieces))
            ∙ ap (λ (l : List ℕ). put.done ++ l)
            (sym (joined_step fill (pieces_length pieces) end (get_or pieces i absent_piece)
            (drop (i + 1) pieces)))
            ∙ ap (λ (l : List (ℕ × List ℕ)). put.done ++ joined_from fill (pieces_length pieces) end l) (sym next)
            ∙ put.all;
        last = ap (λ (n : ℕ). last_end n (stacked n (drop (i + 1) pieces))) is
            ∙ sym (last_step end (get_or pieces i absent_piece) (drop (i + 1) pieces))
            ∙ ap (λ (l : List (ℕ × List ℕ)). last_end end (stacked end l)) (sym next)
            ∙ put.last;
        left = omega (arith, put.left, none);
      }

  -- a piece was refused
  pub part_stops : {T : Type 0} (e : ElfError) (o o' o'' : P) (s t u : K) (w v v' v'' : List ℕ)
      (i end : ℕ) → i < length pieces
      → IsPartPut p k fill due pieces o o' s t w v i end
      → Emits {T = T} p k (Err e) o' o'' t u v v'
      (filled_piece (get_or pieces i absent_piece) end fill) (first_due i due)
      → Emits {T = Unit {0}} p k (Err e) o o'' s u w v'' (stacked_text fill pieces) due
  part_stops {T} e o o' o'' s t u w v v' v'' i end there put step =
      let next = drop_more pieces i absent_piece there in
      let text : List ℕ = filled_piece (get_or pieces i absent_piece) end fill in
      let rest : List ℕ = joined_from fill (pieces_length pieces)
      (rounded_up end (get_or pieces i absent_piece).0 + length (get_or pieces i absent_piece).1)
      (drop (i + 1) pieces) in
      emits_as {T = Unit {0}} p k (Err e) o o'' s u w v''
      ((put.done ++ (filled_piece (get_or pieces i absent_piece) end fill))
      ++ joined_from fill (pieces_length pieces)
      (rounded_up end (get_or pieces i absent_piece).0 + length (get_or pieces i absent_piece).1)
      (drop (i + 1) pieces))
      (stacked_text fill pieces) due due
      (append_assoc put.done (filled_piece (get_or pieces i absent_piece) end fill)
      (joined_from fill (pieces_length pieces)
      (rounded_up end (get_or pieces i absent_piece).0 + length (get_or pieces i absent_piece).1)
      (drop (i + 1) pieces))
      ∙ ap (λ (l : List ℕ). put.done ++ l) (sym (joined_step fill (pieces_length pieces) end
      (get_or pieces i absent_piece) (drop (i + 1) pieces)))
      ∙ ap (λ (l : List (ℕ × List ℕ)). put.done ++ joined_from fill (pieces_length pieces) end l) (sym next)
      ∙ put.all) (omega arith)
      (emits_stop {T = T} {U = Unit {0}} p k e o o'' s u w v' v''
      (put.done ++ (filled_piece (get_or pieces i absent_piece) end fill))
      (joined_from fill (pieces_length pieces)
      (rounded_up end (get_or pieces i absent_piece).0 + length (get_or pieces i absent_piece).1)
      (drop (i + 1) pieces))
      (put.spent + first_due i due) due put.left
      (emits_both {U = T} p k tt (Err e) o o' o'' s t u w v v' put.done
      (filled_piece (get_or pieces i absent_piece) end fill) put.spent (first_due i due) put.emits
      step))

  pub part_ends : (o o' : P) (s t : K) (w v : List ℕ) (i end : ℕ) → length pieces ≤ i
      → IsPartPut p k fill due pieces o o' s t w v i end
      → Emits p k (Ok (tt {0})) o o' s t w v (stacked_text fill pieces) due
  part_ends o o' s t w v i end past put =
      let none = drop_all i pieces past in
      let last : pieces_length pieces ≡ end = sym put.last
      ∙ ap (λ (l : List (ℕ × List ℕ)). last_end end (stacked end l)) none ∙ last_none end in
      emits_as p k (Ok tt) o o' s t w v put.done (stacked_text fill pieces) put.spent due
      (sym (append-nil put.done)
      ∙ ap (λ (l : List ℕ). put.done ++ l) (sym (joined_none fill (pieces_length pieces) end last))
      ∙ ap (λ (l : List (ℕ × List ℕ)). put.done ++ joined_from fill (pieces_length pieces) end l) (sym none)
      ∙ put.all) (omega (arith, put.left)) put.emits

-- ---- Parts that are kept

module _ {P : Type 0} (p : Ghosts P) (part : Part) (i end fill : ℕ) (o o' : P) (same : p.kept o' ≡ p.kept o) where
  pub same_piece : {K T : Type 0} (k : SinkGhosts K) (r : Result T ElfError) (o'' : P) (t u : K) (v v' : List ℕ)
      → Emits p k r o' o'' t u v v' (filled_piece (get_or (p.pieces (p.kept o') part) i absent_piece)
      end fill) (first_due i (p.due (p.kept o') part))
      → Emits p k r o' o'' t u v v'
      (filled_piece (get_or (p.pieces (p.kept o) part) i absent_piece) end fill)
      (first_due i (p.due (p.kept o) part))
  same_piece k r o'' t u v v' step =
      subst (λ (x : p.Kept). Emits p k r o' o'' t u v v'
      (filled_piece (get_or (p.pieces x part) i absent_piece) end fill)
      (first_due i (p.due x part))) same step

  pub same_end : (after : ℕ)
      → after ≡ rounded_up end (get_or (p.pieces (p.kept o') part) i absent_piece).0 + length
      (get_or (p.pieces (p.kept o') part) i absent_piece).1
      → after ≡ rounded_up end (get_or (p.pieces (p.kept o) part) i absent_piece).0 + length
      (get_or (p.pieces (p.kept o) part) i absent_piece).1
  same_end after is =
      subst (λ (x : p.Kept). after ≡ rounded_up end (get_or (p.pieces x part) i absent_piece).0 + length
      (get_or (p.pieces x part) i absent_piece).1) same is

  pub same_small : (bound : ℕ)
      → rounded_up end (get_or (p.pieces (p.kept o) part) i absent_piece).0 + length
      (get_or (p.pieces (p.kept o) part) i absent_piece).1 < bound
      → rounded_up end (get_or (p.pieces (p.kept o') part) i absent_piece).0 + length
      (get_or (p.pieces (p.kept o') part) i absent_piece).1 < bound
  same_small bound is =
      subst (λ (x : p.Kept). rounded_up end (get_or (p.pieces x part) i absent_piece).0 + length
      (get_or (p.pieces x part) i absent_piece).1 < bound) (sym same) is

  pub same_there : i < length (p.pieces (p.kept o) part) → i < length (p.pieces (p.kept o') part)
  same_there is = subst (λ (x : p.Kept). i < length (p.pieces x part)) (sym same) is

  pub same_ready : p.ready (p.kept o) → p.ready (p.kept o')
  same_ready is = subst (λ (x : p.Kept). p.ready x) (sym same) is
